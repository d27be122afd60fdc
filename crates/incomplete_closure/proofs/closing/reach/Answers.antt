use Rattle.std.proofs.Common.{map, ap, ◌∙◌}
use Rattle.std.specs.Rc.{rc_value}
use Rattle.incomplete_closure.specs.Wiring.{wire_open}
use Rattle.incomplete_closure.proofs.Bound.{steps_searched}
use Rattle.incomplete_closure.proofs.closing.reach.Goals as goal

pub returns-clause-most : goal.returns-clause-most
returns-clause-most g c =
    steps_searched c.args.names.now (map rc_value c.args.reports.now) c.args.opened.now c.deref.result.now c.wire_open.new.graph c.args.steps.now c.graph_of_rows.new.steps c.wire_open.new.steps c.search.new.steps
    c.graph_of_rows.ensures.most c.wire_open.ensures.most (c.deref.ensures.value ∙ c.in_ok-roots.ensures.roots)
    (c.in_ok-roots.ensures.graph ∙ ap (λ z. wire_open c.args.names.now z c.args.opened.now) c.in_ok-graph.ensures.graph) c.search.ensures.most
