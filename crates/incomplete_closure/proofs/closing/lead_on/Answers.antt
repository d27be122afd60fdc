use Rattle.std.proofs.Common.{map, refl}
use Rattle.std.specs.Rc.{rc_value}
use Rattle.std.proofs.lemmas.Result.{IfOk-weaker}
use Rattle.incomplete_closure.specs.Closed.{IsLeast}
use Rattle.incomplete_closure.specs.Wiring.{wire_open, roots_of, graph_of_rows}
use Rattle.incomplete_closure.proofs.Leading.{found_least}
use Rattle.incomplete_closure.proofs.closing.lead_on.Goals as goal

pub returns-clause-least : goal.returns-clause-least
returns-clause-least g c =
    let names = c.in_ok-names.names in
    let reports = map rc_value c.args.reports.now in
    let opened = c.args.opened.now in
    let graph = wire_open names (graph_of_rows names reports) opened in
    IfOk-weaker c.collect.result _ (IsLeast opened reports)
    (λ collection is. found_least reports opened names graph (roots_of names opened) c.in_ok-reached.reached collection c.in_ok-names.ensures.names refl refl c.in_ok-reached.ensures.reached is)
    c.collect.ensures
