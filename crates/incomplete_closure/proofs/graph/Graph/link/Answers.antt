use Rattle.std.proofs.Common.{ap, sym, ◌∙◌, ◌<◌, length, subst}
use Rattle.std.proofs.lemmas.List.{length-map}
use Rattle.incomplete_closure.specs.Chains.{chained}
use Rattle.incomplete_closure.proofs.Chained.{linked_view}
use Rattle.incomplete_closure.proofs.graph.Graph.link.Goals as goal

pub returns-clause-graph : goal.returns-clause-graph
returns-clause-graph c =
    let up : c.args.from < length c.self.inside.newest.items = subst (λ n. c.args.from < n) (ap length (sym c.self.view_is) ∙ length-map c.self.inside.newest.items (chained c.self.inside.edges.items)) c.requires in
    rw (← c.self.view_is)
    (linked_view c.self.inside.newest.items c.self.inside.edges.items c.push.new.self.items c.args.from c.args.to c.index-next.result.now c.len.result c.self.invariant up c.index-next.ensures
    c.in_ok-push.ensures.items (c.len.ensures ∙ c.push.new.self.ok.0))
