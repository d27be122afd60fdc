use Rattle.std.proofs.Common.{ap, sym, ◌∙◌, ◌<◌, length, subst}
use Rattle.std.proofs.lemmas.List.{length-map}
use Rattle.incomplete_closure.specs.Chains.{chained}
use Rattle.incomplete_closure.proofs.Chained.{empty_view}
use Rattle.incomplete_closure.proofs.graph.Graph.follow.Goals as goal

pub returns-clause-rest : goal.returns-clause-rest
returns-clause-rest g c =
    let up : c.args.vertex < length c.self.inside.newest.items = subst (λ n. c.args.vertex < n) (ap length (sym c.self.view_is) ∙ length-map c.self.inside.newest.items (chained c.self.inside.edges.items)) c.requires in
    rw (← c.self.view_is)
    (empty_view c.self.inside.newest.items c.self.inside.edges.items c.args.vertex c.index-newest.result.now c.self.invariant up c.index-newest.ensures)
