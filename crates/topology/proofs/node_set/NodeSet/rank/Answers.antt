use Rattle.std.proofs.Common.{◌∙◌, ap}
use Rattle.topology.specs.Lists.{ascending}
use Rattle.topology.proofs.Sets.{placed_rank}
use Rattle.topology.proofs.node_set.NodeSet.rank.Goals as goal

pub returns-then-stands_at-clause-none : goal.returns-then-stands_at-clause-none
returns-then-stands_at-clause-none c =
    placed_rank c.args.self.now.nodes c.deref-2.result.now c.args.id c.offset-place.result
    (c.deref-2.ensures.value ∙ c.self.invariant.sorted ∙ ap (λ m. ascending m.nodes) c.self.view_is)
    (c.stands_at.ensures c.if-stands_at.true)
