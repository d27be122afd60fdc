use Rattle.std.proofs.Common.{◌≡◌, length}
use Rattle.world_core.proofs.Fresh.{AllFresh}
use Rattle.world_core.proofs.network.start.fresh_nodes.Given as goal

abbrev pub invariant-loop-id : goal.invariant-loop-id
invariant-loop-id g l = record {
  count : length l.nodes.items ≡ l.id-index;
  fresh : AllFresh l.policy (g.P.Policy.rules l.policy) l.topology.value l.id-items l.nodes.items;
}
