use Rattle.std.proofs.Common.{List, ◌++◌, drop, map}
use Rattle.topology.specs.declared.ways.Way.{Way}
use Rattle.chronicle.specs.Facts.{Chronicle}
use Rattle.world_core.specs.Matching.{Counts, Stands}
use Rattle.world_core.specs.Refreshing.{AreOpenBut, way, ways_to}
use Rattle.world_core.specs.WaySets.{has_way}
use Rattle.world_core.proofs.network.Network.look_at_node.Given as goal

abbrev pub invariant-loop-nbr : goal.invariant-loop-nbr
invariant-loop-nbr g l = record {
  known : (past : Chronicle) (counts : Counts) (turned : List Way) → Stands (g.P.Policy.rules l.self.policy) past counts l.self → AreOpenBut l.self.topology.value past (ways_to l.self.topology.value l.node ++ turned) (has_way l.self.topology.value l.fn.open_ways)
      → AreOpenBut l.self.topology.value past (map (λ v. way v l.node) (drop l.nbr-index l.nbr-items) ++ turned) (has_way l.self.topology.value l.open_ways);
}
