use Rattle.std.proofs.Common.{◌≡◌, ◌++◌, drop, filter}
use Rattle.topology.specs.LinkStates.{is_up}
use Rattle.chronicle.specs.Facts.{Chronicle}
use Rattle.chronicle.specs.Links.{link}
use Rattle.world_core.specs.Matching.{AreLinks}
use Rattle.world_core.proofs.network.Network.up_links.Given as goal

abbrev pub invariant-loop-nbr : goal.invariant-loop-nbr
invariant-loop-nbr g l = record {
  so_far : (past : Chronicle) → AreLinks l.self.topology.value past l.self.links
      → l.up.items ++ filter (λ w. is_up (link l.node w past)) (drop l.nbr-index l.neighbours) ≡ filter (λ w. is_up (link l.node w past)) l.neighbours;
}
