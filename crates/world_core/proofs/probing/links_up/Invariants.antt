use Rattle.std.proofs.Common.{◌≡◌, take, filter, map}
use Rattle.topology.specs.declared.links.Link.{Link}
use Rattle.topology.specs.LinkStates.{is_up}
use Rattle.chronicle.specs.Facts.{Chronicle}
use Rattle.chronicle.specs.Links.{link}
use Rattle.world_core.specs.Matching.{AreLinks}
use Rattle.world_core.proofs.probing.links_up.Given as goal

-- so far the links in front
abbrev pub invariant-loop-place : goal.invariant-loop-place
invariant-loop-place l = record {
  so_far : (past : Chronicle) → AreLinks l.topology past l.links
      → l.up.items ≡ map (λ (k : Link). (k.a, k.b)) (filter (λ (k : Link). is_up (link k.a k.b past)) (take l.place l.topology.links));
}
