use Rattle.std.proofs.Common.{◌+◌, ◌-◌, length}
use Rattle.topology.proofs.Merging.{Merges}
use Rattle.topology.proofs.triggers.merged.Given as goal

-- what is left of both still has to follow the merged part
abbrev pub invariant-loop-here : goal.invariant-loop-here
invariant-loop-here l = Merges l.one l.other l.list.items l.here l.there

abbrev pub decreases-loop-here : goal.decreases-loop-here
decreases-loop-here l = (length l.one - l.here) + (length l.other - l.there)
