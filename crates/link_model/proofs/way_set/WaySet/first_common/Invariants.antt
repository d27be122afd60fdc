use Rattle.link_model.specs.WaySets.{has_both}
use Rattle.link_model.proofs.Bits.{IsClearBelow}
use Rattle.link_model.proofs.way_set.WaySet.first_common.Given as goal

abbrev pub invariant-loop-place : goal.invariant-loop-place
invariant-loop-place l = IsClearBelow (has_both l.self l.other) l.place
