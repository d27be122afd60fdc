use Rattle.std.proofs.Common.{◌≡◌, ◌+◌, drop}
use Rattle.consolidator.specs.Keeping.{place_in}
use Rattle.consolidator.proofs.consolidators.place_of.Given as goal

abbrev pub invariant-loop-part : goal.invariant-loop-part
invariant-loop-part l =
    (l.place ≡ l.part-index)
    × (l.place + place_in l.epoch (drop l.part-index l.parts) ≡ place_in l.epoch l.parts)
