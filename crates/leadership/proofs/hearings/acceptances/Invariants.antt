use Rattle.std.proofs.Common.{◌≡◌, take}
use Rattle.leadership.specs.Counted.{acceptances}
use Rattle.leadership.proofs.hearings.acceptances.Given as goal

abbrev pub invariant-loop-hearing : goal.invariant-loop-hearing
invariant-loop-hearing l = l.list.items ≡ acceptances l.of (take l.hearing-index l.heard)
