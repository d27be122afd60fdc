use Rattle.std.proofs.Common.{◌≡◌, take}
use Rattle.leadership.specs.Hearings.{counted_heard}
use Rattle.leadership.specs.Readings.{senders}
use Rattle.leadership.proofs.hearings.promisers.Given as goal

abbrev pub invariant-loop-hearing : goal.invariant-loop-hearing
invariant-loop-hearing l = l.list.items ≡ senders (counted_heard l.of (take l.hearing-index l.heard))
