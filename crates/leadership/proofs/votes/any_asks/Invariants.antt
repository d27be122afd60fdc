use Rattle.std.proofs.Common.{◌≡◌, drop}
use Rattle.leadership.specs.Votes.{any_asks}
use Rattle.leadership.proofs.votes.any_asks.Given as goal

abbrev pub invariant-loop-hearing : goal.invariant-loop-hearing
invariant-loop-hearing l = any_asks l.vote (drop l.hearing-index l.heard) ≡ any_asks l.vote l.heard
