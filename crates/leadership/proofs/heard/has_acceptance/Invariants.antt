use Rattle.std.proofs.Common.{◌≡◌, drop}
use Rattle.leadership.specs.Counted.{has_acceptance}
use Rattle.leadership.proofs.heard.has_acceptance.Given as goal

abbrev pub invariant-loop-one : goal.invariant-loop-one
invariant-loop-one l = has_acceptance l.epoch l.from (drop l.one-index l.these) ≡ has_acceptance l.epoch l.from l.these
