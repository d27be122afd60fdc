use Rattle.std.proofs.Common.{◌≡◌, drop}
use Rattle.leadership.specs.Choices.{value_of}
use Rattle.leadership.proofs.choices.value_of.Given as goal

abbrev pub invariant-loop-one : goal.invariant-loop-one
invariant-loop-one l = value_of l.epoch (drop l.one-index l.choices) ≡ value_of l.epoch l.choices
