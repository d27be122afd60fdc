use Rattle.std.proofs.Common.{◌≡◌, ◌++◌, map, take, drop}
use Rattle.consolidator.specs.Parts.{gone}
use Rattle.consolidator.proofs.consolidators.forget_each.Given as goal

abbrev pub invariant-loop-place : goal.invariant-loop-place
invariant-loop-place l = l.parts ≡ map gone (take l.place l.initial.parts) ++ drop l.place l.initial.parts
