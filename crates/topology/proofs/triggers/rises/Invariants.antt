use Rattle.std.proofs.Common.{drop}
use Rattle.topology.specs.Triggers.{Ascend}
use Rattle.topology.proofs.triggers.rises.Given as goal

-- the whole list ascends if what is left does
abbrev pub invariant-loop-place : goal.invariant-loop-place
invariant-loop-place l = Ascend (drop l.place l.list) → Ascend l.list
