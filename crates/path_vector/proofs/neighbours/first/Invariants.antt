use Rattle.std.proofs.Common.{take}
use Rattle.path_vector.specs.Kept.{IsFound, first_kept}
use Rattle.path_vector.proofs.neighbours.first.Given as goal

-- the first of the neighbours so far
abbrev pub invariant-loop-place : goal.invariant-loop-place
invariant-loop-place g l = IsFound l.neighbours l.prefix l.found (first_kept (g.P.Policy.rules l.policy).before l.prefix (take l.place l.neighbours))
