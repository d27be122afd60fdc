use Rattle.std.proofs.Common.{◌≡◌, take}
use Rattle.path_vector.proofs.candidates.are_same.Given as goal

-- the nodes so far are the same
abbrev pub invariant-loop-place : goal.invariant-loop-place
invariant-loop-place l = take l.place l.nodes ≡ take l.place l.others
