use Rattle.std.proofs.Common.{◌≡◌, ◌≤◌, length, take}
use Rattle.std.specs.Prelude.{vec_len, vec_capacity}
use Rattle.path_vector.proofs.neighbours.copy_row.Given as goal

-- the candidates so far, and the room for all
abbrev pub invariant-loop-candidate : goal.invariant-loop-candidate
invariant-loop-candidate l = (l.copy.items ≡ take l.candidate-index l.candidate-items) × (vec_len l.copy ≡ l.candidate-index) × (length l.candidate-items ≤ vec_capacity l.copy)
