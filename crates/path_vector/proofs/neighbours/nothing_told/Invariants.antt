use Rattle.std.proofs.Common.{◌≡◌, ◌≤◌, None, replicate}
use Rattle.std.specs.Prelude.{vec_len, vec_capacity}
use Rattle.path_vector.proofs.neighbours.nothing_told.Given as goal

-- the row so far, and its room
abbrev pub invariant-loop-prefix : goal.invariant-loop-prefix
invariant-loop-prefix l = (l.told.items ≡ replicate l._prefix None) × (vec_len l.told ≡ l._prefix) × (l.prefixes ≤ vec_capacity l.told)
