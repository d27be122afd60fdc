use Rattle.std.proofs.Common.{◌≡◌, None, length, take, replicate}
use Rattle.path_vector.proofs.neighbours.forget.Given as goal

-- the row is empty so far
abbrev pub invariant-loop-place : goal.invariant-loop-place
invariant-loop-place l = record {
  places : length l.told.items ≡ length l.initial.told.items;
  empty : take l.place l.told.items ≡ replicate l.place None;
}
