use Rattle.std.proofs.Common.{◌≡◌, [], take}
use Rattle.std.specs.List.{AllByRecursion}
use Rattle.path_vector.specs.Standing.{Remembers}
use Rattle.path_vector.specs.Kept.{ids}
use Rattle.path_vector.proofs.neighbours.neighbours_of.Given as goal

-- the neighbours so far
abbrev pub invariant-loop-id : goal.invariant-loop-id
invariant-loop-id l = record {
  same : ids l.neighbours.items ≡ take l.id-index l.others;
  each : AllByRecursion (Remembers l.topology l.node []) l.neighbours.items;
}
