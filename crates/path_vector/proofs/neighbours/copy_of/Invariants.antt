use Rattle.std.proofs.Common.{take}
use Rattle.std.specs.List.{AllZip}
use Rattle.path_vector.specs.Kept.{IsCopy}
use Rattle.path_vector.proofs.neighbours.copy_of.Given as goal

-- the neighbours so far
abbrev pub invariant-loop-neighbour : goal.invariant-loop-neighbour
invariant-loop-neighbour l = AllZip IsCopy (take l.neighbour-index l.neighbour-items) l.copies.items
