use Rattle.std.proofs.Common.{◌≡◌, ◌++◌, take}
use Rattle.path_vector.specs.Order.{others_kept}
use Rattle.path_vector.proofs.order.add_others.Given as goal

-- the others so far
abbrev pub invariant-loop-neighbour : goal.invariant-loop-neighbour
invariant-loop-neighbour l = l.order.items ≡ l.initial.order.items ++ others_kept l.prefix (take l.neighbour-index l.neighbours)
