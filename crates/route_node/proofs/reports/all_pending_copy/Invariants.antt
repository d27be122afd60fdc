use Rattle.std.proofs.Common.{◌≡◌, map, take}
use Rattle.route_node.specs.Frames.{pending_told}
use Rattle.route_node.proofs.reports.all_pending_copy.Given as goal

-- those so far were copied
abbrev pub invariant-loop-row : goal.invariant-loop-row
invariant-loop-row l = l.list.items ≡ map pending_told (take l.row-index l.rows)
