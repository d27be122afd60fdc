use Rattle.std.proofs.Common.{◌≡◌, map, take}
use Rattle.incomplete_closure.specs.Seen.{row_seen}
use Rattle.route_node.specs.Frames.{row_told}
use Rattle.route_node.proofs.reports.rows_copy.Given as goal

-- those so far were copied
abbrev pub invariant-loop-row : goal.invariant-loop-row
invariant-loop-row l = l.list.items ≡ map (λ r. row_told (row_seen r)) (take l.row-index l.rows)
