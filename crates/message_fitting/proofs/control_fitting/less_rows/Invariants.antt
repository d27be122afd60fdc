use Rattle.std.proofs.Common.{◌+◌, ◌≡◌, take}
use Rattle.incomplete_closure.specs.declared.cut_rows.Row.{Row}
use Rattle.incomplete_closure.specs.Seen.{row_seen}
use Rattle.message_fitting.specs.ControlFits.{marks_of_row}
use Rattle.message_fitting.specs.Marks.{total}
use Rattle.message_fitting.proofs.control_fitting.less_rows.Given as goal

-- what is left after those so far
abbrev pub invariant-loop-row : goal.invariant-loop-row
invariant-loop-row l = l.left + total (λ (row : Row). marks_of_row (row_seen row)) (take l.row-index l.rows) ≡ l.fn.number
