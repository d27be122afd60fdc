use Rattle.std.proofs.Common.{◌+◌, ◌≡◌, take}
use Rattle.message_fitting.specs.Marks.{row_marks}
use Rattle.message_fitting.proofs.marks.less_pending.Given as goal

-- what is left after those so far
abbrev pub invariant-loop-row : goal.invariant-loop-row
invariant-loop-row l = l.left + row_marks (take l.row-index l.rows) ≡ l.fn.number
