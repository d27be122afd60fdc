use Rattle.std.proofs.Common.{◌≡◌, ◌≤◌, ◌+◌, ◌++◌, List, drop, length, flat_map}
use Rattle.incomplete_closure.specs.declared.reports.Report.{Report}
use Rattle.incomplete_closure.specs.Receipts.{AreReceipts}
use Rattle.incomplete_closure.specs.Tables.{IsTableOf}
use Rattle.incomplete_closure.specs.Sizes.{carried_by}
use Rattle.incomplete_closure.proofs.Gathering.{open_item}
use Rattle.incomplete_closure.proofs.opening.gather_row.Given as goal

abbrev pub invariant-loop-place : goal.invariant-loop-place
invariant-loop-place g l =
    ((reports : List Report) → IsTableOf reports l.table → AreReceipts l.table l.from l.receipts →
    l.opened.items ++ flat_map (open_item reports l.from) (drop l.place l.row.sent)
    ≡ l.fn.opened.items ++ flat_map (open_item reports l.from) l.row.sent)
    × (l.steps + (length (drop l.place l.row.sent) + carried_by (drop l.place l.row.sent)) ≤ l.fn.steps + (length l.row.sent + carried_by l.row.sent))
    × (l.fn.steps + l.place ≤ l.steps)
