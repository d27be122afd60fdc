use Rattle.std.proofs.Common.{◌≡◌, ◌≤◌, ◌+◌, ◌++◌, List, drop, length}
use Rattle.incomplete_closure.specs.declared.reports.Report.{Report}
use Rattle.incomplete_closure.specs.Opening.{open_in_rows}
use Rattle.incomplete_closure.specs.Receipts.{AreReceipts}
use Rattle.incomplete_closure.specs.Tables.{IsTableOf}
use Rattle.incomplete_closure.specs.Sizes.{items_in, carried_in}
use Rattle.incomplete_closure.proofs.opening.gather_rows.Given as goal

abbrev pub invariant-loop-row : goal.invariant-loop-row
invariant-loop-row g l =
    ((reports : List Report) → IsTableOf reports l.table → AreReceipts l.table l.from l.receipts →
    l.opened.items ++ open_in_rows reports l.from (drop l.row-index l.rows) ≡ l.fn.opened.items ++ open_in_rows reports l.from l.rows)
    × (l.steps + (length (drop l.row-index l.rows) + items_in (drop l.row-index l.rows) + carried_in (drop l.row-index l.rows))
    ≤ l.fn.steps + (length l.rows + items_in l.rows + carried_in l.rows))
    × (l.fn.steps + (length l.rows + items_in l.rows) ≤ l.steps + (length (drop l.row-index l.rows) + items_in (drop l.row-index l.rows)))
