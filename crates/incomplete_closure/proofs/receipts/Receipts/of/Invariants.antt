use Rattle.std.proofs.Common.{◌≡◌, ◌+◌}
use Rattle.incomplete_closure.specs.Receipts.{AreReceipts}
use Rattle.incomplete_closure.proofs.receipts.Receipts.of.Given as goal

-- those so far are receipts
abbrev pub invariant-loop-row : goal.invariant-loop-row
invariant-loop-row g l = AreReceipts l.table l.report.node l.list.items × (l.steps ≡ l.fn.steps + l.row-index)
