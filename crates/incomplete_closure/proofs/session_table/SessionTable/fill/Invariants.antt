use Rattle.std.proofs.Common.{ℕ, ◌≡◌, ◌+◌, ◌==◌, None, drop, find, if◌then◌else◌}
use Rattle.std.specs.Option.{option_or}
use Rattle.incomplete_closure.specs.Tables.{row_at}
use Rattle.incomplete_closure.proofs.Opened.{row_is}
use Rattle.incomplete_closure.proofs.session_table.SessionTable.fill.Given as goal

abbrev pub invariant-loop-row : goal.invariant-loop-row
invariant-loop-row g l =
    (l.self.nodes.keys ≡ l.fn.self.nodes.keys)
    × ((n v s : ℕ) →
    option_or (row_at l.self n v s) (if n == l.report.node then find (row_is v s) (drop l.row-index l.row-items) else None)
    ≡ option_or (row_at l.fn.self n v s) (if n == l.report.node then find (row_is v s) l.row-items else None))
    × (l.steps ≡ l.fn.steps + l.row-index)
