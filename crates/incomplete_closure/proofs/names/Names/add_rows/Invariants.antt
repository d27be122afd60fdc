use Rattle.std.proofs.Common.{◌≡◌, ◌≤◌, ◌+◌, drop, length}
use Rattle.incomplete_closure.specs.Names.{with_rows}
use Rattle.incomplete_closure.specs.Sizes.{triggers_in}
use Rattle.incomplete_closure.proofs.names.Names.add_rows.Given as goal

abbrev pub invariant-loop-row : goal.invariant-loop-row
invariant-loop-row g l =
    (with_rows l.self (drop l.row-index l.rows) ≡ with_rows l.fn.self l.rows)
    × (l.steps + (length (drop l.row-index l.rows) + triggers_in (drop l.row-index l.rows)) ≤ l.fn.steps + (length l.rows + triggers_in l.rows))
    × (l.fn.steps ≤ l.steps)
