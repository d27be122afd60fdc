use Rattle.std.proofs.Common.{◌≡◌, ◌≤◌, ◌+◌, ◌++◌, List, drop, length, flat_map}
use Rattle.incomplete_closure.specs.declared.reports.Report.{Report}
use Rattle.incomplete_closure.specs.Tables.{IsTableOf}
use Rattle.incomplete_closure.specs.Sizes.{held_in}
use Rattle.incomplete_closure.proofs.Gathering.{open_row}
use Rattle.incomplete_closure.proofs.opening.gather_waiting.Given as goal

abbrev pub invariant-loop-row : goal.invariant-loop-row
invariant-loop-row g l =
    ((reports : List Report) → IsTableOf reports l.table →
    l.opened.items ++ flat_map (open_row reports l.from) (drop l.row-index l.rows) ≡ l.fn.opened.items ++ flat_map (open_row reports l.from) l.rows)
    × (l.steps + (length (drop l.row-index l.rows) + held_in (drop l.row-index l.rows)) ≤ l.fn.steps + (length l.rows + held_in l.rows))
    × (l.fn.steps + l.row-index ≤ l.steps)
