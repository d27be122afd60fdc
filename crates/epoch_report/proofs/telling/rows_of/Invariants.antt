use Rattle.std.proofs.Common.{◌≡◌, ◌≤◌, length, map, take}
use Rattle.std.specs.Prelude.{vec_len, vec_capacity}
use Rattle.epoch_report.specs.Telling.{row_told}
use Rattle.epoch_report.proofs.telling.rows_of.Given as goal

abbrev pub invariant-loop-entry : goal.invariant-loop-entry
invariant-loop-entry l = (l.rows.items ≡ map row_told (take l.entry-index l.entries)) × (vec_len l.rows ≡ l.entry-index) × (length l.entries ≤ vec_capacity l.rows)
