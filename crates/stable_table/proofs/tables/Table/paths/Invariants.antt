use Rattle.std.proofs.Common.{◌≡◌, map, take}
use Rattle.stable_table.specs.declared.rows.Row.{Row}
use Rattle.stable_table.proofs.tables.Table.paths.Given as goal

-- the paths of the rows so far
abbrev pub invariant-loop-row : goal.invariant-loop-row
invariant-loop-row l = l.paths.items ≡ map (λ (r : Row). r.path) (take l.row-index l.row-items)
