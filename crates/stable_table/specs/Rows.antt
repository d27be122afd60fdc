-- The row of a prefix in a table, read from the complete entries.
use Rattle.std.specs.Prelude.{ℕ, ◌≡◌, Option, List, [], map, filter, option_and_then, if◌then◌else◌}
use Rattle.topology.specs.Lists.{has}
use Rattle.topology.specs.Net.{Net}
use Rattle.path_vector.specs.Rules.{Rules}
use Rattle.path_vector.specs.History.{History}
use Rattle.path_vector.specs.Selection.{Choice, best, path_of}
use Rattle.path_vector.specs.Ranking.{by_rank}
use Rattle.incomplete_closure.specs.declared.values.Value.{Value}
use Rattle.stable_table.specs.declared.rows.Row.{Row}
use Rattle.stable_table.specs.Tables.{answered, all_responded}

-- a row: the path, if there is one, and the backups
pub record RowView : Type 0 where
  pub path : Option (List ℕ)
  pub backups : List (List ℕ)

-- the row of p over these entries, through nodes that responded
abbrev pub prefix_row : Rules → Net → ℕ → Value → History → ℕ → RowView
prefix_row rules net u value h p = record {
  path = option_and_then (answered value u) (path_of u (best rules net u h p));
  backups = if has value.responding u
      then filter (all_responded value) (map (λ (c : Choice). c.path) (by_rank rules net u h p)) else [];
}

-- the row has this path and these backups
pub record IsRow (wanted : RowView) (row : Row) : Type 0 where
  pub path : row.path ≡ wanted.path
  pub backups : row.backups.items ≡ wanted.backups
