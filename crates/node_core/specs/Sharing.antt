-- A table whose rows serve for another epoch.
use Rattle.std.specs.Prelude.{ℕ, ◌≡◌, List}
use Rattle.topology.specs.Net.{Net}
use Rattle.path_vector.specs.Rules.{Rules}
use Rattle.trigger_log.specs.Dropping.{trimmed}
use Rattle.trigger_log.specs.Entries.{Entry}
use Rattle.incomplete_closure.specs.declared.values.Value.{Value}
use Rattle.stable_table.specs.Tables.{View}
use Rattle.stable_table.specs.Trimming.{trimmed_table_of}

-- but for its epoch it is the table of any epoch from the value and these entries, however many of them were dropped
abbrev pub ServesFor : Rules → Net → ℕ → Value → List Entry → View → Type 0
ServesFor rules net u value entries table =
    (e n : ℕ) → record table { epoch = e } ≡ trimmed_table_of rules net u e value (trimmed n entries)
