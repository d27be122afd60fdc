-- The tables that a node published, as their readers see them.
use Rattle.std.specs.Prelude.{ℕ, Option, Some, None, List, [], map}
use Rattle.topology.specs.Net.{Net, places}
use Rattle.path_vector.specs.Rules.{Rules}
use Rattle.trigger_log.specs.Dropping.{Trimmed}
use Rattle.incomplete_closure.specs.declared.values.Value.{Value}
use Rattle.stable_table.specs.Tables.{View}
use Rattle.stable_table.specs.Trimming.{trimmed_backups}
use Rattle.chronicle.specs.Facts.{Chronicle}
use Rattle.chronicle.specs.Drops.{table_cut}
use Rattle.chronicle.specs.Publications.{Publication, publications}

-- the backups of each prefix over the cut, in file order, where there is a cut
abbrev pub backups_over : Rules → Net → ℕ → Value → Option Trimmed → List (List (List ℕ))
backups_over rules net u value None = []
backups_over rules net u value (Some c) = map (trimmed_backups rules net u value c) (places net)

-- a table that u published, with its backups over the cut of its epoch
abbrev pub view_of : Rules → Net → ℕ → Chronicle → Publication → View
view_of rules net u past t = record {
  epoch = t.epoch;
  value = t.value;
  paths = t.paths;
  backups = backups_over rules net u t.value (table_cut net u t.epoch past);
}

-- all tables that u published, the newest first
abbrev pub views : Rules → Net → ℕ → Chronicle → List View
views rules net u past = map (view_of rules net u past) (publications u past)
