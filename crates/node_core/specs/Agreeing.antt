-- The part in the agreements and the tables that a node keeps.
use Rattle.std.specs.Prelude.{ℕ, ◌≡◌, ◌≤◌, Option, Some, None}
use Rattle.std.specs.List.{AllByRecursion}
use Rattle.topology.specs.Net.{Net}
use Rattle.path_vector.specs.Rules.{Rules}
use Rattle.trigger_log.specs.Dropping.{Trimmed}
use Rattle.consolidator.specs.Standing.{StandsFor as PartStandsFor}
use Rattle.stable_table.specs.Trimming.{trimmed_table}
use Rattle.stable_table.specs.TwoTables.{StandsFor as TablesStandFor}
use Rattle.chronicle.specs.Facts.{Chronicle}
use Rattle.chronicle.specs.Control.{control}
use Rattle.chronicle.specs.Drops.{table_cut}
use Rattle.chronicle.specs.Epochs.{epoch}
use Rattle.chronicle.specs.Publications.{Publication, publications}
use Rattle.node_core.specs.declared.agreement.Agreement.{Agreement}
use Rattle.node_core.specs.Views.{views}

-- the table's paths are those made from its value and this cut
abbrev pub IsOver : Rules → Net → ℕ → Publication → Option Trimmed → Type 0
IsOver rules net u t None = ⊥
IsOver rules net u t (Some c) = t.paths ≡ trimmed_table rules net u t.value c

-- u made the table from its value and the cut of its epoch
abbrev pub IsByCut : Rules → Net → ℕ → Chronicle → Publication → Type 0
IsByCut rules net u past t = IsOver rules net u t (table_cut net u t.epoch past)

-- the part in the agreements and the published tables are those of u after these facts; u published no table of an
-- epoch above its own, and made each from the cut of its epoch
pub record Agrees (rules : Rules) (net : Net) (u : ℕ) (kept : Agreement) (past : Chronicle) : Type 0 where
  pub part : PartStandsFor net kept.consolidator (control past) u
  pub tables : TablesStandFor kept.tables (views rules net u past)
  pub low : AllByRecursion (λ (t : Publication). t.epoch ≤ epoch u past) (publications u past)
  pub by_cuts : AllByRecursion (IsByCut rules net u past) (publications u past)

-- the part in the agreements and the tables are the same
pub record AgreesAs (old new : Agreement) : Type 0 where
  pub part : new.consolidator ≡ old.consolidator
  pub tables : new.tables ≡ old.tables
