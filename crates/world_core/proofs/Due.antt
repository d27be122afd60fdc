-- The table that is due: what holds before it, and where one more table is published, holds after it.
use Rattle.std.proofs.Common.{ℕ, Option, Some, None, List, ◌∷◌, find, option_map, option_and_then}
use Rattle.topology.specs.Net.{Net}
use Rattle.path_vector.specs.Rules.{Rules}
use Rattle.trigger_log.specs.Dropping.{Trimmed}
use Rattle.incomplete_closure.specs.declared.values.Value.{Value}
use Rattle.stable_table.specs.Trimming.{trimmed_table}
use Rattle.chronicle.specs.Facts.{Chronicle, Publish}
use Rattle.chronicle.specs.Epochs.{raised}
use Rattle.chronicle.specs.Drops.{table_cut}
use Rattle.chronicle.specs.Control.{decision}
use Rattle.chronicle.specs.Publications.{completes, publication_of, goes_on_with, publish}

module _ (rules : Rules) (net : Net) (u : ℕ) (past now : Chronicle) (P : Chronicle → Type 0) (before : P now)
    (more : (e : ℕ) (value : Value) (paths : List (Option (List ℕ))) → P (Publish u e value paths ∷ now)) where
  by_parts : (e : ℕ) (c : Option Trimmed) (value : Option Value) → P (goes_on_with (option_and_then (λ (entries : Trimmed). option_map (λ (v : Value). Publish u e v (trimmed_table rules net u v entries)) value) c) now)
  by_parts e None value = before
  by_parts e (Some c) None = before
  by_parts e (Some c) (Some v) = more e v (trimmed_table rules net u v c)

  by_due : (due : Option ℕ) → P (goes_on_with (option_and_then (λ e. publication_of rules net u e now) due) now)
  by_due None = before
  by_due (Some e) = by_parts e (table_cut net u e now) (decision u e now)

  pub after_table : P (publish rules net u past now)
  unfolding publish
  after_table = by_due (find (completes u past now) (raised u now))
