-- The two tables that a node keeps of all that it published, the newest publication first.
use Rattle.std.specs.Prelude.{ℕ, ◌≡◌, Option, Some, None, List, [], ◌∷◌, drop, slice_get, option_and_then}
use Rattle.stable_table.specs.Tables.{View}
use Rattle.stable_table.specs.Published.{newest, Descends}

-- the epoch of a table
abbrev pub epoch_of : View → ℕ
epoch_of t = t.epoch

-- the table of the highest epoch, and that of the next lower one
pub record TwoViews : Type 0 where
  pub newest : Option View
  pub older : Option View

-- of all that was published, these two are kept
pub record StandsFor (tables : TwoViews) (published : List View) : Type 0 where
  -- each table is of a higher epoch than all before it
  pub descends : Descends epoch_of published
  -- the table of the highest epoch
  pub newest_is : tables.newest ≡ newest epoch_of published
  -- the table of the highest epoch before that
  pub older_is : tables.older ≡ newest epoch_of (drop 1 published)

-- the second node of a path
abbrev pub second : List ℕ → Option ℕ
second [] = None
second (u ∷ []) = None
second (u ∷ v ∷ rest) = Some v

-- the path for p in the table
abbrev pub path_in : ℕ → View → Option (List ℕ)
path_in p t = option_and_then (λ path. path) (slice_get t.paths p)

-- the next node for p by the table
abbrev pub next_hop : ℕ → View → Option ℕ
next_hop p t = option_and_then second (path_in p t)
