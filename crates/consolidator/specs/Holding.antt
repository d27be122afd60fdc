-- The reports of one epoch that a node holds.
use Rattle.std.specs.Prelude.{ℕ, suc, ◌≡◌, Option, Some, None, List, [], ◌∷◌, nat_lt, if◌then◌else◌}
use Rattle.std.specs.Ordering.{nat_cmp}
use Rattle.std.specs.List.{AllByRecursion}
use Rattle.std.specs.List.Sorted.{IsStrictlySortedBy}
use Rattle.incomplete_closure.specs.declared.reports.Report.{Report as TheReport}
use Rattle.incomplete_closure.specs.Reports.{Report}
use Rattle.incomplete_closure.specs.Together.{nodes_of}
use Rattle.incomplete_closure.specs.Collecting.{value_of}
use Rattle.incomplete_closure.specs.declared.values.Value.{Value}

-- the epoch, and the reports by their nodes, ascending
pub record Holding : Type 0 where
  pub epoch : ℕ
  pub reports : List Report

-- the reports are of this epoch, and their nodes ascend without repeats
pub record AreHeld (epoch : ℕ) (reports : List TheReport) : Type 0 where
  pub epochs : AllByRecursion (λ (r : TheReport). r.epoch ≡ epoch) reports
  pub nodes : IsStrictlySortedBy nat_cmp (nodes_of reports)

-- the place of the first report of a higher node, or the length
abbrev pub place_of : ℕ → List TheReport → ℕ
place_of node [] = 0
place_of node (r ∷ rs) = if nat_lt node r.node then 0 else suc (place_of node rs)

-- a value that was computed is that of the reports
abbrev pub IsComputed : Option Value → List Report → Type 0
IsComputed None reports = Unit {0}
IsComputed (Some value) reports = value ≡ value_of reports
