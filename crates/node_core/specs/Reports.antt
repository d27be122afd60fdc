-- The reports that a node keeps.
use Rattle.std.specs.Prelude.{ℕ, Bool, ◌==◌, ◌≡◌, List, find, option_map}
use Rattle.topology.specs.Net.{Net}
use Rattle.path_vector.specs.Rules.{Rules}
use Rattle.incomplete_closure.specs.Reports.{Report}
use Rattle.epoch_report.specs.Trimming.{trimmed_report}
use Rattle.chronicle.specs.Facts.{Chronicle}
use Rattle.chronicle.specs.Drops.{reported_cut}

-- the report is of epoch e
abbrev pub is_of_epoch : ℕ → Report → Bool
is_of_epoch e report = report.epoch == e

-- the report of each epoch is that of u's cut, without the entries that u had dropped when it took the cut; there is
-- none where u has no cut
abbrev pub AreReports : Rules → Net → ℕ → Chronicle → List Report → Type 0
AreReports rules net u past kept = (e : ℕ) → find (is_of_epoch e) kept ≡ option_map (trimmed_report rules net u e) (reported_cut net u e past)
