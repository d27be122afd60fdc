-- What a node dropped, and what it dropped of its cuts, where a step drops nothing.
use Rattle.std.proofs.Common.{ℕ, ◌≡◌, refl, ap₂}
use Rattle.std.specs.Prelude.{Option, List, option_map}
use Rattle.topology.specs.Net.{Net}
use Rattle.trigger_log.specs.Dropping.{trimmed}
use Rattle.trigger_log.specs.Entries.{Entry}
use Rattle.chronicle.specs.Facts.{Chronicle}
use Rattle.chronicle.specs.Drops.{dropped, reported_cut, table_cut}
use Rattle.cut_laws.specs.Own.{SameNode}

-- u has dropped what it had, and reports its cuts as it did
pub record SameDrops (net : Net) (u : ℕ) (past now : Chronicle) : Type 0 where
  pub same_count : dropped net u now ≡ dropped net u past
  pub same_reported : (e : ℕ) → reported_cut net u e now ≡ reported_cut net u e past

-- where nothing changes
pub no_drops : {net : Net} {u : ℕ} {past : Chronicle} → SameDrops net u past past
no_drops = record { same_count = refl; same_reported = λ e. refl }

-- where all that is read of u is as it was
pub drops_of_same : (net : Net) (u : ℕ) (past now : Chronicle) → SameNode u past now → SameDrops net u past now
drops_of_same net u past now same = record {
  same_count = same.same_dropped net;
  same_reported = λ e. ap₂ (λ n (o : Option (List Entry)). option_map (trimmed n) o) (same.same_then net e) (same.same_cut e);
}

-- so are the cuts as tables are made of them
pub table_cuts_of_same : (net : Net) (u : ℕ) (past now : Chronicle) → SameNode u past now → (e : ℕ) → table_cut net u e now ≡ table_cut net u e past
table_cuts_of_same net u past now same e = ap₂ (λ n (o : Option (List Entry)). option_map (trimmed n) o) (same.same_below net e) (same.same_cut e)
