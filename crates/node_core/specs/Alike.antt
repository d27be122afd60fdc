-- When the acts that snapshots were told are those of a run.
use Rattle.std.specs.Prelude.{ℕ, ◌≡◌, Some, List, drop, length}
use Rattle.path_vector.specs.History.{held}
use Rattle.trigger_log.specs.Entries.{Entry, inbox, reads}
use Rattle.chronicle.specs.Facts.{Chronicle}
use Rattle.chronicle.specs.Epochs.{epoch, cut}
use Rattle.chronicle.specs.Messages.{took, updates, marked, until}
use Rattle.chronicle.specs.Recordings.{numbers}
use Rattle.marker_snapshot.specs.Acts.{SnapshotActs}
use Rattle.marker_snapshot.specs.Cuts.{epoch_of, cut_of, done, recorded}

-- the acts have the epoch and the cuts of u; and for each session that a cut holds, whether its recording is done, and
-- the recorded numbers
pub record Alike (acts : SnapshotActs) (u : ℕ) (past : Chronicle) : Type 0 where
  pub same_epoch : epoch_of acts ≡ epoch u past
  pub same_cut : (e : ℕ) → cut_of e acts ≡ cut u e past
  pub same_done : (e v s : ℕ) (c : List Entry) → cut u e past ≡ Some c → held (reads c) v ≡ Some s
      → done e v s acts ≡ marked e (took v u s past)
  pub same_recorded : (e v s : ℕ) (c : List Entry) → cut u e past ≡ Some c → held (reads c) v ≡ Some s
      → recorded e v s acts ≡ numbers (drop (length (inbox c v s)) (updates (until e (took v u s past))))
