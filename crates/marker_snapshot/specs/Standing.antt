-- When snapshots stand for a list of acts: what they store is what is read from the list.
use Rattle.std.specs.Prelude.{ℕ, ◌≡◌, ◌<◌, ◌==◌, true, Some, None, List, length, option_map}
use Rattle.std.specs.List.{All, Contains, range_with_len}
use Rattle.topology.specs.Lists.{has}
use Rattle.topology.specs.Net.{Net, neighbours}
use Rattle.trigger_log.specs.Entries.{Entry}
use Rattle.marker_snapshot.specs.declared.recording.Recording.{Recording}
use Rattle.marker_snapshot.specs.declared.recording.Row.{Row}
use Rattle.marker_snapshot.specs.declared.recording.Cut.{Cut}
use Rattle.marker_snapshot.specs.Acts.{SnapshotActs}
use Rattle.marker_snapshot.specs.Cuts.{epoch_of, cut_of, done, recorded, recorded_session}
use Rattle.marker_snapshot.specs.Keeping.{Kept}

-- this is the recording of epoch e with v: the session that the cut holds, the numbers recorded, the first of them or
-- 0, and whether it is finished
pub record Shows (acts : SnapshotActs) (e v : ℕ) (recording : Recording) : Type 0 where
  pub in_cut : recorded_session e v acts ≡ Some recording.session
  pub numbers : range_with_len recording.first recording.count ≡ recorded e v recording.session acts
  pub none_or_first : (recording.first == 0) ≡ (recording.count == 0)
  pub ended : done e v recording.session acts ≡ recording.done

-- the row is that of its epoch and neighbour
abbrev pub IsRow : SnapshotActs → Row → Type 0
IsRow acts row = Shows acts row.epoch row.nbr row.recording

-- the cut has the number of entries that the acts give
abbrev pub IsCut : SnapshotActs → Cut → Type 0
IsCut acts cut = option_map length (cut_of cut.epoch acts) ≡ Some cut.entries

-- there is a cut of e
pub record HasCut (cuts : List Cut) (e : ℕ) : Type 0 where
  pub cut : Cut
  pub among : Contains cuts cut
  pub of_epoch : cut.epoch ≡ e

-- there is a row of e for v
pub record HasRow (rows : List Row) (e v : ℕ) : Type 0 where
  pub row : Row
  pub among : Contains rows row
  pub of_epoch : row.epoch ≡ e
  pub of_nbr : row.nbr ≡ v

-- the snapshots are those of node u in this net, after these acts
pub record StandsFor (net : Net) (u : ℕ) (kept : Kept) (acts : SnapshotActs) : Type 0 where
  pub epoch : kept.epoch ≡ epoch_of acts
  pub newest : (e : ℕ) → epoch_of acts < e → cut_of e acts ≡ None
  pub cuts : All (IsCut acts) kept.cuts
  pub has_cut : (e : ℕ) (entries : List Entry) → cut_of e acts ≡ Some entries → HasCut kept.cuts e
  pub rows : All (IsRow acts) kept.rows
  pub has_row : (e v s : ℕ) → has (neighbours net u) v ≡ true → recorded_session e v acts ≡ Some s → HasRow kept.rows e v
