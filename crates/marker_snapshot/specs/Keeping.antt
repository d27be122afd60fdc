-- What snapshots store, as contracts see it.
use Rattle.std.specs.Prelude.{ℕ, List}
use Rattle.marker_snapshot.specs.declared.recording.Row.{Row}
use Rattle.marker_snapshot.specs.declared.recording.Cut.{Cut}

-- the epoch, the cuts, and a row for each session that a cut holds, in any order
pub record Kept : Type 0 where
  pub epoch : ℕ
  pub cuts : List Cut
  pub rows : List Row
