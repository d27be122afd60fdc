use Rattle.std.proofs.Common.{◌≡◌, ◌≤◌, length}
use Rattle.std.specs.List.Sorted.{IsPermutation}
use Rattle.marker_snapshot.specs.Rows.{AreSettled}
use Rattle.marker_snapshot.proofs.recordings.settle.Given as goal

abbrev pub invariant-loop-place : goal.invariant-loop-place
invariant-loop-place l = record {
  settled : AreSettled l.settled l.rows;
  behind : l.settled ≤ l.place;
  long : length l.rows ≡ length l.initial.rows;
  same_rows : IsPermutation l.initial.rows l.rows;
}
