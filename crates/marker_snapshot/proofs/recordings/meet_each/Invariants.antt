use Rattle.std.proofs.Common.{◌≡◌, ◌++◌, map, take, drop}
use Rattle.marker_snapshot.specs.Rows.{met}
use Rattle.marker_snapshot.proofs.recordings.meet_each.Given as goal

abbrev pub invariant-loop-place : goal.invariant-loop-place
invariant-loop-place l = l.rows ≡ map (met l.nbr l.session l.epoch) (take l.place l.initial.rows) ++ drop l.place l.initial.rows
