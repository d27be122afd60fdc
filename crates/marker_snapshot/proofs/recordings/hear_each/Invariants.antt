use Rattle.std.proofs.Common.{◌≡◌, ◌++◌, map, take, drop}
use Rattle.marker_snapshot.specs.Rows.{heard}
use Rattle.marker_snapshot.proofs.recordings.hear_each.Given as goal

abbrev pub invariant-loop-place : goal.invariant-loop-place
invariant-loop-place l = l.rows ≡ map (heard l.nbr l.session l.seq) (take l.place l.initial.rows) ++ drop l.place l.initial.rows
