use Rattle.std.proofs.Common.{◌≡◌, map, take}
use Rattle.epoch_report.specs.Telling.{session_told}
use Rattle.epoch_report.proofs.telling.sessions_of.Given as goal

abbrev pub invariant-loop-mark : goal.invariant-loop-mark
invariant-loop-mark l = l.rows.items ≡ map session_told (take l.mark-index l.marks)
