use Rattle.std.proofs.Common.{sym}
use Rattle.route_replay.proofs.Hops.{told_effects, told_reason}
use Rattle.route_replay.proofs.directives.is_idle.Goals as goal

pub returns-in-Did : goal.returns-in-Did
returns-in-Did c = λ past step tells. sym (told_effects past step c.in-Did.field-0 (rw c.in-Did.is at tells))

pub returns-in-Idle : goal.returns-in-Idle
returns-in-Idle c = λ past step tells. sym (told_reason past step c.in-Idle.field-0 (rw c.in-Idle.is at tells))
