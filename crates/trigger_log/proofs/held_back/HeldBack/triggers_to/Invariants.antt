use Rattle.std.proofs.Common.{◌≡◌, ◌-◌, drop}
use Rattle.trigger_log.specs.Putting.{triggers_to}
use Rattle.trigger_log.proofs.held_back.HeldBack.triggers_to.Given as goal

-- the triggers of the last rows
abbrev pub invariant-loop-passed : goal.invariant-loop-passed
invariant-loop-passed l = l.all ≡ triggers_to l.nbr (drop (l.count - l.passed) l.self.rows)
