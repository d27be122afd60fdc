use Rattle.std.proofs.Common.{◌≡◌, ◌-◌}
use Rattle.trigger_log.proofs.Shifted.{shifted_by}
use Rattle.trigger_log.proofs.sessions.shift.Given as goal

-- n numbers from this place on are one more
abbrev pub invariant-loop-i : goal.invariant-loop-i
invariant-loop-i l = l.places.items ≡ shifted_by l.from (l.i - l.from) l.fn.places.items
