use Rattle.std.proofs.Common.{take}
use Rattle.trigger_log.specs.Offered.{AreSame}
use Rattle.trigger_log.proofs.quiet_entries.same_offers.Given as goal

-- a flag for each route so far
abbrev pub invariant-loop-i : goal.invariant-loop-i
invariant-loop-i l = AreSame (take l.i l.before) (take l.i l.after) l.same.items
