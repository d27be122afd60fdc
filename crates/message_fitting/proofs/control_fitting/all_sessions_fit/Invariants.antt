use Rattle.std.proofs.Common.{◌≡◌, drop, map}
use Rattle.std.specs.List.{list_all}
use Rattle.incomplete_closure.specs.Seen.{session_seen}
use Rattle.message_fitting.specs.ControlFits.{session_fits}
use Rattle.message_fitting.proofs.control_fitting.all_sessions_fit.Given as goal

-- those so far fit
abbrev pub invariant-loop-row : goal.invariant-loop-row
invariant-loop-row l = list_all (session_fits l.topology) (map session_seen (drop l.row-index l.rows)) ≡ list_all (session_fits l.topology) (map session_seen l.rows)
