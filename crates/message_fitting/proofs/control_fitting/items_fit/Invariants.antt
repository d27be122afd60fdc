use Rattle.std.proofs.Common.{◌≡◌, drop}
use Rattle.std.specs.List.{list_all}
use Rattle.message_fitting.specs.ControlFits.{listed_fits}
use Rattle.message_fitting.proofs.control_fitting.items_fit.Given as goal

-- those so far fit
abbrev pub invariant-loop-place : goal.invariant-loop-place
invariant-loop-place l = list_all (listed_fits l.topology) (drop l.place l.sent) ≡ list_all (listed_fits l.topology) l.sent
