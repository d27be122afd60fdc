use Rattle.std.proofs.Common.{◌≡◌, ◌-◌, drop}
use Rattle.message_fitting.specs.ControlFits.{in_order, waits_sooner}
use Rattle.message_fitting.proofs.control_fitting.wait_in_order.Given as goal

-- those so far stand in order
abbrev pub invariant-loop-place : goal.invariant-loop-place
invariant-loop-place l = in_order waits_sooner (drop (l.place - 1) l.rows) ≡ in_order waits_sooner l.rows
