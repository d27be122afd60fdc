use Rattle.std.proofs.Common.{◌≡◌, ◌-◌, drop}
use Rattle.topology.specs.Triggers.{earlier}
use Rattle.message_fitting.specs.ControlFits.{in_order}
use Rattle.message_fitting.proofs.control_fitting.triggers_ascend.Given as goal

-- those so far stand in order
abbrev pub invariant-loop-place : goal.invariant-loop-place
invariant-loop-place l = in_order earlier (drop (l.place - 1) l.triggers) ≡ in_order earlier l.triggers
