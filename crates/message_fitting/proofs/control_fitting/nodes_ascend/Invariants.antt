use Rattle.std.proofs.Common.{◌≡◌, ◌-◌, nat_lt, drop}
use Rattle.message_fitting.specs.ControlFits.{in_order}
use Rattle.message_fitting.proofs.control_fitting.nodes_ascend.Given as goal

-- those so far stand in order
abbrev pub invariant-loop-place : goal.invariant-loop-place
invariant-loop-place l = in_order nat_lt (drop (l.place - 1) l.nodes) ≡ in_order nat_lt l.nodes
