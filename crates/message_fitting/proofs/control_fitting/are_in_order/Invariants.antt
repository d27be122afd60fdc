use Rattle.std.proofs.Common.{◌≡◌, ◌-◌, drop}
use Rattle.incomplete_closure.specs.declared.session_rows.SessionRow.{SessionRow}
use Rattle.incomplete_closure.specs.Seen.{session_seen}
use Rattle.message_fitting.specs.ControlFits.{in_order, sooner}
use Rattle.message_fitting.proofs.control_fitting.are_in_order.Given as goal

-- those so far stand in order
abbrev pub invariant-loop-place : goal.invariant-loop-place
invariant-loop-place l = in_order (λ (a b : SessionRow). sooner (session_seen a) (session_seen b)) (drop (l.place - 1) l.rows) ≡ in_order (λ (a b : SessionRow). sooner (session_seen a) (session_seen b)) l.rows
