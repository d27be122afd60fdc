use Rattle.std.proofs.Common.{ℕ, ◌≡◌, ◌+◌, ◌++◌}
use Rattle.load_plan.specs.Draws.{state_after}
use Rattle.load_plan.specs.LoadSchedule.{packets_lines}
use Rattle.load_plan.proofs.load_schedule.send_packets.Given as goal

-- a draw for each packet
abbrev pub invariant-loop-place : goal.invariant-loop-place
invariant-loop-place l =
    (number : ℕ) → l.initial.draws.state ≡ state_after number 57 →
    (l.lines.items ≡ l.initial.lines.items ++ packets_lines number l.place) × (l.draws.state ≡ state_after number (57 + l.place))
