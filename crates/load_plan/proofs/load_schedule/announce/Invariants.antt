use Rattle.std.proofs.Common.{ℕ, ◌≡◌, ◌+◌}
use Rattle.load_plan.specs.Draws.{state_after}
use Rattle.load_plan.specs.LoadSchedule.{announcements}
use Rattle.load_plan.proofs.load_schedule.announce.Given as goal

-- a draw for each announcement
abbrev pub invariant-loop-place : goal.invariant-loop-place
invariant-loop-place l =
    (number : ℕ) → l.initial.draws.state ≡ state_after number 42 →
    (l.lines.items ≡ announcements number l.place) × (l.draws.state ≡ state_after number (42 + l.place))
