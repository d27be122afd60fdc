use Rattle.std.proofs.Common.{ℕ, ◌≡◌, ◌+◌, ◌++◌}
use Rattle.load_plan.specs.Draws.{state_after}
use Rattle.load_plan.specs.LoadNetwork.{first_providers}
use Rattle.load_plan.specs.LoadSchedule.{further_epochs}
use Rattle.load_plan.proofs.load_schedule.fail_links.Given as goal

-- a draw for each epoch
abbrev pub invariant-loop-before : goal.invariant-loop-before
invariant-loop-before l =
    (number : ℕ) → l.providers ≡ first_providers number 21 → l.initial.draws.state ≡ state_after number 54 →
    (l.lines.items ≡ l.initial.lines.items ++ further_epochs number l.before) × (l.draws.state ≡ state_after number (54 + l.before))
