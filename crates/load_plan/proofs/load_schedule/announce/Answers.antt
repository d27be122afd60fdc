use Rattle.std.proofs.Common.{◌≡◌, ◌+◌, ap, ◌∙◌, sym, arith}
use Rattle.load_plan.specs.Draws.{state_after}
use Rattle.load_plan.specs.LoadSchedule.{announcements}
use Rattle.load_plan.proofs.Planned.{no_announcements, announcement_step, state_on}
use Rattle.load_plan.proofs.load_schedule.announce.Goals as goal

pub loop-place-init : goal.loop-place-init
loop-place-init c = λ number is. (c.requires ∙ sym (no_announcements number), is)

pub loop-place-preserved : goal.loop-place-preserved
loop-place-preserved c = λ number is.
    let was = c.loop-place.invariant number is in (
      c.in_ok-push.ensures.items ∙ (rw (c.new.ensures, c.new-in-loop-place.ensures, was.0) (announcement_step number c.loop-place.place _ _ was.1 c.draw-node.ensures.drawn)),
      state_on number 42 c.loop-place.place _ _ was.1 c.draw-node.ensures.state,
    )

pub returns : goal.returns
returns c = λ number is.
    let was = c.loop-place.invariant number is in
    let end : c.loop-place.place ≡ 12 = omega arith in
    (was.0 ∙ ap (announcements number) end, was.1 ∙ ap (λ n. state_after number (42 + n)) end)
