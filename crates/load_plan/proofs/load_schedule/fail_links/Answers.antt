use Rattle.std.proofs.Common.{◌≡◌, ◌+◌, ◌++◌, ap, ◌∙◌, arith}
use Rattle.load_plan.specs.Draws.{state_after}
use Rattle.load_plan.specs.LoadSchedule.{further_epochs}
use Rattle.load_plan.proofs.Planned.{no_epochs, epoch_step, state_on}
use Rattle.load_plan.proofs.load_schedule.fail_links.Goals as goal

pub loop-before-init : goal.loop-before-init
loop-before-init c = λ number made is. (no_epochs number _, is)

pub loop-before-preserved : goal.loop-before-preserved
loop-before-preserved c = λ number made is.
    let was = c.loop-before.invariant number made is in (
      c.in_ok-fail.ensures ∙ (rw was.0 (epoch_step number c.loop-before.before _ _ _ _ c.args.lines.now.items made was.1 c.draw-place.ensures.drawn c.draw-place.ensures.small (rw c.from.ensures at c.index-providers-from.is) c.new.ensures)),
      state_on number 54 c.loop-before.before _ _ was.1 c.draw-place.ensures.state,
    )

pub returns : goal.returns
returns c = λ number made is.
    let was = c.loop-before.invariant number made is in
    let end : c.loop-before.before ≡ 3 = omega arith in
    (was.0 ∙ ap (λ n. c.args.lines.now.items ++ further_epochs number n) end, was.1 ∙ ap (λ n. state_after number (54 + n)) end)
