use Rattle.std.proofs.Common.{◌≡◌, ◌++◌, ap, ◌∙◌, arith}
use Rattle.load_plan.specs.LoadSchedule.{packets_lines}
use Rattle.load_plan.proofs.Planned.{no_packets, packet_step, state_on}
use Rattle.load_plan.proofs.load_schedule.send_packets.Goals as goal

pub loop-place-init : goal.loop-place-init
loop-place-init c = λ number is. (no_packets number _, is)

pub loop-place-preserved : goal.loop-place-preserved
loop-place-preserved c = λ number is.
    let was = c.loop-place.invariant number is in (
      c.in_ok-send.ensures ∙ (rw (was.0, c.from.ensures) (packet_step number c.loop-place.place _ _ c.args.lines.now.items was.1 c.draw-node.ensures.drawn)),
      state_on number 57 c.loop-place.place _ _ was.1 c.draw-node.ensures.state,
    )

pub returns : goal.returns
returns c = λ number is.
    let was = c.loop-place.invariant number is in
    let end : c.loop-place.place ≡ 12 = omega arith in
    was.0 ∙ ap (λ n. c.args.lines.now.items ++ packets_lines number n) end
