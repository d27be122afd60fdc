use Rattle.std.proofs.Common.{zero, suc, ◌+◌, ◌-◌, ◌≡◌, refl, sym, ap, ◌∙◌, arith}
use Rattle.std.proofs.lemmas.Bool.Decides.{nat_tests}
use Rattle.leadership.specs.Text.{controlled}
use Rattle.leadership.specs.View.{LeadView}
use Rattle.leadership.proofs.Courses.{handed_on, stops_as, control_ends, control_goes, control_stops, control_more}
use Rattle.leadership.proofs.directives.deliver_all.Goals as goal

pub loop-init : goal.loop-init
loop-init c =
    let whole : c.args.times - 0 ≡ c.args.times = omega arith in
    record {
      same_members = refl;
      leads = ap (λ n. controlled c.args.world.members n c.args.world.events) whole;
    }

-- all messages were taken
pub returns-clause-world : goal.returns-clause-world
returns-clause-world c =
    let was = c.loop.invariant in
    let more = c.loop-test.false in
    let end = c.loop.auto.counter-end in
    let none : c.args.times - c.loop.counter ≡ zero = grind (arith, nat_tests, more, end) in
    record {
      same_members = was.same_members;
      leads = sym was.leads ∙ ap (λ n. controlled c.args.world.members n c.loop.world.events) none;
    }

-- no message is next
pub returns-in_default-clause-world : goal.returns-in_default-clause-world
returns-in_default-clause-world c =
    let was = c.loop.invariant in
    let members = c.args.world.members in
    let none = rw was.same_members at (sym c.next_mail.ensures ∙ c.in_default.is) in
    record {
      same_members = was.same_members;
      leads = sym was.leads ∙ (sym (control_more members c.loop.world.events c.args.times c.loop.counter c.loop-test.true) ∙ control_ends members c.loop.world.events (c.args.times - (c.loop.counter + 1)) none);
    }

-- a limit stops it
pub returns-in_err-next-clause-stopped : goal.returns-in_err-next-clause-stopped
returns-in_err-next-clause-stopped c =
    let was = c.loop.invariant in
    let members = c.args.world.members in
    let number = c.in-Some.number in
    let found = rw was.same_members at (sym c.next_mail.ensures ∙ c.in-Some.is) in
    let stopped = rw was.same_members at c.in_err-next.ensures.stopped in
    let n = c.args.times - (c.loop.counter + 1) in
    handed_on c.from_residual.result _ _ c.from_residual.ensures (λ why same.
    rw same (stops_as (controlled members c.args.times c.args.world.events) (controlled members (suc n) c.loop.world.events) c.in_err-next.field-0.0
    (control_more members c.loop.world.events c.args.times c.loop.counter c.loop-test.true ∙ was.leads)
    (control_stops members c.loop.world.events n number c.in_err-next.field-0.0 found stopped)))

-- one more message
pub loop-preserved : goal.loop-preserved
loop-preserved c =
    let was = c.loop.invariant in
    let members = c.args.world.members in
    let number = c.in-Some.number in
    let found = rw was.same_members at (sym c.next_mail.ensures ∙ c.in-Some.is) in
    let within = rw was.same_members at c.in_ok-next.ensures.within in
    let next = c.in_ok-next.ensures.world in
    let n = c.args.times - (c.loop.counter + 1) in
    record {
      same_members = ap (λ (w : LeadView). w.members) next ∙ was.same_members;
      leads = ap (λ (w : LeadView). controlled members n w.events) next
          ∙ (sym (control_goes members c.loop.world.events n number found within)
          ∙ (control_more members c.loop.world.events c.args.times c.loop.counter c.loop-test.true ∙ was.leads));
    }
