use Rattle.std.proofs.Common.{zero, ◌+◌, ◌-◌, ◌≡◌, arith, refl, sym, ap, ◌∙◌}
use Rattle.std.proofs.lemmas.Bool.Decides.{nat_tests}
use Rattle.world_core.specs.View.{WorldView}
use Rattle.route_replay.specs.Text.{controlled}
use Rattle.route_replay.proofs.Gathered.{handed_on}
use Rattle.route_replay.proofs.Mails.{mail_fits, control_ends, control_goes, control_stops}
use Rattle.route_replay.proofs.Repeating.{at_first, at_end, ends_with, goes_on, stops_with}
use Rattle.route_replay.proofs.directives.control_all.Goals as goal

pub loop-init : goal.loop-init
loop-init g c = at_first (controlled (g.P.Policy.rules c.args.world.policy) c.args.world.net) c.args.world c.args.times

-- all messages were taken
pub returns-clause-world : goal.returns-clause-world
returns-clause-world g c =
    let rules = g.P.Policy.rules c.args.world.policy in
    let more = c.loop-test.false in
    let end = c.loop.auto.counter-end in
    let none : c.args.times - c.loop.counter ≡ zero = grind (arith, nat_tests, more, end) in
    at_end (controlled rules c.args.world.net) c.args.world c.loop.world c.args.times c.loop.counter c.loop.invariant none refl

-- no message is next
pub returns-in_default-clause-world : goal.returns-in_default-clause-world
returns-in_default-clause-world g c =
    let was = c.loop.invariant in
    let rules = g.P.Policy.rules c.args.world.policy in
    let net = c.args.world.net in
    let none = rw (was.same_policy, was.same_net) at (sym c.next_mail.ensures.next ∙ c.in_default.is) in
    ends_with (controlled rules net) c.args.world c.loop.world c.args.times c.loop.counter was c.loop-test.true c.loop.world refl refl
    (control_ends rules net c.loop.world.events (c.args.times - (c.loop.counter + 1)) none)

pub step-requires : goal.step-requires
step-requires g c = mail_fits _ _ _ c.in-Some.number (sym c.next_mail.ensures.next ∙ c.in-Some.is) c.in-Some.ensures.bound

-- a limit stops it
pub returns-in_err-next-clause-stopped : goal.returns-in_err-next-clause-stopped
returns-in_err-next-clause-stopped g c =
    let was = c.loop.invariant in
    let rules = g.P.Policy.rules c.args.world.policy in
    let net = c.args.world.net in
    let number = c.in-Some.number in
    let found = rw (was.same_policy, was.same_net) at (sym c.next_mail.ensures.next ∙ c.in-Some.is) in
    let stopped = rw (was.same_policy, was.same_net) at c.in_err-next.ensures.stopped in
    let n = c.args.times - (c.loop.counter + 1) in
    let why = c.in_err-next.field-0.0 in
    handed_on c.from_residual.result _ _ c.from_residual.ensures (λ e same.
    rw same (stops_with (controlled rules net) c.args.world c.loop.world c.args.times c.loop.counter was c.loop-test.true why
    (control_stops rules net c.loop.world.events n number why found stopped)))

-- one message more
pub loop-preserved : goal.loop-preserved
loop-preserved g c =
    let was = c.loop.invariant in
    let rules = g.P.Policy.rules c.args.world.policy in
    let net = c.args.world.net in
    let number = c.in-Some.number in
    let found = rw (was.same_policy, was.same_net) at (sym c.next_mail.ensures.next ∙ c.in-Some.is) in
    let within = rw (was.same_policy, was.same_net) at c.in_ok-next.ensures.within in
    let next = c.in_ok-next.ensures.world in
    let n = c.args.times - (c.loop.counter + 1) in
    goes_on (controlled rules net) c.args.world c.loop.world c.args.times c.loop.counter was c.loop-test.true _
    (ap (λ (w : WorldView _). w.policy) next) (ap (λ (w : WorldView _). w.net) next)
    (control_goes rules net c.loop.world.events n number found within ∙ sym (ap (λ (w : WorldView _). controlled rules net n w.events) next))
