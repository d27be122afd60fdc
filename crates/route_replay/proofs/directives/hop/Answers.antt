use Rattle.std.proofs.Common.{zero, ◌+◌, ◌-◌, ◌≡◌, arith, refl, sym, ap, ◌∙◌}
use Rattle.std.proofs.lemmas.Bool.Decides.{nat_tests}
use Rattle.chronicle.specs.declared.events.Event.TheVariants.{Hop}
use Rattle.chronicle.specs.Run.{run, step}
use Rattle.world_core.specs.View.{WorldView}
use Rattle.route_replay.specs.Text.{Leads, hopped}
use Rattle.route_replay.proofs.Gathered.{handed_on}
use Rattle.route_replay.proofs.Hops.{hop_ends, hop_goes, hop_idles, hop_stops}
use Rattle.route_replay.proofs.Repeating.{at_first, at_end, ends_with, goes_on, stops_with}
use Rattle.route_replay.proofs.directives.hop.Goals as goal

pub loop-init : goal.loop-init
loop-init g c =
    at_first (hopped (g.P.Policy.rules c.args.world.policy) c.args.world.net c.args.packet) c.args.world c.args.times

-- all hops were made
pub returns-clause-world : goal.returns-clause-world
returns-clause-world g c =
    let rules = g.P.Policy.rules c.args.world.policy in
    let more = c.loop-test.false in
    let end = c.loop.auto.counter-end in
    let none : c.args.times - c.loop.counter ≡ zero = grind (arith, nat_tests, more, end) in
    at_end (hopped rules c.args.world.net c.args.packet) c.args.world c.loop.world c.args.times c.loop.counter c.loop.invariant none refl

-- the walk has ended
pub returns-then-has_ended-clause-world : goal.returns-then-has_ended-clause-world
returns-then-has_ended-clause-world g c =
    let was = c.loop.invariant in
    let rules = g.P.Policy.rules c.args.world.policy in
    let net = c.args.world.net in
    let k = c.args.packet in
    let ended = rw (was.same_policy, was.same_net) at (sym c.if-has_ended.ensures) in
    ends_with (hopped rules net k) c.args.world c.loop.world c.args.times c.loop.counter was c.loop-test.true c.loop.world refl refl
    (hop_ends rules net c.loop.world.events k (c.args.times - (c.loop.counter + 1)) ended)

-- a limit stops it
pub returns-in_err-next-clause-stopped : goal.returns-in_err-next-clause-stopped
returns-in_err-next-clause-stopped g c =
    let was = c.loop.invariant in
    let rules = g.P.Policy.rules c.args.world.policy in
    let net = c.args.world.net in
    let k = c.args.packet in
    let going = rw (was.same_policy, was.same_net) at (sym c.if-has_ended.ensures) in
    let stopped = rw (was.same_policy, was.same_net) at c.in_err-next.ensures.stopped in
    let n = c.args.times - (c.loop.counter + 1) in
    let why = c.in_err-next.field-0.0 in
    handed_on c.from_residual.result _ _ c.from_residual.ensures (λ e same.
    rw same (stops_with (hopped rules net k) c.args.world c.loop.world c.args.times c.loop.counter was c.loop-test.true why
    (hop_stops rules net c.loop.world.events k n why going stopped)))

-- the hop did nothing
pub returns-then-is_idle-clause-world : goal.returns-then-is_idle-clause-world
returns-then-is_idle-clause-world g c =
    let was = c.loop.invariant in
    let rules = g.P.Policy.rules c.args.world.policy in
    let net = c.args.world.net in
    let events = c.loop.world.events in
    let k = c.args.packet in
    let past = run rules net events in
    let going = rw (was.same_policy, was.same_net) at (sym c.if-has_ended.ensures) in
    let within = rw (was.same_policy, was.same_net) at c.in_ok-next.ensures.within in
    let tells = rw (was.same_policy, was.same_net) at c.in_ok-next.ensures.outcome in
    let idles = sym (c.if-is_idle.ensures past (step rules net past (Hop k)) tells) in
    let next = c.in_ok-next.ensures.world in
    ends_with (hopped rules net k) c.args.world c.loop.world c.args.times c.loop.counter was c.loop-test.true _
    (ap (λ (w : WorldView _). w.policy) next) (ap (λ (w : WorldView _). w.net) next)
    (hop_idles rules net events k (c.args.times - (c.loop.counter + 1)) going within idles ∙ ap (λ (w : WorldView _). Leads w.events) (sym next))

-- one hop more
pub loop-preserved : goal.loop-preserved
loop-preserved g c =
    let was = c.loop.invariant in
    let rules = g.P.Policy.rules c.args.world.policy in
    let net = c.args.world.net in
    let events = c.loop.world.events in
    let k = c.args.packet in
    let past = run rules net events in
    let going = rw (was.same_policy, was.same_net) at (sym c.if-has_ended.ensures) in
    let within = rw (was.same_policy, was.same_net) at c.in_ok-next.ensures.within in
    let tells = rw (was.same_policy, was.same_net) at c.in_ok-next.ensures.outcome in
    let goes = sym (c.if-is_idle.ensures past (step rules net past (Hop k)) tells) in
    let next = c.in_ok-next.ensures.world in
    let n = c.args.times - (c.loop.counter + 1) in
    goes_on (hopped rules net k) c.args.world c.loop.world c.args.times c.loop.counter was c.loop-test.true _
    (ap (λ (w : WorldView _). w.policy) next) (ap (λ (w : WorldView _). w.net) next)
    (hop_goes rules net events k n going within goes ∙ sym (ap (λ (w : WorldView _). hopped rules net k n w.events) next))
