use Rattle.std.proofs.Common.{not, zero, ◌+◌, ◌-◌, ◌≡◌, arith, refl, ap, ◌∙◌, sym}
use Rattle.std.proofs.lemmas.Bool.Decides.{nat_tests}
use Rattle.world_core.specs.View.{WorldView}
use Rattle.route_replay.specs.Text.{Leads, drained}
use Rattle.route_replay.proofs.Gathered.{handed_on}
use Rattle.route_replay.proofs.Drains.{same_policy, same_net, drain_rests, drain_moves, drain_stops}
use Rattle.route_replay.proofs.Repeating.{at_first, at_end, ends_with, goes_on, stops_with}
use Rattle.route_replay.proofs.directives.drain.Goals as goal

pub loop-init : goal.loop-init
loop-init g c = at_first (drained (g.P.Policy.rules c.args.world.policy) c.args.world.net) c.args.world c.args.times

-- all deliveries were made
pub returns-clause-world : goal.returns-clause-world
returns-clause-world g c =
    let rules = g.P.Policy.rules c.args.world.policy in
    let more = c.loop-test.false in
    let end = c.loop.auto.counter-end in
    let none : c.args.times - c.loop.counter ≡ zero = grind (arith, nat_tests, more, end) in
    at_end (drained rules c.args.world.net) c.args.world c.loop.world c.args.times c.loop.counter c.loop.invariant none refl

-- nothing is left to deliver
pub returns-then-is_none-clause-world : goal.returns-then-is_none-clause-world
returns-then-is_none-clause-world g c =
    let was = c.loop.invariant in
    let rules = g.P.Policy.rules c.args.world.policy in
    let net = c.args.world.net in
    let n = c.args.times - (c.loop.counter + 1) in
    let next = c.in_ok-next.ensures.world in
    let way = rw (was.same_policy, was.same_net) at c.in_ok-next.ensures.way in
    let none = c.is_none.ensures ∙ ap not c.if-is_none.true in
    ends_with (drained rules net) c.args.world c.loop.world c.args.times c.loop.counter was c.loop-test.true _
    (ap (λ (w : WorldView _). w.policy) next ∙ same_policy rules net n c.loop.world c.in_ok-next.way)
    (ap (λ (w : WorldView _). w.net) next ∙ same_net rules net n c.loop.world c.in_ok-next.way)
    (drain_rests rules net n c.loop.world c.in_ok-next.way way none ∙ sym (ap (λ (w : WorldView _). Leads w.events) next))

-- a limit stops it
pub returns-in_err-next-clause-stopped : goal.returns-in_err-next-clause-stopped
returns-in_err-next-clause-stopped g c =
    let was = c.loop.invariant in
    let rules = g.P.Policy.rules c.args.world.policy in
    let net = c.args.world.net in
    let stopped = rw (was.same_policy, was.same_net) at c.in_err-next.ensures.stopped in
    let n = c.args.times - (c.loop.counter + 1) in
    let why = c.in_err-next.field-0.0 in
    handed_on c.from_residual.result _ _ c.from_residual.ensures (λ e same.
    rw same (stops_with (drained rules net) c.args.world c.loop.world c.args.times c.loop.counter was c.loop-test.true why
    (drain_stops rules net c.loop.world.events n stopped.0 why stopped.1 stopped.2)))

-- one delivery more
pub loop-preserved : goal.loop-preserved
loop-preserved g c =
    let was = c.loop.invariant in
    let rules = g.P.Policy.rules c.args.world.policy in
    let net = c.args.world.net in
    let n = c.args.times - (c.loop.counter + 1) in
    let next = c.in_ok-next.ensures.world in
    let way = rw (was.same_policy, was.same_net) at c.in_ok-next.ensures.way in
    let step = rw (was.same_policy, was.same_net) at c.in_ok-next.ensures.step in
    let some = c.is_none.ensures ∙ ap not c.if-is_none.false in
    goes_on (drained rules net) c.args.world c.loop.world c.args.times c.loop.counter was c.loop-test.true _
    (ap (λ (w : WorldView _). w.policy) next ∙ same_policy rules net n c.loop.world c.in_ok-next.way)
    (ap (λ (w : WorldView _). w.net) next ∙ same_net rules net n c.loop.world c.in_ok-next.way)
    (drain_moves rules net n c.loop.world c.in_ok-next.way way some step ∙ sym (ap (λ (w : WorldView _). drained rules net n w.events) next))
