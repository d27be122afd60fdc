use Rattle.std.proofs.Common.{refl, sym, ap, ◌∙◌}
use Rattle.std.proofs.lemmas.List.{drop_all}
use Rattle.load_plan.specs.LoadSchedule.{unnumbered}
use Rattle.route_replay.specs.Text.{events_of, stop}
use Rattle.route_replay.proofs.Gathered.{handed_on}
use Rattle.route_replay.proofs.Performed.{fit_here, events_step, stop_onward, stops_all}
use Rattle.route_replay.proofs.loading.perform_all.Goals as goal

pub loop-directive-init : goal.loop-directive-init
loop-directive-init g c = record { same_policy = refl; same_net = refl; events = refl; stops = refl }

pub perform-requires : goal.perform-requires
perform-requires g c =
    let was = c.loop-directive.invariant in
    rw (was.same_net, c.task_of.ensures) (fit_here c.args.world.net c.args.directives.now c.loop-directive.directive-index c.directive-item.result c.requires c.loop-directive-test.true c.directive-item.is)

pub loop-directive-preserved : goal.loop-directive-preserved
loop-directive-preserved g c =
    let was = c.loop-directive.invariant in
    let rules = g.P.Policy.rules c.args.world.policy in
    let net = c.args.world.net in
    let ds = c.args.directives.now in
    let i = c.loop-directive.directive-index in
    let d = c.directive-item.result in
    let events = c.loop-directive.world.events in
    let advances = c.in_ok-world.ensures.world in
    let goes = rw (was.same_policy, was.same_net, c.task_of.ensures) at advances.leads in
    let now = c.in_ok-world.world.events in
    record {
      same_policy = advances.same_policy ∙ was.same_policy;
      same_net = advances.same_net ∙ was.same_net;
      events = events_step rules net events ds i d c.loop-directive-test.true c.directive-item.is now _ goes was.events;
      stops = stop_onward rules net events ds i d c.loop-directive-test.true c.directive-item.is now _ goes was.stops;
    }

pub returns-clause-world : goal.returns-clause-world
returns-clause-world g c =
    let was = c.loop-directive.invariant in
    let rules = g.P.Policy.rules c.args.world.policy in
    let net = c.args.world.net in
    let events = c.loop-directive.world.events in
    let none = drop_all c.loop-directive.directive-index c.args.directives.now c.loop-directive-test.false in
    record {
      same_policy = was.same_policy;
      same_net = was.same_net;
      events = sym (ap (λ (l : _). events_of rules net events (unnumbered l)) none) ∙ was.events;
      goes = sym was.stops ∙ ap (λ (l : _). stop rules net events (unnumbered l)) none;
    }

pub returns-in_err-world-clause-stopped : goal.returns-in_err-world-clause-stopped
returns-in_err-world-clause-stopped g c =
    let was = c.loop-directive.invariant in
    let rules = g.P.Policy.rules c.args.world.policy in
    let net = c.args.world.net in
    let ds = c.args.directives.now in
    let i = c.loop-directive.directive-index in
    let d = c.directive-item.result in
    let events = c.loop-directive.world.events in
    let stopped = rw (was.same_policy, was.same_net, c.task_of.ensures) at c.in_err-world.ensures.stopped in
    handed_on c.from_residual.result _ _ c.from_residual.ensures (λ why same.
    rw same (stops_all rules net events ds i d c.loop-directive-test.true c.directive-item.is _ c.in_err-world.field-0.0 was.stops stopped))
