use Rattle.std.proofs.Common.{◌≡◌, drop}
use Rattle.load_plan.specs.LoadSchedule.{unnumbered}
use Rattle.route_replay.specs.Text.{events_of, stop}
use Rattle.route_replay.proofs.loading.perform_all.Given as goal

-- what is left leads where the whole does, and what stops it stops all
abbrev pub invariant-loop-directive : goal.invariant-loop-directive
invariant-loop-directive g l =
    let rules = g.P.Policy.rules l.fn.world.policy in
    let net = l.fn.world.net in
    let left = unnumbered (drop l.directive-index l.directives) in
    record {
      same_policy : l.world.policy ≡ l.fn.world.policy;
      same_net : l.world.net ≡ net;
      events : events_of rules net l.world.events left ≡ events_of rules net l.fn.world.events (unnumbered l.directives);
      stops : stop rules net l.world.events left ≡ stop rules net l.fn.world.events (unnumbered l.directives);
    }
