use Rattle.route_replay.specs.Text.{drained}
use Rattle.route_replay.proofs.Repeating.{LeadsOn}
use Rattle.route_replay.proofs.directives.drain.Given as goal

abbrev pub invariant-loop : goal.invariant-loop
invariant-loop g l =
    let rules = g.P.Policy.rules l.fn.world.policy in
    LeadsOn (drained rules l.fn.world.net) l.fn.world l.world l.times l.counter
