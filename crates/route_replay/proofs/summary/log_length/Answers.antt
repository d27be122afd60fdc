use Rattle.chronicle.specs.Logs.{log_of}
use Rattle.route_replay.specs.Past.{past_of}
use Rattle.route_replay.proofs.summary.log_length.Goals as goal

pub returns-clause-length : goal.returns-clause-length
returns-clause-length g c =
    let world = c.args.world.now in
    let past = past_of (g.P.Policy.rules world.policy) world in
    c.len.ensures world.policy world.net c.args.id (log_of c.args.id past) (c.log.ensures.log world.policy world.net c.args.id past c.node_of.ensures)
