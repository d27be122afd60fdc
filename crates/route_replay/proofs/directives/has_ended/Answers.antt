use Rattle.std.proofs.Common.{reverse, sym, ap}
use Rattle.std.specs.Prelude.{is_some}
use Rattle.chronicle.specs.Walks.{standing, walk, ending}
use Rattle.route_replay.specs.Past.{past_of}
use Rattle.delivery_laws.proofs.Ended.{none_ended, no_walk_read}
use Rattle.route_replay.proofs.directives.has_ended.Goals as goal

-- a packet that never entered the network has no end
pub returns-in-None : goal.returns-in-None
returns-in-None g c =
    let world = c.args.world.now in
    let rules = g.P.Policy.rules world.policy in
    let past = past_of rules world in
    let k = c.args.packet in
    let nothing = sym (rw c.in-None.is at c.walk.ensures) in
    let nowhere = no_walk_read (standing k past) (reverse (walk k past)) (ending k past) nothing in
    sym (ap is_some (none_ended rules world.net world.events k nowhere))
