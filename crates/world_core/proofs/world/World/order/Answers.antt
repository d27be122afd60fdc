use Rattle.std.proofs.lemmas.Result.{IfOk-weaker}
use Rattle.path_vector.specs.Ranking.{order}
use Rattle.path_vector.proofs.InOrder.{ranking_is}
use Rattle.path_vector.proofs.Ranking.{order_is_one}
use Rattle.trigger_log.specs.Entries.{reads}
use Rattle.chronicle.specs.Logs.{log_of}
use Rattle.chronicle.specs.Run.{run}
use Rattle.world_core.proofs.world.World.order.Goals as goal

pub returns-in-Some : goal.returns-in-Some
returns-in-Some g c = IfOk-weaker c.order.result _ _
    (λ list is node.
    let world = c.args.self.now in
    let policy = world.policy in
    let rules = g.P.Policy.rules policy in
    let net = world.net in
    let u = c.args.id in
    let past = run rules net world.events in
    let h = reads (log_of u past) in
    let ranking = g.met.P.Policy.ranking policy in
    let live = c.live.ensures policy net u (log_of u past) (c.log.ensures.log policy net u past c.in-Some.ensures.some) in
    order_is_one rules.before net u h c.args.prefix list.items (order rules net u h c.args.prefix) ranking (is policy net u h live c.requires) (ranking_is net u h c.args.prefix rules ranking live.valid))
    c.order.ensures
