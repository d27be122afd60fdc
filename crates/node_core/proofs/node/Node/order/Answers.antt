use Rattle.std.proofs.lemmas.Result.{IfOk-weaker}
use Rattle.path_vector.specs.Ranking.{order}
use Rattle.path_vector.proofs.InOrder.{ranking_is}
use Rattle.path_vector.proofs.Ranking.{order_is_one}
use Rattle.trigger_log.specs.Entries.{reads}
use Rattle.chronicle.specs.Logs.{log_of}
use Rattle.node_core.proofs.node.Node.order.Goals as goal

pub returns : goal.returns
returns g c = IfOk-weaker c.order.result _ _
    (λ list is policy net u past was inside.
    let rules = g.P.Policy.rules policy in
    let h = reads (log_of u past) in
    let ranking = g.met.P.Policy.ranking policy in
    order_is_one rules.before net u h c.args.prefix list.items (order rules net u h c.args.prefix) ranking
    (is policy net u h ((rw c.deref.ensures at c.live.ensures) policy net u (log_of u past) was.keeps.log) inside) (ranking_is net u h c.args.prefix rules ranking was.keeps.log.routes.valid))
    c.order.ensures
