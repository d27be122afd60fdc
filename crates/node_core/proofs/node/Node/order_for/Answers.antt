use Rattle.std.proofs.lemmas.Result.{IfOk-weaker}
use Rattle.trigger_log.specs.Entries.{reads}
use Rattle.chronicle.specs.Logs.{log_of}
use Rattle.node_core.proofs.Passed.{in_order, any_order}
use Rattle.node_core.proofs.Unboxed.{net_of, id_of}
use Rattle.node_core.proofs.node.Node.order_for.Goals as goal

pub returns-then-asks : goal.returns-then-asks
returns-then-asks g c = IfOk-weaker c.order.result _ _
    (λ list is policy net u past up was inside. in_order (g.P.Policy.rules policy) net u past c.args.packet.now up list.items (is policy net u past was inside))
    c.order.ensures

pub returns : goal.returns
returns g c policy net u past up was inside =
    let rules = g.P.Policy.rules policy in
    let live = (rw c.deref.ensures at c.live.ensures) policy net u (log_of u past) was.keeps.log in
    any_order rules net u past c.args.packet.now up c.new.result.items c.deref-3.result.now c.deref-4.result.now.id c.owns-owns.result c.asks_for_order-asks.result (net_of c.deref-3.ensures c.deref-2.ensures was.keeps.same_net) (id_of c.deref-4.ensures was.keeps.same_id)
    (c.owns-owns.ensures policy net u (reads (log_of u past)) live inside) c.asks_for_order-asks.ensures c.if-asks.false
