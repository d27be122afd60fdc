use Rattle.path_vector.proofs.Answering.{keeps_of}
use Rattle.path_vector.proofs.InOrder.{order_is}
use Rattle.path_vector.proofs.state.RouteState.order.Goals as goal

pub returns : goal.returns
returns g c = λ policy net u h s below.
    let is = rw (c.deref.ensures.value, s.same_policy) at c.in_ok-order.ensures in
    order_is net u h c.args.prefix (g.P.Policy.rules policy) (g.met.P.Policy.ranking policy) c.args.self.now.neighbours.items c.in_ok-order.field-0.items (keeps_of policy net u c.args.self.now h s) below is
