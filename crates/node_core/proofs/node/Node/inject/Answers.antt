use Rattle.std.proofs.lemmas.Result.{IfOk-weaker}
use Rattle.node_core.proofs.Passed.{injection_shown}
use Rattle.node_core.proofs.Unboxed.{net_of, id_of}
use Rattle.node_core.proofs.node.Node.inject.Goals as goal

pub returns : goal.returns
returns g c = IfOk-weaker c.forward.result _ _
    (λ output shown policy net u past was.
    injection_shown net c.deref.result.now u c.deref-parts.result.now.id c.args.id c.args.prefix past c.newest_epoch-newest.result c.stamp-packet.result output
    (net_of c.deref.ensures c.deref-parts.ensures was.keeps.same_net) (id_of c.deref-parts.ensures was.keeps.same_id) (c.newest_epoch-newest.ensures policy net u past was) c.stamp-packet.ensures shown)
    c.forward.ensures
