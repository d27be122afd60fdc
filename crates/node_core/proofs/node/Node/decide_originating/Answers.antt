use Rattle.chronicle.specs.Logs.{log_of}
use Rattle.trigger_log.specs.Entries.{reads}
use Rattle.node_core.proofs.Answering.{originates, originates_not}
use Rattle.node_core.proofs.node.Node.decide_originating.Goals as goal

pub returns-then-owns : goal.returns-then-owns
returns-then-owns g c policy net u past was inside =
    originates_not (g.P.Policy.rules policy) net u past c.args.prefix inside c.owns.result
    (c.owns.ensures policy net u (reads (log_of u past)) ((rw c.deref.ensures at c.live.ensures) policy net u (log_of u past) was.keeps.log) inside) c.if-owns.true

pub returns : goal.returns
returns g c policy net u past was inside =
    originates (g.P.Policy.rules policy) net u past c.args.prefix inside c.owns.result
    (c.owns.ensures policy net u (reads (log_of u past)) ((rw c.deref.ensures at c.live.ensures) policy net u (log_of u past) was.keeps.log) inside) c.if-owns.false
