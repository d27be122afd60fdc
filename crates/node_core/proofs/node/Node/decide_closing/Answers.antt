use Rattle.chronicle.specs.Logs.{log_of}
use Rattle.node_core.proofs.Answering.{closes, closes_not}
use Rattle.node_core.proofs.node.Node.decide_closing.Goals as goal

pub returns-in_default : goal.returns-in_default
returns-in_default g c policy net u past was near =
    closes_not (g.P.Policy.rules policy) net u past c.args.nbr near c.held.result ((rw c.deref.ensures at c.held.ensures) policy net u (log_of u past) was.keeps.log near) c.in_default.is

pub returns : goal.returns
returns g c policy net u past was near =
    closes (g.P.Policy.rules policy) net u past c.args.nbr near c.held.result ((rw c.deref.ensures at c.held.ensures) policy net u (log_of u past) was.keeps.log near) c.in-Some.session c.in-Some.is
