use Rattle.std.proofs.Common.{subst}
use Rattle.chronicle.specs.Giving.{answer}
use Rattle.node_core.specs.Deciding.{IsDecided}
use Rattle.node_core.proofs.Asking.{follows_idle}
use Rattle.node_core.proofs.Counting.{values_small}
use Rattle.node_core.proofs.node.Node.follow.Goals as goal

pub returns-in-Err-clause-node : goal.returns-in-Err-clause-node
returns-in-Err-clause-node g c policy net u carried past input was decided =
    let rules = g.P.Policy.rules policy in
    follows_idle policy rules net u past (answer rules net carried u past input) c.in-Err.reason c.args.self
    (subst (IsDecided rules net u past input) c.in-Err.is decided carried)
    (record { keeps = was.keeps; agrees = was.agrees; small = values_small rules net u past was.within })
