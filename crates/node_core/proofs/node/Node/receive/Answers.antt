use Rattle.trigger_log.specs.Going.{item_of}
use Rattle.chronicle.specs.Giving.{answer}
use Rattle.chronicle.specs.Inputs.{Arrive}
use Rattle.node_core.proofs.Asking.{follows_idle}
use Rattle.node_core.proofs.Counting.{values_small}
use Rattle.node_core.proofs.node.Node.receive.Goals as goal

pub returns-in-Some-clause-node : goal.returns-in-Some-clause-node
returns-in-Some-clause-node g c policy net u carried past was may =
    let rules = g.P.Policy.rules policy in
    follows_idle policy rules net u past (answer rules net carried u past (Arrive c.args.from c.args.session (item_of c.args.item))) c.in-Some.reason c.args.self
    (c.in-Some.ensures.some policy net u carried past was may)
    (record { keeps = was.keeps; agrees = was.agrees; small = values_small rules net u past was.within })
