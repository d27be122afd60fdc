use Rattle.route_node.proofs.Stopped.{ends_heard}
use Rattle.route_node.proofs.records.hear.Goals as goal

pub returns-in-Err-clause-err : goal.returns-in-Err-clause-err
returns-in-Err-clause-err g c = λ policy net u carried past stands comes. ends_heard _ net u _ _ _ _ c.stopped.ensures (c.in-Err.ensures.stopped policy net u carried past stands comes)

-- after a refused record there is no node
pub returns-in-Some-clause-node : goal.returns-in-Some-clause-node
returns-in-Some-clause-node g c = tt

pub returns-in-Some-clause-in_turn : goal.returns-in-Some-clause-in_turn
returns-in-Some-clause-in_turn g c = tt

pub returns-in-Some-clause-within : goal.returns-in-Some-clause-within
returns-in-Some-clause-within g c = tt
