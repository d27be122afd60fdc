use Rattle.node_core.proofs.answers.consult_parts.Goals as goal

pub returns-clause-part : goal.returns-clause-part
returns-clause-part c past u stands = (rw c.deref.ensures at c.in_ok-consolidator.ensures) past u stands
