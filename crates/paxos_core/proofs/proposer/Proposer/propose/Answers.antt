use Rattle.paxos_core.proofs.Tallies.{propose_stands}
use Rattle.paxos_core.proofs.proposer.Proposer.propose.Goals as goal

pub returns-clause-stands : goal.returns-clause-stands
returns-clause-stands g c = rw (← c.self.view_is) (λ n past u to tos b v h p. rw (c.gathering-self-inside.ensures, p, c.clear.ensures.items) (propose_stands past u to n tos _ b v h p))
