use Rattle.paxos_core.proofs.Posting.{proposal as value}
use Rattle.paxos_core.proofs.laws.proposal.Goals as goal

pub returns : goal.returns
returns g c = λ past u to tos b v. value u b v to tos past
