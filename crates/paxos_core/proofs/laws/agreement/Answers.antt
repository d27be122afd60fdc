use Rattle.paxos_core.proofs.Proposals.{agree}
use Rattle.paxos_core.proofs.laws.agreement.Goals as goal

pub returns : goal.returns
returns c = agree
