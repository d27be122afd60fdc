use Rattle.paxos_core.proofs.Proposals.{agree}
use Rattle.paxos_core.proofs.laws.agreement_of.Goals as goal

pub returns : goal.returns
returns g c = agree
