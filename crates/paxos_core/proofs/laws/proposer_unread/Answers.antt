use Rattle.paxos_core.proofs.Unread.{proposer_posted, proposer_unread as unread}
use Rattle.paxos_core.proofs.laws.proposer_unread.Goals as goal

pub returns : goal.returns
returns g c = record {
  fact = λ n kept past u f h s. unread n kept past u f h s;
  sent = λ n kept past u w ms all s. proposer_posted n kept past u w ms all s;
}
