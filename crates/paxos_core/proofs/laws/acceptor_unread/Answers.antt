use Rattle.paxos_core.proofs.Unread.{acceptor_posted, acceptor_unread as unread}
use Rattle.paxos_core.proofs.laws.acceptor_unread.Goals as goal

pub returns : goal.returns
returns g c = record {
  fact = λ kept past u f h s. unread kept past u f h s;
  sent = λ kept past u w ms s. acceptor_posted kept past u w ms s;
}
