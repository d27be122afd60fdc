use Rattle.paxos_core.proofs.Following.{opened_obeys}
use Rattle.paxos_core.proofs.laws.starts_follow.Goals as goal

pub returns : goal.returns
returns g c = λ members past u o. opened_obeys members past u o
