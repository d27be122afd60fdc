use Rattle.paxos_core.proofs.Following.{received_obeys}
use Rattle.paxos_core.proofs.laws.answers_follow.Goals as goal

pub returns : goal.returns
returns g c = λ members nodes fresh past u from m o h. received_obeys members nodes fresh past u from m o h
