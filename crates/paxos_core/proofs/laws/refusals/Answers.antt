use Rattle.paxos_core.proofs.Refusing.{refusal_none, none_refused}
use Rattle.paxos_core.proofs.laws.refusals.Goals as goal

pub returns : goal.returns
returns g c = λ past u from m. (refusal_none past u from m, none_refused past u from m)
