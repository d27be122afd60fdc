use Rattle.paxos_core.proofs.Decisions.{decision_chosen}
use Rattle.paxos_core.proofs.laws.decision_is_chosen.Goals as goal

pub returns : goal.returns
returns g c = λ ms C w u v. decision_chosen ms C w u v
