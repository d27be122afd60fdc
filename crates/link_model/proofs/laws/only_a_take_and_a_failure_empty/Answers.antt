use Rattle.link_model.proofs.Acting.{push_begins}
use Rattle.link_model.proofs.laws.only_a_take_and_a_failure_empty.Goals as goal

pub returns-clause-push : goal.returns-clause-push
returns-clause-push c = push_begins
