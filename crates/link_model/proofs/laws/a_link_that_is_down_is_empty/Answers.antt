use Rattle.link_model.proofs.Acting.{empty_down}
use Rattle.link_model.proofs.laws.a_link_that_is_down_is_empty.Goals as goal

pub returns : goal.returns
returns c = empty_down
