use Rattle.link_model.proofs.Acting.{rising}
use Rattle.link_model.proofs.laws.sessions_rise.Goals as goal

pub returns : goal.returns
returns c = rising
