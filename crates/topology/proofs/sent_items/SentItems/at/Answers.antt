use Rattle.topology.proofs.Lent.{rest_of}
use Rattle.topology.proofs.sent_items.SentItems.at.Goals as goal

pub returns-clause-rest : goal.returns-clause-rest
returns-clause-rest c = rest_of c.args.self.now c.args.place _ c.lent.ensures.item
