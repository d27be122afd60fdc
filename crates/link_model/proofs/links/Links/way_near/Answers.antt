use Rattle.link_model.proofs.Keeping.{no_way}
use Rattle.link_model.proofs.Tables.{if_none}
use Rattle.link_model.proofs.links.Links.way_near.Goals as goal

pub returns-clause-none : goal.returns-clause-none
returns-clause-none c = if_none c.way_near.result _ (λ none net ways keeps.
    no_way net c.args.self.now ways c.args.from c.args.to (λ way at. let found = c.way_near.ensures.found way at in cc (none, found)) keeps)
