use Rattle.link_model.proofs.Places.{none_sought}
use Rattle.link_model.proofs.ranks.place_of.Goals as goal

pub returns-clause-none : goal.returns-clause-none
returns-clause-none c = none_sought c.args.nodes.now c.args.node c.binary_search.result c.ok.result c.binary_search.ensures.position c.ok.ensures.value
