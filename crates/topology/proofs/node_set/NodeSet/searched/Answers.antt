use Rattle.std.proofs.Common.{◌∙◌, ap}
use Rattle.topology.specs.Lists.{ascending}
use Rattle.topology.proofs.Sets.{rank_none}
use Rattle.topology.proofs.node_set.NodeSet.searched.Goals as goal

pub returns-clause-none : goal.returns-clause-none
returns-clause-none c =
    rank_none c.args.self.now.nodes _ c.args.id c.binary_search.result c.ok.result
    (c.deref.ensures.value ∙ c.self.invariant.sorted ∙ ap (λ m. ascending m.nodes) c.self.view_is)
    c.binary_search.ensures.position
    c.ok.ensures.value
