use Rattle.std.proofs.Common.{sym}
use Rattle.topology.proofs.Sets.{found}
use Rattle.topology.proofs.Tests.{same_is}
use Rattle.topology.proofs.node_set.NodeSet.place.Goals as goal

pub returns-clause-some : goal.returns-clause-some
returns-clause-some c =
    rw (← c.self.view_is) (found _ c.args.id (λ x e. sym (same_is c.args.id x e)) _ _ c.get_index_of.ensures.index)
