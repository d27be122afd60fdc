use Rattle.std.proofs.Common.{Some}
use Rattle.topology.proofs.PrefixPlaces.{prefix_found}
use Rattle.topology.proofs.topology.Topology.find_prefix.Goals as goal

pub returns-clause-some : goal.returns-clause-some
returns-clause-some c =
    rw (c.new.ensures, ← c.self.view_is) (prefix_found c.args.prefix _ (Some c.in_ok-place.place) c.in_ok-place.ensures.index)
