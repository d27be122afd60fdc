use Rattle.topology.proofs.Adding.{keeps-hops}
use Rattle.topology.proofs.topology.Topology.set_hops.Goals as goal

pub invariant_of-self : goal.invariant_of-self
invariant_of-self c = keeps-hops _ _ c.args.hops c.self.invariant c.ranges.hops.fits
