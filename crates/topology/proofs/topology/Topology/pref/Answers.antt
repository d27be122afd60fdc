use Rattle.std.proofs.Common.{sym}
use Rattle.topology.proofs.Adding.{each_found}
use Rattle.topology.proofs.topology.Topology.pref.Goals as goal

pub returns-in-Some-clause-small : goal.returns-in-Some-clause-small
returns-in-Some-clause-small c = (each_found _ _ _ c.self.invariant.valid.preferences_fit _ (sym c.in-Some.ensures)).small
