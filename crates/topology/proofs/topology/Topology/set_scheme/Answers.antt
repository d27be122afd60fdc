use Rattle.std.proofs.Common.{◌≡◌, sym, subst, None}
use Rattle.topology.specs.Building.{scheme_refusal}
use Rattle.topology.proofs.Adding.{keeps-scheme}
use Rattle.topology.proofs.topology.Topology.set_scheme.Goals as goal

pub invariant_of-self : goal.invariant_of-self
invariant_of-self c =
    keeps-scheme _ _ c.args.scheme c.self.invariant
    (subst (λ net. scheme_refusal net c.args.scheme ≡ None) (sym c.self.view_is) c.in_ok-check_scheme.ensures.ok)
