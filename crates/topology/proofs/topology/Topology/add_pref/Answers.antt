use Rattle.std.proofs.Common.{◌≡◌, sym, subst, None}
use Rattle.topology.specs.Building.{pref_refusal}
use Rattle.topology.specs.declared.links.Pref.{Pref}
use Rattle.topology.proofs.Adding.{keeps-pref}
use Rattle.topology.proofs.topology.Topology.add_pref.Goals as goal

pub invariant_of-self-2 : goal.invariant_of-self-2
invariant_of-self-2 c =
    let pref : Pref = record { a = c.args.a; b = c.args.b; value = c.args.value } in
    rw c.in_ok-put.ensures.ok
    (keeps-pref _ _ pref c.self.invariant c.requires (subst (λ net. pref_refusal net pref.a pref.b ≡ None) (sym c.self.view_is) c.in_ok-check_pref.ensures.ok))
