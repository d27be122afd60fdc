use Rattle.std.proofs.Common.{◌≡◌, sym, subst, None}
use Rattle.topology.specs.Building.{pref_refusal}
use Rattle.topology.specs.declared.links.Hold.{Hold}
use Rattle.topology.proofs.Adding.{keeps-hold}
use Rattle.topology.proofs.topology.Topology.add_hold.Goals as goal

pub invariant_of-self-2 : goal.invariant_of-self-2
invariant_of-self-2 c =
    let hold : Hold = record { a = c.args.a; b = c.args.b } in
    rw c.in_ok-put.ensures.ok
    (keeps-hold _ _ hold c.self.invariant (subst (λ net. pref_refusal net hold.a hold.b ≡ None) (sym c.self.view_is) c.in_ok-check_pref.ensures.ok))
