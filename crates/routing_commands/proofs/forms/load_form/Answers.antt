use Rattle.std.proofs.Common.{true≢false, ℕ, List, sym, ◌∙◌, subst, ◌≤◌, ◌≢◌}
use Rattle.std.specs.Fmt.{decimal}
use Rattle.std.proofs.lemmas.Slice.Eq.{slice_eq-Decides}
use Rattle.std.proofs.lemmas.Bool.Decides.{Decides-eqb}
use Rattle.topology.specs.declared.limits.TheConstants.{HIGHEST_LOAD}
use Rattle.routing_commands.proofs.Formed.{not_load, no_number, is_load}
use Rattle.routing_commands.proofs.forms.load_form.Goals as goal

pub returns-in-Some : goal.returns-in-Some
returns-in-Some c =
    let same = slice_eq-Decides Decides-eqb _ _ _ c.eq.ensures in
    record {
      some = is_load _ _ c.in-Some.number (same.0 c.if-eq.true) (sym c.as_bytes.ensures.value ∙ c.in-Some.ensures.some) c.in-Some.ensures.within;
      none = tt;
    }

pub returns-in-None : goal.returns-in-None
returns-in-None c = record {
  some = tt;
  none = no_number _ _ (subst (λ (bytes : List ℕ). (n : ℕ) → n ≤ HIGHEST_LOAD → bytes ≢ decimal n) c.as_bytes.ensures.value c.in-None.ensures.none);
}

pub returns : goal.returns
returns c =
    let same = slice_eq-Decides Decides-eqb _ _ _ c.eq.ensures in
    record { some = tt; none = not_load _ _ (λ e. true≢false (sym (same.1 e) ∙ c.if-eq.false)) }
