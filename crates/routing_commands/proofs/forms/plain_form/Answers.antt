use Rattle.std.proofs.Common.{true≢false, ℕ, List, [], ◌∷◌, sym, ap, ◌∙◌}
use Rattle.std.proofs.lemmas.Slice.Eq.{slice_eq-Decides}
use Rattle.std.proofs.lemmas.Bool.Decides.{Decides-eqb}
use Rattle.routing_commands.proofs.Formed.{not_plain}
use Rattle.routing_commands.proofs.forms.plain_form.Goals as goal

pub returns-then-eq : goal.returns-then-eq
returns-then-eq c =
    let same = slice_eq-Decides Decides-eqb _ _ _ c.eq.ensures in
    record {
      some = record { spelled = ap (λ (bytes : List ℕ). bytes ∷ []) (same.0 c.if-eq.true); in_range = tt };
      none = tt;
    }

pub returns-then-eq-2 : goal.returns-then-eq-2
returns-then-eq-2 c =
    let same = slice_eq-Decides Decides-eqb _ _ _ c.eq-2.ensures in
    record {
      some = record { spelled = ap (λ (bytes : List ℕ). bytes ∷ []) (same.0 c.if-eq-2.true); in_range = tt };
      none = tt;
    }

pub returns-then-eq-3 : goal.returns-then-eq-3
returns-then-eq-3 c =
    let same = slice_eq-Decides Decides-eqb _ _ _ c.eq-3.ensures in
    record {
      some = record { spelled = ap (λ (bytes : List ℕ). bytes ∷ []) (same.0 c.if-eq-3.true); in_range = tt };
      none = tt;
    }

pub returns : goal.returns
returns c =
    let replay = slice_eq-Decides Decides-eqb _ _ _ c.eq.ensures in
    let audit = slice_eq-Decides Decides-eqb _ _ _ c.eq-2.ensures in
    let lead = slice_eq-Decides Decides-eqb _ _ _ c.eq-3.ensures in
    record {
      some = tt;
      none = not_plain _ (λ e. true≢false (sym (replay.1 e) ∙ c.if-eq.false)) (λ e. true≢false (sym (audit.1 e) ∙ c.if-eq-2.false)) (λ e. true≢false (sym (lead.1 e) ∙ c.if-eq-3.false));
    }
