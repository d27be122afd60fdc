-- The place of a prefix in a list of different ones.
use Rattle.std.proofs.Common.{◌≡◌, ℕ, zero, suc, ◌+◌, ◌≤◌, Bool, true, false, cond, ◌==◌, List, [], ◌∷◌, refl, sym, ap, ◌∙◌, arith}
use Rattle.std.specs.Prelude.{Some, slice_get}
use Rattle.std.specs.List.{count_by}
use Rattle.std.proofs.lemmas.Bool.{and_from, eq-eqb, cond-true, cond_both}
use Rattle.std.proofs.lemmas.List.Recursion.{is_count_by}
use Rattle.std.proofs.lemmas.Option.{same_Some, none-some}
use Rattle.topology.specs.declared.prefixes.Prefix.{Prefix as Range}
use Rattle.topology.specs.Net.{same_prefix}
use Rattle.schedule_file.specs.Grammar.{place_in}

pub same_prefix-self : (p : Range) → same_prefix p p ≡ true
same_prefix-self p = and_from (p.bits == p.bits) (p.len == p.len) (eq-eqb p.bits p.bits refl) (eq-eqb p.len p.len refl)

abbrev counts : {X : Type 0} → (X → Bool) → List X → ℕ
counts p [] = 0
counts p (x ∷ xs) = cond (p x) (1 + counts p xs) (counts p xs)

-- a list counts what it has
counted : (p : Range) (qs : List Range) (i : ℕ) → slice_get qs i ≡ Some p → 1 ≤ counts (same_prefix p) qs
counted p [] i e = absurd (none-some p e)
counted p (q ∷ qs) zero e =
    let same : same_prefix p q ≡ true = ap (same_prefix p) (same_Some q p e) ∙ same_prefix-self p in
    omega (arith, cond-true (same_prefix p q) (1 + counts (same_prefix p) qs) (counts (same_prefix p) qs) same)
counted p (q ∷ qs) (suc i) e =
    let more = counted p qs i e in
    cond_both (same_prefix p q) (1 + counts (same_prefix p) qs) (counts (same_prefix p) qs) (λ n. 1 ≤ n) (λ _. omega arith) (λ _. more)

placed : (p : Range) (qs : List Range) (i : ℕ) → slice_get qs i ≡ Some p → counts (same_prefix p) qs ≤ 1 → i ≡ place_in p qs
placed p [] i e h = absurd (none-some p e)
placed p (q ∷ qs) zero e h =
    let same : same_prefix p q ≡ true = ap (same_prefix p) (same_Some q p e) ∙ same_prefix-self p in
    sym (cond-true (same_prefix p q) 0 (suc (place_in p qs)) same)
placed p (q ∷ qs) (suc i) e h =
    let more = counted p qs i e in
    let next : counts (same_prefix p) qs ≤ 1 → i ≡ place_in p qs = placed p qs i e in
    (elim (same_prefix p q) as (λ t. cond t (1 + counts (same_prefix p) qs) (counts (same_prefix p) qs) ≤ 1 → suc i ≡ cond t 0 (suc (place_in p qs))) [
      | true ↦ λ k. absurd (omega arith)
      | false ↦ λ k. ap suc (next k)
    ]) h

-- in a list of different prefixes, a prefix has the place where it stands
pub place_of : (p : Range) (qs : List Range) (i : ℕ) → slice_get qs i ≡ Some p → count_by (same_prefix p) qs ≤ 1 → i ≡ place_in p qs
place_of p qs i e h =
    let same = is_count_by (counts (same_prefix p)) (same_prefix p) refl (λ _ _. refl) qs in
    placed p qs i e (omega arith)
