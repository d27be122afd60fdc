-- The nearest row of each prefix after one more row was added.
use Rattle.std.proofs.Common.{ℕ, Bool, true, false, ◌==◌, Option, Some, List, [], ◌∷◌, Ordering, nat_cmp, ◌≡◌, refl, sym, ◌∙◌, ap, cond, arith, if◌then◌else◌}
use Rattle.std.specs.Ordering.{is_eq}
use Rattle.std.specs.Option.{option_or}
use Rattle.std.specs.Map.{lookup}
use Rattle.std.specs.BTreeMap.{is_at}
use Rattle.std.proofs.lemmas.Bool.Decides.{nat_tests}

same_lookup : {X : Type 0} (p q : ℕ → Bool) → ((k : ℕ) → p k ≡ q k) → (es : List (ℕ × X)) → lookup p es ≡ lookup q es
same_lookup p q same [] = refl
same_lookup p q same (e ∷ es) = rw (same e.0) (ap (λ o. cond (q e.0) (Some e.1) o) (same_lookup p q same es))

equal_is : (a b : ℕ) → is_eq (nat_cmp a b) ≡ (a == b)
equal_is a b = grind (arith, nat_tests)

one_more : (b : Bool) (x : ℕ) (old all : Option ℕ) → option_or (cond b (Some x) old) all ≡ (if b then Some x else option_or old all)
one_more true x old all = refl
one_more false x old all = refl

module _ (by : ℕ → ℕ → Ordering) (is : (a b : ℕ) → by a b ≡ nat_cmp a b) where
  at_key : (a k : ℕ) → is_at (by a) k ≡ (a == k)
  at_key a k = ap is_eq (is a k) ∙ equal_is a k

  pub nearest_put : (p vertex : ℕ) (old new : List (ℕ × ℕ)) (all : Option ℕ)
      → ((q : ℕ) → lookup (is_at (by q)) new ≡ cond (is_at (by p) q) (Some vertex) (lookup (is_at (by q)) old))
      → (q : ℕ) → option_or (lookup (λ k. q == k) new) all ≡ (if p == q then Some vertex else option_or (lookup (λ k. q == k) old) all)
  nearest_put p vertex old new all updates q =
      ap (λ o. option_or o all) (sym (same_lookup (is_at (by q)) (λ k. q == k) (at_key q) new) ∙ updates q)
      ∙ (rw (at_key p q, same_lookup (is_at (by q)) (λ k. q == k) (at_key q) old) (one_more (p == q) vertex (lookup (λ k. q == k) old) all))
