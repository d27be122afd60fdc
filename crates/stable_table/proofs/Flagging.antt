-- Flags at the places of a list.
use Rattle.std.proofs.Common.{ℕ, zero, suc, ◌<◌, ◌≤◌, Bool, true, false, ◌==◌, ◌||◌, List, [], ◌∷◌, ◌++◌, length, take, drop, get_or, replicate, set, ◌≡◌, refl, sym, ◌∙◌, ap, arith}
use Rattle.std.proofs.lemmas.Bool.Decides.{nat_tests}
use Rattle.std.proofs.lemmas.List.{get_or-set_other}
use Rattle.std.proofs.lemmas.Grind.{get_or-set_at}
use Rattle.topology.specs.Lists.{has}
use Rattle.stable_table.specs.Flags.{is_flagged}

-- the first of three tests may come after the second
pub either_first : (a b c : Bool) → ((a || b) || c) ≡ (b || (a || c))
either_first true true c = refl
either_first true false c = refl
either_first false true c = refl
either_first false false c = refl

-- extending the list leaves the flags
pub filled : (flags : List Bool) (k n : ℕ) → is_flagged (flags ++ replicate k false) n ≡ is_flagged flags n
filled [] k n = none k n
  where
    none : (k n : ℕ) → get_or (replicate k false) n false ≡ false
    none zero n = refl
    none (suc k) zero = refl
    none (suc k) (suc n) = none k n
filled (m ∷ flags) k zero = refl
filled (m ∷ flags) k (suc n) = filled flags k n

-- extending a shorter list leaves the flags
pub filled_from : (flags longer : List Bool) (size more n : ℕ) → length flags ≤ size → longer ≡ take size flags ++ replicate more false → is_flagged longer n ≡ is_flagged flags n
filled_from flags longer size more n short is =
    ap (λ l. is_flagged l n) (is ∙ ap (λ l. l ++ replicate more false) (all flags size short)) ∙ filled flags more n
  where
    all : (ms : List Bool) (k : ℕ) → length ms ≤ k → take k ms ≡ ms
    all [] zero le = refl
    all [] (suc k) le = refl
    all (m ∷ ms) zero le = absurd (omega (arith, le))
    all (m ∷ ms) (suc k) le = ap (λ l. m ∷ l) (all ms k (omega (arith, le)))

-- one more place is flagged
pub flagged_more : (flags old : List Bool) (i n : ℕ) → i < length flags → ((n : ℕ) → is_flagged flags n ≡ is_flagged old n) → is_flagged (set flags i true) n ≡ (i == n || is_flagged old n)
flagged_more flags old i n below same =
    (elim (i == n) as (λ b. (i == n) ≡ b → get_or (set flags i true) n false ≡ (b || is_flagged old n)) [
      | true ↦ λ q. let at : n ≡ i = grind (arith, nat_tests) in get_or-set_at flags i n true false at below
      | false ↦ λ q. get_or-set_other flags i n true false (λ e. let off : (i == n) ≡ true = grind (arith, nat_tests, e) in absurd (cc (sym off ∙ q))) ∙ same n
    ]) refl

-- nothing is left after the whole list
pub none_left : (xs : List ℕ) (i n : ℕ) (flagged : Bool) → length xs ≤ i → (flagged || has (drop i xs) n) ≡ has xs n → flagged ≡ has xs n
none_left xs i n flagged over is = or_nothing flagged ∙ (ap (λ b. flagged || b) (sym (empty xs i over)) ∙ is)
  where
    or_nothing : (b : Bool) → b ≡ (b || false)
    or_nothing true = refl
    or_nothing false = refl

    empty : (ys : List ℕ) (k : ℕ) → length ys ≤ k → has (drop k ys) n ≡ false
    empty [] zero le = refl
    empty [] (suc k) le = refl
    empty (y ∷ ys) zero le = absurd (omega (arith, le))
    empty (y ∷ ys) (suc k) le = empty ys k (omega (arith, le))
