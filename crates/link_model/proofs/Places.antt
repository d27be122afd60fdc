-- The places of nodes in ascending lists, and of ways in links.
use Rattle.std.proofs.Common.{ℕ, zero, suc, ◌<◌, ◌≤◌, true, false, ◌==◌, Option, Some, None, IsNone, IfNone, Result, Ok, Err, nat_lt, List, [], ◌∷◌, ◌++◌, ◌≡◌, ◌≢◌, ◌⊎◌, inl, inr, ⊎_elim, refl, sym, ◌∙◌, ap, subst, arith, true≢false, length, get_or, set, slice_get, nat_cmp}
use Rattle.std.specs.Result.{result_ok}
use Rattle.std.specs.List.Sorted.{IsStrictlyIncreasing, IsBinarySearchResult}
use Rattle.std.proofs.lemmas.Bool.{cases_eq}
use Rattle.std.proofs.lemmas.Bool.Decides.{nat_tests}
use Rattle.std.proofs.lemmas.List.Recursion.{or_from_places}
use Rattle.std.proofs.lemmas.List.Kept.{AllPairs-from_increasing}
use Rattle.std.proofs.lemmas.List.Sorted.{searched}
use Rattle.std.proofs.lemmas.Option.{slice_get_within, slice_get_read, slice_get-get_or}
use Rattle.topology.specs.Lists.{has}

pub same_some : {A : Type 0} (x y : A) → Some x ≡ Some y → x ≡ y
same_some x y e = cc

pub get_set_same : {A : Type 0} (xs : List A) (i : ℕ) (x : A) → i < length xs → slice_get (set xs i x) i ≡ Some x
get_set_same [] i x l = absurd (omega arith)
get_set_same (y ∷ ys) zero x l = refl
get_set_same (y ∷ ys) (suc i) x l = get_set_same ys i x (omega arith)

pub get_set_other : {A : Type 0} (xs : List A) (i j : ℕ) (x : A) → i ≢ j → slice_get (set xs i x) j ≡ slice_get xs j
get_set_other [] i j x ne = refl
get_set_other (y ∷ ys) zero zero x ne = absurd (ne refl)
get_set_other (y ∷ ys) zero (suc j) x ne = refl
get_set_other (y ∷ ys) (suc i) zero x ne = refl
get_set_other (y ∷ ys) (suc i) (suc j) x ne = get_set_other ys i j x (λ e. ne (ap suc e))

-- writing what is there already
pub set_again : {A : Type 0} (xs : List A) (i : ℕ) (x : A) → slice_get xs i ≡ Some x → set xs i x ≡ xs
set_again [] i x e = refl
set_again (y ∷ ys) zero x e = ap (λ z. z ∷ ys) (sym (same_some y x e))
set_again (y ∷ ys) (suc i) x e = ap (λ zs. y ∷ zs) (set_again ys i x e)

-- a place of a list with one more element is a place of the list, or the end
pub pushed_at : {A : Type 0} (xs : List A) (y : A) (i : ℕ) (x : A) → slice_get (xs ++ y ∷ []) i ≡ Some x → (slice_get xs i ≡ Some x) ⊎ ((i ≡ length xs) × (x ≡ y))
pushed_at [] y zero x e = inr (refl, same_some x y (sym e))
pushed_at [] y (suc i) x e = absurd (cc e)
pushed_at (z ∷ zs) y zero x e = inl e
pushed_at (z ∷ zs) y (suc i) x e = ⊎_elim (λ here. inl here) (λ (last : (i ≡ length zs) × (x ≡ y)). inr (ap suc last.0, last.1)) (pushed_at zs y i x e)

-- ---- ascending lists

pub at_most : (xs : List ℕ) → IsStrictlyIncreasing xs → (i j : ℕ) → i ≤ j → j < length xs → get_or xs i 0 ≤ get_or xs j 0
at_most xs rises i j h l = ⊎_elim
    (λ (same : i ≡ j). rw same (omega arith))
    (λ (ne : i ≢ j). let below : get_or xs i 0 < get_or xs j 0 = AllPairs-from_increasing xs rises i j 0 (omega (arith, apart i j h ne)) l in omega arith)
    (cases_eq i j)
  where
    apart : (i j : ℕ) → i ≤ j → i ≢ j → i < j
    apart i j h ne = grind (arith, nat_tests)

pub read_or : (xs : List ℕ) (i x : ℕ) → slice_get xs i ≡ Some x → get_or xs i 0 ≡ x
read_or xs i x e = same_some (get_or xs i 0) x (sym (slice_get-get_or xs i 0 (slice_get_within xs i x e)) ∙ e)

beside : (xs : List ℕ) (n i k : ℕ) → k < length xs → ((k : ℕ) → k < i → get_or xs k 0 < n) → ((k : ℕ) → i ≤ k → k < length xs → n < get_or xs k 0) → (get_or xs k 0 == n) ≡ false
beside xs n i k l below above =
    (elim (nat_lt k i) as (λ t. nat_lt k i ≡ t → (get_or xs k 0 == n) ≡ false) [
      | true ↦ λ e. let h : k < i = grind (arith, nat_tests) in let lower = below k h in grind (arith, nat_tests)
      | false ↦ λ e. let h : i ≤ k = grind (arith, nat_tests) in let higher = above k h l in grind (arith, nat_tests)
    ]) refl

-- a search that finds nothing
pub not_sought : (xs : List ℕ) (n : ℕ) (r : Result ℕ ℕ) → IsBinarySearchResult (λ y. nat_cmp y n) xs r → IsNone (result_ok r) → IsStrictlyIncreasing xs → has xs n ≡ false
not_sought xs n (Ok i) search none rises = absurd (cc none)
not_sought xs n (Err i) search none rises =
    let at = searched xs n (Err i) search (at_most xs rises) in
    or_from_places (λ l. has l n) (λ x. x == n) refl (λ _ _. refl) xs 0 (λ k l. beside xs n i k l at.1 at.2)

-- the same for the answer of a search
pub none_sought : (xs : List ℕ) (n : ℕ) (r : Result ℕ ℕ) (o : Option ℕ) → IsBinarySearchResult (λ y. nat_cmp y n) xs r → o ≡ result_ok r → IfNone o (IsStrictlyIncreasing xs → has xs n ≡ false)
none_sought xs n r None search e = not_sought xs n r search (rw (sym e) refl)
none_sought xs n r (Some i) search e = tt

-- another place has another number
pub other_place : (xs : List ℕ) (i j x y : ℕ) → IsStrictlyIncreasing xs → slice_get xs i ≡ Some x → slice_get xs j ≡ Some y → i ≢ j → (x == y) ≡ false
other_place xs i j x y rises e f ne =
    let at_x = read_or xs i x e in
    let at_y = read_or xs j y f in
    let inside_x = slice_get_within xs i x e in
    let inside_y = slice_get_within xs j y f in
    (elim (nat_lt i j) as (λ t. nat_lt i j ≡ t → (x == y) ≡ false) [
      | true ↦ λ e.
          let h : i < j = grind (arith, nat_tests) in
          let below : get_or xs i 0 < get_or xs j 0 = AllPairs-from_increasing xs rises i j 0 h inside_y in
          grind (arith, nat_tests)
      | false ↦ λ e.
          let h : j < i = grind (arith, nat_tests) in
          let below : get_or xs j 0 < get_or xs i 0 = AllPairs-from_increasing xs rises j i 0 h inside_x in
          grind (arith, nat_tests)
    ]) refl

-- the number that is found, where the other list has it
pub found_in : (xs ys : List ℕ) (n : ℕ) → xs ≡ ys → has xs n ≡ false → has ys n ≡ true → ⊥
found_in xs ys n same none there = true≢false (sym there ∙ subst (λ l. has l n ≡ false) same none)

-- what a read of a list returns
pub read_at : {A : Type 0} (xs read : List A) (i : ℕ) (x : A) → read ≡ xs → i < length read → x ≡ get_or read i x → slice_get xs i ≡ Some x
read_at xs read i x same inside is = ap (λ l. slice_get l i) (sym same) ∙ slice_get_read read (length read) i x refl inside is

pub IfNone_then : {X : Type 0} (o : Option X) (P Q : Type 0) → (P → Q) → IfNone o P → IfNone o Q
IfNone_then None P Q step p = step p
IfNone_then (Some x) P Q step p = tt
