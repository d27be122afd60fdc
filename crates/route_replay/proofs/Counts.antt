-- How the counts of a run are made.
use Rattle.std.proofs.Common.{◌≡◌, ℕ, ◌+◌, ◌<◌, ◌≤◌, Bool, true, false, cond, Option, Some, None, List, [], ◌∷◌, ◌++◌, length, take, get_or, slice_get, nat_lt, count_by, sum_by, refl, sym, ap, ◌∙◌, arith, if◌then◌else◌}
use Rattle.std.specs.Prelude.{option_map}
use Rattle.std.specs.List.{range_with_len}
use Rattle.std.proofs.lemmas.List.{take_more, take_all}
use Rattle.std.proofs.lemmas.List.Sums.{sum_by_push}
use Rattle.std.proofs.lemmas.Option.{slice_get-get_or, slice_get_within}
use Rattle.std.proofs.lemmas.Bool.Decides.{nat_tests}
use Rattle.load_plan.proofs.Drafts.{range_more}

-- what is read as none is none
none_read : {A B : Type 0} (f : A → B) (o : Option A) → option_map f o ≡ None → o ≡ None
none_read f None e = refl
none_read f (Some x) e = absurd (cc e)

some_read : {A B : Type 0} (f : A → B) (o : Option A) (y : B) → option_map f o ≡ Some y → (x : A) × (o ≡ Some x)
some_read f None y e = absurd (cc e)
some_read f (Some x) y e = (x, refl)

-- the place behind the last is their number
pub place_behind : {A B : Type 0} (f : A → B) (xs : List A) (i : ℕ) (o : Option B) → o ≡ option_map f (slice_get xs i) → o ≡ None → i ≤ length xs → i ≡ length xs
place_behind f xs i o is none h =
    let past = none_read f (slice_get xs i) (sym is ∙ none) in
    (elim (nat_lt i (length xs)) as (λ t. nat_lt i (length xs) ≡ t → i ≡ length xs) [
      | true ↦ λ e. let inside : i < length xs = grind (arith, nat_tests) in absurd (last xs i inside past)
      | false ↦ λ e. grind (arith, nat_tests)
    ]) refl
  where
    last : {A : Type 0} (xs : List A) (i : ℕ) → i < length xs → slice_get xs i ≡ None → ⊥
    last [] i inside e = omega (arith, inside)
    last (x ∷ xs) i inside e = let there = slice_get-get_or (x ∷ xs) i x inside in cc

pub place_inside : {A B : Type 0} (f : A → B) (xs : List A) (i : ℕ) (o : Option B) (y : B) → o ≡ option_map f (slice_get xs i) → o ≡ Some y → i + 1 ≤ length xs
place_inside f xs i o y is some =
    let found = some_read f (slice_get xs i) y (sym is ∙ some) in
    let within = slice_get_within xs i found.0 found.1 in
    omega (arith, within)

-- one more is added to a sum over those before it
pub sum_more : (f : ℕ → ℕ) (xs : List ℕ) (i x total : ℕ) → i < length xs → x ≡ get_or xs i x → total ≡ sum_by f (take i xs) → total + f x ≡ sum_by f (take (i + 1) xs)
sum_more f xs i x total inside at so_far =
    ap (λ n. n + f x) so_far ∙ (sym (sum_by_push f (take i xs) x) ∙ ap (sum_by f) (sym (take_more xs i x inside ∙ ap (λ y. take i xs ++ y ∷ []) (sym at))))

-- one more is counted, where it passes
pub count_more : (p : ℕ → Bool) (n : ℕ) (total : ℕ) → total ≡ count_by p (range_with_len 1 n) → total + cond (p (n + 1)) 1 0 ≡ count_by p (range_with_len 1 (n + 1))
count_more p n total so_far =
    ap (λ m. m + cond (p (n + 1)) 1 0) so_far
    ∙ (sym (sum_by_push (λ k. cond (p k) 1 0) (range_with_len 1 n) (n + 1)) ∙ ap (count_by p) (sym (range_more 1 n (n + 1) (omega arith))))

pub counted_in : (p : ℕ → Bool) (n total : ℕ) (b : Bool) → b ≡ p (n + 1) → b ≡ true → total ≡ count_by p (range_with_len 1 n) → total + 1 ≡ count_by p (range_with_len 1 (n + 1))
counted_in p n total b is passes so_far = ap (λ t. total + cond t 1 0) (sym (sym is ∙ passes)) ∙ count_more p n total so_far

pub counted_out : (p : ℕ → Bool) (n total : ℕ) (b : Bool) → b ≡ p (n + 1) → b ≡ false → total ≡ count_by p (range_with_len 1 n) → total ≡ count_by p (range_with_len 1 (n + 1))
counted_out p n total b is fails so_far =
    let none : total ≡ total + 0 = omega arith in
    none ∙ (ap (λ t. total + cond t 1 0) (sym (sym is ∙ fails)) ∙ count_more p n total so_far)

pub counted_if : (p : ℕ → Bool) (n total total' : ℕ) (b : Bool) → total' ≡ (if b then total + 1 else total) → b ≡ p (n + 1) → total ≡ count_by p (range_with_len 1 n) → total' ≡ count_by p (range_with_len 1 (n + 1))
counted_if p n total total' true e is so_far = e ∙ counted_in p n total true is refl so_far
counted_if p n total total' false e is so_far = e ∙ counted_out p n total false is refl so_far

pub few_if : (n total total' : ℕ) (b : Bool) → total' ≡ (if b then total + 1 else total) → total ≤ n → total' ≤ n + 1
few_if n total total' true e h = omega (arith, e, h)
few_if n total total' false e h = omega (arith, e, h)

-- the sum over all
pub sum_all : (f : ℕ → ℕ) (xs ys : List ℕ) (i total : ℕ) → length xs ≤ i → xs ≡ ys → total ≡ sum_by f (take i xs) → total ≡ sum_by f ys
sum_all f xs ys i total over same so_far = so_far ∙ (ap (sum_by f) (take_all i xs over) ∙ ap (sum_by f) same)
