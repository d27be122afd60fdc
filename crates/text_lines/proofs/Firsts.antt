-- What comes before the first byte that passes a test, and after it.
use Rattle.std.proofs.Common.{◌≡◌, ℕ, ◌+◌, ◌<◌, ◌≤◌, Bool, suc, true, false, not, ltb, List, [], ◌∷◌, length, take, drop, ap, ◌∙◌, inl, inr, arith}
use Rattle.std.specs.Prelude.{Option, Some, None, unwrap_or, position}
use Rattle.std.specs.List.{position_or_len, before_first, after_first}
use Rattle.std.proofs.lemmas.Bool.{cases_lt, cond-true, cond-false, lt-ltb, le-ltb, not_from_true, not_from_false}
use Rattle.std.proofs.lemmas.List.Sums.{prefix_len-le-length}

pub first_within : (p : ℕ → Bool) (xs : List ℕ) → position_or_len p xs ≤ length xs
first_within p xs = prefix_len-le-length (λ x. not (p x)) xs

found_or_length : (p : ℕ → Bool) (xs : List ℕ) → unwrap_or (position p xs) (length xs) ≡ position_or_len p xs
found_or_length p xs =
    elim (cases_lt (position_or_len p xs) (length xs)) [
      | inl h ↦ ap (λ o. unwrap_or o (length xs)) (cond-true (ltb (position_or_len p xs) (length xs)) (Some (position_or_len p xs)) None (lt-ltb _ _ h))
      | inr h ↦ ap (λ o. unwrap_or o (length xs)) (cond-false (ltb (position_or_len p xs) (length xs)) (Some (position_or_len p xs)) None (le-ltb _ _ h)) ∙ (omega (arith, first_within p xs))
    ]

-- the place that a search gives, or the length
pub first_or_length : (p : ℕ → Bool) (xs : List ℕ) (found : Option ℕ) (n : ℕ) → found ≡ position p xs → n ≡ unwrap_or found (length xs) → n ≡ position_or_len p xs
first_or_length p xs found n e f = f ∙ ap (λ o. unwrap_or o (length xs)) e ∙ found_or_length p xs

-- a search that found a place, and one that found none
pub found_first : (p : ℕ → Bool) (xs : List ℕ) (i : ℕ) → position p xs ≡ Some i → (i ≡ position_or_len p xs) × (i < length xs)
found_first p xs i e =
    elim (cases_lt (position_or_len p xs) (length xs)) [
      | inl h ↦ (let f = cond-true (ltb (position_or_len p xs) (length xs)) (Some (position_or_len p xs)) None (lt-ltb _ _ h) in let same : i ≡ position_or_len p xs = cc in (same, omega arith))
      | inr h ↦ (let f = cond-false (ltb (position_or_len p xs) (length xs)) (Some (position_or_len p xs)) None (le-ltb _ _ h) in absurd (let q : ⊥ = cc in q))
    ]

pub found_none : (p : ℕ → Bool) (xs : List ℕ) → position p xs ≡ None → position_or_len p xs ≡ length xs
found_none p xs e =
    elim (cases_lt (position_or_len p xs) (length xs)) [
      | inl h ↦ (let f = cond-true (ltb (position_or_len p xs) (length xs)) (Some (position_or_len p xs)) None (lt-ltb _ _ h) in absurd (let q : ⊥ = cc in q))
      | inr h ↦ omega (arith, first_within p xs)
    ]

pub first_here : (p : ℕ → Bool) (x : ℕ) (xs : List ℕ) → p x ≡ true → position_or_len p (x ∷ xs) ≡ 0
first_here p x xs e = cond-false (not (p x)) (1 + position_or_len p xs) 0 (not_from_true (p x) e)

pub first_behind : (p : ℕ → Bool) (x : ℕ) (xs : List ℕ) → p x ≡ false → position_or_len p (x ∷ xs) ≡ suc (position_or_len p xs)
first_behind p x xs e = cond-true (not (p x)) (1 + position_or_len p xs) 0 (not_from_false (p x) e) ∙ (omega arith)

-- the parts of a list that begins with a byte that passes
pub parts_here : (p : ℕ → Bool) (x : ℕ) (xs : List ℕ) → p x ≡ true → (before_first p (x ∷ xs) ≡ []) × (after_first p (x ∷ xs) ≡ xs)
parts_here p x xs e = (ap (λ n. take n (x ∷ xs)) (first_here p x xs e), ap (λ n. drop (n + 1) (x ∷ xs)) (first_here p x xs e))

-- the parts of a list that begins with another byte
pub parts_behind : (p : ℕ → Bool) (x : ℕ) (xs : List ℕ) → p x ≡ false → (before_first p (x ∷ xs) ≡ x ∷ before_first p xs) × (after_first p (x ∷ xs) ≡ after_first p xs)
parts_behind p x xs e = (
  ap (λ n. take n (x ∷ xs)) (first_behind p x xs e),
  ap (λ n. drop (n + 1) (x ∷ xs)) (first_behind p x xs e) ∙ ap (λ n. drop n (x ∷ xs)) (let k : suc (position_or_len p xs) + 1 ≡ suc (position_or_len p xs + 1) = omega arith in k),
)
