-- Numbers that are raised by one from a place on.
use Rattle.std.proofs.Common.{◌≡◌, ℕ, zero, suc, ◌+◌, ◌<◌, ◌≤◌, List, [], ◌∷◌, length, get_or, set, refl, sym, ap, arith}
use Rattle.std.specs.List.{AllByRecursion}
use Rattle.trigger_log.specs.Rows.{shifted}

-- n numbers from this place on are one more
abbrev pub shifted_by : ℕ → ℕ → List ℕ → List ℕ
shifted_by n m [] = []
shifted_by zero zero (x ∷ xs) = x ∷ xs
shifted_by zero (suc m) (x ∷ xs) = suc x ∷ shifted_by zero m xs
shifted_by (suc n) m (x ∷ xs) = x ∷ shifted_by n m xs

pub shifted_none : (n : ℕ) (xs : List ℕ) → shifted_by n 0 xs ≡ xs
shifted_none n [] = refl
shifted_none zero (x ∷ xs) = refl
shifted_none (suc n) (x ∷ xs) = ap (λ l. x ∷ l) (shifted_none n xs)

pub shifted_all : (n m : ℕ) (xs : List ℕ) → length xs ≤ n + m → shifted_by n m xs ≡ shifted n xs
shifted_all n m [] h = refl
shifted_all zero zero (x ∷ xs) h = absurd (omega arith)
shifted_all zero (suc m) (x ∷ xs) h = ap (λ l. suc x ∷ l) (shifted_all zero m xs (omega arith))
shifted_all (suc n) m (x ∷ xs) h = ap (λ l. x ∷ l) (shifted_all n m xs (omega arith))

pub shifted_more : (n m i v d : ℕ) (xs : List ℕ) → i ≡ n + m → i < length xs → v ≡ suc (get_or (shifted_by n m xs) i d) → set (shifted_by n m xs) i v ≡ shifted_by n (suc m) xs
shifted_more n m i v d [] e h is = absurd (omega arith)
shifted_more zero zero zero v d (x ∷ xs) e h is = rw is (ap (λ l. suc x ∷ l) (sym (shifted_none zero xs)))
shifted_more zero zero (suc i) v d (x ∷ xs) e h is = absurd (omega arith)
shifted_more zero (suc m) zero v d (x ∷ xs) e h is = absurd (omega arith)
shifted_more zero (suc m) (suc i) v d (x ∷ xs) e h is = ap (λ l. suc x ∷ l) (shifted_more zero m i v d xs (omega arith) (omega arith) is)
shifted_more (suc n) m zero v d (x ∷ xs) e h is = absurd (omega arith)
shifted_more (suc n) m (suc i) v d (x ∷ xs) e h is = ap (λ l. x ∷ l) (shifted_more n m i v d xs (omega arith) (omega arith) is)

pub shifted_length : (n m : ℕ) (xs : List ℕ) → length (shifted_by n m xs) ≡ length xs
shifted_length n m [] = refl
shifted_length zero zero (x ∷ xs) = refl
shifted_length zero (suc m) (x ∷ xs) = ap suc (shifted_length zero m xs)
shifted_length (suc n) m (x ∷ xs) = ap suc (shifted_length n m xs)

-- a number behind the raised ones is as it was
pub shifted_below : (n m i d limit : ℕ) (xs : List ℕ) → AllByRecursion (λ p. p + 1 < limit) xs → i ≡ n + m → i < length xs → get_or (shifted_by n m xs) i d + 1 < limit
shifted_below n m i d limit [] all e h = absurd (omega arith)
shifted_below zero zero zero d limit (x ∷ xs) all e h = all.0
shifted_below zero zero (suc i) d limit (x ∷ xs) all e h = absurd (omega arith)
shifted_below zero (suc m) zero d limit (x ∷ xs) all e h = absurd (omega arith)
shifted_below zero (suc m) (suc i) d limit (x ∷ xs) all e h = shifted_below zero m i d limit xs all.1 (omega arith) (omega arith)
shifted_below (suc n) m zero d limit (x ∷ xs) all e h = absurd (omega arith)
shifted_below (suc n) m (suc i) d limit (x ∷ xs) all e h = shifted_below n m i d limit xs all.1 (omega arith) (omega arith)
