-- Sums of a number of each element, and what is left of a number after them.
use Rattle.std.proofs.Common.{ℕ, zero, suc, ◌+◌, ◌<◌, ◌≤◌, List, [], ◌∷◌, ◌++◌, take, get_or, map, length, ◌≡◌, refl, sym, ◌∙◌, ap, arith}
use Rattle.std.proofs.lemmas.List.{take_more}
use Rattle.message_fitting.specs.Marks.{total}

-- the sum over what stands for the elements
pub total_map : {A B : Type 0} (count : B → ℕ) (f : A → B) (xs : List A) → total (λ x. count (f x)) xs ≡ total count (map f xs)
total_map count f [] = refl
total_map count f (x ∷ xs) = ap (λ n. count (f x) + n) (total_map count f xs)

module _ {A : Type 0} (count : A → ℕ) where
  pub total_append : (xs ys : List A) → total count (xs ++ ys) ≡ total count xs + total count ys
  total_append [] ys = omega arith
  total_append (x ∷ xs) ys = let rest = total_append xs ys in omega (arith, rest)

  -- those of the first ones are no more than those of all
  part : (n : ℕ) (xs : List A) → total count (take n xs) ≤ total count xs
  part zero xs = omega arith
  part (suc n) [] = omega arith
  part (suc n) (x ∷ xs) = let rest = part n xs in omega (arith, rest)

  module _ (xs : List A) (i : ℕ) (x : A) (inside : i < length xs) (is : x ≡ get_or xs i x) where
    -- one more
    more : total count (take (i + 1) xs) ≡ total count (take i xs) + count x
    more =
        let one = total_append (take i xs) (x ∷ []) in
        ap (total count) (take_more xs i x inside ∙ ap (λ y. take i xs ++ y ∷ []) (sym is)) ∙ omega (arith, one)

    -- there is room for it
    pub room_for : (number left rest n : ℕ) → left + total count (take i xs) ≡ number → n ≡ count x → rest + n ≡ left → rest + total count (take (i + 1) xs) ≡ number
    room_for number left rest n was same room = let next = more in omega (arith, was, same, room, next)

    -- there is none
    pub no_room_for : (number left n : ℕ) → left + total count (take i xs) ≡ number → n ≡ count x → left < n → number < total count xs
    no_room_for number left n was same over = let next = more in let all = part (i + 1) xs in omega (arith, was, same, over, next, all)
