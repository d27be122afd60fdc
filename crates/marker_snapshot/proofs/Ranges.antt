-- Consecutive numbers.
use Rattle.std.proofs.Common.{ℕ, zero, suc, ◌≡◌, ◌<◌, ◌+◌, ◌-◌, ◌^◌, ◌==◌, false, List, [], ◌∷◌, ◌++◌, min, refl, sym, ◌∙◌, ap, arith, if◌then◌else◌}
use Rattle.std.specs.List.{range_with_len}
use Rattle.std.proofs.lemmas.Bool.Decides.{nat_tests}
use Rattle.marker_snapshot.specs.Cuts.{IsNext}

range_more : (a n : ℕ) → range_with_len a (n + 1) ≡ range_with_len a n ++ (a + n) ∷ []
range_more a zero = let same : a + 0 ≡ a = omega arith in rw same refl
range_more a (suc n) =
    let longer : suc n + 1 ≡ suc (n + 1) = omega arith in
    let next : a + suc n ≡ (a + 1) + n = omega arith in
    rw (longer, next) (ap (λ xs. a ∷ xs) (range_more (a + 1) n))

-- the number after a range is next
pub range_is_next : (first count n : ℕ) → first + count ≡ n → IsNext n (range_with_len first count)
range_is_next first zero n e = tt
range_is_next first (suc zero) n e = omega arith
range_is_next first (suc (suc count)) n e = range_is_next (first + 1) (suc count) n (omega arith)

-- no other number is next
pub next_of_range : (first count n : ℕ) → 0 < count → IsNext n (range_with_len first count) → first + count ≡ n
next_of_range first zero n some next = absurd (omega arith)
next_of_range first (suc zero) n some next = omega arith
next_of_range first (suc (suc count)) n some next =
    let more = next_of_range (first + 1) (suc count) n (omega arith) next in omega arith

-- the first number is kept, and the count goes up by one
pub extended : (first count n : ℕ) (xs : List ℕ) → range_with_len first count ≡ xs → (first == 0) ≡ (count == 0) → IsNext n xs → 0 < n → n < 2 ^ 32
    → range_with_len (if count == 0 then n else first) (min (count + 1) (2 ^ 32 - 1)) ≡ xs ++ n ∷ []
extended first zero n xs numbers none next some small = rw (sym numbers) refl
extended first (suc count) n xs numbers none next some small =
    let more : (suc count == 0) ≡ false = grind (arith, nat_tests) in
    let begun : 0 < first = grind (arith, nat_tests) in
    let next_is : first + suc count ≡ n = next_of_range first (suc count) n (omega arith) (rw (sym numbers) at next) in
    let fits : min (suc count + 1) (2 ^ 32 - 1) ≡ suc count + 1 = omega arith in
    rw (more, fits) (range_more first (suc count) ∙ (ap (λ xs. xs ++ (first + suc count) ∷ []) numbers ∙ ap (λ m. xs ++ m ∷ []) next_is))

-- a number was recorded, so there is a first one
pub extended_first : (first count n : ℕ) → (first == 0) ≡ (count == 0) → 0 < n
    → ((if count == 0 then n else first) == 0) ≡ (min (count + 1) (2 ^ 32 - 1) == 0)
extended_first first zero n none some = grind (arith, nat_tests)
extended_first first (suc count) n none some =
    let more : (suc count == 0) ≡ false = grind (arith, nat_tests) in
    let begun : (first == 0) ≡ false = none ∙ more in
    let counted : (min (suc count + 1) (2 ^ 32 - 1) == 0) ≡ false = grind (arith, nat_tests) in
    rw (more, begun, counted) refl
