-- Sets of numbers as bits of words.
use Rattle.std.proofs.Common.{ℕ, zero, suc, ◌<◌, ◌≤◌, ◌+◌, ◌*◌, ◌/◌, ◌%◌, ◌^◌, ◌≡◌, ◌≢◌, Bool, true, false, cond, ◌==◌, ◌&&◌, min, List, [], ◌∷◌, ⊎_elim, refl, sym, ◌∙◌, ap, ap₂, arith, length, replicate, get_or, set, bit_and, bit_or, w64, if◌then◌else◌}
use Rattle.std.specs.Int.{bit_at, bit_not, trailing_zeros}
use Rattle.std.proofs.lemmas.Bool.{cases_eq, cases_lt}
use Rattle.std.proofs.lemmas.Bool.Decides.{nat_tests}
use Rattle.std.proofs.lemmas.List.{get_or-set_same, get_or-set_other}
use Rattle.link_model.specs.WaySets.{IsLowest}
use Rattle.std.proofs.lemmas.Nat.Bits.{bit_at-zero, bit_at-lt, bit_at_and, bit_at-trailing_zeros, bit_at_set_same, bit_at_set_other, bit_at_clear_same, bit_at_clear_other}

-- the bit of a number
abbrev pub is_set : List ℕ → ℕ → Bool
is_set words number = bit_at (get_or words (number / 64) 0) (number % 64) == 1

-- an element inside a list does not depend on the default value
pub same_read : (xs : List ℕ) (i a b : ℕ) → i < length xs → get_or xs i a ≡ get_or xs i b
same_read [] i a b l = absurd (omega (arith, l))
same_read (x ∷ xs) zero a b l = refl
same_read (x ∷ xs) (suc i) a b l = same_read xs i a b (omega (arith, l))

pub past_read : (xs : List ℕ) (i a : ℕ) → length xs ≤ i → get_or xs i a ≡ a
past_read [] i a l = refl
past_read (x ∷ xs) zero a l = absurd (omega (arith, l))
past_read (x ∷ xs) (suc i) a l = past_read xs i a (omega (arith, l))

-- one new word
module _ (words : List ℕ) (number new : ℕ) (inside : number / 64 < length words) where
  word_changes : (wanted : Bool) → (bit_at new (number % 64) == 1) ≡ wanted
      → ((i : ℕ) → i < 64 → i ≢ number % 64 → bit_at new i ≡ bit_at (get_or words (number / 64) 0) i)
      → (other : ℕ) → is_set (set words (number / 64) new) other ≡ (if other == number then wanted else is_set words other)
  word_changes wanted at others other =
      (elim (other == number) as (λ t. (other == number) ≡ t → is_set (set words (number / 64) new) other ≡ cond t wanted (is_set words other)) [
        | true ↦ λ e.
            let same : other ≡ number = grind (arith, nat_tests) in
            rw (same, get_or-set_same words (number / 64) new 0 inside) at
        | false ↦ λ e. ⊎_elim
            (λ (h : other / 64 ≡ number / 64).
            let apart : other % 64 ≢ number % 64 = λ m. differs e (omega (arith, h, m)) in
            rw (h, get_or-set_same words (number / 64) new 0 inside, others (other % 64) (omega arith) apart) refl)
            (λ (ne : other / 64 ≢ number / 64). rw (get_or-set_other words (number / 64) (other / 64) new 0 ne) refl)
            (cases_eq (other / 64) (number / 64))
      ]) refl
    where
      differs : (other == number) ≡ false → other ≡ number → ⊥
      differs e same = grind (arith, nat_tests)

pub bit_set : (words : List ℕ) (number w : ℕ) → number / 64 < length words → w ≡ get_or words (number / 64) w
    → (other : ℕ) → is_set (set words (number / 64) (bit_or w (1 * 2 ^ (number % 64) % 2 ^ 64))) other ≡ (if other == number then true else is_set words other)
bit_set words number w inside is other =
    let read : w ≡ get_or words (number / 64) 0 = is ∙ same_read words (number / 64) w 0 inside in
    let within : number % 64 < 64 = omega arith in
    word_changes words number (bit_or w (1 * 2 ^ (number % 64) % 2 ^ 64)) inside true
    (ap (λ b. b == 1) (bit_at_set_same w64 w (number % 64) within))
    (λ i l ne. bit_at_set_other w64 w (number % 64) within i ne ∙ ap (λ n. bit_at n i) read) other

pub bit_cleared : (words : List ℕ) (number w : ℕ) → number / 64 < length words → w ≡ get_or words (number / 64) w
    → (other : ℕ) → is_set (set words (number / 64) (bit_and w (bit_not w64 (1 * 2 ^ (number % 64) % 2 ^ 64)))) other ≡ (if other == number then false else is_set words other)
bit_cleared words number w inside is other =
    let read : w ≡ get_or words (number / 64) 0 = is ∙ same_read words (number / 64) w 0 inside in
    let within : number % 64 < 64 = omega arith in
    word_changes words number (bit_and w (bit_not w64 (1 * 2 ^ (number % 64) % 2 ^ 64))) inside false
    (ap (λ b. b == 1) (bit_at_clear_same w64 w (number % 64) within))
    (λ i l ne. bit_at_clear_other w64 w (number % 64) within i l ne ∙ ap (λ n. bit_at n i) read) other

-- ---- the lowest one in two sets

-- the words of the common bits
abbrev pub common : List ℕ → List ℕ → ℕ → ℕ
common words others place = bit_and (get_or words place 0) (get_or others place 0)

least_bit : (a b : ℕ) → a < 2 → b < 2 → (min a b == 1) ≡ (a == 1 && b == 1)
least_bit zero zero l m = refl
least_bit zero (suc zero) l m = refl
least_bit zero (suc (suc b)) l m = absurd (omega (arith, m))
least_bit (suc zero) zero l m = refl
least_bit (suc zero) (suc zero) l m = refl
least_bit (suc zero) (suc (suc b)) l m = absurd (omega (arith, m))
least_bit (suc (suc a)) b l m = absurd (omega (arith, l))

-- a bit is in both words exactly where it is in the common word
pub in_common : (words others : List ℕ) (number : ℕ) → (is_set words number && is_set others number) ≡ (bit_at (common words others (number / 64)) (number % 64) == 1)
in_common words others number =
    let a = get_or words (number / 64) 0 in
    let b = get_or others (number / 64) 0 in
    sym (ap (λ n. n == 1) (bit_at_and a b (number % 64)) ∙ least_bit (bit_at a (number % 64)) (bit_at b (number % 64)) (bit_at-lt a (number % 64)) (bit_at-lt b (number % 64)))

-- the common word at a place
pub common_read : (words others : List ℕ) (place w o : ℕ) → length words ≡ 64 → length others ≡ 64 → place < 64 → w ≡ get_or words place w → o ≡ get_or others place o → common words others place ≡ bit_and w o
common_read words others place w o full full_too inside is is_too =
    sym (ap₂ bit_and (is ∙ same_read words place w 0 (omega (arith, full, inside))) (is_too ∙ same_read others place o 0 (omega (arith, full_too, inside))))

-- none of the numbers in the first words is common
abbrev pub IsClearBelow : (ℕ → Bool) → ℕ → Type 0
IsClearBelow numbers place = (lower : ℕ) → lower < place * 64 → numbers lower ≡ false

-- the numbers are those that both have
module _ (words others : List ℕ) (numbers : ℕ → Bool) (are : (number : ℕ) → numbers number ≡ (is_set words number && is_set others number)) where
  in_word : (number place : ℕ) → number / 64 ≡ place → numbers number ≡ (bit_at (common words others place) (number % 64) == 1)
  in_word number place e = are number ∙ (in_common words others number ∙ ap (λ p. bit_at (common words others p) (number % 64) == 1) e)

  pub clear_more : (place : ℕ) → common words others place ≡ 0 → IsClearBelow numbers place → IsClearBelow numbers (place + 1)
  clear_more place none clear lower l = ⊎_elim
      (λ (h : lower / 64 ≡ place). in_word lower place h ∙ rw none (ap (λ b. b == 1) (bit_at-zero (lower % 64))))
      (λ (ne : lower / 64 ≢ place). clear lower (below lower place l ne))
      (cases_eq (lower / 64) place)
    where
      below : (lower place : ℕ) → lower < (place + 1) * 64 → lower / 64 ≢ place → lower < place * 64
      below lower place l ne = omega (arith, l, ne)

  pub clear_all : (place : ℕ) → length words ≤ place → IsClearBelow numbers place → (number : ℕ) → numbers number ≡ false
  clear_all place past clear number = ⊎_elim
      (λ (h : number < place * 64). clear number h)
      (λ (h : place * 64 ≤ number).
      let read : get_or words (number / 64) 0 ≡ 0 = past_read words (number / 64) 0 (omega (arith, h, past)) in
      let unset : is_set words number ≡ false = rw read (ap (λ b. b == 1) (bit_at-zero (number % 64))) in
      are number ∙ rw unset refl)
      (cases_lt number (place * 64))

  pub lowest : (place word : ℕ) → common words others place ≡ word → 0 < word → word < 2 ^ 64 → IsClearBelow numbers place → IsLowest numbers (place * 64 + trailing_zeros w64 word)
  lowest place word is some fits clear =
      let low = bit_at-trailing_zeros w64 word some fits in
      let row : (place * 64 + trailing_zeros w64 word) / 64 ≡ place = omega (arith, low.0) in
      let column : (place * 64 + trailing_zeros w64 word) % 64 ≡ trailing_zeros w64 word = omega (arith, low.0) in
      record {
        has = in_word (place * 64 + trailing_zeros w64 word) place row ∙ rw (is, column) (ap (λ b. b == 1) low.1);
        least = λ lower l. ⊎_elim
            (λ (h : lower / 64 ≡ place). in_word lower place h ∙ rw is (ap (λ b. b == 1) (low.2 (lower % 64) (omega (arith, l, h)))))
            (λ (ne : lower / 64 ≢ place). clear lower (omega (arith, l, ne, low.0)))
            (cases_eq (lower / 64) place);
      }

abbrev pub zeros : ℕ → List ℕ
zeros n = replicate n 0

pub zeros_read : (n i : ℕ) → get_or (zeros n) i zero ≡ zero
zeros_read zero i = refl
zeros_read (suc n) zero = refl
zeros_read (suc n) (suc i) = zeros_read n i

pub clear_zeros : (words : List ℕ) (n number : ℕ) → words ≡ zeros n → is_set words number ≡ false
clear_zeros words n number same = rw (same, zeros_read n (number / 64)) (ap (λ b. b == 1) (bit_at-zero (number % 64)))
