-- The bits for the words of a set: where the bit is 0, the word is 0.
use Rattle.std.proofs.Common.{ℕ, zero, suc, ◌<◌, ◌≤◌, ◌*◌, ◌/◌, ◌%◌, ◌^◌, ◌≡◌, ◌≢◌, ◌⊎◌, inl, inr, Bool, true, false, ◌==◌, ◌&&◌, min, List, ⊎_elim, refl, sym, ◌∙◌, ap, arith, length, get_or, set, bit_and, bit_or, w64}
use Rattle.std.specs.Int.{bit_at, bit_not, trailing_zeros}
use Rattle.std.proofs.lemmas.Bool.{cases_eq, cases_lt}
use Rattle.std.proofs.lemmas.List.{get_or-set_same, get_or-set_other}
use Rattle.std.proofs.lemmas.Nat.{and_le_l}
use Rattle.std.proofs.lemmas.Nat.Bits.{bit_at-zero, bit_at_and, bit_at-trailing_zeros, bit_at_set_same, bit_at_set_other, bit_at_clear_other}
use Rattle.link_model.proofs.Bits.{IsClearBelow, is_set, past_read, same_read, zeros, zeros_read}

-- where the bit of a word is 0, the word is 0
abbrev pub AreKnown : ℕ → List ℕ → Type 0
AreKnown filled words = (place : ℕ) → place < 64 → bit_at filled place ≡ 0 → get_or words place 0 ≡ 0

pub known_zeros : (words : List ℕ) (n : ℕ) → words ≡ zeros n → AreKnown 0 words
known_zeros words n same place l unset = rw same (zeros_read n place)

-- a word got a bit
pub known_set : (words : List ℕ) (filled place new : ℕ) → place < 64 → AreKnown filled words → AreKnown (bit_or filled (1 * 2 ^ place % 2 ^ 64)) (set words place new)
known_set words filled place new within known other l unset = ⊎_elim
    (λ (h : other ≡ place).
    let one = bit_at_set_same w64 filled place within in
    let none : bit_at (bit_or filled (1 * 2 ^ place % 2 ^ 64)) place ≡ 0 = ap (bit_at (bit_or filled (1 * 2 ^ place % 2 ^ 64))) (sym h) ∙ unset in
    absurd (omega (arith, one, none)))
    (λ (ne : other ≢ place). get_or-set_other words place other new 0 ne ∙ known other l (sym (bit_at_set_other w64 filled place within other ne) ∙ unset))
    (cases_eq other place)

-- a word lost a bit
pub known_less : (words : List ℕ) (filled place w mask : ℕ) → place < length words → w ≡ get_or words place w → AreKnown filled words → AreKnown filled (set words place (bit_and w mask))
known_less words filled place w mask inside is known other l unset = ⊎_elim
    (λ (h : other ≡ place).
    let was : w ≡ 0 = is ∙ (same_read words place w 0 inside ∙ known place (omega (arith, h, l)) (ap (bit_at filled) (sym h) ∙ unset)) in
    let less = and_le_l w mask in
    let none : bit_and w mask ≡ 0 = omega (arith, less, was) in
    rw (h, get_or-set_same words place (bit_and w mask) 0 inside) none)
    (λ (ne : other ≢ place). get_or-set_other words place other (bit_and w mask) 0 ne ∙ known other l unset)
    (cases_eq other place)

-- a word is 0
pub known_cleared : (words : List ℕ) (filled place : ℕ) → place < 64 → get_or words place 0 ≡ 0 → AreKnown filled words → AreKnown (bit_and filled (bit_not w64 (1 * 2 ^ place % 2 ^ 64))) words
known_cleared words filled place within none known other l unset = ⊎_elim
    (λ (h : other ≡ place). rw h none)
    (λ (ne : other ≢ place). known other l (sym (bit_at_clear_other w64 filled place within other l ne) ∙ unset))
    (cases_eq other place)

-- a word lost its last bit
pub known_gone : (words : List ℕ) (filled place w mask read : ℕ) → place < 64 → place < length words → w ≡ get_or words place w → read ≡ get_or (set words place (bit_and w mask)) place read → read ≡ 0
    → AreKnown filled words → AreKnown (bit_and filled (bit_not w64 (1 * 2 ^ place % 2 ^ 64))) (set words place (bit_and w mask))
known_gone words filled place w mask read within inside is is_read gone known =
    let new = bit_and w mask in
    let none : new ≡ 0 = sym (is_read ∙ get_or-set_same words place new read inside) ∙ gone in
    known_cleared (set words place new) filled place within (get_or-set_same words place new 0 inside ∙ none) (known_less words filled place w mask inside is known)

-- ---- the words that both sets have

least_zero : (a b : ℕ) → min a b ≡ 0 → (a ≡ 0) ⊎ (b ≡ 0)
least_zero zero b e = inl refl
least_zero (suc a) zero e = inr refl
least_zero (suc a) (suc b) e = absurd (omega (arith, e))

-- a number whose word is 0 is not in the set
no_number : (words : List ℕ) (number : ℕ) → get_or words (number / 64) 0 ≡ 0 → is_set words number ≡ false
no_number words number none = rw none (ap (λ b. b == 1) (bit_at-zero (number % 64)))

false_too : (a b : Bool) → b ≡ false → (a && b) ≡ false
false_too true b e = e
false_too false b e = refl

module _ (words others : List ℕ) (filled filled_too : ℕ) (known : AreKnown filled words) (known_too : AreKnown filled_too others)
    (numbers : ℕ → Bool) (are : (number : ℕ) → numbers number ≡ (is_set words number && is_set others number)) where
  not_common : (number : ℕ) → number / 64 < 64 → bit_at (bit_and filled filled_too) (number / 64) ≡ 0 → numbers number ≡ false
  not_common number l unset = are number ∙ ⊎_elim
      (λ (h : bit_at filled (number / 64) ≡ 0). rw (no_number words number (known (number / 64) l h)) refl)
      (λ (h : bit_at filled_too (number / 64) ≡ 0). false_too (is_set words number) (is_set others number) (no_number others number (known_too (number / 64) l h)))
      (least_zero (bit_at filled (number / 64)) (bit_at filled_too (number / 64)) (sym (bit_at_and filled filled_too (number / 64)) ∙ unset))

  -- no word is common
  pub none_common : length words ≡ 64 → bit_and filled filled_too ≡ 0 → (number : ℕ) → numbers number ≡ false
  none_common full none number = ⊎_elim
      (λ (h : number / 64 < 64). not_common number h (ap (λ f. bit_at f (number / 64)) none ∙ bit_at-zero (number / 64)))
      (λ (h : 64 ≤ number / 64). are number ∙ rw (no_number words number (past_read words (number / 64) 0 (omega (arith, h, full)))) refl)
      (cases_lt (number / 64) 64)

  -- nothing is common below the lowest word that may be
  pub clear_below : 0 < bit_and filled filled_too → bit_and filled filled_too < 2 ^ 64 → IsClearBelow numbers (trailing_zeros w64 (bit_and filled filled_too))
  clear_below some fits lower l =
      let low = bit_at-trailing_zeros w64 (bit_and filled filled_too) some fits in
      let under : lower / 64 < trailing_zeros w64 (bit_and filled filled_too) = omega (arith, l) in
      not_common lower (omega (arith, under, low.0)) (low.2 (lower / 64) under)
