-- Words of digits and the numbers that they spell.
use Rattle.std.proofs.Common.{◌≡◌, ℕ, ◌+◌, ◌-◌, ◌*◌, ◌<◌, ◌≤◌, ◌^◌, true, false, List, length, take, get_or, sym, ap, ◌∙◌, inl, inr, arith}
use Rattle.std.specs.Fmt.{decimal}
use Rattle.std.specs.Char.{is_ascii_digit}
use Rattle.std.specs.Int.{IsInRange}
use Rattle.std.specs.Str.Parse.{AllDigits, digits_value}
use Rattle.std.proofs.lemmas.Bool.{cases_lt}
use Rattle.std.proofs.lemmas.Bool.Decides.{nat_tests}
use Rattle.std.proofs.lemmas.Fmt.{digits_decimal, digits_value-decimal, decimal-digits_value, decimal_nonempty, decimal_digit, first_decimal}
use Rattle.std.proofs.lemmas.Int.Digits.{digits_more, digits_value_more}
use Rattle.std.proofs.lemmas.List.{take_all}
use Rattle.std.proofs.lemmas.Str.{digit_value_digit}
use Rattle.std.proofs.lemmas.Str.Parse.{IsNumeralModel, numerals_by_value, tells_digits, digit_at, digits_value-take-le}

own : IsNumeralModel (AllDigits 10) (digits_value 10)
own = numerals_by_value (AllDigits 10) tells_digits

pub decimal_digits : (n : ℕ) → n < 2 ^ 64 → AllDigits 10 (decimal n)
decimal_digits n h = digits_decimal own n h

pub decimal_value : (n : ℕ) → n < 2 ^ 64 → digits_value 10 (decimal n) ≡ n
decimal_value n h = digits_value-decimal own n h

pub not_empty : (word : List ℕ) (n : ℕ) → n < 2 ^ 64 → length word ≡ 0 → word ≡ decimal n → ⊥
not_empty word n h none e = let some = decimal_nonempty n h in omega (arith, ap length e)

-- a number above 0 begins with no zero, and 0 is one digit
pub no_zero_first : (word : List ℕ) (n : ℕ) → n < 2 ^ 64 → get_or word 0 0 ≡ 48 → 1 < length word → word ≡ decimal n → ⊥
no_zero_first word n h zero long e =
    elim (cases_lt 0 n) [
      | inl pos ↦ let f = first_decimal n pos h in omega (arith, ap (λ w. get_or w 0 0) e)
      | inr none ↦ let d = decimal_digit n (omega arith) in omega (arith, ap length (e ∙ d))
    ]

-- each byte of a number is a digit
pub no_other_byte : (word : List ℕ) (n i : ℕ) → n < 2 ^ 64 → i < length word → is_ascii_digit (get_or word i 0) ≡ false → word ≡ decimal n → ⊥
no_other_byte word n i h within other e =
    let digits : AllDigits 10 word = rw e (decimal_digits n h) in
    let digit = digit_at word i digits within in
    grind (arith, nat_tests)

-- the digits up to a place are worth at most as much as all
pub front_no_more : (word : List ℕ) (n i : ℕ) → n < 2 ^ 64 → word ≡ decimal n → digits_value 10 (take i word) ≤ n
front_no_more word n i h e =
    let less = digits_value-take-le 10 word i (omega arith) in
    let same : digits_value 10 word ≡ n = ap (digits_value 10) e ∙ decimal_value n h in
    omega arith

-- digits without a leading zero are the spelling of their value
pub spells_value : (word : List ℕ) (i number : ℕ) → length word ≤ i → AllDigits 10 (take i word) → number ≡ digits_value 10 (take i word) → number < 2 ^ 64 → 0 < length word → (get_or word 0 0 ≡ 48 → length word ≡ 1) → word ≡ decimal number
spells_value word i number all digits value small some first =
    let whole = take_all i word all in
    let e : digits_value 10 word ≡ number = ap (digits_value 10) (sym whole) ∙ sym value in
    sym (decimal-digits_value own word (rw whole at digits) some first (omega arith)) ∙ ap decimal e

-- one more digit
pub digit_more : (word : List ℕ) (i number : ℕ) → i < length word → is_ascii_digit (get_or word i 0) ≡ true → AllDigits 10 (take i word) → number ≡ digits_value 10 (take i word) → AllDigits 10 (take (i + 1) word) × (number * 10 + (get_or word i 0 - 48) ≡ digits_value 10 (take (i + 1) word))
digit_more word i number within digit digits value =
    let range : IsInRange 48 57 (get_or word i 0) = (grind (arith, nat_tests)) in
    let one = digit_value_digit (get_or word i 0) range in
    (digits_more 10 word i within digits (omega arith), rw (digits_value_more 10 word i within) (omega arith))
