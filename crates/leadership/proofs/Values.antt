-- Words that spell a value, and comparisons of words.
use Rattle.std.proofs.Common.{◌≡◌, ◌≢◌, ℕ, ◌<◌, ◌≤◌, ◌^◌, ◌&&◌, true, false, List, refl, sym, ap, ◌∙◌, inl, inr, arith}
use Rattle.std.specs.Prelude.{nat_le, bytes_eq}
use Rattle.std.specs.Fmt.{decimal}
use Rattle.std.specs.Str.Parse.{AllDigits, digits_value}
use Rattle.std.proofs.lemmas.Bool.{cases_Bool, and_parts, and_from}
use Rattle.std.proofs.lemmas.Bool.Decides.{nat_tests}
use Rattle.std.proofs.lemmas.Fmt.{digits_value-decimal}
use Rattle.std.proofs.lemmas.Slice.Eq.{bytes_eq-Decides}
use Rattle.std.proofs.lemmas.Str.Parse.{IsNumeralModel, numerals_by_value, tells_digits}
use Rattle.schedule_file.specs.Words.{number_of, spells_number}

own : IsNumeralModel (AllDigits 10) (digits_value 10)
own = numerals_by_value (AllDigits 10) tells_digits

decimal_value : (n : ℕ) → n < 2 ^ 64 → digits_value 10 (decimal n) ≡ n
decimal_value n h = digits_value-decimal own n h

pub other_word : (v w : List ℕ) → v ≢ w → bytes_eq v w ≡ false
other_word v w other = elim (cases_Bool (bytes_eq v w)) [ inl e ↦ absurd (other ((bytes_eq-Decides v w).0 e)) | inr e ↦ e ]

pub value_is : (word : List ℕ) (n : ℕ) → n < 2 ^ 64 → word ≡ decimal n → n ≡ number_of word
value_is word n small e = sym (ap number_of e ∙ decimal_value n small)

pub spells_decimal : (high n : ℕ) → n ≤ high → n < 2 ^ 64 → spells_number 0 high (decimal n) ≡ true
unfolding spells_number
spells_decimal high n k small =
    let value : number_of (decimal n) ≡ n = decimal_value n small in
    let above : nat_le 0 n ≡ true = (grind (arith, nat_tests)) in
    let below : nat_le n high ≡ true = (grind (arith, nat_tests)) in
    rw value (and_from (bytes_eq (decimal n) (decimal n)) (nat_le 0 n && nat_le n high) ((bytes_eq-Decides (decimal n) (decimal n)).1 refl) (and_from (nat_le 0 n) (nat_le n high) above below))

pub no_number : (high : ℕ) (word : List ℕ) → ((n : ℕ) → n ≤ high → word ≢ decimal n) → spells_number 0 high word ≡ false
unfolding spells_number
no_number high word none =
    elim (cases_Bool (spells_number 0 high word)) [
      | inl e ↦
          let n = number_of word in
          let p = and_parts (bytes_eq word (decimal n)) (nat_le 0 n && nat_le n high) e in
          let q = and_parts (nat_le 0 n) (nat_le n high) p.1 in
          absurd (none n (let r = q.1 in grind (arith, nat_tests)) ((bytes_eq-Decides word (decimal n)).0 p.0))
      | inr e ↦ e
    ]
