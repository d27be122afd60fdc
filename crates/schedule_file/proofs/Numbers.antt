-- Decimal numbers: their value, and bytes that are no digits.
use Rattle.std.proofs.Common.{◌≡◌, ℕ, ◌<◌, ◌^◌, ◌==◌, List, [], ◌∷◌, ◌++◌, refl, sym, ◌∙◌, arith}
use Rattle.std.specs.List.{list_any}
use Rattle.std.specs.Fmt.{decimal}
use Rattle.std.specs.Str.Parse.{AllDigits, digits_value}
use Rattle.std.proofs.lemmas.Bool.{or_from, ne_eqb}
use Rattle.std.proofs.lemmas.Fmt.{digits_decimal, digits_value-decimal, decimal_injective}
use Rattle.std.proofs.lemmas.Str.Parse.{IsNumeralModel, numerals_by_value, tells_digits, digit_from_value}
use Rattle.schedule_file.proofs.Cuts.{Lacks, same_cut}

own : IsNumeralModel (AllDigits 10) (digits_value 10)
own = numerals_by_value (AllDigits 10) tells_digits

pub decimal_digits : (n : ℕ) → n < 2 ^ 64 → AllDigits 10 (decimal n)
decimal_digits n h = digits_decimal own n h

pub decimal_value : (n : ℕ) → n < 2 ^ 64 → digits_value 10 (decimal n) ≡ n
decimal_value n h = digits_value-decimal own n h

-- no byte below 48 is in a number: a space, a newline, a point, a slash
pub digits_lack : (mark : ℕ) (ds : List ℕ) → mark < 48 → AllDigits 10 ds → Lacks mark ds
digits_lack mark [] low h = refl
digits_lack mark (d ∷ ds) low h =
    let range = digit_from_value d h.0 in
    or_from (d == mark) (list_any (λ b. b == mark) ds) (ne_eqb d mark (λ e. omega arith)) (digits_lack mark ds low h.1)

pub decimal_lacks : (mark n : ℕ) → mark < 48 → n < 2 ^ 64 → Lacks mark (decimal n)
decimal_lacks mark n low h = digits_lack mark (decimal n) low (decimal_digits n h)

-- a list begins with only one number before a mark
pub same_front : (mark m n : ℕ) (r s word : List ℕ) → mark < 48 → m < 2 ^ 64 → n < 2 ^ 64 → word ≡ decimal m ++ mark ∷ r → word ≡ decimal n ++ mark ∷ s → (m ≡ n) × (r ≡ s)
same_front mark m n r s word low h k e f =
    let same = same_cut mark (decimal m) (decimal n) r s (decimal_lacks mark m low h) (decimal_lacks mark n low k) (sym e ∙ f) in
    (decimal_injective m n h k same.0, same.1)
