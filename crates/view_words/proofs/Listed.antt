-- Numbers that follow each other, one by one.
use Rattle.std.proofs.Common.{◌≡◌, ℕ, zero, suc, ◌+◌, ◌<◌, List, ◌++◌, codes, refl, sym, ap, ◌∙◌, append_assoc, add-one, arith}
use Rattle.std.specs.List.{flat_map, range_with_len}
use Rattle.std.specs.Fmt.{decimal}
use Rattle.std.proofs.lemmas.List.{append-nil}
use Rattle.view_words.specs.Cuts.{numbers_text}

-- a number and a space
abbrev pub number_text : ℕ → List ℕ
number_text n = decimal n ++ codes " "

-- the text of some numbers has no hyphen
pub some_listed : (a n : ℕ) → 0 < n → numbers_text (range_with_len a n) ≡ flat_map number_text (range_with_len a n)
some_listed a zero some = absurd (omega (arith, some))
some_listed a (suc n) some = refl

more_listed : (a n j : ℕ) → a + n ≡ j → flat_map number_text (range_with_len a n) ++ number_text j ≡ flat_map number_text (range_with_len a (suc n))
more_listed a zero j e = let same : a ≡ j = omega (arith, e) in ap number_text (sym same) ∙ sym (append-nil (number_text a))
more_listed a (suc n) j e =
    append_assoc (number_text a) (flat_map number_text (range_with_len (a + 1) n)) (number_text j)
    ∙ ap (λ words. number_text a ++ words) (more_listed (a + 1) n j (omega (arith, e)))

-- one number more
pub listed_more : (a n : ℕ) (before now wide : List ℕ) → now ≡ before ++ flat_map number_text (range_with_len a n) → wide ≡ now ++ decimal (a + n)
    → wide ++ codes " " ≡ before ++ flat_map number_text (range_with_len a (n + 1))
listed_more a n before now wide so_far one =
    ap (λ words. words ++ codes " ") one
    ∙ (append_assoc now (decimal (a + n)) (codes " ")
    ∙ (ap (λ words. words ++ number_text (a + n)) so_far
    ∙ (append_assoc before (flat_map number_text (range_with_len a n)) (number_text (a + n))
    ∙ ap (λ words. before ++ words) (more_listed a n (a + n) refl ∙ ap (λ k. flat_map number_text (range_with_len a k)) (sym (add-one n))))))
