-- The bytes of words, and how a line of words is cut.
use Rattle.std.proofs.Common.{◌≡◌, ℕ, ◌<◌, ◌^◌, ◌==◌, true, false, List, [], ◌∷◌, ◌++◌, length, refl, sym, ap, ◌∙◌, inl, inr, arith}
use Rattle.std.specs.Prelude.{filter}
use Rattle.std.specs.List.{list_any, onto_first, slice_split, join_with_byte, All}
use Rattle.std.specs.Fmt.{decimal}
use Rattle.std.specs.Str.Parse.{AllDigits}
use Rattle.std.proofs.lemmas.Bool.{cases_Bool, cond-true, cond-false, or_parts, or_from, ne_eqb, false≢true}
use Rattle.std.proofs.lemmas.Fmt.{decimal_nonempty, decimal_injective}
use Rattle.std.proofs.lemmas.List.Elements.{All-nil, All-cons, All-head, All-tail, All-filter, filter_passes}
use Rattle.std.proofs.lemmas.Str.Parse.{digit_from_value}
use Rattle.text_lines.specs.Words.{separates, has_bytes, words_of, IsWord}
use Rattle.text_lines.proofs.Digits.{decimal_digits}

split_word : (word line : List ℕ) (b : ℕ) → list_any separates word ≡ false → separates b ≡ true → slice_split separates (word ++ b ∷ line) ≡ word ∷ slice_split separates line
split_word [] line b h e = cond-true (separates b) ([] ∷ slice_split separates line) (onto_first b (slice_split separates line)) e
split_word (c ∷ word) line b h e =
    let lacks = or_parts (separates c) (list_any separates word) h in
    let more = word ++ b ∷ line in
    cond-false (separates c) ([] ∷ slice_split separates more) (onto_first c (slice_split separates more)) lacks.0 ∙ ap (onto_first c) (split_word word line b lacks.1 e)

split_last : (word : List ℕ) → list_any separates word ≡ false → slice_split separates word ≡ word ∷ []
split_last [] h = refl
split_last (c ∷ word) h =
    let lacks = or_parts (separates c) (list_any separates word) h in
    cond-false (separates c) ([] ∷ slice_split separates word) (onto_first c (slice_split separates word)) lacks.0 ∙ ap (onto_first c) (split_last word lacks.1)

keeps_word : (word : List ℕ) (parts : List (List ℕ)) → has_bytes word ≡ true → filter has_bytes (word ∷ parts) ≡ word ∷ filter has_bytes parts
keeps_word [] parts h = absurd (false≢true h)
keeps_word (b ∷ word) parts h = refl

-- a word that is followed by a separator
pub word_cut : (word line : List ℕ) (b : ℕ) → IsWord word → separates b ≡ true → words_of (word ++ b ∷ line) ≡ word ∷ words_of line
unfolding words_of
word_cut word line b is e = ap (filter has_bytes) (split_word word line b is.1 e) ∙ keeps_word word (slice_split separates line) is.0

-- a last word
pub last_word : (word : List ℕ) → IsWord word → words_of word ≡ word ∷ []
unfolding words_of
last_word word is = ap (filter has_bytes) (split_last word is.1) ∙ keeps_word word [] is.0

pub no_words : words_of [] ≡ []
unfolding words_of
no_words = refl

-- words joined by spaces are cut into these words
pub joined_words : (words : List (List ℕ)) → All IsWord words → words_of (join_with_byte 32 words) ≡ words
joined_words [] h = no_words
joined_words (word ∷ []) h = last_word word (All-head IsWord word [] h)
joined_words (word ∷ next ∷ words) h =
    word_cut word (join_with_byte 32 (next ∷ words)) 32 (All-head IsWord word (next ∷ words) h) refl
    ∙ ap (λ ws. word ∷ ws) (joined_words (next ∷ words) (All-tail IsWord word (next ∷ words) h))

pub same_words : (words others : List (List ℕ)) → All IsWord words → All IsWord others → join_with_byte 32 words ≡ join_with_byte 32 others → words ≡ others
same_words words others h k e = sym (joined_words words h) ∙ ap words_of e ∙ joined_words others k

onto_lacks : (b : ℕ) (parts : List (List ℕ)) → separates b ≡ false → All (λ part. list_any separates part ≡ false) parts → All (λ part. list_any separates part ≡ false) (onto_first b parts)
onto_lacks b [] e h = All-cons (λ part. list_any separates part ≡ false) (b ∷ []) [] (or_from (separates b) false e refl) (All-nil (λ part. list_any separates part ≡ false))
onto_lacks b (part ∷ parts) e h =
    All-cons (λ part. list_any separates part ≡ false) (b ∷ part) parts
    (or_from (separates b) (list_any separates part) e (All-head (λ part. list_any separates part ≡ false) part parts h))
    (All-tail (λ part. list_any separates part ≡ false) part parts h)

parts_lack : (line : List ℕ) → All (λ part. list_any separates part ≡ false) (slice_split separates line)
parts_lack [] = All-cons (λ part. list_any separates part ≡ false) [] [] refl (All-nil (λ part. list_any separates part ≡ false))
parts_lack (b ∷ bs) =
    elim (cases_Bool (separates b)) [
      | inl e ↦ rw (cond-true (separates b) ([] ∷ slice_split separates bs) (onto_first b (slice_split separates bs)) e) (All-cons (λ part. list_any separates part ≡ false) [] (slice_split separates bs) refl (parts_lack bs))
      | inr e ↦ rw (cond-false (separates b) ([] ∷ slice_split separates bs) (onto_first b (slice_split separates bs)) e) (onto_lacks b (slice_split separates bs) e (parts_lack bs))
    ]

-- each word is one
pub words_are_words : (line : List ℕ) → All IsWord (words_of line)
unfolding words_of
words_are_words line =
    let filled = filter_passes has_bytes (slice_split separates line) in
    let lack = All-filter has_bytes (λ part. list_any separates part ≡ false) (slice_split separates line) (parts_lack line) in
    λ k d h. (filled k d h, lack k d h)

digits_lack : (ds : List ℕ) → AllDigits 10 ds → list_any separates ds ≡ false
digits_lack [] h = refl
digits_lack (d ∷ ds) h =
    let range = digit_from_value d h.0 in
    or_from (separates d) (list_any separates ds) (or_from (d == 32) (d == 9) (ne_eqb d 32 (λ e. omega arith)) (ne_eqb d 9 (λ e. omega arith))) (digits_lack ds h.1)

some_bytes : (word : List ℕ) → 0 < length word → has_bytes word ≡ true
some_bytes [] h = absurd (omega arith)
some_bytes (b ∷ word) h = refl

-- a number is one word
pub decimal_is_word : (n : ℕ) → n < 2 ^ 64 → IsWord (decimal n)
decimal_is_word n h = (some_bytes (decimal n) (decimal_nonempty n h), digits_lack (decimal n) (decimal_digits n h))

pub same_number : (m n : ℕ) → m < 2 ^ 64 → n < 2 ^ 64 → decimal m ≡ decimal n → m ≡ n
same_number m n h k e = decimal_injective m n h k e
