-- A line is its first word, followed by the words of the rest.
use Rattle.std.proofs.Common.{◌≡◌, ℕ, suc, ◌+◌, ◌-◌, ◌<◌, ◌≤◌, true, false, not, List, [], ◌∷◌, length, take, drop, get_or, refl, sym, ap, ◌∙◌, inl, inr, arith}
use Rattle.std.specs.Prelude.{Option, Some, None, position, unwrap_or, slice_range, filter}
use Rattle.std.specs.List.{position_or_len, before_first, onto_first, slice_split}
use Rattle.std.proofs.lemmas.Bool.{cases_Bool, cond-true, cond-false, not-true, not_from_true, not_from_false}
use Rattle.std.proofs.lemmas.List.{drop_more, drop-drop, drop_all, length-drop, take-take}
use Rattle.std.proofs.lemmas.List.Sums.{passes_at_first}
use Rattle.std.proofs.lemmas.Slice.{between_is}
use Rattle.text_lines.specs.Words.{separates, has_bytes, words_of}
use Rattle.text_lines.proofs.Firsts.{first_here, first_behind, first_within, first_or_length, found_first, found_none, parts_here, parts_behind}

pub words_of_separator : (b : ℕ) (bs : List ℕ) → separates b ≡ true → words_of (b ∷ bs) ≡ words_of bs
unfolding words_of
words_of_separator b bs e = ap (filter has_bytes) (cond-true (separates b) ([] ∷ slice_split separates bs) (onto_first b (slice_split separates bs)) e)

-- the parts between separators: the first, and the others
record Parts (bs : List ℕ) : Type 0 where
  others : List (List ℕ)
  split : slice_split separates bs ≡ before_first separates bs ∷ others
  words : filter has_bytes others ≡ words_of (drop (position_or_len separates bs) bs)

parts : (bs : List ℕ) → Parts bs
unfolding words_of
parts [] = record { others = []; split = refl; words = refl }
parts (b ∷ bs) =
    let more = parts bs in
    elim (cases_Bool (separates b)) [
      | inl e ↦ record {
        others = slice_split separates bs;
        split = cond-true (separates b) ([] ∷ slice_split separates bs) (onto_first b (slice_split separates bs)) e ∙ sym (ap (λ w. w ∷ slice_split separates bs) (parts_here separates b bs e).0);
        words = sym (words_of_separator b bs e) ∙ sym (ap (λ n. words_of (drop n (b ∷ bs))) (first_here separates b bs e));
      }
      | inr e ↦ record {
        others = more.others;
        split = cond-false (separates b) ([] ∷ slice_split separates bs) (onto_first b (slice_split separates bs)) e ∙ ap (onto_first b) more.split
            ∙ sym (ap (λ w. w ∷ more.others) (parts_behind separates b bs e).0);
        words = more.words ∙ sym (ap (λ n. words_of (drop n (b ∷ bs))) (first_behind separates b bs e));
      }
    ]

first_word : (b : ℕ) (bs : List ℕ) → separates b ≡ false → words_of (b ∷ bs) ≡ before_first separates (b ∷ bs) ∷ words_of (drop (position_or_len separates (b ∷ bs)) (b ∷ bs))
unfolding words_of
first_word b bs e =
    let at = parts (b ∷ bs) in
    let front = (parts_behind separates b bs e).0 in
    ap (filter has_bytes) (at.split ∙ ap (λ w. w ∷ at.others) front) ∙ ap (λ ws. (b ∷ before_first separates bs) ∷ ws) at.words
    ∙ sym (ap (λ w. w ∷ words_of (drop (position_or_len separates (b ∷ bs)) (b ∷ bs))) front)

-- leading separators belong to no word
words_behind : (bs : List ℕ) → words_of bs ≡ words_of (drop (position_or_len (λ b. not (separates b)) bs) bs)
words_behind [] = refl
words_behind (b ∷ bs) =
    elim (cases_Bool (separates b)) [
      | inl e ↦ words_of_separator b bs e ∙ words_behind bs ∙ sym (ap (λ n. words_of (drop n (b ∷ bs))) (first_behind (λ b. not (separates b)) b bs (not_from_true (separates b) e)))
      | inr e ↦ sym (ap (λ n. words_of (drop n (b ∷ bs))) (first_here (λ b. not (separates b)) b bs (not_from_false (separates b) e)))
    ]

-- the word after so many separators, with so many bytes
pub record NextWord (rest : List ℕ) (skipped n : ℕ) : Type 0 where
  pub filled : 0 < n
  pub within : skipped + n ≤ length rest
  pub left : words_of rest ≡ take n (drop skipped rest) ∷ words_of (drop n (drop skipped rest))

next_word : (rest : List ℕ) (skipped n : ℕ) → skipped ≡ position_or_len (λ b. not (separates b)) rest → skipped < length rest → n ≡ position_or_len separates (drop skipped rest) → NextWord rest skipped n
next_word rest skipped n at more e =
    let b = get_or rest skipped 0 in
    let bs = drop (skipped + 1) rest in
    let whole : drop skipped rest ≡ b ∷ bs = drop_more rest skipped 0 more in
    let other : separates b ≡ false = not-true (separates b) (rw at (passes_at_first (λ b. not (separates b)) rest 0 (rw (← at) more))) in
    let long : n ≡ suc (position_or_len separates bs) = e ∙ ap (position_or_len separates) whole ∙ first_behind separates b bs other in
    record {
      filled = omega arith;
      within = omega (arith, first_within separates (drop skipped rest), length-drop skipped rest);
      left = words_behind rest ∙ ap (λ k. words_of (drop k rest)) (sym at) ∙ ap words_of whole ∙ first_word b bs other
          ∙ sym (ap (λ r. before_first separates r ∷ words_of (drop (position_or_len separates r) r)) whole)
          ∙ ap (λ k. take k (drop skipped rest) ∷ words_of (drop k (drop skipped rest))) (sym e);
    }

-- the same, from the results of two searches
pub found_word : (rest behind : List ℕ) (skipped n : ℕ) (found : Option ℕ) → position (λ b. not (separates b)) rest ≡ Some skipped → behind ≡ drop skipped rest → found ≡ position separates behind → n ≡ unwrap_or found (length behind) → NextWord rest skipped n
found_word rest behind skipped n found e f g h =
    let at = found_first (λ b. not (separates b)) rest skipped e in
    next_word rest skipped n at.0 at.1 (first_or_length separates behind found n g h ∙ ap (position_or_len separates) f)

pub no_word : (rest : List ℕ) → position (λ b. not (separates b)) rest ≡ None → words_of rest ≡ []
unfolding words_of
no_word rest e = words_behind rest ∙ ap words_of (drop_all (position_or_len (λ b. not (separates b)) rest) rest (omega (arith, found_none (λ b. not (separates b)) rest e)))

-- the spans of the text: what is still to be cut, its next word, and what is to be cut then
pub rest_of : (text line rest : List ℕ) (from end : ℕ) → line ≡ take end text → rest ≡ drop from line → slice_range text from end ≡ rest
rest_of text line rest from end e f = between_is text from end ∙ ap (drop from) (sym e) ∙ sym f

span_of : (text rest : List ℕ) (from end skipped n : ℕ) → slice_range text from end ≡ rest → from + skipped + n ≤ end → take n (drop skipped rest) ≡ slice_range text (from + skipped) (from + skipped + n)
span_of text rest from end skipped n e within =
    ap (λ r. take n (drop skipped r)) (sym e ∙ between_is text from end) ∙ ap (take n) (drop-drop skipped from (take end text))
    ∙ ap (take n) (sym (between_is text (from + skipped) end)) ∙ take-take n (end - (from + skipped)) (drop (from + skipped) text) (omega arith)
    ∙ ap (λ k. take k (drop (from + skipped) text)) (let q : n ≡ from + skipped + n - (from + skipped) = omega arith in q)

behind_of : (text rest : List ℕ) (from end skipped n : ℕ) → slice_range text from end ≡ rest → drop n (drop skipped rest) ≡ slice_range text (from + skipped + n) end
behind_of text rest from end skipped n e =
    ap (λ r. drop n (drop skipped r)) (sym e ∙ between_is text from end) ∙ ap (drop n) (drop-drop skipped from (take end text)) ∙ drop-drop n (from + skipped) (take end text)
    ∙ sym (between_is text (from + skipped + n) end)

pub word_left : (text rest : List ℕ) (from end skipped n : ℕ) → slice_range text from end ≡ rest → from + skipped + n ≤ end → NextWord rest skipped n → words_of (slice_range text from end) ≡ slice_range text (from + skipped) (from + skipped + n) ∷ words_of (slice_range text (from + skipped + n) end)
word_left text rest from end skipped n e within is =
    let word = span_of text rest from end skipped n e within in
    let behind = behind_of text rest from end skipped n e in
    ap words_of e ∙ is.left ∙ ap (λ w. w ∷ words_of (drop n (drop skipped rest))) word ∙ ap (λ r. slice_range text (from + skipped) (from + skipped + n) ∷ words_of r) behind
