-- A text is its first line, followed by the lines after the newline.
use Rattle.std.proofs.Common.{◌≡◌, ℕ, ◌+◌, ◌-◌, ◌<◌, ◌≤◌, ◌==◌, min, true, false, List, [], ◌∷◌, ◌++◌, length, take, drop, get_or, refl, sym, ap, ◌∙◌, inl, inr, arith}
use Rattle.std.specs.Prelude.{Option, position, unwrap_or, slice_range}
use Rattle.std.specs.List.{position_or_len, before_first, after_first, onto_first}
use Rattle.std.proofs.lemmas.Bool.{cases_Bool, cond-true, cond-false}
use Rattle.std.proofs.lemmas.List.{drop_more, drop-drop, drop_all, drop_min, length-drop, length-take-le, take_more, take-take}
use Rattle.text_lines.specs.Lines.{lines_of, left_of, line_at, size_of}
use Rattle.text_lines.specs.Places.{StandsAt}
use Rattle.text_lines.specs.Readings.{IsNextLine}
use Rattle.text_lines.proofs.Firsts.{parts_here, parts_behind, first_within, first_or_length}

first_line_here : (b : ℕ) (bs : List ℕ) → (b == 10) ≡ true → lines_of (b ∷ bs) ≡ before_first (λ b. b == 10) (b ∷ bs) ∷ lines_of (after_first (λ b. b == 10) (b ∷ bs))
first_line_here b bs e =
    let parts = parts_here (λ b. b == 10) b bs e in
    cond-true (b == 10) ([] ∷ lines_of bs) (onto_first b (lines_of bs)) e ∙ sym (ap (λ w. w ∷ lines_of (after_first (λ b. b == 10) (b ∷ bs))) parts.0 ∙ ap (λ r. [] ∷ lines_of r) parts.1)

first_line_behind : (b : ℕ) (bs : List ℕ) → (b == 10) ≡ false → onto_first b (lines_of bs) ≡ (b ∷ before_first (λ b. b == 10) bs) ∷ lines_of (after_first (λ b. b == 10) bs) → lines_of (b ∷ bs) ≡ before_first (λ b. b == 10) (b ∷ bs) ∷ lines_of (after_first (λ b. b == 10) (b ∷ bs))
first_line_behind b bs e h =
    let parts = parts_behind (λ b. b == 10) b bs e in
    cond-false (b == 10) ([] ∷ lines_of bs) (onto_first b (lines_of bs)) e ∙ h
    ∙ sym (ap (λ w. w ∷ lines_of (after_first (λ b. b == 10) (b ∷ bs))) parts.0 ∙ ap (λ r. (b ∷ before_first (λ b. b == 10) bs) ∷ lines_of r) parts.1)

pub first_line : (b : ℕ) (bs : List ℕ) → lines_of (b ∷ bs) ≡ before_first (λ b. b == 10) (b ∷ bs) ∷ lines_of (after_first (λ b. b == 10) (b ∷ bs))
first_line b [] =
    elim (cases_Bool (b == 10)) [ inl e ↦ first_line_here b [] e | inr e ↦ first_line_behind b [] e refl ]
first_line b (c ∷ bs) =
    elim (cases_Bool (b == 10)) [
      | inl e ↦ first_line_here b (c ∷ bs) e
      | inr e ↦ first_line_behind b (c ∷ bs) e (ap (onto_first b) (first_line c bs))
    ]

-- the first line of the rest of the text from a place
line_from : (text : List ℕ) (at : ℕ) → at < length text → lines_of (drop at text) ≡ before_first (λ b. b == 10) (drop at text) ∷ lines_of (after_first (λ b. b == 10) (drop at text))
line_from text at h =
    let e = drop_more text at 0 h in
    rw e (first_line (get_or text at 0) (drop (at + 1) text))

pub size_of-push : (lines : List (List ℕ)) (line : List ℕ) → size_of (lines ++ line ∷ []) ≡ size_of lines + (length line + 1)
size_of-push [] line = omega arith
size_of-push (first ∷ lines) line = let e = size_of-push lines line in omega arith

-- the next line, if so many were given and the rest of the text has the others
pub record Next (text : List ℕ) (at given n : ℕ) : Type 0 where
  pub exists : given < length (lines_of text)
  pub line : line_at text given ≡ take n (drop at text)
  pub left : drop given (lines_of text) ≡ line_at text given ∷ drop (given + 1) (lines_of text)
  pub others : drop (given + 1) (lines_of text) ≡ lines_of (drop (n + 1) (drop at text))
  pub within : n ≤ length text - at

next_of : (lines : List (List ℕ)) (given : ℕ) (line : List ℕ) (others : List (List ℕ)) → drop given lines ≡ line ∷ others → (given < length lines) × (get_or lines given [] ≡ line) × (drop (given + 1) lines ≡ others)
next_of lines given line others e =
    let long : length lines - given ≡ length others + 1 = sym (length-drop given lines) ∙ ap length e ∙ (omega arith) in
    let within : given < length lines = omega arith in
    let more = drop_more lines given [] within in
    (within, cc, cc)

pub next_line : (text : List ℕ) (at given n : ℕ) → drop given (lines_of text) ≡ lines_of (drop at text) → at < length text → n ≡ position_or_len (λ b. b == 10) (drop at text) → Next text at given n
next_line text at given n left more first =
    let from = line_from text at more in
    let e : drop given (lines_of text) ≡ take n (drop at text) ∷ lines_of (drop (n + 1) (drop at text)) = left ∙ rw (← first) at from in
    let is = next_of (lines_of text) given (take n (drop at text)) (lines_of (drop (n + 1) (drop at text))) e in
    let fits = first_within (λ b. b == 10) (drop at text) in
    record { exists = is.0; line = is.1; left = drop_more (lines_of text) given [] is.0; others = is.2; within = omega (arith, length-drop at text) }

-- one line on
pub stands_behind : (text : List ℕ) (at given n next : ℕ) → StandsAt text at given → at < length text → Next text at given n → next ≡ min (length text) (at + n + 1) → StandsAt text next (given + 1)
stands_behind text at given n next stands more is e =
    let clipped : next ≡ min (at + (n + 1)) (length text) = omega arith in
    let long : length (take n (drop at text)) ≡ n = length-take-le n (drop at text) (omega (arith, length-drop at text, is.within)) in
    record {
      short = stands.short;
      inside = omega arith;
      few = omega (arith, stands.few);
      left = is.others ∙ ap lines_of (drop-drop (n + 1) at text ∙ sym (drop_min (at + (n + 1)) text) ∙ ap (λ k. drop k text) (sym clipped));
      start = λ below. ap size_of (take_more (lines_of text) given [] is.exists) ∙ size_of-push (take given (lines_of text)) (line_at text given)
          ∙ (omega (arith, stands.start more, ap length is.line, long));
    }

-- if all is read, there is no other line
pub none_left : (text : List ℕ) (at given : ℕ) → StandsAt text at given → at ≡ length text → drop given (lines_of text) ≡ []
none_left text at given stands end = stands.left ∙ ap lines_of (drop_all at text (omega arith))

pub none_more : (lines : List (List ℕ)) (given : ℕ) → drop given lines ≡ [] → given < length lines → ⊥
none_more lines given e h = omega (arith, length-drop given lines, ap length e)

-- the same, from the result of the search for the newline
pub found_line : (text rest : List ℕ) (at given n : ℕ) (found : Option ℕ) → StandsAt text at given → at < length text → rest ≡ drop at text → found ≡ position (λ b. b == 10) rest → n ≡ unwrap_or found (length rest) → Next text at given n
found_line text rest at given n found stands more e f g =
    next_line text at given n stands.left more (first_or_length (λ b. b == 10) rest found n f g ∙ ap (position_or_len (λ b. b == 10)) e)

-- the span of what is left of the next line
pub next_span : (text whole : List ℕ) (at given n k : ℕ) → StandsAt text at given → at < length text → Next text at given n → whole ≡ take n (drop at text) → k ≤ length whole → take k whole ≡ left_of whole → IsNextLine record { text = text; given = given } record { number = given + 1; start = at; end = at + k }
next_span text whole at given n k stands more is e within left =
    let long : length whole ≡ n = ap length e ∙ length-take-le n (drop at text) (omega (arith, length-drop at text, is.within)) in
    let part : slice_range text at (at + k) ≡ take k whole = ap (λ m. take m (drop at text)) (let q : at + k - at ≡ k = omega arith in q) ∙ sym (take-take k n (drop at text) (omega arith)) ∙ ap (take k) (sym e) in
    record {
      number = refl;
      start = sym (stands.start more);
      ordered = omega arith;
      inside = omega (arith, is.within);
      within = omega (arith, ap length (e ∙ sym is.line));
      bytes = part ∙ left ∙ ap left_of (e ∙ sym is.line);
    }
