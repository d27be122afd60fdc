-- Where lines begin, what they contain, and how a text of lines is cut.
use Rattle.std.proofs.Common.{◌≡◌, ℕ, zero, suc, ◌+◌, ◌-◌, ◌<◌, ◌≤◌, ◌==◌, false, List, [], ◌∷◌, ◌++◌, length, take, drop, refl, sym, ap, ◌∙◌, inl, inr, arith}
use Rattle.std.specs.Prelude.{slice_range}
use Rattle.std.specs.List.{position_or_len, list_any, onto_first, All}
use Rattle.std.proofs.lemmas.Bool.{cases_Bool, cond-true, cond-false, or_parts, or_from}
use Rattle.std.proofs.lemmas.List.{drop-drop, length-drop, length-take-le, take_more, take-append-drop}
use Rattle.std.proofs.lemmas.List.Elements.{All-nil, All-cons, All-head, All-tail}
use Rattle.text_lines.specs.Lines.{lines_of, line_at, start_of, size_of}
use Rattle.text_lines.specs.Readings.{Reading, lines_left}
use Rattle.text_lines.proofs.Cutting.{next_line, size_of-push}
use Rattle.text_lines.proofs.Firsts.{first_within}

-- from where a line begins, the text has that line and those after it
record Begins (text : List ℕ) (k : ℕ) : Type 0 where
  left : drop k (lines_of text) ≡ lines_of (drop (start_of text k) text)
  below : start_of text k < length text

some_text : (text : List ℕ) → 0 < length (lines_of text) → 0 < length text
some_text [] h = h
some_text (b ∷ bs) h = omega arith

next_start_of : (text : List ℕ) (k : ℕ) → k < length (lines_of text) → start_of text (k + 1) ≡ start_of text k + (length (line_at text k) + 1)
next_start_of text k h = ap size_of (take_more (lines_of text) k [] h) ∙ size_of-push (take k (lines_of text)) (line_at text k)

begins : (text : List ℕ) (k : ℕ) → k < length (lines_of text) → Begins text k
begins text zero h = record { left = refl; below = some_text text h }
begins text (suc k) h =
    let before = begins text k (omega arith) in
    let s = start_of text k in
    let n = position_or_len (λ b. b == 10) (drop s text) in
    let is = next_line text s k n before.left before.below refl in
    let long : length (line_at text k) ≡ n = ap length is.line ∙ length-take-le n (drop s text) (first_within (λ b. b == 10) (drop s text)) in
    let here : start_of text (suc k) ≡ s + (n + 1) = ap (start_of text) (let q : suc k ≡ k + 1 = omega arith in q) ∙ next_start_of text k (omega arith) ∙ ap (λ m. s + (m + 1)) long in
    let left : drop (suc k) (lines_of text) ≡ lines_of (drop (start_of text (suc k)) text) =
    ap (λ j. drop j (lines_of text)) (let q : suc k ≡ k + 1 = omega arith in q) ∙ is.others ∙ ap lines_of (drop-drop (n + 1) s text) ∙ ap (λ j. lines_of (drop j text)) (sym here) in
    let some : 0 < length (lines_of (drop (start_of text (suc k)) text)) = omega (arith, ap length left, length-drop (suc k) (lines_of text)) in
    record { left = left; below = omega (arith, some_text (drop (start_of text (suc k)) text) some, length-drop (start_of text (suc k)) text) }

pub next_start : (text : List ℕ) (k : ℕ) → k < length (lines_of text) → start_of text (k + 1) ≡ start_of text k + length (line_at text k) + 1
next_start text k h = next_start_of text k h ∙ (omega arith)

pub line_there : (text : List ℕ) (k : ℕ) → k < length (lines_of text) → slice_range text (start_of text k) (start_of text k + length (line_at text k)) ≡ line_at text k
line_there text k h =
    let here = begins text k h in
    let s = start_of text k in
    let n = position_or_len (λ b. b == 10) (drop s text) in
    let is = next_line text s k n here.left here.below refl in
    let long : length (line_at text k) ≡ n = ap length is.line ∙ length-take-le n (drop s text) (first_within (λ b. b == 10) (drop s text)) in
    ap (λ m. take m (drop s text)) (let q : s + length (line_at text k) - s ≡ n = omega arith in q) ∙ sym is.line

pub line_inside : (text : List ℕ) (k : ℕ) → k < length (lines_of text) → start_of text k + length (line_at text k) ≤ length text
line_inside text k h =
    let here = begins text k h in
    let s = start_of text k in
    let n = position_or_len (λ b. b == 10) (drop s text) in
    let is = next_line text s k n here.left here.below refl in
    let fits = first_within (λ b. b == 10) (drop s text) in
    let long : length (line_at text k) ≡ n = ap length is.line ∙ length-take-le n (drop s text) fits in
    omega (arith, length-drop s text, here.below)

-- a line that is followed by a newline
pub line_cut : (line rest : List ℕ) → list_any (λ b. b == 10) line ≡ false → lines_of (line ++ 10 ∷ rest) ≡ line ∷ lines_of rest
line_cut [] rest h = refl
line_cut (b ∷ line) rest h =
    let lacks = or_parts (b == 10) (list_any (λ b. b == 10) line) h in
    cond-false (b == 10) ([] ∷ lines_of (line ++ 10 ∷ rest)) (onto_first b (lines_of (line ++ 10 ∷ rest))) lacks.0 ∙ ap (onto_first b) (line_cut line rest lacks.1)

-- a last line without a newline
pub last_line : (b : ℕ) (line : List ℕ) → list_any (λ b. b == 10) (b ∷ line) ≡ false → lines_of (b ∷ line) ≡ (b ∷ line) ∷ []
last_line b [] h =
    cond-false (b == 10) ([] ∷ []) ((b ∷ []) ∷ []) (or_parts (b == 10) false h).0
last_line b (c ∷ line) h =
    let lacks = or_parts (b == 10) (list_any (λ b. b == 10) (c ∷ line)) h in
    cond-false (b == 10) ([] ∷ lines_of (c ∷ line)) (onto_first b (lines_of (c ∷ line))) lacks.0 ∙ ap (onto_first b) (last_line c line lacks.1)

onto_lacks : (b : ℕ) (lines : List (List ℕ)) → (b == 10) ≡ false → All (λ line. list_any (λ b. b == 10) line ≡ false) lines → All (λ line. list_any (λ b. b == 10) line ≡ false) (onto_first b lines)
onto_lacks b [] e h = All-cons (λ line. list_any (λ b. b == 10) line ≡ false) (b ∷ []) [] (or_from (b == 10) false e refl) (All-nil (λ line. list_any (λ b. b == 10) line ≡ false))
onto_lacks b (line ∷ lines) e h =
    All-cons (λ line. list_any (λ b. b == 10) line ≡ false) (b ∷ line) lines
    (or_from (b == 10) (list_any (λ b. b == 10) line) e (All-head (λ line. list_any (λ b. b == 10) line ≡ false) line lines h))
    (All-tail (λ line. list_any (λ b. b == 10) line ≡ false) line lines h)

pub lines_lack : (text : List ℕ) → All (λ line. list_any (λ b. b == 10) line ≡ false) (lines_of text)
lines_lack [] = All-nil (λ line. list_any (λ b. b == 10) line ≡ false)
lines_lack (b ∷ bs) =
    elim (cases_Bool (b == 10)) [
      | inl e ↦ rw (cond-true (b == 10) ([] ∷ lines_of bs) (onto_first b (lines_of bs)) e) (All-cons (λ line. list_any (λ b. b == 10) line ≡ false) [] (lines_of bs) refl (lines_lack bs))
      | inr e ↦ rw (cond-false (b == 10) ([] ∷ lines_of bs) (onto_first b (lines_of bs)) e) (onto_lacks b (lines_of bs) e (lines_lack bs))
    ]

pub given_and_left : (reading : Reading) → take reading.given (lines_of reading.text) ++ lines_left reading ≡ lines_of reading.text
given_and_left reading = take-append-drop reading.given (lines_of reading.text)
