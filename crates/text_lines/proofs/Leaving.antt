-- What is left of a line.
use Rattle.std.proofs.Common.{◌≡◌, ℕ, zero, suc, ◌-◌, ◌<◌, ◌≤◌, ◌==◌, false, List, [], ◌∷◌, ◌++◌, length, take, get_or, refl, sym, ap, ◌∙◌, inl, inr, arith}
use Rattle.std.specs.Prelude.{◌||◌, ◌⊎◌}
use Rattle.std.specs.List.{position_or_len, before_first, list_any}
use Rattle.std.specs.Str.Lines.{strip_carriage_return}
use Rattle.std.proofs.lemmas.Bool.{cond-true, cond-false, eq-eqb, ne_eqb, cases_lt, cases_eq, cases_Bool, or_parts, false≢true}
use Rattle.std.proofs.lemmas.List.{length-take-le, get_or-take, take-take, take_all}
use Rattle.text_lines.specs.Lines.{left_of}
use Rattle.text_lines.proofs.Firsts.{first_within, first_behind, parts_here, parts_behind}

-- a prefix of the line whose last byte is a carriage return
strips : (line : List ℕ) (n : ℕ) → n ≤ length line → 0 < n → get_or line (n - 1) 0 ≡ 13 → strip_carriage_return (take n line) ≡ take (n - 1) line
strips line n within some last =
    let long : length (take n line) ≡ n = length-take-le n line within in
    let here : get_or (take n line) (length (take n line) - 1) 0 ≡ 13 = ap (λ k. get_or (take n line) (k - 1) 0) long ∙ get_or-take n line (n - 1) 0 (omega arith) ∙ last in
    cond-true (get_or (take n line) (length (take n line) - 1) 0 == 13) (take (length (take n line) - 1) (take n line)) (take n line) (eq-eqb _ 13 here)
    ∙ ap (λ k. take (k - 1) (take n line)) long ∙ take-take (n - 1) n line (omega arith)

-- a prefix of the line without a carriage return at its end
keeps : (line : List ℕ) (n : ℕ) → n ≤ length line → (0 < n → get_or line (n - 1) 0 ≡ 13 → ⊥) → strip_carriage_return (take n line) ≡ take n line
keeps line zero within other = refl
keeps line (suc m) within other =
    let n = suc m in
    let long : length (take n line) ≡ n = length-take-le n line within in
    let same : get_or (take n line) (length (take n line) - 1) 0 ≡ get_or line (n - 1) 0 = ap (λ k. get_or (take n line) (k - 1) 0) long ∙ get_or-take n line (n - 1) 0 (omega arith) in
    cond-false (get_or (take n line) (length (take n line) - 1) 0 == 13) (take (length (take n line) - 1) (take n line)) (take n line)
    (ne_eqb _ 13 (λ e. other (omega arith) (sym same ∙ e)))

pub left_with_return : (line : List ℕ) (n : ℕ) → n ≡ position_or_len (λ b. b == 35) line → 0 < n → get_or line (n - 1) 0 ≡ 13 → take (n - 1) line ≡ left_of line
unfolding left_of
left_with_return line n first some last =
    sym (ap (λ k. strip_carriage_return (take k line)) (sym first) ∙ strips line n (omega (arith, first_within (λ b. b == 35) line)) some last)

pub left_as_it_is : (line : List ℕ) (n : ℕ) → n ≡ position_or_len (λ b. b == 35) line → (0 < n → get_or line (n - 1) 0 ≡ 13 → ⊥) → take n line ≡ left_of line
unfolding left_of
left_as_it_is line n first other =
    sym (ap (λ k. strip_carriage_return (take k line)) (sym first) ∙ keeps line n (omega (arith, first_within (λ b. b == 35) line)) other)

cases_end : (line : List ℕ) (n : ℕ) → ((0 < n) × (get_or line (n - 1) 0 ≡ 13)) ⊎ (0 < n → get_or line (n - 1) 0 ≡ 13 → ⊥)
cases_end line n =
    elim (cases_lt 0 n) [
      | inl some ↦ elim (cases_eq (get_or line (n - 1) 0) 13) [ inl e ↦ inl (some, e) | inr other ↦ inr (λ _ e. other e) ]
      | inr none ↦ inr (λ some e. omega arith)
    ]

-- what is left is a prefix of the line
pub front_is_left : (line : List ℕ) → take (length (left_of line)) line ≡ left_of line
unfolding left_of
front_is_left line =
    let n = position_or_len (λ b. b == 35) line in
    let fits = first_within (λ b. b == 35) line in
    elim (cases_end line n) [
      | inl h ↦ (let e = strips line n fits h.0 h.1 in let long : length (take (n - 1) line) ≡ n - 1 = length-take-le (n - 1) line (omega arith) in
          ap (λ w. take (length w) line) e ∙ ap (λ k. take k line) long ∙ sym e)
      | inr h ↦ (let e = keeps line n fits h in let long : length (take n line) ≡ n = length-take-le n line fits in
          ap (λ w. take (length w) line) e ∙ ap (λ k. take k line) long ∙ sym e)
    ]

-- a line without a comment and a carriage return stays as it is
none_before : (line : List ℕ) → list_any (λ b. b == 35 || b == 13) line ≡ false → position_or_len (λ b. b == 35) line ≡ length line
none_before [] h = refl
none_before (b ∷ line) h =
    let lacks = or_parts (b == 35 || b == 13) (list_any (λ b. b == 35 || b == 13) line) h in
    first_behind (λ b. b == 35) b line (or_parts (b == 35) (b == 13) lacks.0).0 ∙ ap suc (none_before line lacks.1)

no_return : (line : List ℕ) (k : ℕ) → list_any (λ b. b == 35 || b == 13) line ≡ false → get_or line k 0 ≡ 13 → ⊥
no_return [] k h e = omega arith
no_return (b ∷ line) zero h e =
    let lacks = or_parts (b == 35 || b == 13) (list_any (λ b. b == 35 || b == 13) line) h in
    false≢true (sym (or_parts (b == 35) (b == 13) lacks.0).1 ∙ eq-eqb b 13 e)
no_return (b ∷ line) (suc k) h e =
    let lacks = or_parts (b == 35 || b == 13) (list_any (λ b. b == 35 || b == 13) line) h in
    no_return line k lacks.1 e

pub left_plain : (line : List ℕ) → list_any (λ b. b == 35 || b == 13) line ≡ false → left_of line ≡ line
left_plain line h =
    let n = length line in
    sym (left_as_it_is line n (sym (none_before line h)) (λ some last. no_return line (n - 1) h last)) ∙ take_all n line (omega arith)

-- a comment is dropped, whatever its text
before_comment : (line comment : List ℕ) → before_first (λ b. b == 35) (line ++ 35 ∷ comment) ≡ before_first (λ b. b == 35) line
before_comment [] comment = refl
before_comment (b ∷ line) comment =
    elim (cases_Bool (b == 35)) [
      | inl e ↦ (parts_here (λ b. b == 35) b (line ++ 35 ∷ comment) e).0 ∙ sym (parts_here (λ b. b == 35) b line e).0
      | inr e ↦ (parts_behind (λ b. b == 35) b (line ++ 35 ∷ comment) e).0 ∙ ap (λ w. b ∷ w) (before_comment line comment) ∙ sym (parts_behind (λ b. b == 35) b line e).0
    ]

pub left_of_comment : (line comment : List ℕ) → left_of (line ++ 35 ∷ comment) ≡ left_of line
unfolding left_of
left_of_comment line comment = ap strip_carriage_return (before_comment line comment)
