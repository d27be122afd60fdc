-- A list has only one cut at its first mark.
use Rattle.std.proofs.Common.{◌≡◌, ℕ, ◌+◌, ◌<◌, false, ◌==◌, List, [], ◌∷◌, ◌++◌, length, take, drop, get_or, refl, sym, ap, ◌∙◌}
use Rattle.std.specs.Prelude.{Option, Some, None}
use Rattle.std.specs.List.{list_any}
use Rattle.std.proofs.lemmas.List.{drop_more, take-append-drop}
use Rattle.std.proofs.lemmas.Bool.{or_parts, eq-eqb, false≢true}
use Rattle.schedule_file.specs.Cutting.{uncut}

-- the mark is not there
abbrev pub Lacks : ℕ → List ℕ → Type 0
Lacks mark bytes = list_any (λ b. b == mark) bytes ≡ false

pub head_differs : (mark b : ℕ) (bs : List ℕ) → Lacks mark (b ∷ bs) → (b == mark) ≡ false
head_differs mark b bs h = (or_parts (b == mark) (list_any (λ x. x == mark) bs) h).0

pub tail_lacks : (mark b : ℕ) (bs : List ℕ) → Lacks mark (b ∷ bs) → Lacks mark bs
tail_lacks mark b bs h = (or_parts (b == mark) (list_any (λ x. x == mark) bs) h).1

-- the first mark of a list is where it is
pub same_cut : (mark : ℕ) (f g r s : List ℕ) → Lacks mark f → Lacks mark g → f ++ mark ∷ r ≡ g ++ mark ∷ s → (f ≡ g) × (r ≡ s)
same_cut mark [] [] r s h k e = (refl, cc)
same_cut mark [] (c ∷ g) r s h k e =
    absurd (false≢true (sym (head_differs mark c g k) ∙ eq-eqb c mark (let q : c ≡ mark = cc in q)))
same_cut mark (b ∷ f) [] r s h k e =
    absurd (false≢true (sym (head_differs mark b f h) ∙ eq-eqb b mark (let q : b ≡ mark = cc in q)))
same_cut mark (b ∷ f) (c ∷ g) r s h k e =
    let rest : f ++ mark ∷ r ≡ g ++ mark ∷ s = cc in
    let same = same_cut mark f g r s (tail_lacks mark b f h) (tail_lacks mark c g k) rest in
    (let q : b ≡ c = cc in let p = same.0 in cc, same.1)

-- a list that lacks the mark is not one with it
pub no_cut : (mark : ℕ) (f r g : List ℕ) → Lacks mark g → f ++ mark ∷ r ≡ g → ⊥
no_cut mark [] r [] k e = let q : mark ∷ r ≡ [] = e in cc
no_cut mark (b ∷ f) r [] k e = let q : b ∷ (f ++ mark ∷ r) ≡ [] = e in cc
no_cut mark [] r (c ∷ g) k e =
    false≢true (sym (head_differs mark c g k) ∙ eq-eqb c mark (let q : c ≡ mark = cc in q))
no_cut mark (b ∷ f) r (c ∷ g) k e = no_cut mark f r g (tail_lacks mark c g k) (let q : f ++ mark ∷ r ≡ g = cc in q)

-- what a cut gives of a list that has the mark behind a front without it
pub cut_is : (mark : ℕ) (front f r : List ℕ) (rest : Option (List ℕ)) → Lacks mark front → Lacks mark f → uncut mark front rest ≡ f ++ mark ∷ r → (front ≡ f) × (rest ≡ Some r)
cut_is mark front f r None h k e = absurd (no_cut mark f r front h (sym e))
cut_is mark front f r (Some s) h k e = let same = same_cut mark front f s r h k e in (same.0, ap Some same.1)

-- a list is the part before a place, the mark there, and the part behind
pub cut_there : (mark place : ℕ) (bytes : List ℕ) → place < length bytes → get_or bytes place 0 ≡ mark → bytes ≡ take place bytes ++ mark ∷ drop 1 (drop place bytes)
cut_there mark place bytes h m =
    let e = drop_more bytes place 0 h in
    let rest : drop 1 (drop place bytes) ≡ drop (place + 1) bytes = ap (drop 1) e in
    let whole = take-append-drop place bytes in
    cc
