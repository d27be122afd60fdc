-- Steps of building the tables.
use Rattle.std.proofs.Common.{ℕ, suc, zero, ◌<◌, ◌≤◌, Bool, true, false, cond, Option, Some, None, IfSome, IfNone, List, [], ◌∷◌, ◌++◌, ◌≡◌, refl, sym, ◌∙◌, ap, arith, length, get_or, filter, map, drop, append_assoc, if◌then◌else◌}
use Rattle.std.proofs.lemmas.List.{append-nil, drop_all}
use Rattle.topology.specs.Lists.{ascending}
use Rattle.topology.specs.Net.{Net, linked, neighbours}
use Rattle.topology.specs.declared.ways.Way.{Way}
use Rattle.link_model.specs.Tables.{ends, answer, cell, cells}

pub answer_past : (table : List (Option ℕ)) (i : ℕ) → length table ≤ i → answer table i ≡ None
answer_past [] i l = refl
answer_past (x ∷ xs) zero l = absurd (omega (arith, l))
answer_past (x ∷ xs) (suc i) l = answer_past xs i (omega (arith, l))

pub answer_at : (table : List (Option ℕ)) (i : ℕ) (x : Option ℕ) → i < length table → answer table i ≡ get_or table i x
answer_at [] i x l = absurd (omega (arith, l))
answer_at (y ∷ ys) zero x l = refl
answer_at (y ∷ ys) (suc i) x l = answer_at ys i x (omega (arith, l))

pub cells_more : (near : ℕ → Bool) (first next : ℕ) (before : List (Option ℕ)) (c : Option ℕ) (v : ℕ) (vs : List ℕ) (whole : List (Option ℕ))
    → c ≡ (if near v then Some first else None) → next ≡ (if near v then suc first else first) → before ++ cells near first (v ∷ vs) ≡ whole
    → (before ++ c ∷ []) ++ cells near next vs ≡ whole
cells_more near first next before c v vs whole is then' all =
    append_assoc before (c ∷ []) (cells near next vs) ∙ (ap (λ l. before ++ l) (one (near v) is then') ∙ all)
  where
    one : (t : Bool) → c ≡ cond t (Some first) None → next ≡ cond t (suc first) first → c ∷ cells near next vs ≡ cond t (Some first ∷ cells near (suc first) vs) (None ∷ cells near first vs)
    one true e f = rw (e, f) refl
    one false e f = rw (e, f) refl

pub ways_more : (near : ℕ → Bool) (u v : ℕ) (vs : List ℕ) (old new whole : List Way)
    → new ≡ (if near v then old ++ ends u v ∷ [] else old) → old ++ map (ends u) (filter near (v ∷ vs)) ≡ whole → new ++ map (ends u) (filter near vs) ≡ whole
ways_more near u v vs old new whole is all = one (near v) is all
  where
    one : (t : Bool) → new ≡ cond t (old ++ ends u v ∷ []) old → old ++ map (ends u) (cond t (v ∷ filter near vs) (filter near vs)) ≡ whole → new ++ map (ends u) (filter near vs) ≡ whole
    one true e f = ap (λ l. l ++ map (ends u) (filter near vs)) e ∙ (append_assoc old (ends u v ∷ []) (map (ends u) (filter near vs)) ∙ f)
    one false e f = ap (λ l. l ++ map (ends u) (filter near vs)) e ∙ f

-- no node is left
pub ways_done : (net : Net) (u : ℕ) (nodes : List ℕ) (i : ℕ) (now before : List Way) → nodes ≡ ascending net.nodes → length nodes ≤ i
    → now ++ map (ends u) (filter (linked net u) (drop i nodes)) ≡ before ++ map (ends u) (filter (linked net u) nodes) → now ≡ before ++ map (ends u) (neighbours net u)
unfolding neighbours
ways_done net u nodes i now before are past all =
    let none = drop_all i nodes past in
    sym (append-nil now) ∙ (ap (λ l. now ++ map (ends u) (filter (linked net u) l)) (sym none) ∙ (all ∙ ap (λ l. before ++ map (ends u) (filter (linked net u) l)) are))

pub none_left : {A B : Type 0} (f : List A → List B) (xs : List A) (i : ℕ) (now whole : List B) → length xs ≤ i → f [] ≡ [] → now ++ f (drop i xs) ≡ whole → now ≡ whole
none_left f xs i now whole past empty all = sym (append-nil now) ∙ (ap (λ l. now ++ l) (sym (ap f (drop_all i xs past) ∙ empty)) ∙ all)

pub cell_at : {X : Type 0} (f : X → List (Option ℕ)) (rows : List X) (i j : ℕ) (row : X) → i < length rows → row ≡ get_or rows i row → cell (map f rows) i j ≡ answer (f row) j
cell_at f [] i j row l e = absurd (omega (arith, l))
cell_at f (x ∷ xs) zero j row l e = ap (λ r. answer (f r) j) (sym e)
cell_at f (x ∷ xs) (suc i) j row l e = cell_at f xs i j row (omega (arith, l)) e

pub if_some : {X : Type 0} (o : Option X) (P : X → Type 0) → ((x : X) → o ≡ Some x → P x) → IfSome o P
if_some None P h = tt
if_some (Some x) P h = h x refl

pub if_none : {X : Type 0} (o : Option X) (P : Type 0) → (o ≡ None → P) → IfNone o P
if_none None P h = h refl
if_none (Some x) P h = tt
