-- A list in which one element was taken out by a swap, and another put in its place.
use Rattle.std.proofs.Common.{ℕ, zero, suc, ◌<◌, ◌≤◌, ◌+◌, ◌-◌, Some, None, List, [], ◌∷◌, ◌++◌, ◌≡◌, ◌≢◌, refl, sym, ◌∙◌, ap, ap₂, subst, arith, length, get_or, set, ⊎_elim}
use Rattle.std.specs.List.{slice_get}
use Rattle.std.proofs.lemmas.Bool.{cases_eq}
use Rattle.std.proofs.lemmas.Option.{get_or_from_slice_get, slice_get_cases}
use Rattle.world_core.specs.Turning.{returned, returned_by}

-- two lists with the same elements at the same places are one
pub same_everywhere : {A : Type 0} (xs ys : List A) → length xs ≡ length ys → ((k : ℕ) (d : A) → k < length xs → get_or xs k d ≡ get_or ys k d) → xs ≡ ys
same_everywhere [] [] count same = refl
same_everywhere [] (y ∷ ys) count same = absurd (omega arith)
same_everywhere (x ∷ xs) [] count same = absurd (omega arith)
same_everywhere (x ∷ xs) (y ∷ ys) count same =
    ap₂ (λ z zs. z ∷ zs) (same 0 x (omega arith)) (same_everywhere xs ys (omega arith) (λ k d below. same (suc k) d (omega arith)))

-- a place of the first list
get-append : {A : Type 0} (xs ys : List A) (k : ℕ) (d : A) → k < length xs → get_or (xs ++ ys) k d ≡ get_or xs k d
get-append [] ys k d below = absurd (omega arith)
get-append (x ∷ xs) ys zero d below = refl
get-append (x ∷ xs) ys (suc k) d below = get-append xs ys k d (omega arith)

-- the place of the last
get-last : {A : Type 0} (xs : List A) (x d : A) → get_or (xs ++ x ∷ []) (length xs) d ≡ x
get-last [] x d = refl
get-last (y ∷ xs) x d = get-last xs x d

-- what is put at a place is there
get-set_same : {A : Type 0} (xs : List A) (i : ℕ) (x d : A) → i < length xs → get_or (set xs i x) i d ≡ x
get-set_same [] i x d below = absurd (omega arith)
get-set_same (y ∷ ys) zero x d below = refl
get-set_same (y ∷ ys) (suc i) x d below = get-set_same ys i x d (omega arith)

-- the other places stay
get-set_other : {A : Type 0} (xs : List A) (i k : ℕ) (x d : A) → k ≢ i → get_or (set xs i x) k d ≡ get_or xs k d
get-set_other [] i k x d ne = refl
get-set_other (y ∷ ys) zero zero x d ne = absurd (ne refl)
get-set_other (y ∷ ys) zero (suc k) x d ne = refl
get-set_other (y ∷ ys) (suc i) zero x d ne = refl
get-set_other (y ∷ ys) (suc i) (suc k) x d ne = get-set_other ys i k x d (λ e. ne (ap suc e))

-- the length stays
length-set_at : {A : Type 0} (xs : List A) (i : ℕ) (x : A) → length (set xs i x) ≡ length xs
length-set_at [] i x = refl
length-set_at (y ∷ ys) zero x = refl
length-set_at (y ∷ ys) (suc i) x = ap suc (length-set_at ys i x)

-- the last element stood in the place of the one that was taken out, and has gone back
turned_back : {A : Type 0} (old short new : List A) (i : ℕ) (x : A) → i < length old → length short + 1 ≡ length old → length new ≡ length old
    → ((d : A) → i + 1 < length old → get_or short i d ≡ get_or old (length old - 1) d)
    → ((k : ℕ) (d : A) → k ≢ i → k + 1 < length old → get_or short k d ≡ get_or old k d)
    → ((d : A) → get_or new i d ≡ x)
    → ((d : A) → i < length short → get_or new (length short) d ≡ get_or short i d)
    → ((k : ℕ) (d : A) → k ≢ i → k < length short → get_or new k d ≡ get_or short k d)
    → new ≡ set old i x
turned_back old short new i x inside shorter count moved stays back last rest =
    same_everywhere new (set old i x) (count ∙ sym (length-set_at old i x))
    (λ k d below. ⊎_elim
    (λ (e : k ≡ i). ap (λ j. get_or new j d) e ∙ (back d ∙ sym (ap (λ j. get_or (set old i x) j d) e ∙ get-set_same old i x d inside)))
    (λ (ne : k ≢ i). ⊎_elim
    (λ (e : k ≡ length short).
    let place : length short ≡ length old - 1 = omega arith in
    let low : i < length short = omega arith in
    ap (λ j. get_or new j d) e
    ∙ (last d low
    ∙ (moved d (omega arith)
    ∙ (ap (λ j. get_or old j d) (sym place ∙ sym e) ∙ sym (get-set_other old i k x d ne)))))
    (λ (off : k ≢ length short).
    let low : k < length short = omega arith in
    rest k d ne low ∙ (stays k d ne (omega arith) ∙ sym (get-set_other old i k x d ne)))
    (cases_eq k (length short)))
    (cases_eq k i))

-- an element that is put at the end is there
at_end : {A : Type 0} (xs : List A) (n : ℕ) (x d : A) → n ≡ length xs → get_or (xs ++ x ∷ []) n d ≡ x
at_end xs n x d is = ap (λ k. get_or (xs ++ x ∷ []) k d) is ∙ get-last xs x d

-- one more at the end
length-end : {A : Type 0} (xs : List A) (x : A) → length (xs ++ x ∷ []) ≡ length xs + 1
length-end [] x = refl
length-end (y ∷ ys) x = let e = length-end ys x in omega (arith, e)

-- the same, where what came back is put where it stood, and the other one at the end
pub turned : {A : Type 0} (old short : List A) (i n : ℕ) (x : A) → n ≡ length old → length short + 1 ≡ n → i < n
    → ((d : A) → i + 1 < n → get_or short i d ≡ get_or old (n - 1) d)
    → ((k : ℕ) (d : A) → k ≢ i → k + 1 < n → get_or short k d ≡ get_or old k d)
    → returned short i x ≡ set old i x
turned {A} old short i n x is_n shorter inside moved stays =
    ⊎_elim
    (λ (found : (other : A) × (i < length short) × (slice_get short i ≡ Some other) × (get_or short i other ≡ other)).
    let other = found.0 in
    let low : i < length short = found.1 in
    let kept : length (set short i x) ≡ length short = length-set_at short i x in
    let grown = length-end (set short i x) other in
    subst (λ got. returned_by short i x got ≡ set old i x) (sym found.2)
    (turned_back old short (set short i x ++ other ∷ []) i x (omega arith) (omega arith) (omega arith) now_moved now_stays
    (λ d. get-append (set short i x) (other ∷ []) i d (omega arith) ∙ get-set_same short i x d low)
    (λ d below. at_end (set short i x) (length short) other d (sym kept) ∙ sym (get_or_from_slice_get short i other d found.2))
    (λ k d ne below. get-append (set short i x) (other ∷ []) k d (omega arith) ∙ get-set_other short i k x d ne)))
    (λ (past : (length short ≤ i) × (slice_get short i ≡ None)).
    let late : length short ≤ i = past.0 in
    let last : i ≡ length short = omega arith in
    let grown = length-end short x in
    subst (λ got. returned_by short i x got ≡ set old i x) (sym past.1)
    (turned_back old short (short ++ x ∷ []) i x (omega arith) (omega arith) (omega arith) now_moved now_stays
    (λ d. at_end short i x d last)
    (λ d below. absurd (omega arith))
    (λ k d ne below. get-append short (x ∷ []) k d below)))
    (slice_get_cases short i).1
  where
    now_moved : (d : A) → i + 1 < length old → get_or short i d ≡ get_or old (length old - 1) d
    now_moved d more = moved d (omega arith) ∙ ap (λ m. get_or old (m - 1) d) is_n

    now_stays : (k : ℕ) (d : A) → k ≢ i → k + 1 < length old → get_or short k d ≡ get_or old k d
    now_stays k d ne below = stays k d ne (omega arith)

-- an element that is put where another one stood, which goes to the end
pub put_there : {A : Type 0} (xs new : List A) (i : ℕ) (x put other at : A) → slice_get xs i ≡ Some at → put ≡ x → other ≡ at → new ≡ set xs i put ++ other ∷ []
    → new ≡ returned xs i x
put_there xs new i x put other at here is_x is_at is =
    is ∙ (ap₂ (λ p o. set xs i p ++ o ∷ []) is_x is_at ∙ ap (returned_by xs i x) (sym here))
