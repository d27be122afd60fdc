-- Tests that each element of a list passes.
use Rattle.std.proofs.Common.{ℕ, zero, suc, ◌+◌, ◌<◌, Bool, true, false, cond, ◌==◌, ◌||◌, List, [], ◌∷◌, ◌++◌, ◌≡◌, ◌⊎◌, ⊎_elim, inl, inr, refl, subst, arith, map, filter, flat_map}
use Rattle.std.specs.List.{list_all, list_any, range_with_len}
use Rattle.topology.specs.Lists.{has, Among}
use Rattle.topology.proofs.Tests.{and_left, and_right, and_both, or_first, or_left, or_right, or_second, same_is, same_refl}

-- if all elements of two lists pass, all of their concatenation do
pub each_append : {A : Type 0} (p : A → Bool) (xs ys : List A) → list_all p xs ≡ true → list_all p ys ≡ true → list_all p (xs ++ ys) ≡ true
each_append p [] ys a b = b
each_append p (x ∷ xs) ys a b =
    and_both (p x) (list_all p (xs ++ ys)) (and_left (p x) (list_all p xs) a) (each_append p xs ys (and_right (p x) (list_all p xs) a) b)

-- if what is made of each element passes, all that is made of the list does
pub each_map : {A B : Type 0} (p : B → Bool) (f : A → B) (xs : List A) → ((x : A) → Among x xs → p (f x) ≡ true) → list_all p (map f xs) ≡ true
each_map p f [] all = refl
each_map p f (x ∷ xs) all = and_both (p (f x)) (list_all p (map f xs)) (all x (inl refl)) (each_map p f xs (λ y there. all y (inr there)))

-- if all that is made of each element passes, all that is made of the list does
pub each_flat : {A B : Type 0} (p : B → Bool) (f : A → List B) (xs : List A) → ((x : A) → Among x xs → list_all p (f x) ≡ true) → list_all p (flat_map f xs) ≡ true
each_flat p f [] all = refl
each_flat p f (x ∷ xs) all = each_append p (f x) (flat_map f xs) (all x (inl refl)) (each_flat p f xs (λ y there. all y (inr there)))

-- what a test leaves of a list passes what the list passes
pub each_filter : {A : Type 0} (p test : A → Bool) (xs : List A) → list_all p xs ≡ true → list_all p (filter test xs) ≡ true
each_filter p test [] all = refl
each_filter p test (x ∷ xs) all =
    let rest = each_filter p test xs (and_right (p x) (list_all p xs) all) in
    elim (test x) as (λ t. list_all p (cond t (x ∷ filter test xs) (filter test xs)) ≡ true) [
      | true ↦ and_both (p x) (list_all p (filter test xs)) (and_left (p x) (list_all p xs) all) rest
      | false ↦ rest
    ]

-- an element of a filtered list is in the list
pub among_filter : {A : Type 0} (test : A → Bool) (xs : List A) (x : A) → Among x (filter test xs) → Among x xs
among_filter test [] x there = there
among_filter test (y ∷ ys) x there =
    (elim (test y) as (λ t. Among x (cond t (y ∷ filter test ys) (filter test ys)) → Among x (y ∷ ys)) [
      | true ↦ λ a. ⊎_elim (λ (same : y ≡ x). inl same) (λ (later : Among x (filter test ys)). inr (among_filter test ys x later)) a
      | false ↦ λ a. inr (among_filter test ys x a)
    ]) there

-- an element of a filtered list passes the test
pub passing_filter : {A : Type 0} (test : A → Bool) (xs : List A) (x : A) → Among x (filter test xs) → test x ≡ true
passing_filter test [] x there = absurd there
passing_filter test (y ∷ ys) x there =
    (elim (test y) as (λ t. test y ≡ t → Among x (cond t (y ∷ filter test ys) (filter test ys)) → test x ≡ true) [
      | true ↦ λ e a. ⊎_elim (λ (same : y ≡ x). subst (λ z. test z ≡ true) same e) (λ (later : Among x (filter test ys)). passing_filter test ys x later) a
      | false ↦ λ e a. passing_filter test ys x a
    ]) refl there

-- ---- tests that no element passes

-- if no element of a concatenation passes, none of either list does
none_append : {A : Type 0} (test : A → Bool) (xs ys : List A) → list_any test (xs ++ ys) ≡ false → (list_any test xs ≡ false) × (list_any test ys ≡ false)
none_append test [] ys none = (refl, none)
none_append test (x ∷ xs) ys none =
    let rest = none_append test xs ys (or_right (test x) (list_any test (xs ++ ys)) none) in
    (neither (test x) (list_any test xs) (or_left (test x) (list_any test (xs ++ ys)) none) rest.0, rest.1)
  where
    neither : (a b : Bool) → a ≡ false → b ≡ false → (a || b) ≡ false
    neither a b x y = rw (x, y) refl

pub none_first : {A : Type 0} (test : A → Bool) (xs ys : List A) → list_any test (xs ++ ys) ≡ false → list_any test xs ≡ false
none_first test xs ys none = (none_append test xs ys none).0

pub none_last : {A : Type 0} (test : A → Bool) (xs ys : List A) → list_any test (xs ++ ys) ≡ false → list_any test ys ≡ false
none_last test xs ys none = (none_append test xs ys none).1

-- if nothing that is made of a list passes, nothing that is made of one of its elements does
pub none_flat : {A B : Type 0} (test : B → Bool) (f : A → List B) (xs : List A) (x : A) → list_any test (flat_map f xs) ≡ false → Among x xs → list_any test (f x) ≡ false
none_flat test f [] x none there = absurd there
none_flat test f (y ∷ ys) x none there =
    ⊎_elim (λ (same : y ≡ x). subst (λ z. list_any test (f z) ≡ false) same (none_first test (f y) (flat_map f ys) none))
    (λ (later : Among x ys). none_flat test f ys x (none_last test (f y) (flat_map f ys) none) later) there

-- if nothing that is made of a list passes, what is made of one of its elements does not
pub none_made : {A B : Type 0} (test : B → Bool) (f : A → B) (xs : List A) (x : A) → list_any test (map f xs) ≡ false → Among x xs → test (f x) ≡ false
none_made test f [] x none there = absurd there
none_made test f (y ∷ ys) x none there =
    ⊎_elim (λ (same : y ≡ x). subst (λ z. test (f z) ≡ false) same (or_left (test (f y)) (list_any test (map f ys)) none))
    (λ (later : Among x ys). none_made test f ys x (or_right (test (f y)) (list_any test (map f ys)) none) later) there

-- ---- where members come from

-- an element of a concatenation is in one of the two lists
pub among_append : {A : Type 0} (xs ys : List A) (x : A) → Among x (xs ++ ys) → Among x xs ⊎ Among x ys
among_append [] ys x there = inr there
among_append (z ∷ xs) ys x there =
    ⊎_elim (λ (same : z ≡ x). inl (inl same))
    (λ (later : Among x (xs ++ ys)). ⊎_elim (λ (a : Among x xs). inl (inr a)) (λ (b : Among x ys). inr b) (among_append xs ys x later)) there

-- an element of a mapped list is made of one element of the list
pub among_made : {A B : Type 0} (f : A → B) (xs : List A) (y : B) → Among y (map f xs) → (x : A) × Among x xs × (f x ≡ y)
among_made f [] y there = absurd there
among_made f (x ∷ xs) y there =
    ⊎_elim (λ (same : f x ≡ y). (x, inl refl, same))
    (λ (later : Among y (map f xs)). let one = among_made f xs y later in (one.0, inr one.1, one.2)) there

-- an element of the joined lists is in one of them
pub among_flat : {A B : Type 0} (f : A → List B) (xs : List A) (y : B) → Among y (flat_map f xs) → (x : A) × Among x xs × Among y (f x)
among_flat f [] y there = absurd there
among_flat f (x ∷ xs) y there =
    ⊎_elim (λ (here : Among y (f x)). (x, inl refl, here))
    (λ (later : Among y (flat_map f xs)). let one = among_flat f xs y later in (one.0, inr one.1, one.2)) (among_append (f x) (flat_map f xs) y there)

-- a number that the test finds in a list is in the list
pub has_among : (ns : List ℕ) (n : ℕ) → has ns n ≡ true → Among n ns
has_among [] n there = absurd (cc there)
has_among (m ∷ ns) n there =
    (elim (m == n) as (λ t. (m == n) ≡ t → (t || has ns n) ≡ true → Among n (m ∷ ns)) [
      | true ↦ λ e a. inl (same_is m n e)
      | false ↦ λ e a. inr (has_among ns n a)
    ]) refl there

-- the test finds a number that is in a list
pub among_has : (ns : List ℕ) (n : ℕ) → Among n ns → has ns n ≡ true
among_has [] n there = absurd there
among_has (m ∷ ns) n there =
    ⊎_elim (λ (same : m ≡ n). or_first (m == n) (has ns n) (subst (λ z. (m == z) ≡ true) same (same_refl m)))
    (λ (later : Among n ns). or_second (m == n) (has ns n) (among_has ns n later)) there

-- a number of a range is below its end
pub among_range : (a n p : ℕ) → Among p (range_with_len a n) → p < a + n
among_range a zero p there = absurd there
among_range a (suc n) p there =
    ⊎_elim (λ (same : a ≡ p). omega arith) (λ (later : Among p (range_with_len (a + 1) n)). let low = among_range (a + 1) n p later in omega arith) there
