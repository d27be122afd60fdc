-- Merging two ascending lists of triggers gives their union.
use Rattle.std.proofs.lemmas.List.{drop_all}
use Rattle.std.proofs.Common.{ℕ, ◌+◌, ◌<◌, ◌≤◌, suc, ◌==◌, length, drop, get_or, true, false, List, [], ◌∷◌, ◌++◌, ◌≡◌, ◌⊎◌, inl, inr, refl, sym, ◌∙◌, ap, ap₂, arith}
use Rattle.topology.specs.declared.names.Trigger.{Trigger}
use Rattle.topology.specs.Triggers.{earlier, Ascend, union}
use Rattle.topology.proofs.Tests.{same_is}
use Rattle.topology.proofs.Rising.{ascend_drop, first_left, left_rises}
use Rattle.topology.proofs.Unions.{after_all, neither, union_first, union_second, union_same, union_rest}

-- the merged part followed by the union of what is left of both is the union of both
pub record Merges (ts us list : List Trigger) (i j : ℕ) : Type 0 where
  pub here : i ≤ length ts
  pub there : j ≤ length us
  pub whole : list ++ union (drop i ts) (drop j us) ≡ union ts us

push_on : (xs ys : List Trigger) (x : Trigger) → (xs ++ x ∷ []) ++ ys ≡ xs ++ x ∷ ys
push_on [] ys x = refl
push_on (z ∷ xs) ys x = ap (λ l. z ∷ l) (push_on xs ys x)

-- nothing is merged yet
pub merge_none : (ts us : List Trigger) → Merges ts us [] 0 0
merge_none ts us = record { here = omega arith; there = omega arith; whole = refl }

-- the first of the first list is earlier
pub merge_first : (ts us list : List Trigger) (i j : ℕ) (t u : Trigger) → Ascend ts → Ascend us → i < length ts → j < length us → t ≡ get_or ts i t → u ≡ get_or us j u
    → earlier t u ≡ true → Merges ts us list i j → Merges ts us (list ++ t ∷ []) (i + 1) j
merge_first ts us list i j t u rise also_rise inside within is also_is e m =
    let left = first_left ts i t inside is in
    let right = first_left us j u within also_is in
    let after = left_rises ts i t left rise in
    let behind = left_rises us j u right also_rise in
    let next : union (drop i ts) (drop j us) ≡ t ∷ union (drop (i + 1) ts) (drop j us) =
    ap₂ union left right
    ∙ (union_first t (drop (i + 1) ts) (u ∷ drop (j + 1) us) after.0 (e, after_all t u (drop (j + 1) us) e behind.0)
    ∙ ap (λ l. t ∷ union (drop (i + 1) ts) l) (sym right)) in
    record {
      here = omega arith;
      there = m.there;
      whole = push_on list (union (drop (i + 1) ts) (drop j us)) t ∙ (ap (λ l. list ++ l) (sym next) ∙ m.whole);
    }

-- the first of the second list is earlier
pub merge_second : (ts us list : List Trigger) (i j : ℕ) (t u : Trigger) → Ascend ts → Ascend us → i < length ts → j < length us → t ≡ get_or ts i t → u ≡ get_or us j u
    → earlier u t ≡ true → Merges ts us list i j → Merges ts us (list ++ u ∷ []) i (j + 1)
merge_second ts us list i j t u rise also_rise inside within is also_is e m =
    let left = first_left ts i t inside is in
    let right = first_left us j u within also_is in
    let after = left_rises ts i t left rise in
    let next : union (drop i ts) (drop j us) ≡ u ∷ union (drop i ts) (drop (j + 1) us) =
    ap₂ union left right
    ∙ (union_second u (t ∷ drop (i + 1) ts) (drop (j + 1) us) (e, after_all u t (drop (i + 1) ts) e after.0)
    ∙ ap (λ l. u ∷ union l (drop (j + 1) us)) (sym left)) in
    record {
      here = m.here;
      there = omega arith;
      whole = push_on list (union (drop i ts) (drop (j + 1) us)) u ∙ (ap (λ l. list ++ l) (sym next) ∙ m.whole);
    }

-- both first triggers are the same
pub merge_same : (ts us list : List Trigger) (i j : ℕ) (t u : Trigger) → Ascend ts → i < length ts → j < length us → t ≡ get_or ts i t → u ≡ get_or us j u
    → earlier t u ≡ false → earlier u t ≡ false → Merges ts us list i j → Merges ts us (list ++ t ∷ []) (i + 1) (j + 1)
merge_same ts us list i j t u rise inside within is also_is e f m =
    let left = first_left ts i t inside is in
    let right = first_left us j u within also_is ∙ ap (λ x. x ∷ drop (j + 1) us) (sym (neither t u e f)) in
    let after = left_rises ts i t left rise in
    let next : union (drop i ts) (drop j us) ≡ t ∷ union (drop (i + 1) ts) (drop (j + 1) us) =
    ap₂ union left right ∙ union_same t (drop (i + 1) ts) (drop (j + 1) us) after.0 in
    record {
      here = omega arith;
      there = omega arith;
      whole = push_on list (union (drop (i + 1) ts) (drop (j + 1) us)) t ∙ (ap (λ l. list ++ l) (sym next) ∙ m.whole);
    }

nothing_behind : (xs : List Trigger) → xs ++ [] ≡ xs
nothing_behind [] = refl
nothing_behind (x ∷ xs) = ap (λ l. x ∷ l) (nothing_behind xs)

zero_only : (n : ℕ) → (suc n == 0) ≡ true → ⊥
zero_only n e = let none = same_is (suc n) 0 e in cc none

-- one list is used up: what is left of the other follows
pub merge_ends : (ts us list : List Trigger) (i j : ℕ) → Ascend ts → (length ts ≤ i) ⊎ (length us ≤ j) → Merges ts us list i j → (list ++ drop i ts) ++ drop j us ≡ union ts us
unfolding union
merge_ends ts us list i j rise (inl done) m =
    let none = drop_all i ts done in
    ap (λ l. (list ++ l) ++ drop j us) none ∙ (ap (λ l. l ++ drop j us) (nothing_behind list) ∙ (ap (λ l. list ++ union l (drop j us)) (sym none) ∙ m.whole))
merge_ends ts us list i j rise (inr done) m =
    let none = drop_all j us done in
    ap (λ l. (list ++ drop i ts) ++ l) none
    ∙ (nothing_behind (list ++ drop i ts)
    ∙ (ap (λ l. list ++ l) (sym (union_rest (drop i ts) (ascend_drop ts i rise)))
    ∙ (ap (λ l. list ++ union (drop i ts) l) (sym none) ∙ m.whole)))

-- the union of an empty list and another is the other
pub union_of_none : (ts us : List Trigger) → (length ts == 0) ≡ true → union ts us ≡ us
unfolding union
union_of_none [] us e = refl
union_of_none (t ∷ ts) us e = absurd (zero_only (length ts) e)

pub union_with_none : (ts us : List Trigger) → Ascend ts → (length us == 0) ≡ true → union ts us ≡ ts
union_with_none ts [] rise e = union_rest ts rise
union_with_none ts (u ∷ us) rise e = absurd (zero_only (length us) e)
