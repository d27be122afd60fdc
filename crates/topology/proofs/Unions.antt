-- Laws of triggers in rising order.
use Rattle.std.proofs.lemmas.List.{take_more}
use Rattle.std.proofs.Common.{ℕ, ◌+◌, ◌<◌, length, take, get_or, Bool, true, false, ◌||◌, List, [], ◌∷◌, ◌++◌, ◌≡◌, ◌≢◌, ◌⊎◌, inl, inr, refl, sym, ◌∙◌, ap, ap₂, subst, arith}
use Rattle.std.specs.Prelude.{if◌then◌else◌}
use Rattle.std.specs.List.{list_any, AllByRecursion}
use Rattle.std.proofs.lemmas.Bool.Decides.{nat_tests}
use Rattle.topology.specs.declared.names.Trigger.{Trigger}
use Rattle.topology.specs.Lists.{Among}
use Rattle.topology.specs.Triggers.{same_trigger, earlier, Ascend, put, union}
use Rattle.topology.proofs.Tests.{or_swap}

a_trigger : ℕ → ℕ → Trigger
a_trigger n c = record { node = n; count = c }

pub same_is : (s t : Trigger) → same_trigger s t ≡ true → s ≡ t
unfolding a_trigger
same_is s t e =
    let node : s.node ≡ t.node = grind (arith, nat_tests) in
    let count : s.count ≡ t.count = grind (arith, nat_tests) in
    ap₂ a_trigger node count

-- if neither is before the other, both are the same
pub neither : (s t : Trigger) → earlier s t ≡ false → earlier t s ≡ false → s ≡ t
neither s t e f = same_is s t (grind (arith, nat_tests))

-- ---- members

pub in_put : (t s : Trigger) (ts : List Trigger) → (s ≡ t) ⊎ Among t ts → Among t (put s ts)
in_put t s [] (inl e) = inl e
in_put t s [] (inr a) = absurd a
in_put t s (x ∷ ts) m =
    (elim (earlier s x) as (λ b. earlier s x ≡ b → Among t (if b then s ∷ x ∷ ts else if earlier x s then x ∷ put s ts else x ∷ ts)) [
      | true ↦ λ e. m
      | false ↦ λ e.
          (elim (earlier x s) as (λ c. earlier x s ≡ c → Among t (if c then x ∷ put s ts else x ∷ ts)) [
            | true ↦ λ f. behind (λ n. in_put t s ts n) m
            | false ↦ λ f. same (neither s x e f) m
          ]) refl
    ]) refl
  where
    behind : ((s ≡ t) ⊎ Among t ts → Among t (put s ts)) → (s ≡ t) ⊎ ((x ≡ t) ⊎ Among t ts) → (x ≡ t) ⊎ Among t (put s ts)
    behind later (inl e) = inr (later (inl e))
    behind later (inr (inl e)) = inl e
    behind later (inr (inr a)) = inr (later (inr a))

    same : s ≡ x → (s ≡ t) ⊎ ((x ≡ t) ⊎ Among t ts) → (x ≡ t) ⊎ Among t ts
    same q (inl e) = inl (sym q ∙ e)
    same q (inr m) = m

pub in_put_either : (t s : Trigger) (ts : List Trigger) → Among s (put t ts) → (t ≡ s) ⊎ Among s ts
in_put_either t s [] (inl e) = inl e
in_put_either t s [] (inr a) = absurd a
in_put_either t s (x ∷ ts) a =
    (elim (earlier t x) as (λ b. Among s (if b then t ∷ x ∷ ts else if earlier x t then x ∷ put t ts else x ∷ ts) → (t ≡ s) ⊎ ((x ≡ s) ⊎ Among s ts)) [
      | true ↦ λ m. m
      | false ↦ elim (earlier x t) as (λ c. Among s (if c then x ∷ put t ts else x ∷ ts) → (t ≡ s) ⊎ ((x ≡ s) ⊎ Among s ts)) [
        | true ↦ λ m. behind (in_put_either t s ts) m
        | false ↦ λ m. inr m
      ]
    ]) a
  where
    further : (t ≡ s) ⊎ Among s ts → (t ≡ s) ⊎ ((x ≡ s) ⊎ Among s ts)
    further (inl e) = inl e
    further (inr b) = inr (inr b)

    behind : (Among s (put t ts) → (t ≡ s) ⊎ Among s ts) → (x ≡ s) ⊎ Among s (put t ts) → (t ≡ s) ⊎ ((x ≡ s) ⊎ Among s ts)
    behind later (inl e) = inr (inl e)
    behind later (inr b) = further (later b)

-- the members of a union are those of both lists
pub in_union : (t : Trigger) (ts us : List Trigger) → Among t ts ⊎ Among t us → Among t (union ts us)
unfolding union
in_union t [] us (inl a) = absurd a
in_union t [] us (inr a) = a
in_union t (s ∷ ts) us (inl (inl e)) = in_put t s (union ts us) (inl e)
in_union t (s ∷ ts) us (inl (inr a)) = in_put t s (union ts us) (inr (in_union t ts us (inl a)))
in_union t (s ∷ ts) us (inr a) = in_put t s (union ts us) (inr (in_union t ts us (inr a)))

pub of_union : (t : Trigger) (ts us : List Trigger) → Among t (union ts us) → Among t ts ⊎ Among t us
unfolding union
of_union t [] us a = inr a
of_union t (s ∷ ts) us a = either (in_put_either s t (union ts us) a) (of_union t ts us)
  where
    later : Among t ts ⊎ Among t us → ((s ≡ t) ⊎ Among t ts) ⊎ Among t us
    later (inl b) = inl (inr b)
    later (inr b) = inr b

    either : (s ≡ t) ⊎ Among t (union ts us) → (Among t (union ts us) → Among t ts ⊎ Among t us) → ((s ≡ t) ⊎ Among t ts) ⊎ Among t us
    either (inl e) more = inl (inl e)
    either (inr b) more = later (more b)

-- ---- tests

or_twice : (a b : Bool) → (a || b) ≡ (a || (a || b))
or_twice true b = refl
or_twice false b = refl

any_put : (test : Trigger → Bool) (t : Trigger) (ts : List Trigger) → list_any test (put t ts) ≡ (test t || list_any test ts)
any_put test t [] = refl
any_put test t (x ∷ ts) =
    (elim (earlier t x) as (λ b. earlier t x ≡ b → list_any test (if b then t ∷ x ∷ ts else if earlier x t then x ∷ put t ts else x ∷ ts) ≡ (test t || (test x || list_any test ts))) [
      | true ↦ λ e. refl
      | false ↦ λ e.
          (elim (earlier x t) as (λ c. earlier x t ≡ c → list_any test (if c then x ∷ put t ts else x ∷ ts) ≡ (test t || (test x || list_any test ts))) [
            | true ↦ λ f. rw (any_put test t ts) (or_swap (test x) (test t) (list_any test ts))
            | false ↦ λ f. subst (λ z. (test x || list_any test ts) ≡ (test z || (test x || list_any test ts))) (sym (neither t x e f)) (or_twice (test x) (list_any test ts))
          ]) refl
    ]) refl

or_or : (a b c : Bool) → (a || (b || c)) ≡ ((a || b) || c)
or_or true b c = refl
or_or false b c = refl

-- a member of a union passes a test exactly where a member of one of the lists does
pub any_union : (test : Trigger → Bool) (ts us : List Trigger) → list_any test (union ts us) ≡ (list_any test ts || list_any test us)
unfolding union
any_union test [] us = refl
any_union test (t ∷ ts) us = any_put test t (union ts us) ∙ rw (any_union test ts us) (or_or (test t) (list_any test ts) (list_any test us))

-- ---- order

abbrev pub AllAfter : Trigger → List Trigger → Type 0
AllAfter t ts = AllByRecursion (λ s. earlier t s ≡ true) ts

after_put : (t s : Trigger) (ts : List Trigger) → earlier t s ≡ true → AllAfter t ts → AllAfter t (put s ts)
after_put t s [] e all = (e, tt)
after_put t s (x ∷ ts) e all =
    elim (earlier s x) as (λ b. AllAfter t (if b then s ∷ x ∷ ts else if earlier x s then x ∷ put s ts else x ∷ ts)) [
      | true ↦ (e, all)
      | false ↦ elim (earlier x s) as (λ c. AllAfter t (if c then x ∷ put s ts else x ∷ ts)) [
        | true ↦ (all.0, after_put t s ts e all.1)
        | false ↦ all
      ]
    ]

pub after_all : (t x : Trigger) (ts : List Trigger) → earlier t x ≡ true → AllAfter x ts → AllAfter t ts
after_all t x [] e all = tt
after_all t x (s ∷ ts) e all = (grind (arith, nat_tests, all.0, e), after_all t x ts e all.1)

put_ascends : (t : Trigger) (ts : List Trigger) → Ascend ts → Ascend (put t ts)
put_ascends t [] a = (tt, tt)
put_ascends t (x ∷ ts) a =
    (elim (earlier t x) as (λ b. earlier t x ≡ b → Ascend (if b then t ∷ x ∷ ts else if earlier x t then x ∷ put t ts else x ∷ ts)) [
      | true ↦ λ e. ((e, after_all t x ts e a.0), a)
      | false ↦ λ e. (elim (earlier x t) as (λ c. earlier x t ≡ c → Ascend (if c then x ∷ put t ts else x ∷ ts)) [
        | true ↦ λ f. (after_put x t ts f a.0, put_ascends t ts a.1)
        | false ↦ λ f. a
      ]) refl
    ]) refl

-- a union rises where its second list does
pub union_ascends : (ts us : List Trigger) → Ascend us → Ascend (union ts us)
unfolding union
union_ascends [] us a = a
union_ascends (t ∷ ts) us a = put_ascends t (union ts us) (union_ascends ts us a)

-- ---- nothing

put_some : (t : Trigger) (ts : List Trigger) → put t ts ≢ []
put_some t [] e = cc e
put_some t (x ∷ ts) e =
    (elim (earlier t x) as (λ b. (if b then t ∷ x ∷ ts else if earlier x t then x ∷ put t ts else x ∷ ts) ≡ [] → ⊥) [
      | true ↦ λ q. absurd (cc q)
      | false ↦ elim (earlier x t) as (λ c. (if c then x ∷ put t ts else x ∷ ts) ≡ [] → ⊥) [ true ↦ λ q. absurd (cc q) | false ↦ λ q. absurd (cc q) ]
    ]) e

-- a union is empty where both lists are
pub union_none : (ts us : List Trigger) → union ts us ≡ [] → (ts ≡ []) × (us ≡ [])
unfolding union
union_none [] us e = (refl, e)
union_none (t ∷ ts) us e = absurd (put_some t (union ts us) e)

-- ---- one list

not_both : (s t : Trigger) → earlier s t ≡ true → earlier t s ≡ true → ⊥
not_both s t e f = grind (arith, nat_tests)

not_self : (t : Trigger) → earlier t t ≡ true → ⊥
not_self t e = grind (arith, nat_tests)

each_at : (P : Trigger → Type 0) (xs : List Trigger) (x : Trigger) → AllByRecursion P xs → Among x xs → P x
each_at P [] x all a = absurd a
each_at P (y ∷ ys) x all (inl e) = subst P e all.0
each_at P (y ∷ ys) x all (inr a) = each_at P ys x all.1 a

-- ascending lists with the same members have the same first one
first_same : (s t : Trigger) (ss ts : List Trigger) → Ascend (s ∷ ss) → Ascend (t ∷ ts) → Among s (t ∷ ts) → Among t (s ∷ ss) → s ≡ t
first_same s t ss ts a b (inl e) n = sym e
first_same s t ss ts a b (inr m) (inl e) = e
first_same s t ss ts a b (inr m) (inr n) = absurd (not_both t s (each_at (λ z. earlier t z ≡ true) ts s b.0 m) (each_at (λ z. earlier s z ≡ true) ss t a.0 n))

-- the first member of an ascending list does not occur again
behind : (t s : Trigger) (ts : List Trigger) → Ascend (t ∷ ts) → Among s (t ∷ ts) → earlier t s ≡ true → Among s ts
behind t s ts a (inl e) f = absurd (not_self t (subst (λ z. earlier t z ≡ true) (sym e) f))
behind t s ts a (inr m) f = m

-- ascending lists with the same members are the same
pub same_members : (ss ts : List Trigger) → Ascend ss → Ascend ts → ((x : Trigger) → Among x ss → Among x ts) → ((x : Trigger) → Among x ts → Among x ss) → ss ≡ ts
same_members [] [] a b f g = refl
same_members [] (t ∷ ts) a b f g = absurd (g t (inl refl))
same_members (s ∷ ss) [] a b f g = absurd (f s (inl refl))
same_members (s ∷ ss) (t ∷ ts) a b f g =
    let e = first_same s t ss ts a b (f s (inl refl)) (g t (inl refl)) in
    ap₂ (λ x xs. x ∷ xs) e (same_members ss ts a.1 b.1
    (λ x m. behind t x ts b (f x (inr m)) (subst (λ z. earlier z x ≡ true) e (each_at (λ z. earlier s z ≡ true) ss x a.0 m)))
    (λ x m. behind s x ss a (g x (inr m)) (subst (λ z. earlier z x ≡ true) (sym e) (each_at (λ z. earlier t z ≡ true) ts x b.0 m))))

-- an ascending list with the members of both is the union, however it was made
pub is_union : (ts us xs : List Trigger) → Ascend us → Ascend xs → ((x : Trigger) → Among x xs → Among x ts ⊎ Among x us) → ((x : Trigger) → Among x ts ⊎ Among x us → Among x xs)
    → xs ≡ union ts us
is_union ts us xs a b f g =
    same_members xs (union ts us) b (union_ascends ts us a) (λ x m. in_union x ts us (f x m)) (λ x m. g x (of_union x ts us m))

-- ---- merging, step by step

put_front : (t : Trigger) (ts : List Trigger) → AllAfter t ts → put t ts ≡ t ∷ ts
put_front t [] all = refl
put_front t (x ∷ ts) all = rw all.0 refl

earlier_not : (s t : Trigger) → earlier s t ≡ true → earlier t s ≡ false
earlier_not s t e = grind (arith, nat_tests)

both_after : (t : Trigger) (ts us : List Trigger) → AllAfter t ts → AllAfter t us → AllAfter t (union ts us)
unfolding union
both_after t [] us a b = b
both_after t (s ∷ ts) us a b = after_put t s (union ts us) a.0 (both_after t ts us a.1 b)

-- the first of the first list comes first, where it is before all others
pub union_first : (t : Trigger) (ts us : List Trigger) → AllAfter t ts → AllAfter t us → union (t ∷ ts) us ≡ t ∷ union ts us
unfolding union
union_first t ts us a b = put_front t (union ts us) (both_after t ts us a b)

-- the first of the second list comes first
pub union_second : (u : Trigger) (ts us : List Trigger) → AllAfter u ts → union ts (u ∷ us) ≡ u ∷ union ts us
unfolding union
union_second u [] us a = refl
union_second u (t ∷ ts) us a = rw (union_second u ts us a.1, earlier_not u t a.0, a.0) refl

-- where both first members are the same, it comes once
pub union_same : (t : Trigger) (ts us : List Trigger) → AllAfter t ts → union (t ∷ ts) (t ∷ us) ≡ t ∷ union ts us
unfolding union
union_same t ts us a = let no : earlier t t ≡ false = grind (arith, nat_tests) in rw (union_second t ts us a, no) refl

-- the union of an ascending list and an empty one is the list
pub union_rest : (ts : List Trigger) → Ascend ts → union ts [] ≡ ts
unfolding union
union_rest [] a = refl
union_rest (t ∷ ts) a = rw (union_rest ts a.1) (put_front t ts a.0)

-- one more trigger at the end of the first list
pub union_push : (ts us : List Trigger) (t : Trigger) → Ascend us → union (ts ++ t ∷ []) us ≡ put t (union ts us)
unfolding union
union_push ts us t a =
    same_members (union (ts ++ t ∷ []) us) (put t (union ts us)) (union_ascends (ts ++ t ∷ []) us a) (put_ascends t (union ts us) (union_ascends ts us a))
    (λ x m. in_put x t (union ts us) (to (of_union x (ts ++ t ∷ []) us m)))
    (λ x m. from (in_put_either t x (union ts us) m))
  where
    at_end : (x : Trigger) (xs : List Trigger) → Among x (xs ++ t ∷ []) → (t ≡ x) ⊎ Among x xs
    at_end x [] (inl e) = inl e
    at_end x [] (inr none) = absurd none
    at_end x (y ∷ xs) (inl e) = inr (inl e)
    at_end x (y ∷ xs) (inr m) = later (at_end x xs m)
      where
        later : (t ≡ x) ⊎ Among x xs → (t ≡ x) ⊎ ((y ≡ x) ⊎ Among x xs)
        later (inl e) = inl e
        later (inr n) = inr (inr n)

    in_end : (x : Trigger) (xs : List Trigger) → (t ≡ x) ⊎ Among x xs → Among x (xs ++ t ∷ [])
    in_end x [] (inl e) = inl e
    in_end x [] (inr none) = absurd none
    in_end x (y ∷ xs) (inl e) = inr (in_end x xs (inl e))
    in_end x (y ∷ xs) (inr (inl e)) = inl e
    in_end x (y ∷ xs) (inr (inr m)) = inr (in_end x xs (inr m))

    to : {x : Trigger} → Among x (ts ++ t ∷ []) ⊎ Among x us → (t ≡ x) ⊎ Among x (union ts us)
    to {x} (inl m) = split (at_end x ts m)
      where
        split : (t ≡ x) ⊎ Among x ts → (t ≡ x) ⊎ Among x (union ts us)
        split (inl e) = inl e
        split (inr n) = inr (in_union x ts us (inl n))
    to {x} (inr m) = inr (in_union x ts us (inr m))

    from : {x : Trigger} → (t ≡ x) ⊎ Among x (union ts us) → Among x (union (ts ++ t ∷ []) us)
    from {x} (inl e) = in_union x (ts ++ t ∷ []) us (inl (in_end x ts (inl e)))
    from {x} (inr m) = split (of_union x ts us m)
      where
        split : Among x ts ⊎ Among x us → Among x (union (ts ++ t ∷ []) us)
        split (inl n) = in_union x (ts ++ t ∷ []) us (inl (in_end x ts (inr n)))
        split (inr n) = in_union x (ts ++ t ∷ []) us (inr n)

-- the next trigger of the first list
pub union_next : (ts us list new : List Trigger) (i : ℕ) (t : Trigger) → Ascend us → i < length ts → t ≡ get_or ts i t → list ≡ union (take i ts) us → new ≡ put t list → new ≡ union (take (i + 1) ts) us
union_next ts us list new i t a inside is so_far grown =
    let more : take (i + 1) ts ≡ take i ts ++ t ∷ [] = take_more ts i t inside ∙ ap (λ x. take i ts ++ x ∷ []) (sym is) in
    grown ∙ (ap (put t) so_far ∙ (sym (union_push (take i ts) us t a) ∙ ap (λ xs. union xs us) (sym more)))
