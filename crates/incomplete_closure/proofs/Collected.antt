-- The members of a set of triggers after one was added.
use Rattle.std.proofs.Common.{ℕ, Bool, true, false, not, ◌&&◌, ◌||◌, ◌==◌, List, [], ◌∷◌, Ordering, nat_lt, nat_cmp, ◌≡◌, refl, ◌∙◌, ap, subst, arith, if◌then◌else◌}
use Rattle.std.specs.Ordering.{is_eq, ordering_then, match_ordering}
use Rattle.std.specs.Bool.{OnFalse}
use Rattle.std.specs.List.{list_any}
use Rattle.std.specs.BTreeMap.{is_at}
use Rattle.std.specs.BTreeSet.{insert_key}
use Rattle.std.proofs.lemmas.Bool.Decides.{nat_tests}
use Rattle.topology.specs.declared.names.Trigger.{Trigger}
use Rattle.topology.specs.Triggers.{same_trigger, lists}
use Rattle.topology.specs.Triggers.{put}
use Rattle.incomplete_closure.specs.Collection.{collect}

-- by node, then by counter
abbrev pub by_parts : Trigger → Trigger → Ordering
by_parts s t = ordering_then (nat_cmp s.node t.node) (nat_cmp s.count t.count)

equal_parts : (a b c d : ℕ) → is_eq (ordering_then (nat_cmp a b) (nat_cmp c d)) ≡ (a == b && c == d)
equal_parts a b c d = grind (arith, nat_tests)

in_order : {X : Type 0} (a b c d : ℕ) (l e g : X) → match_ordering (ordering_then (nat_cmp a b) (nat_cmp c d)) l e g
    ≡ (if nat_lt a b || (a == b && nat_lt c d) then l else if nat_lt b a || (b == a && nat_lt d c) then g else e)
in_order a b c d l e g = grind (arith, nat_tests)

module _ (by : Trigger → Trigger → Ordering) (is : (s t : Trigger) → by s t ≡ by_parts s t) where
  contains_lists : (t : Trigger) (keys : List Trigger) → list_any (is_at (by t)) keys ≡ lists keys t
  contains_lists t [] = refl
  contains_lists t (k ∷ keys) = rw (ap is_eq (is t k) ∙ equal_parts t.node k.node t.count k.count) (ap (λ b. same_trigger t k || b) (contains_lists t keys))

  insert_is_put : (t : Trigger) (keys : List Trigger) → insert_key by keys t ≡ put t keys
  insert_is_put t [] = refl
  insert_is_put t (k ∷ keys) =
      rw (is t k, insert_is_put t keys) (in_order t.node k.node t.count k.count (t ∷ k ∷ keys) (k ∷ keys) (k ∷ put t keys))

  pub put_collected : (old new : List Trigger) (t : Trigger) (added : Bool) → added ≡ not (list_any (is_at (by t)) old) → OnFalse added (new ≡ old) → new ≡ insert_key by old t → new ≡ collect t old
  put_collected old new t added is_new stays inserted =
      (elim (lists old t) as (λ b. lists old t ≡ b → new ≡ (if b then old else put t old)) [
        | true ↦ λ e. let none : added ≡ false = is_new ∙ ap not (contains_lists t old ∙ e) in subst (λ b. OnFalse b (new ≡ old)) none stays
        | false ↦ λ e. inserted ∙ insert_is_put t old
      ]) refl
