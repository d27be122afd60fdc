-- The members of a set of triggers after one was added.
use Rattle.std.proofs.Common.{ℕ, Bool, true, false, ◌&&◌, ◌||◌, ◌==◌, List, [], ◌∷◌, Ordering, Less, Equal, Greater, nat_cmp, ◌≡◌, refl, sym, ◌∙◌, ap, arith}
use Rattle.std.specs.Ordering.{ordering_then, match_ordering}
use Rattle.std.specs.BTreeSet.{insert_key}
use Rattle.std.proofs.lemmas.Bool.Decides.{nat_tests}
use Rattle.topology.specs.declared.names.Trigger.{Trigger}
use Rattle.topology.specs.Triggers.{same_trigger, lists}

-- by node, then by counter
abbrev pub by_parts : Trigger → Trigger → Ordering
by_parts s t = ordering_then (nat_cmp s.node t.node) (nat_cmp s.count t.count)

equal_parts : (a b c d m n : ℕ) → ordering_then (nat_cmp a b) (nat_cmp c d) ≡ Equal → (m == a && n == c) ≡ (m == b && n == d)
equal_parts a b c d m n e = grind (arith, nat_tests)

turn : (a b c : Bool) → (a || (b || c)) ≡ (b || (a || c))
turn true true c = refl
turn true false c = refl
turn false b c = refl

twice : (a b c : Bool) → a ≡ b → (b || c) ≡ (a || (b || c))
twice true b c e = rw (sym e) refl
twice false b c e = refl

module _ (by : Trigger → Trigger → Ordering) (is : (s t : Trigger) → by s t ≡ by_parts s t) where
  -- after an insertion the set lists the trigger and those before
  pub lists_inserted : (keys : List Trigger) (t s : Trigger) → lists (insert_key by keys t) s ≡ (same_trigger s t || lists keys s)
  lists_inserted [] t s = refl
  lists_inserted (k ∷ keys) t s = rw (is t k) (elim (by_parts t k) as (λ o. by_parts t k ≡ o → lists (match_ordering o (t ∷ k ∷ keys) (k ∷ keys) (k ∷ insert_key by keys t)) s ≡ (same_trigger s t || lists (k ∷ keys) s)) [
    | Less ↦ λ e. refl
    | Equal ↦ λ e. twice (same_trigger s t) (same_trigger s k) (lists keys s) (equal_parts t.node k.node t.count k.count s.node s.count e)
    | Greater ↦ λ e. ap (λ b. same_trigger s k || b) (lists_inserted keys t s) ∙ turn (same_trigger s k) (same_trigger s t) (lists keys s)
  ] refl)

gathered : (a b c : Bool) → ((a || b) || c) ≡ (b || (a || c))
gathered true true c = refl
gathered true false c = refl
gathered false b c = refl

-- one more of the list was inserted, and is no longer to come
pub one_more : (keys new left rest all : List Trigger) (x t : Trigger) → lists new t ≡ (same_trigger t x || lists keys t) → left ≡ x ∷ rest → (lists keys t || lists left t) ≡ lists all t
    → (lists new t || lists rest t) ≡ lists all t
one_more keys new left rest all x t inserted is before = rw inserted (gathered (same_trigger t x) (lists keys t) (lists rest t) ∙ (ap (λ (l : List Trigger). lists keys t || lists l t) (sym is) ∙ before))

-- all are put in
pub all_in : (keys all : List Trigger) (t : Trigger) → (lists keys t || false) ≡ lists all t → lists keys t ≡ lists all t
all_in keys all t before = by (lists keys t) before
  where
    by : (b : Bool) → (b || false) ≡ lists all t → b ≡ lists all t
    by true e = e
    by false e = e
