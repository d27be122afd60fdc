-- Preferences that are sorted and added again: each is found as before.
use Rattle.std.proofs.Common.{◌≡◌, ℕ, ◌≤◌, Bool, true, false, cond, ◌==◌, List, [], ◌∷◌, ◌++◌, filter, find, inl, inr, true≢false, refl, sym, ap, ap₂, ◌∙◌, subst}
use Rattle.std.specs.Prelude.{Option, Some, None, option_map, if◌then◌else◌}
use Rattle.std.specs.List.{list_any, flat_map, AllByRecursion}
use Rattle.std.proofs.lemmas.List.Folds.{list_any-append}
use Rattle.std.proofs.lemmas.Bool.{cases_Bool}
use Rattle.std.proofs.lemmas.Option.{none-some, same_Some}
use Rattle.topology.specs.declared.links.Pref.{Pref}
use Rattle.topology.specs.Lists.{has, ascending}
use Rattle.topology.specs.Net.{Net, linked, neighbours, prefers, PrefersLinked, IsValid}
use Rattle.topology.specs.Building.{put_preference}
use Rattle.topology.proofs.Tests.{and_left, and_right, and_both, or_first, or_second, or_cases, same_is, same_refl}
use Rattle.topology.proofs.Ascending.{has-ascending}
use Rattle.topology.proofs.Neighbours.{linked_nodes, neighbours_linked, not_linked_with_itself}
use Rattle.schedule_file.specs.Printing.{pref_with, added, sorted_preferences}

-- a preference of the network, between nodes with a link
pub record Given (net : Net) (pref : Pref) : Type 0 where
  pub joined : linked net pref.a pref.b ≡ true
  pub found : option_map (λ p. p.value) (find (prefers pref.a pref.b) net.preferences) ≡ Some pref.value
  pub small : pref.value ≤ 1000000

-- the two ends of a link differ
pub differs : (net : Net) → IsValid net → (a b : ℕ) → linked net a b ≡ true → (a == b) ≡ false
differs net valid a b e =
    elim (cases_Bool (a == b)) [
      | inl same ↦ absurd (true≢false (sym (subst (λ n. linked net a n ≡ true) (sym (same_is a b same)) e) ∙ not_linked_with_itself net a valid))
      | inr other ↦ other
    ]

-- what `find` returns passes, and has what all elements have
pub found_each : {X : Type 0} (P : X → Type 0) (p : X → Bool) (xs : List X) (x : X) → AllByRecursion P xs → find p xs ≡ Some x → P x × (p x ≡ true)
found_each P p [] x h e = absurd (none-some x e)
found_each P p (y ∷ xs) x h e =
    (elim (p y) as (λ t. p y ≡ t → cond t (Some y) (find p xs) ≡ Some x → P x × (p x ≡ true)) [
      | true ↦ λ t k. (let is = same_Some y x k in (subst P is h.0, subst (λ z. p z ≡ true) is t))
      | false ↦ λ f k. found_each P p xs x h.1 k
    ]) refl e

pub each_append : {X : Type 0} (P : X → Type 0) (xs ys : List X) → AllByRecursion P xs → AllByRecursion P ys → AllByRecursion P (xs ++ ys)
each_append P [] ys h k = k
each_append P (x ∷ xs) ys h k = (h.0, each_append P xs ys h.1 k)

pub each_flat : {X A : Type 0} (P : A → Type 0) (f : X → List A) (Q : X → Type 0) → ((x : X) → Q x → AllByRecursion P (f x)) → (xs : List X) → AllByRecursion Q xs → AllByRecursion P (flat_map f xs)
each_flat P f Q step [] h = tt
each_flat P f Q step (x ∷ xs) h = each_append P (f x) (flat_map f xs) (step x h.0) (each_flat P f Q step xs h.1)

pub each_of : {X : Type 0} (P : X → Type 0) → ((x : X) → P x) → (xs : List X) → AllByRecursion P xs
each_of P h [] = tt
each_of P h (x ∷ xs) = (h x, each_of P h xs)

passes_filter : (p : ℕ → Bool) (xs : List ℕ) → AllByRecursion (λ x. p x ≡ true) (filter p xs)
passes_filter p [] = tt
passes_filter p (x ∷ xs) =
    (elim (p x) as (λ t. p x ≡ t → AllByRecursion (λ x. p x ≡ true) (cond t (x ∷ filter p xs) (filter p xs))) [
      | true ↦ λ t. (t, passes_filter p xs)
      | false ↦ λ f. passes_filter p xs
    ]) refl

pub near_linked : (net : Net) (u : ℕ) → AllByRecursion (λ v. linked net u v ≡ true) (neighbours net u)
unfolding neighbours
near_linked net u = passes_filter (linked net u) (ascending net.nodes)

-- each sorted preference is one of the network
given_with : (net : Net) → IsValid net → (u v : ℕ) (o : Option Pref) → find (prefers u v) net.preferences ≡ o → linked net u v ≡ true → AllByRecursion (Given net) (pref_with u v (option_map (λ p. p.value) o))
given_with net valid u v None e joined = tt
given_with net valid u v (Some p) e joined = (
  record {
    joined = joined;
    found = ap (option_map (λ p. p.value)) e;
    small = (found_each (PrefersLinked net) (prefers u v) net.preferences p valid.preferences_fit e).0.small;
  },
  tt,
)

pub sorted_given : (net : Net) → IsValid net → AllByRecursion (Given net) (sorted_preferences net)
sorted_given net valid =
    each_flat (Given net) (λ u. flat_map (added net u) (neighbours net u)) (λ u. Unit {0})
    (λ u _. each_flat (Given net) (added net u) (λ v. linked net u v ≡ true) (λ v joined. given_with net valid u v (find (prefers u v) net.preferences) refl joined) (neighbours net u) (near_linked net u))
    (ascending net.nodes) (each_of (λ u. Unit {0}) (λ u. tt) (ascending net.nodes))

-- preferences that are added one by one
abbrev pub put_all : List Pref → List Pref → List Pref
put_all base [] = base
put_all base (p ∷ ps) = put_all (put_preference p base) ps

pub put_next : (base front : List Pref) (p : Pref) → put_preference p (put_all base front) ≡ put_all base (front ++ p ∷ [])
put_next base [] p = refl
put_next base (q ∷ front) p = put_next (put_preference q base) front p

-- a preference for the same two passes alike
same_two : (u v : ℕ) (p q : Pref) → prefers p.a p.b q ≡ true → prefers u v q ≡ prefers u v p
same_two u v p q e =
    let a = same_is q.a p.a (and_left (q.a == p.a) (q.b == p.b) e) in
    let b = same_is q.b p.b (and_right (q.a == p.a) (q.b == p.b) e) in
    rw (a, b) refl

both_pass : (u v : ℕ) (p q : Pref) → prefers u v p ≡ true → prefers u v q ≡ true → prefers p.a p.b q ≡ true
both_pass u v p q h k =
    let pa = same_is p.a u (and_left (p.a == u) (p.b == v) h) in
    let pb = same_is p.b v (and_right (p.a == u) (p.b == v) h) in
    rw (pa, pb) k

-- what is found after one was added
put_found : (u v : ℕ) (p : Pref) (ps : List Pref) → find (prefers u v) (put_preference p ps) ≡ cond (prefers u v p) (Some p) (find (prefers u v) ps)
put_found u v p [] = refl
put_found u v p (q ∷ ps) =
    (elim (prefers p.a p.b q) as (λ t. prefers p.a p.b q ≡ t → find (prefers u v) (if t then p ∷ ps else q ∷ put_preference p ps) ≡ cond (prefers u v p) (Some p) (cond (prefers u v q) (Some q) (find (prefers u v) ps))) [
      | true ↦ λ e. rw (same_two u v p q e) (twice (prefers u v p) (Some p) (Some q) (find (prefers u v) ps))
      | false ↦ λ e. ap (cond (prefers u v q) (Some q)) (put_found u v p ps) ∙ turned u v p q (find (prefers u v) ps) e
    ]) refl
  where
    twice : (t : Bool) (x y z : Option Pref) → cond t x z ≡ cond t x (cond t y z)
    twice true x y z = refl
    twice false x y z = refl

    turned : (u v : ℕ) (p q : Pref) (z : Option Pref) → prefers p.a p.b q ≡ false → cond (prefers u v q) (Some q) (cond (prefers u v p) (Some p) z) ≡ cond (prefers u v p) (Some p) (cond (prefers u v q) (Some q) z)
    turned u v p q z e =
        (elim (prefers u v p) as (λ s. prefers u v p ≡ s → cond (prefers u v q) (Some q) (cond s (Some p) z) ≡ cond s (Some p) (cond (prefers u v q) (Some q) z)) [
          | true ↦ λ h. (elim (prefers u v q) as (λ t. prefers u v q ≡ t → cond t (Some q) (Some p) ≡ Some p) [
            | true ↦ λ k. absurd (true≢false (sym (both_pass u v p q h k) ∙ e))
            | false ↦ λ k. refl
          ]) refl
          | false ↦ λ h. refl
        ]) refl

-- what is found after many were added, if each that passes is this one
abbrev Only : ℕ → ℕ → Option Pref → List Pref → Type 0
Only u v r ps = AllByRecursion (λ p. prefers u v p ≡ true → Some p ≡ r) ps

next_found : (u v : ℕ) (r : Option Pref) (p : Pref) (base : List Pref) → (prefers u v p ≡ true → Some p ≡ r) → find (prefers u v) base ≡ r → find (prefers u v) (put_preference p base) ≡ r
next_found u v r p base h e =
    put_found u v p base
    ∙ (elim (prefers u v p) as (λ t. prefers u v p ≡ t → cond t (Some p) (find (prefers u v) base) ≡ r) [ true ↦ λ t. h t | false ↦ λ f. e ]) refl

settled : (u v : ℕ) (r : Option Pref) (base ps : List Pref) → Only u v r ps → find (prefers u v) base ≡ r → find (prefers u v) (put_all base ps) ≡ r
settled u v r base [] h e = e
settled u v r base (p ∷ ps) h e = settled u v r (put_preference p base) ps h.1 (next_found u v r p base h.0 e)

reached : (u v : ℕ) (r : Option Pref) (base ps : List Pref) → Only u v r ps → list_any (prefers u v) ps ≡ true → find (prefers u v) (put_all base ps) ≡ r
reached u v r base [] h e = absurd (true≢false (sym e))
reached u v r base (p ∷ ps) h e =
    elim (or_cases (prefers u v p) (list_any (prefers u v) ps) e) [
      | inl here ↦ settled u v r (put_preference p base) ps h.1 (put_found u v p base ∙ ap (λ t. cond t (Some p) (find (prefers u v) base)) here ∙ h.0 here)
      | inr later ↦ reached u v r (put_preference p base) ps h.1 later
    ]

abbrev pref_of : ℕ → ℕ → ℕ → Pref
pref_of a b value = record { a = a; b = b; value = value }

-- two preferences of the same two nodes have the same value
one_pref : (p q : Pref) → p.a ≡ q.a → p.b ≡ q.b → p.value ≡ q.value → p ≡ q
one_pref p q a b value = ap₂ (λ m n. pref_of m n p.value) a b ∙ ap (pref_of q.a q.b) value

given_is : (net : Net) (u v : ℕ) (r : Option Pref) (p : Pref) → IsValid net → find (prefers u v) net.preferences ≡ r → Given net p → prefers u v p ≡ true → Some p ≡ r
given_is net u v r p valid e g h =
    let a = same_is p.a u (and_left (p.a == u) (p.b == v) h) in
    let b = same_is p.b v (and_right (p.a == u) (p.b == v) h) in
    let value : option_map (λ q. q.value) r ≡ Some p.value = ap (option_map (λ q. q.value)) (sym e) ∙ sym (ap₂ (λ m n. option_map (λ q. q.value) (find (prefers m n) net.preferences)) a b) ∙ g.found in
    by_value r e value a b
  where
    by_value : (r : Option Pref) → find (prefers u v) net.preferences ≡ r → option_map (λ q. q.value) r ≡ Some p.value → p.a ≡ u → p.b ≡ v → Some p ≡ r
    by_value None e value a b = absurd (none-some p.value value)
    by_value (Some q) e value a b =
        let t = (found_each (PrefersLinked net) (prefers u v) net.preferences q valid.preferences_fit e).1 in
        let qa = same_is q.a u (and_left (q.a == u) (q.b == v) t) in
        let qb = same_is q.b v (and_right (q.a == u) (q.b == v) t) in
        ap Some (one_pref p q (a ∙ sym qa) (b ∙ sym qb) (sym (same_Some q.value p.value value)))

only_given : (net : Net) (u v : ℕ) → IsValid net → (ps : List Pref) → AllByRecursion (Given net) ps → Only u v (find (prefers u v) net.preferences) ps
only_given net u v valid [] h = tt
only_given net u v valid (p ∷ ps) h = (given_is net u v (find (prefers u v) net.preferences) p valid refl h.0, only_given net u v valid ps h.1)

pub any_flat : {A : Type 0} (q : A → Bool) (f : ℕ → List A) (n : ℕ) (xs : List ℕ) → has xs n ≡ true → list_any q (f n) ≡ true → list_any q (flat_map f xs) ≡ true
any_flat q f n [] h e = absurd (true≢false (sym h))
any_flat q f n (x ∷ xs) h e =
    list_any-append q (f x) (flat_map f xs)
    ∙ (elim (or_cases (x == n) (has xs n) h) [
      | inl here ↦ or_first (list_any q (f x)) (list_any q (flat_map f xs)) (ap (λ m. list_any q (f m)) (same_is x n here) ∙ e)
      | inr later ↦ or_second (list_any q (f x)) (list_any q (flat_map f xs)) (any_flat q f n xs later e)
    ])

is_added : (net : Net) (u v : ℕ) (q : Pref) → find (prefers u v) net.preferences ≡ Some q → list_any (prefers u v) (added net u v) ≡ true
is_added net u v q e =
    ap (λ o. list_any (prefers u v) (pref_with u v (option_map (λ p. p.value) o))) e
    ∙ or_first (prefers u v (record { a = u; b = v; value = q.value })) false (and_both (u == u) (v == v) (same_refl u) (same_refl v))

is_sorted_in : (net : Net) (u v : ℕ) (q : Pref) → IsValid net → find (prefers u v) net.preferences ≡ Some q → list_any (prefers u v) (sorted_preferences net) ≡ true
is_sorted_in net u v q valid e =
    let fits = found_each (PrefersLinked net) (prefers u v) net.preferences q valid.preferences_fit e in
    let a = same_is q.a u (and_left (q.a == u) (q.b == v) fits.1) in
    let b = same_is q.b v (and_right (q.a == u) (q.b == v) fits.1) in
    let joined : linked net u v ≡ true = sym (ap₂ (linked net) a b) ∙ fits.0.linked_with in
    let node = (linked_nodes net u v valid joined).0 in
    any_flat (prefers u v) (λ u. flat_map (added net u) (neighbours net u)) u (ascending net.nodes) (has-ascending net.nodes u ∙ node)
    (any_flat (prefers u v) (added net u) v (neighbours net u) (neighbours_linked net u v valid ∙ joined) (is_added net u v q e))

-- each preference is found as before
pub same_found : (net : Net) → IsValid net → (u v : ℕ) → find (prefers u v) (put_all [] (sorted_preferences net)) ≡ find (prefers u v) net.preferences
same_found net valid u v = by_found (find (prefers u v) net.preferences) refl
  where
    by_found : (r : Option Pref) → find (prefers u v) net.preferences ≡ r → find (prefers u v) (put_all [] (sorted_preferences net)) ≡ find (prefers u v) net.preferences
    by_found None e = settled u v (find (prefers u v) net.preferences) [] (sorted_preferences net) (only_given net u v valid (sorted_preferences net) (sorted_given net valid)) (sym e)
    by_found (Some q) e = reached u v (find (prefers u v) net.preferences) [] (sorted_preferences net) (only_given net u v valid (sorted_preferences net) (sorted_given net valid)) (is_sorted_in net u v q valid e)
