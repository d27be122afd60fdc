-- Holds that are sorted and added again: the same nodes hold back as before.
use Rattle.std.proofs.Common.{◌≡◌, ℕ, Bool, true, false, ◌||◌, ◌==◌, List, [], ◌∷◌, ◌++◌, inl, inr, true≢false, refl, sym, ap, ap₂, ◌∙◌}
use Rattle.std.specs.Prelude.{if◌then◌else◌}
use Rattle.std.specs.List.{list_any, flat_map, AllByRecursion}
use Rattle.std.proofs.lemmas.List.Folds.{list_any-append}
use Rattle.std.proofs.lemmas.Bool.{cases_Bool}
use Rattle.topology.specs.declared.links.Hold.{Hold}
use Rattle.topology.specs.Lists.{ascending}
use Rattle.topology.specs.Net.{Net, linked, neighbours, is_hold, holds_back, HoldsLinked, IsValid}
use Rattle.topology.specs.Building.{put_hold}
use Rattle.topology.proofs.Tests.{and_left, and_right, and_both, or_first, or_second, or_none, or_false, or_cases, same_is, same_refl}
use Rattle.topology.proofs.Ascending.{has-ascending}
use Rattle.topology.proofs.Neighbours.{linked_nodes, neighbours_linked}
use Rattle.schedule_file.specs.Printing.{held, sorted_holds}
use Rattle.schedule_file.proofs.Preferences.{each_flat, each_of, near_linked, any_flat}

-- a hold of the network, between nodes with a link
pub record Held (net : Net) (hold : Hold) : Type 0 where
  pub joined : linked net hold.a hold.b ≡ true
  pub there : holds_back net hold.a hold.b ≡ true

-- each sorted hold is one of the network
held_with : (net : Net) (u w : ℕ) (t : Bool) → holds_back net u w ≡ t → linked net u w ≡ true → AllByRecursion (Held net) (if t then record { a = u; b = w } ∷ [] else [])
held_with net u w true e joined = (record { joined = joined; there = e }, tt)
held_with net u w false e joined = tt

pub sorted_held : (net : Net) → AllByRecursion (Held net) (sorted_holds net)
sorted_held net =
    each_flat (Held net) (λ u. flat_map (held net u) (neighbours net u)) (λ u. Unit {0})
    (λ u _. each_flat (Held net) (held net u) (λ w. linked net u w ≡ true) (λ w joined. held_with net u w (holds_back net u w) refl joined) (neighbours net u) (near_linked net u))
    (ascending net.nodes) (each_of (λ u. Unit {0}) (λ u. tt) (ascending net.nodes))

-- holds that are added one by one
abbrev pub hold_all : List Hold → List Hold → List Hold
hold_all base [] = base
hold_all base (h ∷ hs) = hold_all (put_hold h base) hs

pub hold_next : (base front : List Hold) (h : Hold) → put_hold h (hold_all base front) ≡ hold_all base (front ++ h ∷ [])
hold_next base [] h = refl
hold_next base (k ∷ front) h = hold_next (put_hold k base) front h

-- the two nodes of a hold
is_first : (u w : ℕ) (h : Hold) → is_hold u w h ≡ true → h.a ≡ u
is_first u w h e = same_is h.a u (and_left (h.a == u) (h.b == w) e)

is_second : (u w : ℕ) (h : Hold) → is_hold u w h ≡ true → h.b ≡ w
is_second u w h e = same_is h.b w (and_right (h.a == u) (h.b == w) e)

-- whether there is a hold after one was added
there_already : (u w : ℕ) (h : Hold) (hs : List Hold) → list_any (is_hold h.a h.b) hs ≡ true → list_any (is_hold u w) hs ≡ (list_any (is_hold u w) hs || is_hold u w h)
there_already u w h hs e =
    (elim (is_hold u w h) as (λ t. is_hold u w h ≡ t → list_any (is_hold u w) hs ≡ (list_any (is_hold u w) hs || t)) [
      | true ↦ λ k. sym (ap₂ (λ m n. list_any (is_hold m n) hs) (is_first u w h k) (is_second u w h k)) ∙ e ∙ sym (or_second (list_any (is_hold u w) hs) true refl)
      | false ↦ λ k. sym (or_false (list_any (is_hold u w) hs))
    ]) refl

put_any : (u w : ℕ) (h : Hold) (hs : List Hold) → list_any (is_hold u w) (put_hold h hs) ≡ (list_any (is_hold u w) hs || is_hold u w h)
put_any u w h hs =
    (elim (list_any (is_hold h.a h.b) hs) as (λ t. list_any (is_hold h.a h.b) hs ≡ t → list_any (is_hold u w) (if t then hs else hs ++ h ∷ []) ≡ (list_any (is_hold u w) hs || is_hold u w h)) [
      | true ↦ λ e. there_already u w h hs e
      | false ↦ λ e. list_any-append (is_hold u w) hs (h ∷ []) ∙ ap (λ b. list_any (is_hold u w) hs || b) (or_false (is_hold u w h))
    ]) refl

or_joined : (a b c : Bool) → ((a || b) || c) ≡ (a || (b || c))
or_joined true b c = refl
or_joined false b c = refl

all_any : (u w : ℕ) (base hs : List Hold) → list_any (is_hold u w) (hold_all base hs) ≡ (list_any (is_hold u w) base || list_any (is_hold u w) hs)
all_any u w base [] = sym (or_false (list_any (is_hold u w) base))
all_any u w base (h ∷ hs) =
    all_any u w (put_hold h base) hs
    ∙ ap (λ b. b || list_any (is_hold u w) hs) (put_any u w h base)
    ∙ or_joined (list_any (is_hold u w) base) (is_hold u w h) (list_any (is_hold u w) hs)

-- a node that holds back has a link
hold_linked : (net : Net) (u w : ℕ) (hs : List Hold) → AllByRecursion (HoldsLinked net) hs → list_any (is_hold u w) hs ≡ true → linked net u w ≡ true
hold_linked net u w [] h e = absurd (true≢false (sym e))
hold_linked net u w (k ∷ hs) h e =
    elim (or_cases (is_hold u w k) (list_any (is_hold u w) hs) e) [
      | inl here ↦ sym (ap₂ (linked net) (is_first u w k here) (is_second u w k here)) ∙ h.0.linked_with
      | inr later ↦ hold_linked net u w hs h.1 later
    ]

back_linked : (net : Net) (u w : ℕ) → IsValid net → holds_back net u w ≡ true → linked net u w ≡ true
unfolding holds_back
back_linked net u w valid e = hold_linked net u w net.holds valid.holds_fit e

-- the sorted holds are those of the network
is_held : (net : Net) (u w : ℕ) → holds_back net u w ≡ true → list_any (is_hold u w) (held net u w) ≡ true
is_held net u w e =
    ap (λ t. list_any (is_hold u w) (if t then record { a = u; b = w } ∷ [] else [])) e
    ∙ or_first (is_hold u w (record { a = u; b = w })) false (and_both (u == u) (w == w) (same_refl u) (same_refl w))

is_among : (net : Net) (u w : ℕ) → IsValid net → holds_back net u w ≡ true → list_any (is_hold u w) (sorted_holds net) ≡ true
is_among net u w valid e =
    let joined = back_linked net u w valid e in
    let node = (linked_nodes net u w valid joined).0 in
    any_flat (is_hold u w) (λ u. flat_map (held net u) (neighbours net u)) u (ascending net.nodes) (has-ascending net.nodes u ∙ node)
    (any_flat (is_hold u w) (held net u) w (neighbours net u) (neighbours_linked net u w valid ∙ joined) (is_held net u w e))

not_among : (net : Net) (u w : ℕ) (hs : List Hold) → AllByRecursion (Held net) hs → holds_back net u w ≡ false → list_any (is_hold u w) hs ≡ false
not_among net u w [] h e = refl
not_among net u w (k ∷ hs) h e =
    or_none (is_hold u w k) (list_any (is_hold u w) hs)
    (elim (cases_Bool (is_hold u w k)) [
      | inl here ↦ absurd (true≢false (sym (sym (ap₂ (holds_back net) (is_first u w k here) (is_second u w k here)) ∙ h.0.there) ∙ e))
      | inr other ↦ other
    ])
    (not_among net u w hs h.1 e)

sorted_any : (net : Net) (u w : ℕ) → IsValid net → list_any (is_hold u w) (sorted_holds net) ≡ holds_back net u w
sorted_any net u w valid =
    (elim (holds_back net u w) as (λ t. holds_back net u w ≡ t → list_any (is_hold u w) (sorted_holds net) ≡ t) [
      | true ↦ λ e. is_among net u w valid e
      | false ↦ λ e. not_among net u w (sorted_holds net) (sorted_held net) e
    ]) refl

-- in a network with these holds
back_by : (net : Net) (holds : List Hold) (u w : ℕ) → net.holds ≡ holds → holds_back net u w ≡ list_any (is_hold u w) holds
unfolding holds_back
back_by net holds u w e = ap (list_any (is_hold u w)) e

pub same_held : (net final : Net) → IsValid net → final.holds ≡ hold_all [] (sorted_holds net) → (u w : ℕ) → holds_back final u w ≡ holds_back net u w
same_held net final valid e u w = back_by final (hold_all [] (sorted_holds net)) u w e ∙ all_any u w [] (sorted_holds net) ∙ sorted_any net u w valid
