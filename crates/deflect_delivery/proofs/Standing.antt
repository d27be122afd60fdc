-- What each node of a network that does not change sees.
use Rattle.std.proofs.Common.{ℕ, Bool, true, false, not, ◌&&◌, ◌||◌, ◌==◌, List, [], ◌∷◌, filter, ◌≡◌, refl, sym, ◌∙◌, ap, subst, inl, inr}
use Rattle.std.specs.Prelude.{if◌then◌else◌}
use Rattle.std.specs.List.{list_any, AllByRecursion}
use Rattle.topology.specs.Lists.{has, ascending}
use Rattle.topology.specs.LinkStates.{are_ends}
use Rattle.topology.specs.Net.{Net, IsValid, linked, neighbours}
use Rattle.topology.proofs.Ascending.{has-ascending}
use Rattle.topology.proofs.Neighbours.{linked_nodes, neighbours_linked, linked_sym}
use Rattle.topology.proofs.Tests.{and_left, and_right, or_first, or_second, or_cases, or_comm, same_is, same_refl}
use Rattle.deflect_delivery.specs.Terrain.{IsTerrain, Shows}
use Rattle.deflect_delivery.specs.declared.stills.Still.{Still}
use Rattle.deflect_delivery.specs.Stills.{joins, order_beside, order_of, sight, terrain, IsOrderOf, AreOrders, IsStill}

-- an element of a filtered list passes the test and was in the list
pub has_left : (test : ℕ → Bool) (xs : List ℕ) (w : ℕ) → has xs w ≡ true → has (filter test xs) w ≡ test w
has_left test [] w there = cc
has_left test (x ∷ xs) w there =
    (elim (x == w) as (λ t. (x == w) ≡ t → (t || has xs w) ≡ true → has (filter test (x ∷ xs)) w ≡ test w) [
      | true ↦ λ e more. first (same_is x w e)
      | false ↦ λ e more.
          (elim (test x) as (λ t. has (if t then x ∷ filter test xs else filter test xs) w ≡ test w) [
            | true ↦ ap (λ b. b || has (filter test xs) w) e ∙ has_left test xs w more
            | false ↦ has_left test xs w more
          ])
    ]) refl there
  where
    -- an element that is not there does not pass; the front element is kept if it passes
    none_left : (ys : List ℕ) (n : ℕ) → test n ≡ false → has (filter test ys) n ≡ false
    none_left [] n off = refl
    none_left (y ∷ ys) n off =
        (elim (test y) as (λ t. test y ≡ t → has (if t then y ∷ filter test ys else filter test ys) n ≡ false) [
          | true ↦ λ e.
              (elim (y == n) as (λ t. (y == n) ≡ t → (t || has (filter test ys) n) ≡ false) [
                | true ↦ λ same. let on : test n ≡ true = subst (λ z. test z ≡ true) (same_is y n same) e in cc
                | false ↦ λ same. none_left ys n off
              ]) refl
          | false ↦ λ e. none_left ys n off
        ]) refl

    -- the front is the one
    first : x ≡ w → has (if test x then x ∷ filter test xs else filter test xs) w ≡ test w
    first same =
        subst (λ z. has (if test z then z ∷ filter test xs else filter test xs) w ≡ test w) (sym same)
        ((elim (test w) as (λ t. test w ≡ t → has (if t then w ∷ filter test xs else filter test xs) w ≡ t) [
          | true ↦ λ e. or_first (w == w) (has (filter test xs) w) (same_refl w)
          | false ↦ λ e. none_left xs w e
        ]) refl)

-- an element that is not in a list is not in the filtered list
none_there : (test : ℕ → Bool) (xs : List ℕ) (w : ℕ) → has xs w ≡ false → has (filter test xs) w ≡ false
none_there test [] w off = refl
none_there test (x ∷ xs) w off =
    (elim (x == w) as (λ t. (x == w) ≡ t → (t || has xs w) ≡ false → has (filter test (x ∷ xs)) w ≡ false) [
      | true ↦ λ e more. cc
      | false ↦ λ e more.
          (elim (test x) as (λ t. has (if t then x ∷ filter test xs else filter test xs) w ≡ false) [
            | true ↦ ap (λ b. b || has (filter test xs) w) e ∙ none_there test xs w more
            | false ↦ none_there test xs w more
          ])
    ]) refl off

-- a link that is up is one of the network
up_is_linked : (net : Net) (up : List (ℕ × ℕ)) (u v : ℕ) → AllByRecursion (λ (link : ℕ × ℕ). linked net link.0 link.1 ≡ true) up
    → list_any (λ (link : ℕ × ℕ). are_ends u v link.0 link.1) up ≡ true → linked net u v ≡ true
up_is_linked net [] u v all is = cc
up_is_linked net (link ∷ up) u v all is =
    elim (or_cases (are_ends u v link.0 link.1) (list_any (λ (l : ℕ × ℕ). are_ends u v l.0 l.1) up) is) [
      | inl here ↦ elim (or_cases (link.0 == u && link.1 == v) (link.0 == v && link.1 == u) here) [
        | inl k ↦
            subst (λ y. linked net u y ≡ true) (same_is link.1 v (and_right (link.0 == u) (link.1 == v) k))
            (subst (λ x. linked net x link.1 ≡ true) (same_is link.0 u (and_left (link.0 == u) (link.1 == v) k)) all.0)
        | inr k ↦
            linked_sym net u v
            ∙ subst (λ y. linked net v y ≡ true) (same_is link.1 u (and_right (link.0 == v) (link.1 == u) k))
            (subst (λ x. linked net x link.1 ≡ true) (same_is link.0 v (and_left (link.0 == v) (link.1 == u) k)) all.0)
      ]
      | inr later ↦ up_is_linked net up u v all.1 later
    ]

-- a link is up in both directions
up_both_ways : (up : List (ℕ × ℕ)) (u v : ℕ) → list_any (λ (link : ℕ × ℕ). are_ends u v link.0 link.1) up ≡ list_any (λ (link : ℕ × ℕ). are_ends v u link.0 link.1) up
up_both_ways [] u v = refl
up_both_ways (link ∷ up) u v =
    ap (λ b. b || list_any (λ (l : ℕ × ℕ). are_ends u v l.0 l.1) up) (or_comm (link.0 == u && link.1 == v) (link.0 == v && link.1 == u))
    ∙ ap (λ b. are_ends v u link.0 link.1 || b) (up_both_ways up u v)

-- the order of a node
order_is : (net : Net) (nodes : List ℕ) (orders : List (List ℕ)) (u : ℕ) → AreOrders net nodes orders → has nodes u ≡ true → IsOrderOf net u (order_beside nodes orders u)
order_is net [] [] u are there = cc
order_is net [] (order ∷ orders) u are there = cc
order_is net (x ∷ nodes) [] u are there = absurd are
order_is net (x ∷ nodes) (order ∷ orders) u are there =
    (elim (x == u) as (λ t. (x == u) ≡ t → (t || has nodes u) ≡ true → IsOrderOf net u (if t then order else order_beside nodes orders u)) [
      | true ↦ λ e more. subst (λ y. IsOrderOf net y order) (same_is x u e) are.0
      | false ↦ λ e more. order_is net nodes orders u are.1 more
    ]) refl there

module _ (net : Net) (still : Still) (valid : IsValid net) (fits : IsStill net still) where
  -- a link that is up has two nodes
  joined_linked : (u v : ℕ) → joins still u v ≡ true → linked net u v ≡ true
  joined_linked u v is = up_is_linked net still.up u v fits.links is

  -- the links that are up are of the network
  pub is_terrain : IsTerrain net (terrain still)
  is_terrain = record {
    both_ways = λ u v is. sym (up_both_ways still.up u v) ∙ is;
    of_nodes = λ u v is. (linked_nodes net u v valid (joined_linked u v is)).1;
  }

  -- the neighbours whose link is up are those that `joins` gives
  near_is : (u w : ℕ) (b : Bool) → has (neighbours net u) w ≡ b → has (filter (joins still u) (neighbours net u)) w ≡ joins still u w
  near_is u w true near = has_left (joins still u) (neighbours net u) w near
  near_is u w false near =
      none_there (joins still u) (neighbours net u) w near
      ∙ sym ((elim (joins still u w) as (λ t. joins still u w ≡ t → t ≡ false) [
        | true ↦ λ e. let linked_with : has (neighbours net u) w ≡ true = neighbours_linked net u w valid ∙ joined_linked u w e in cc
        | false ↦ λ e. refl
      ]) refl)

  -- each node sees the truth
  pub shows : (u : ℕ) → Shows (terrain still) (sight net still u)
  shows u = record {
    owns = refl;
    up = λ w. near_is u w (has (neighbours net u) w) refl;
    order = λ w up.
        let joined : joins still u w ≡ true = sym (near_is u w (has (neighbours net u) w) refl) ∙ up in
        let linked_with = joined_linked u w joined in
        let node = (linked_nodes net u w valid linked_with).0 in
        (order_is net (ascending net.nodes) still.orders u fits.orders (has-ascending net.nodes u ∙ node)).all w ∙ (neighbours_linked net u w valid ∙ linked_with);
  }
