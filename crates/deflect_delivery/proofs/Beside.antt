-- The order of a node, found by the node's place.
use Rattle.std.proofs.Common.{ℕ, zero, suc, true, false, not, ◌&&◌, ◌||◌, ◌==◌, Some, None, ◌<◌, ◌≤◌, List, [], ◌∷◌, slice_get, get_or, length, ◌≡◌, refl, ◌∙◌, ap, sym, arith}
use Rattle.std.specs.Prelude.{if◌then◌else◌}
use Rattle.std.proofs.lemmas.Option.{same_Some, slice_get_read}
use Rattle.topology.specs.Lists.{has}
use Rattle.topology.specs.Paths.{differ}
use Rattle.topology.proofs.Ascending.{absent}
use Rattle.topology.proofs.Places.{has_placed}
use Rattle.topology.proofs.Tests.{and_left, and_right, or_left, or_right, not_true, same_refl}
use Rattle.deflect_delivery.specs.Stills.{order_beside}

-- a node outside the list has no order
pub none_beside : (nodes : List ℕ) (orders : List (List ℕ)) (u : ℕ) → has nodes u ≡ false → order_beside nodes orders u ≡ []
none_beside [] orders u off = refl
none_beside (x ∷ nodes) [] u off = refl
none_beside (x ∷ nodes) (order ∷ orders) u off =
    ap (λ t. if t then order else order_beside nodes orders u) (or_left (x == u) (has nodes u) off) ∙ none_beside nodes orders u (or_right (x == u) (has nodes u) off)

-- the order of a node stands at the node's place
some_beside : (nodes : List ℕ) (orders : List (List ℕ)) (u place : ℕ) (order : List ℕ) → differ nodes ≡ true → slice_get nodes place ≡ Some u → slice_get orders place ≡ Some order
    → order_beside nodes orders u ≡ order
some_beside [] orders u place order apart is at = cc
some_beside (x ∷ nodes) [] u place order apart is at = cc
some_beside (x ∷ nodes) (first ∷ orders) u zero order apart is at =
    let same : x ≡ u = same_Some x u is in
    ap (λ t. if t then first else order_beside nodes orders u) (ap (λ y. x == y) (sym same) ∙ same_refl x) ∙ same_Some first order at
some_beside (x ∷ nodes) (first ∷ orders) u (suc place) order apart is at =
    let alone : has nodes x ≡ false = not_true (has nodes x) (and_left (not (has nodes x)) (differ nodes) apart) in
    let other : (x == u) ≡ false = absent x u nodes alone (has_placed nodes place u is) in
    ap (λ t. if t then first else order_beside nodes orders u) other ∙ some_beside nodes orders u place order (and_right (not (has nodes x)) (differ nodes) apart) is at

-- there is none if the list of orders ends before
nothing_beside : (nodes : List ℕ) (orders : List (List ℕ)) (u place : ℕ) → differ nodes ≡ true → slice_get nodes place ≡ Some u → length orders ≤ place → order_beside nodes orders u ≡ []
nothing_beside [] orders u place apart is past = refl
nothing_beside (x ∷ nodes) [] u place apart is past = refl
nothing_beside (x ∷ nodes) (first ∷ orders) u zero apart is past = absurd (omega (arith, past))
nothing_beside (x ∷ nodes) (first ∷ orders) u (suc place) apart is past =
    let alone : has nodes x ≡ false = not_true (has nodes x) (and_left (not (has nodes x)) (differ nodes) apart) in
    let other : (x == u) ≡ false = absent x u nodes alone (has_placed nodes place u is) in
    ap (λ t. if t then first else order_beside nodes orders u) other
    ∙ nothing_beside nodes orders u place (and_right (not (has nodes x)) (differ nodes) apart) is (omega (arith, past))

module _ (nodes : List ℕ) (orders : List (List ℕ)) (u place : ℕ) (apart : differ nodes ≡ true) (is : slice_get nodes place ≡ Some u) where
  -- the order that is read at the place
  pub read_beside : (order : List ℕ) → place < length orders → order ≡ get_or orders place order → order_beside nodes orders u ≡ order
  read_beside order within at = some_beside nodes orders u place order apart is (slice_get_read orders (length orders) place order refl within at)

  -- none beyond the end
  pub none_behind : length orders ≤ place → order_beside nodes orders u ≡ []
  none_behind past = nothing_beside nodes orders u place apart is past
