-- The node that acts, and those that keep what they have.
use Rattle.std.proofs.Common.{ℕ, zero, suc, ◌<◌, true, false, ◌==◌, is_some, nat_lt, Option, Some, None, List, [], ◌∷◌, ◌≡◌, ◌≢◌, refl, sym, ◌∙◌, ap, arith, length, length-set, get_or, set, slice_get, ⊎_elim}
use Rattle.std.proofs.lemmas.Bool.{cases_eq}
use Rattle.std.proofs.lemmas.Bool.Decides.{nat_tests}
use Rattle.std.proofs.lemmas.Option.{slice_get_within, slice_get_read}
use Rattle.topology.specs.Lists.{has, ascending}
use Rattle.topology.specs.Paths.{differ}
use Rattle.topology.specs.Net.{Net}
use Rattle.topology.proofs.Ascending.{differ-ascending, has-ascending}
use Rattle.topology.proofs.Places.{has_placed}
use Rattle.path_vector.specs.Rules.{Rules}
use Rattle.chronicle.specs.Facts.{Chronicle}
use Rattle.node_core.specs.declared.node.Node.{Node}
use Rattle.node_core.specs.NodeLimits.{node_above}
use Rattle.node_core.specs.Standing.{StandsFor}
use Rattle.world_core.specs.Matching.{AreNodes}
use Rattle.world_core.specs.Places.{HasPlaces}
use Rattle.world_core.proofs.Places.{slice_get-set_same, slice_get-set_other, same_some, some_at}

-- ---- their places

pub same_number : (u : ℕ) → (u == u) ≡ true
same_number u = grind (arith, nat_tests)

-- a number stands at one place of a list of different numbers
differ_places : (xs : List ℕ) (i j x : ℕ) → differ xs ≡ true → slice_get xs i ≡ Some x → slice_get xs j ≡ Some x → i ≡ j
differ_places [] i j x d e f = absurd (cc e)
differ_places (y ∷ ys) zero zero x d e f = refl
differ_places (y ∷ ys) zero (suc j) x d e f =
    let same = same_some y x e in
    let later : has ys y ≡ true = rw same (has_placed ys j x f) in
    absurd (grind (arith, nat_tests))
differ_places (y ∷ ys) (suc i) zero x d e f =
    let same = same_some y x f in
    let later : has ys y ≡ true = rw same (has_placed ys i x e) in
    absurd (grind (arith, nat_tests))
differ_places (y ∷ ys) (suc i) (suc j) x d e f = ap suc (differ_places ys i j x (grind (arith, nat_tests)) e f)

-- different numbers
other_number : (x y : ℕ) → x ≢ y → (x == y) ≡ false
other_number x y ne = grind (arith, nat_tests)

-- at another place stands another number
pub other_place : (xs : List ℕ) (i j x y : ℕ) → differ xs ≡ true → slice_get xs i ≡ Some x → slice_get xs j ≡ Some y → j ≢ i → (x == y) ≡ false
other_place xs i j x y d e f ne = other_number x y (λ same. ne (differ_places xs j i x d (f ∙ ap (λ z. Some z) (sym same)) e))

-- a number of the list stands somewhere
placed_at : (xs : List ℕ) (u : ℕ) → has xs u ≡ true → (i : ℕ) × (slice_get xs i ≡ Some u)
placed_at [] u e = absurd (cc e)
placed_at (x ∷ xs) u e =
    (elim (x == u) as (λ t. (x == u) ≡ t → (i : ℕ) × (slice_get (x ∷ xs) i ≡ Some u)) [
      | true ↦ λ here. let same : x ≡ u = grind (arith, nat_tests) in (0, ap (λ n. Some n) same)
      | false ↦ λ other. let rest = placed_at xs u (grind (arith, nat_tests)) in (suc rest.0, rest.1)
    ]) refl

module _ {P : Type 0} (policy : P) (rules : Rules) (net : Net) (past : Chronicle) (nodes : List (Node P)) (was : AreNodes policy rules net past nodes) where
  -- each node has a place
  pub places_of : HasPlaces net (length nodes)
  places_of = record { valid = was.valid; count_is = was.count }

  -- the node that is read at the rank of u is u
  pub node_at : (i u : ℕ) (node : Node P) → slice_get (ascending net.nodes) i ≡ Some u → node ≡ get_or nodes i node → StandsFor policy rules net u node past
  node_at i u node at is = was.each i u node at (slice_get_read nodes (length nodes) i node refl (rw was.count (slice_get_within (ascending net.nodes) i u at)) is)

  -- no node has a count above its number
  pub all_within : (u : ℕ) → has net.nodes u ≡ true → node_above rules net u past ≡ None
  all_within u node =
      let place = placed_at (ascending net.nodes) u (has-ascending net.nodes u ∙ node) in
      let inside : place.0 < length nodes = rw was.count (slice_get_within (ascending net.nodes) place.0 u place.1) in
      let here = some_at nodes place.0 inside in
      (was.each place.0 u here.0 place.1 here.1).within

  -- one node has changed as the run has, and the run has left the others as they were
  pub nodes_at : (now : Chronicle) (i u : ℕ) (new : Node P) → slice_get (ascending net.nodes) i ≡ Some u → StandsFor policy rules net u new now
      → ((v : ℕ) (node : Node P) → (u == v) ≡ false → StandsFor policy rules net v node past → StandsFor policy rules net v node now)
      → AreNodes policy rules net now (set nodes i new)
  nodes_at now i u new at changed others = record {
    valid = was.valid;
    count = length-set nodes i new ∙ was.count;
    each = λ j v node at_v here. ⊎_elim
        (λ (e : j ≡ i).
        let is_new : node ≡ new = same_some node new (sym here ∙ (ap (slice_get (set nodes i new)) e ∙ slice_get-set_same nodes i new (rw was.count (slice_get_within (ascending net.nodes) i u at)))) in
        let is_u : v ≡ u = same_some v u (sym at_v ∙ (ap (slice_get (ascending net.nodes)) e ∙ at)) in
        rw (is_new, is_u) changed)
        (λ (ne : j ≢ i). others v node
        (other_place (ascending net.nodes) i j u v (differ-ascending net.nodes was.valid.nodes_differ) at at_v ne)
        (was.each j v node at_v (sym (slice_get-set_other nodes i j new (λ e. ne (sym e))) ∙ here)))
        (cases_eq j i);
  }

  -- all stay as they were
  pub same_nodes : (now : Chronicle) → ((v : ℕ) (node : Node P) → StandsFor policy rules net v node past → StandsFor policy rules net v node now)
      → AreNodes policy rules net now nodes
  same_nodes now same = record {
    valid = was.valid;
    count = was.count;
    each = λ i u node at here. same u node (was.each i u node at here);
  }

-- a number that is there has a place in the list
pub inside_places : (net : Net) (count i u : ℕ) → HasPlaces net count → slice_get (ascending net.nodes) i ≡ Some u → i < count
inside_places net count i u places at = rw places.count_is (slice_get_within (ascending net.nodes) i u at)

-- so it is not missing
pub not_missing : {A : Type 0} (r : Option A) (i n : ℕ) → is_some r ≡ nat_lt i n → i < n → r ≡ None → ⊥
not_missing None i n within inside none = absurd (grind (arith, nat_tests, within, inside))
not_missing (Some x) i n within inside none = absurd (cc none)

-- a node at a place of the ascending nodes of a network is one of them
pub node_here : (net : Net) (near : List ℕ) (i x : ℕ) → near ≡ ascending net.nodes → i < length near → x ≡ get_or near i x → has net.nodes x ≡ true
node_here net near i x are low is = sym (has-ascending net.nodes x) ∙ (ap (λ l. has l x) (sym are) ∙ has_placed near i x (slice_get_read near (length near) i x refl low is))
