-- What the tests of a network that does not change decide.
use Rattle.std.proofs.Common.{ℕ, ◌≤◌, Bool, true, false, not, ◌&&◌, ◌||◌, ◌==◌, List, [], ◌∷◌, length, ◌≡◌, ◌↔◌, inl, inr, refl, sym, ◌∙◌, ap, subst, arith}
use Rattle.std.specs.List.{list_all, AllByRecursion}
use Rattle.topology.specs.Lists.{has, ascending}
use Rattle.topology.specs.Net.{Net, IsValid, linked, neighbours}
use Rattle.topology.specs.Paths.{differ}
use Rattle.topology.proofs.Few.{no_more}
use Rattle.topology.proofs.Neighbours.{differ-neighbours}
use Rattle.topology.proofs.Tests.{and_left, and_right, and_both, or_first, or_second, or_cases, same_is, same_refl}
use Rattle.deflect_delivery.specs.declared.stills.Still.{Still}
use Rattle.deflect_delivery.specs.Stills.{IsOrderOf, AreOrders, IsStill}
use Rattle.deflect_delivery.proofs.Lists.{has_all}

-- each element of a list passes the test
pub all_pass : {X : Type 0} (test : X → Bool) (xs : List X) → list_all test xs ≡ true → AllByRecursion (λ x. test x ≡ true) xs
all_pass test [] is = tt
all_pass test (x ∷ xs) is = (and_left (test x) (list_all test xs) is, all_pass test xs (and_right (test x) (list_all test xs) is))

-- if each passes, `list_all` is true
pub pass_all : {X : Type 0} (test : X → Bool) (xs : List X) → AllByRecursion (λ x. test x ≡ true) xs → list_all test xs ≡ true
pass_all test [] each = refl
pass_all test (x ∷ xs) each = and_both (test x) (list_all test xs) each.0 (pass_all test xs each.1)

-- each of the ones is among the others
among : (ys xs : List ℕ) → list_all (has ys) xs ≡ true → (w : ℕ) → has xs w ≡ true → has ys w ≡ true
among ys [] is w there = cc
among ys (x ∷ xs) is w there =
    elim (or_cases (x == w) (has xs w) there) [
      | inl e ↦ subst (λ z. has ys z ≡ true) (same_is x w e) (and_left (has ys x) (list_all (has ys) xs) is)
      | inr e ↦ among ys xs (and_right (has ys x) (list_all (has ys) xs) is) w e
    ]

-- if each is, the test says so
all_among : (ys xs : List ℕ) → ((w : ℕ) → has xs w ≡ true → has ys w ≡ true) → list_all (has ys) xs ≡ true
all_among ys [] inside = refl
all_among ys (x ∷ xs) inside =
    and_both (has ys x) (list_all (has ys) xs) (inside x (or_first (x == x) (has xs x) (same_refl x))) (all_among ys xs (λ w there. inside w (or_second (x == w) (has xs w) there)))

-- two tests that imply each other are equal
one_test : (a b : Bool) → (a ≡ true → b ≡ true) → (b ≡ true → a ≡ true) → a ≡ b
one_test true b forth back = sym (forth refl)
one_test false true forth back = back refl
one_test false false forth back = refl

module _ (net : Net) (u : ℕ) (order : List ℕ) (valid : IsValid net) where
  -- an order of the right length that has only different neighbours has all of them
  is_order : length order ≡ length (neighbours net u) → list_all (has (neighbours net u)) order ≡ true → differ order ≡ true → IsOrderOf net u order
  is_order long near apart =
      let inside = among (neighbours net u) order near in
      let few : length (neighbours net u) ≤ length order = omega (arith, long) in
      record {
        all = λ w. one_test (has order w) (has (neighbours net u) w) (inside w) (has_all order (neighbours net u) apart inside few w);
        once = apart;
      }

  -- an order has the right length
  has_length : IsOrderOf net u order → length order ≡ length (neighbours net u)
  has_length is =
      let most = no_more order (neighbours net u) is.once (λ w there. sym (is.all w) ∙ there) in
      let least = no_more (neighbours net u) order (differ-neighbours net u valid) (λ w there. is.all w ∙ there) in
      omega (arith, most, least)

  -- an order has only neighbours
  has_neighbours : IsOrderOf net u order → list_all (has (neighbours net u)) order ≡ true
  has_neighbours is = all_among (neighbours net u) order (λ w there. sym (is.all w) ∙ there)

  module _ (near : List ℕ) (are : near ≡ neighbours net u) where
    -- a list of another length is no order
    pub other_length : (length order ≡ length near → ⊥) → (false ≡ true → IsOrderOf net u order) × (IsOrderOf net u order → false ≡ true)
    other_length apart = (λ e. absurd (cc e), λ is. absurd (apart (has_length is ∙ ap (λ l. length l) (sym are))))

    -- a list with another node is no order
    pub has_stranger : (inside : Bool) → inside ≡ list_all (has near) order → inside ≡ false → (inside ≡ true → IsOrderOf net u order) × (IsOrderOf net u order → inside ≡ true)
    has_stranger inside tests off = (λ on. absurd (cc (sym off ∙ on)), λ is. tests ∙ (ap (λ l. list_all (has l) order) are ∙ has_neighbours is))

    -- a list of neighbours of the right length is an order exactly where its nodes differ
    pub as_they_differ : length order ≡ length near → (inside apart : Bool) → inside ≡ list_all (has near) order → inside ≡ true → apart ≡ differ order
        → (apart ≡ true → IsOrderOf net u order) × (IsOrderOf net u order → apart ≡ true)
    as_they_differ long inside apart tests on differs = (
      λ e. is_order (long ∙ ap (λ l. length l) are) (ap (λ l. list_all (has l) order) (sym are) ∙ (sym tests ∙ on)) (sym differs ∙ e),
      λ is. differs ∙ is.once,
    )

module _ (net : Net) (still : Still) where
  -- the links pass
  pub links_pass : (links : Bool) → links ≡ list_all (λ (link : ℕ × ℕ). linked net link.0 link.1) still.up → IsStill net still → links ≡ true
  links_pass links tests fits = tests ∙ pass_all (λ (link : ℕ × ℕ). linked net link.0 link.1) still.up fits.links

  -- the owners pass
  pub owners_pass : (owners : Bool) → owners ≡ list_all (has net.nodes) still.owners → IsStill net still → owners ≡ true
  owners_pass owners tests fits = tests ∙ pass_all (has net.nodes) still.owners fits.owners

  -- if links and owners are in the network, the value fits exactly where the orders do
  pub as_orders_are : (links owners orders : Bool) (nodes : List ℕ) (list : List (List ℕ)) → links ≡ list_all (λ (link : ℕ × ℕ). linked net link.0 link.1) still.up → links ≡ true
      → owners ≡ list_all (has net.nodes) still.owners → owners ≡ true → nodes ≡ ascending net.nodes → list ≡ still.orders → (orders ≡ true ↔ AreOrders net nodes list)
      → (orders ≡ true → IsStill net still) × (IsStill net still → orders ≡ true)
  as_orders_are links owners orders nodes list tests on tests' on' are same fit = (
    λ e. record {
      links = all_pass (λ (link : ℕ × ℕ). linked net link.0 link.1) still.up (sym tests ∙ on);
      owners = all_pass (has net.nodes) still.owners (sym tests' ∙ on');
      orders = subst (λ l. AreOrders net (ascending net.nodes) l) same (subst (λ n. AreOrders net n list) are (fit.0 e));
    },
    λ is. fit.1 (subst (λ n. AreOrders net n list) (sym are) (subst (λ l. AreOrders net (ascending net.nodes) l) (sym same) is.orders)),
  )
