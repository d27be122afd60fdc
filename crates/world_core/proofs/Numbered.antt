-- Sets of ways by their numbers.
use Rattle.std.proofs.Common.{ℕ, zero, suc, ◌<◌, ◌≡◌, Bool, true, false, cond, ◌==◌, Option, Some, None, List, [], ◌∷◌, refl, sym, ◌∙◌, ap, subst, arith, true≢false, length, nat_lt, slice_get, find, if◌then◌else◌}
use Rattle.std.proofs.lemmas.Bool.Decides.{nat_tests}
use Rattle.std.proofs.lemmas.Option.{slice_get_within}
use Rattle.topology.specs.Net.{Net, IsValid, linked}
use Rattle.link_model.specs.Tables.{ways_of}
use Rattle.link_model.proofs.Numbers.{link_placed, one_number}
use Rattle.topology.specs.declared.ways.Way.{Way}
use Rattle.chronicle.specs.Deliveries.{ways}
use Rattle.world_core.specs.Refreshing.{AreLinked}
use Rattle.world_core.specs.WaySets.{same_way, has_in}
use Rattle.world_core.proofs.Places.{same_some}

-- two ways with the same ends are one
pub same_ends : (v w : Way) → same_way v w ≡ true → v ≡ w
same_ends v w e =
    let from : v.from ≡ w.from = grind (arith, nat_tests) in
    let to : v.to ≡ w.to = grind (arith, nat_tests) in
    make v w from to
  where
    -- a way is its two ends
    make : (v w : Way) → v.from ≡ w.from → v.to ≡ w.to → v ≡ w
    make v w e f = ap (λ n. record { from = n; to = v.to }) e ∙ ap (λ n. record { from = w.from; to = n }) f

same_itself : (w : Way) → same_way w w ≡ true
same_itself w = grind (arith, nat_tests)

-- the two sets agree where the way has a number
agree_in : (p q : ℕ → Bool) (table : List Way) (w : Way) → ((i : ℕ) → slice_get table i ≡ Some w → p i ≡ q i) → has_in p table w ≡ has_in q table w
agree_in p q [] w same = refl
agree_in p q (e ∷ es) w same =
    (elim (same_way e w) as (λ t. same_way e w ≡ t → cond t (p 0) (has_in (λ n. p (suc n)) es w) ≡ cond t (q 0) (has_in (λ n. q (suc n)) es w)) [
      | true ↦ λ h. same 0 (ap Some (same_ends e w h))
      | false ↦ λ h. agree_in (λ n. p (suc n)) (λ n. q (suc n)) es w (λ i at. same (suc i) at)
    ]) refl

-- the set has a way where it has its number
pub has_at : (p : ℕ → Bool) (table : List Way) (k : ℕ) (w : Way) → slice_get table k ≡ Some w → ((i : ℕ) → slice_get table i ≡ Some w → i ≡ k) → has_in p table w ≡ p k
has_at p [] k w at only = absurd (cc at)
has_at p (e ∷ es) zero w at only = rw (same_some e w at, same_itself w) refl
has_at p (e ∷ es) (suc k) w at only =
    (elim (same_way e w) as (λ t. same_way e w ≡ t → cond t (p 0) (has_in (λ n. p (suc n)) es w) ≡ p (suc k)) [
      | true ↦ λ h. let first : 0 ≡ suc k = only 0 (ap Some (same_ends e w h)) in absurd (omega (arith, first))
      | false ↦ λ h. has_at (λ n. p (suc n)) es k w at (λ i there. let next : suc i ≡ suc k = only (suc i) there in omega (arith, next))
    ]) refl

-- what a set has after one number was put in, or taken out
pub put_way : (table : List Way) (w : Way) (k : ℕ) (waits : Bool) (old new : ℕ → Bool) → slice_get table k ≡ Some w → ((i : ℕ) → slice_get table i ≡ Some w → i ≡ k)
    → ((i : ℕ) → new i ≡ (if i == k then waits else old i)) → (other : Way) → has_in new table other ≡ (if same_way other w then waits else has_in old table other)
put_way table w k waits old new at only put other =
    (elim (same_way other w) as (λ t. same_way other w ≡ t → has_in new table other ≡ cond t waits (has_in old table other)) [
      | true ↦ λ h. rw (same_ends other w h) (has_at new table k w at only ∙ (put k ∙ rw (same_number k) refl))
      | false ↦ λ h. agree_in new old table other (λ i there. put i ∙ rw (apart other h i there) refl)
    ]) refl
  where
    same_number : (a : ℕ) → (a == a) ≡ true
    same_number a = grind (arith, nat_tests)

    is_same : (other : Way) → w ≡ other → same_way other w ≡ true
    is_same other e =
        let from : w.from ≡ other.from = ap (λ (x : Way). x.from) e in
        let to : w.to ≡ other.to = ap (λ (x : Way). x.to) e in
        grind (arith, nat_tests)

    apart : (other : Way) → same_way other w ≡ false → (i : ℕ) → slice_get table i ≡ Some other → (i == k) ≡ false
    apart other h i there =
        (elim (i == k) as (λ t. (i == k) ≡ t → t ≡ false) [
          | true ↦ λ e.
              let same : i ≡ k = grind (arith, nat_tests) in
              let one : w ≡ other = same_some w other (sym at ∙ (ap (slice_get table) (sym same) ∙ there)) in
              absurd (true≢false (sym (is_same other one) ∙ h))
          | false ↦ λ e. refl
        ]) refl

-- ---- the first

-- both list the ways in one order
pub ways_numbered : (net : Net) → ways net ≡ ways_of net
unfolding ways
ways_numbered net = refl

module _ {A : Type 0} (p : A → Bool) where
  find_first : (xs : List A) (k : ℕ) (x : A) → slice_get xs k ≡ Some x → p x ≡ true → ((i : ℕ) (y : A) → i < k → slice_get xs i ≡ Some y → p y ≡ false) → find p xs ≡ Some x
  find_first [] k x at passes low = absurd (cc at)
  find_first (y ∷ ys) zero x at passes low = rw (same_some y x at, passes) refl
  find_first (y ∷ ys) (suc k) x at passes low = rw (low 0 y (omega arith) refl) (find_first ys k x at passes (λ i z l e. low (suc i) z (omega (arith, l)) e))

  find_none : (xs : List A) → ((i : ℕ) (y : A) → slice_get xs i ≡ Some y → p y ≡ false) → find p xs ≡ None
  find_none [] none = refl
  find_none (y ∷ ys) none = rw (none 0 y refl) (find_none ys (λ i z e. none (suc i) z e))

below_end : {A : Type 0} (xs : List A) (k i : ℕ) (x : A) → slice_get xs k ≡ None → slice_get xs i ≡ Some x → i < k
below_end [] k i x e f = absurd (cc f)
below_end (y ∷ ys) zero i x e f = absurd (cc e)
below_end (y ∷ ys) (suc k) zero x e f = omega arith
below_end (y ∷ ys) (suc k) (suc i) x e f = let l = below_end ys k i x e f in omega (arith, l)

-- a set has the way at a number where it has the number
pub at_number : (net : Net) → IsValid net → (p : ℕ → Bool) (i : ℕ) (e : Way) → slice_get (ways_of net) i ≡ Some e → has_in p (ways_of net) e ≡ p i
at_number net valid p i e at = has_at p (ways_of net) i e at (λ j there. one_number net e.from e.to j i valid there at)

-- where a test of ways is one of their numbers
module _ (net : Net) (test : Way → Bool) (p : ℕ → Bool) (same : (i : ℕ) (e : Way) → slice_get (ways_of net) i ≡ Some e → test e ≡ p i) where
  -- no way passes where no number does
  pub found_none : ((i : ℕ) → p i ≡ false) → find test (ways net) ≡ None
  found_none none = rw (ways_numbered net) (find_none test (ways_of net) (λ i e at. same i e at ∙ none i))

  -- the way with the lowest number is the first
  pub found_first : (k : ℕ) (r : Option Way) → r ≡ slice_get (ways_of net) k → p k ≡ true → ((i : ℕ) → i < k → p i ≡ false) → find test (ways net) ≡ r
  found_first k (Some e) is passes low =
      rw (ways_numbered net) (find_first test (ways_of net) k e (sym is) (same k e (sym is) ∙ passes) (λ i y l at. same i y at ∙ low i l))
  found_first k None is passes low =
      rw (ways_numbered net) (find_none test (ways_of net) (λ i e at. same i e at ∙ low i (below_end (ways_of net) k i e (sym is) at)))

-- ---- ways over links

-- what stands in a list of ways over links goes over a link
pub linked_at : (net : Net) (table : List Way) (i : ℕ) (e : Way) → AreLinked net table → slice_get table i ≡ Some e → linked net e.from e.to ≡ true
linked_at net [] i e near at = absurd (cc at)
linked_at net (x ∷ xs) zero e near at = subst (λ (y : Way). linked net y.from y.to ≡ true) (same_some x e at) near.0
linked_at net (x ∷ xs) (suc i) e near at = linked_at net xs i e near.1 at

-- no set has a way that goes over no link
pub none_apart : (net : Net) (p : ℕ → Bool) (table : List Way) (w : Way) → AreLinked net table → linked net w.from w.to ≡ false → has_in p table w ≡ false
none_apart net p [] w near apart = refl
none_apart net p (e ∷ es) w near apart =
    (elim (same_way e w) as (λ t. same_way e w ≡ t → cond t (p 0) (has_in (λ n. p (suc n)) es w) ≡ false) [
      | true ↦ λ h. absurd (true≢false (sym (subst (λ (y : Way). linked net y.from y.to ≡ true) (same_ends e w h) near.0) ∙ apart))
      | false ↦ λ h. none_apart net (λ n. p (suc n)) es w near.1 apart
    ]) refl

-- the set of all numbers has each way over a link
pub all_linked : (net : Net) (p : ℕ → Bool) → IsValid net → AreLinked net (ways_of net) → ((i : ℕ) → p i ≡ nat_lt i (length (ways_of net)))
    → (w : Way) → has_in p (ways_of net) w ≡ linked net w.from w.to
all_linked net p valid near all w =
    (elim (linked net w.from w.to) as (λ t. linked net w.from w.to ≡ t → has_in p (ways_of net) w ≡ t) [
      | true ↦ λ joined. link_placed net w.from w.to _ valid joined (λ k at.
          let low : k < length (ways_of net) = slice_get_within (ways_of net) k w at in
          at_number net valid p k w at ∙ (all k ∙ grind (arith, nat_tests, low)))
      | false ↦ λ apart. none_apart net p (ways_of net) w near apart
    ]) refl
