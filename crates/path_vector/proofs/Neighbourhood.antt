-- The neighbours of a node ascend, and each has a relation.
use Rattle.std.proofs.Common.{◌≡◌, ℕ, suc, ◌<◌, ◌≤◌, Bool, true, false, ◌||◌, ◌==◌, List, [], ◌∷◌, length, filter, refl, ◌∙◌, subst, arith, None, is_some, cond, ◌≢◌}
use Rattle.std.specs.Prelude.{slice_index_or}
use Rattle.std.specs.List.{AllByRecursion, AllPairs}
use Rattle.std.proofs.lemmas.Bool.Decides.{nat_tests}
use Rattle.std.proofs.lemmas.List.Kept.{AllPairs-from_increasing}
use Rattle.topology.specs.Lists.{has, ascending}
use Rattle.topology.specs.Net.{Net, IsValid, neighbours, linked, relation}
use Rattle.topology.proofs.Neighbours.{increasing_neighbours}
use Rattle.topology.proofs.Relations.{relation_linked}
use Rattle.path_vector.specs.Kept.{Rises}

pub or_left : (b c : Bool) → (b || c) ≡ false → b ≡ false
or_left true c e = absurd (cc e)
or_left false c e = refl

pub or_right : (b c : Bool) → (b || c) ≡ false → c ≡ false
or_right true c e = absurd (cc e)
or_right false c e = e

below_each : (x : ℕ) (xs : List ℕ) → ((k d : ℕ) → k < length xs → x < slice_index_or xs k d) → AllByRecursion (λ y. x < y) xs
below_each x [] below = tt
below_each x (y ∷ ys) below = (below 0 y (omega arith), below_each x ys (λ k d l. below (suc k) d (omega arith)))

rises_pairs : (xs : List ℕ) → AllPairs (λ x y. x < y) xs → Rises xs
rises_pairs [] below = tt
rises_pairs (x ∷ xs) below =
    (below_each x xs (λ k d l. below 0 (suc k) d (omega arith) (omega arith)), rises_pairs xs (λ i j d l m. below (suc i) (suc j) d (omega arith) (omega arith)))

-- the neighbours of a node ascend
pub neighbours_rise : (net : Net) (u : ℕ) → IsValid net → Rises (neighbours net u)
neighbours_rise net u valid = rises_pairs (neighbours net u) (AllPairs-from_increasing (neighbours net u) (increasing_neighbours net u valid))

-- an ascending list has each number once
above : (x y : ℕ) (xs : List ℕ) → x ≤ y → AllByRecursion (λ z. y < z) xs → has xs x ≡ false
above x y [] h a = refl
above x y (z ∷ zs) h a = let other : (z == x) ≡ false = grind (arith, nat_tests, a.0) in rw (other, above x y zs h a.1) refl

pub not_behind : (x : ℕ) (xs : List ℕ) → Rises (x ∷ xs) → has xs x ≡ false
not_behind x xs r = above x x xs (omega arith) r.0

passes : (test : ℕ → Bool) (xs : List ℕ) (n : ℕ) → has (filter test xs) n ≡ true → test n ≡ true
passes test [] n e = absurd (cc e)
passes test (x ∷ xs) n e =
    (elim (test x) as (λ t. test x ≡ t → has (cond t (x ∷ filter test xs) (filter test xs)) n ≡ true → test n ≡ true) [
      | true ↦ λ t e. (elim (x == n) as (λ b. (x == n) ≡ b → test n ≡ true) [
        | true ↦ λ s. let same : x ≡ n = grind (arith, nat_tests) in rw same at t
        | false ↦ λ s. passes test xs n (rw s at e)
      ]) refl
      | false ↦ λ t e. passes test xs n e
    ]) refl e

-- a neighbour has a relation
pub neighbour_relates : (net : Net) (u v : ℕ) → has (neighbours net u) v ≡ true → relation net u v ≢ None
unfolding neighbours
neighbour_relates net u v there none =
    let off : false ≡ linked net u v = subst (λ r. is_some r ≡ linked net u v) none (relation_linked net u v) in
    cc (off ∙ passes (linked net u) (ascending net.nodes) v there)
