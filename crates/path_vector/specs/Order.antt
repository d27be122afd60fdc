-- The order in which a node tries its neighbours for a prefix.
use Rattle.std.specs.Prelude.{ℕ, Bool, true, not, ◌≡◌, is_some, List, [], ◌∷◌, ◌++◌, map, filter}
use Rattle.std.specs.List.{AllByRecursion}
use Rattle.std.specs.List.Sorted.{IsPermutation}
use Rattle.topology.specs.Net.{Net, neighbours}
use Rattle.path_vector.specs.declared.neighbours.Neighbour.{Neighbour}
use Rattle.path_vector.specs.declared.policy.Ranked.{Ranked}
use Rattle.path_vector.specs.History.{History}
use Rattle.path_vector.specs.Selection.{candidate, choices, ranked}
use Rattle.path_vector.specs.Kept.{kept_path, ids}

-- each rank is before all that follow it
abbrev pub IsInOrder : (Ranked → Ranked → Bool) → List Ranked → Type 0
IsInOrder before [] = Unit {0}
IsInOrder before (r ∷ rs) = AllByRecursion (λ s. before r s ≡ true) rs × IsInOrder before rs

-- v has no candidate
abbrev pub has_none : ℕ → History → ℕ → ℕ → Bool
has_none u h p v = not (is_some (candidate u h p v))

-- first the neighbours with a candidate, by rank, then the others, ascending
pub record IsOrder (before : Ranked → Ranked → Bool) (net : Net) (u : ℕ) (h : History) (p : ℕ)
    (order : List ℕ) : Type 0 where
  pub by_rank : List Ranked
  pub same : IsPermutation (map ranked (choices net u h p)) by_rank
  pub sorted : IsInOrder before by_rank
  pub is : order ≡ map (λ (r : Ranked). r.nbr) by_rank ++ filter (has_none u h p) (neighbours net u)

-- no candidate of n is stored
abbrev pub keeps_none : ℕ → Neighbour → Bool
keeps_none p n = not (is_some (kept_path p n))

-- the neighbours without a stored candidate
abbrev pub others_kept : ℕ → List Neighbour → List ℕ
others_kept p ns = ids (filter (keeps_none p) ns)
