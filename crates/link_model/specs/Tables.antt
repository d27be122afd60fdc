-- The numbers of a network's ways, and the tables to look them up.
use Rattle.std.specs.Prelude.{ℕ, suc, zero, ◌≡◌, ◌≤◌, ◌+◌, Bool, Option, Some, None, List, [], ◌∷◌, map, flat_map, length, slice_get, if◌then◌else◌}
use Rattle.std.specs.List.Sorted.{IsStrictlyIncreasing}
use Rattle.topology.specs.Lists.{ascending}
use Rattle.topology.specs.Net.{Net, linked, neighbours}
use Rattle.topology.specs.declared.ways.Way.{Way}
use Rattle.link_model.specs.declared.way_set.TheConstants.{MOST_WAYS}

abbrev pub ends : ℕ → ℕ → Way
ends from to = record { from = from; to = to }

-- the ways from u, by receiver
abbrev pub ways_from : Net → ℕ → List Way
ways_from net u = map (ends u) (neighbours net u)

-- all ways, by sender, then by receiver; the place of each is its number
abbrev pub ways_of : Net → List Way
ways_of net = flat_map (ways_from net) (ascending net.nodes)

-- the entry at a place of a table; None beyond its end
abbrev pub answer : List (Option ℕ) → ℕ → Option ℕ
answer [] i = None
answer (x ∷ xs) zero = x
answer (x ∷ xs) (suc i) = answer xs i

-- the table has the place of each node, at the node's number
pub record IsRanked (nodes : List ℕ) (table : List (Option ℕ)) : Type 0 where
  pub right : (n rank : ℕ) → answer table n ≡ Some rank → slice_get nodes rank ≡ Some n
  pub found : (n rank : ℕ) → slice_get nodes rank ≡ Some n → answer table n ≡ Some rank

-- the entry at a place of a row
abbrev pub cell : List (List (Option ℕ)) → ℕ → ℕ → Option ℕ
cell [] i j = None
cell (row ∷ rows) zero j = answer row j
cell (row ∷ rows) (suc i) j = cell rows i j

-- the number is in the row of u and the column of v
pub record IsCell (nodes : List ℕ) (rows : List (List (Option ℕ))) (u v way : ℕ) : Type 0 where
  pub sender : ℕ
  pub receiver : ℕ
  pub from : slice_get nodes sender ≡ Some u
  pub to : slice_get nodes receiver ≡ Some v
  pub here : cell rows sender receiver ≡ Some way

-- the rows have the number of each way, at the ranks of its two ends
pub record IsTabled (nodes : List ℕ) (rows : List (List (Option ℕ))) (ways : List Way) : Type 0 where
  pub rises : IsStrictlyIncreasing nodes
  pub wide : length rows ≡ length nodes
  pub right : (i j u v way : ℕ) → slice_get nodes i ≡ Some u → slice_get nodes j ≡ Some v
      → cell rows i j ≡ Some way → slice_get ways way ≡ Some (ends u v)
  pub found : (u v way : ℕ) → slice_get ways way ≡ Some (ends u v) → IsCell nodes rows u v way
  pub few : length ways ≤ MOST_WAYS

-- the numbers of the ways to those nodes that are near, counted from `first`
abbrev pub cells : (ℕ → Bool) → ℕ → List ℕ → List (Option ℕ)
cells near first [] = []
cells near first (v ∷ vs) = if near v then Some first ∷ cells near (suc first) vs else None ∷ cells near first vs

-- the rows of these nodes, counted from `first`
abbrev pub rows_from : Net → ℕ → List ℕ → List (List (Option ℕ))
rows_from net first [] = []
rows_from net first (u ∷ us) =
    cells (linked net u) first (ascending net.nodes) ∷ rows_from net (first + length (neighbours net u)) us
