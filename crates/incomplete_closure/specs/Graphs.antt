-- Graphs: a list that has the targets of each vertex at the vertex's place.
use Rattle.std.specs.Prelude.{ℕ, Bool, true, false, ◌+◌, ◌<◌, ◌≡◌, ◌↔◌, List, [], ◌∷◌, ◌++◌, length, get_or, set, if◌then◌else◌}
use Rattle.std.specs.List.{AllByRecursion}
use Rattle.topology.specs.Lists.{Among}

-- the targets of a vertex
abbrev pub led_from : List (List ℕ) → ℕ → List ℕ
led_from graph v = get_or graph v []

-- the graph with one more edge
abbrev pub linked : List (List ℕ) → ℕ → ℕ → List (List ℕ)
linked graph from to = set graph from (to ∷ led_from graph from)

-- the number of edges
unfoldable pub edges : List (List ℕ) → ℕ
edges [] = 0
edges (targets ∷ graph) = length targets + edges graph

-- no edge leads out of the set
abbrev pub IsKept : (ℕ → Bool) → List (List ℕ) → Type 0
IsKept inside graph = (v : ℕ) → inside v ≡ true → AllByRecursion (λ w. inside w ≡ true) (led_from graph v)

-- the vertices that were reached, and in which order
pub record Trail : Type 0 where
  pub seen : List Bool
  pub order : List ℕ

-- the vertex was reached
abbrev pub has_seen : Trail → ℕ → Bool
has_seen reached v = get_or reached.seen v false

-- the vertex enters, unless it was reached before or does not exist
abbrev pub enter : Trail → ℕ → Trail
enter reached v =
    if get_or reached.seen v true then reached else record { seen = set reached.seen v true; order = reached.order ++ v ∷ [] }

-- the vertices enter one after another
abbrev pub enter_all : Trail → List ℕ → Trail
enter_all reached [] = reached
enter_all reached (v ∷ vs) = enter_all (enter reached v) vs

-- no number occurs twice
abbrev pub Differ : List ℕ → Type 0
Differ [] = Unit {0}
Differ (x ∷ xs) = (Among x xs → ⊥) × Differ xs

-- the reached vertices are the least set that has the roots and that no edge leaves; each entered once
pub record IsReached (graph : List (List ℕ)) (roots : List ℕ) (reached : Trail) : Type 0 where
  pub begun : (v : ℕ) → Among v roots → v < length graph → has_seen reached v ≡ true
  pub led : (v w : ℕ) → has_seen reached v ≡ true → Among w (led_from graph v) → w < length graph → has_seen reached w ≡ true
  pub least : (inside : ℕ → Bool) → IsKept inside graph → ((w : ℕ) → Among w roots → inside w ≡ true) → (v : ℕ) → has_seen reached v ≡ true → inside v ≡ true
  pub entered : (v : ℕ) → Among v reached.order ↔ (has_seen reached v ≡ true)
  pub once : Differ reached.order
