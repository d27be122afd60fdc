-- Edges in one list: each has the place of the next edge from the same vertex.
use Rattle.std.specs.Prelude.{ℕ, zero, suc, ◌≡◌, ◌≤◌, Some, None, List, [], ◌∷◌, length, slice_get}
use Rattle.std.specs.List.{AllByRecursion}
use Rattle.incomplete_closure.specs.declared.graph.Edge.{Edge}

-- the targets along the chain that begins at the edge at place at - 1; at most n of them
abbrev pub chain : List Edge → ℕ → ℕ → List ℕ
chain edges zero at = []
chain edges (suc n) zero = []
chain edges (suc n) (suc at) = elim (slice_get edges at) [ None ↦ [] | Some e ↦ e.to ∷ chain edges n e.next ]

-- the whole chain
abbrev pub chained : List Edge → ℕ → List ℕ
chained edges at = chain edges (length edges) at

-- each edge points to an older one
abbrev pub GoDown : List Edge → Type 0
GoDown edges = (i : ℕ) (e : Edge) → slice_get edges i ≡ Some e → e.next ≤ i

-- each vertex points to an edge of the list, or to none
pub record AreChained (newest : List ℕ) (edges : List Edge) : Type 0 where
  pub older : GoDown edges
  pub within : AllByRecursion (λ at. at ≤ length edges) newest
