-- What the calls of a routing state return, in terms of the definitions.
use Rattle.std.specs.Prelude.{ℕ, Bool, ◌≡◌, [], ◌∷◌, List, Option, Some, None}
use Rattle.topology.specs.Net.{Net}
use Rattle.path_vector.specs.declared.state.Best.{Best}
use Rattle.path_vector.specs.declared.state.Best.TheVariants as answer
use Rattle.path_vector.specs.declared.state.Chosen.{Chosen}
use Rattle.path_vector.specs.declared.policy.Ranked.{Ranked}
use Rattle.path_vector.specs.Selection.{Route, Nowhere, Home, Via, Choice, IsFirst, path_of}
use Rattle.path_vector.specs.Offers.{learned}

-- the answer shows this route: for a candidate, its neighbour and its path after u
abbrev pub Shows : ℕ → Best → Route → Type 0
Shows u answer.None Nowhere = Unit {0}
Shows u answer.Own Home = Unit {0}
Shows u (answer.Via nbr nodes) (Via choice) = (nbr ≡ choice.nbr) × (u ∷ nodes.now ≡ choice.path)
Shows u answer.None Home = ⊥
Shows u answer.None (Via choice) = ⊥
Shows u answer.Own Nowhere = ⊥
Shows u answer.Own (Via choice) = ⊥
Shows u (answer.Via nbr nodes) Nowhere = ⊥
Shows u (answer.Via nbr nodes) Home = ⊥

-- the path without its first node u
abbrev pub behind : ℕ → Option (List ℕ) → Option (List ℕ)
behind u None = None
behind u (Some nodes) = Some (u ∷ nodes)

-- a route by a candidate goes by the candidate that no other is before
abbrev pub GoesFirst : (Ranked → Ranked → Bool) → List Choice → Route → Type 0
GoesFirst before cs Nowhere = cs ≡ []
GoesFirst before cs Home = Unit {0}
GoesFirst before cs (Via choice) = IsFirst before cs choice

-- a copy of a route: its path from u on, and where it was learnt
pub record Copies (net : Net) (u : ℕ) (chosen : Chosen) (route : Route) : Type 0 where
  pub path : chosen.path ≡ path_of u route
  pub learnt : chosen.learned ≡ learned net u route
