-- A route as a routing state finds it.
use Rattle.std.specs.Prelude.{ℕ, ◌≡◌, Option, Some, None, List, [], ◌∷◌}
use Rattle.topology.specs.Net.{Net}
use Rattle.path_vector.specs.declared.policy.Learned.{Learned}
use Rattle.path_vector.specs.declared.policy.Learned.TheVariants as learnt
use Rattle.path_vector.specs.declared.state.Taken.{Taken}
use Rattle.path_vector.specs.declared.state.Taken.TheVariants.{Own, By}
use Rattle.path_vector.specs.Selection.{Route, Nowhere, Home, Via, path_of}
use Rattle.path_vector.specs.Offers.{learned}

-- the neighbour that a route goes by
abbrev pub nbr_of : Route → Option ℕ
nbr_of Nowhere = None
nbr_of Home = None
nbr_of (Via choice) = Some choice.nbr

-- the neighbour by which a route that was found goes
abbrev pub neighbour_of : Taken → Option ℕ
neighbour_of Own = None
neighbour_of (By nbr relation candidate) = Some nbr

-- where a route that was found was learnt
abbrev pub learned_so : Taken → Learned
learned_so Own = learnt.Own
learned_so (By nbr relation candidate) = learnt.From relation

-- the path of a route that was found, from u on
abbrev pub path_by : ℕ → Taken → List ℕ
path_by u Own = u ∷ []
path_by u (By nbr relation candidate) = candidate.now

-- the route goes by this neighbour, was learnt like this, and has this path, which begins with u
pub record Takes (net : Net) (u : ℕ) (via : Option ℕ) (learned_so : Learned) (path : List ℕ)
    (route : Route) : Type 0 where
  pub by : via ≡ nbr_of route
  pub learnt : Some learned_so ≡ learned net u route
  pub is : Some path ≡ path_of u route
  pub own : (rest : List ℕ) × (path ≡ u ∷ rest)

-- the route that was found is this one
abbrev pub IsTaken : Net → ℕ → Option Taken → Route → Type 0
IsTaken net u None route = route ≡ Nowhere
IsTaken net u (Some taken) route = Takes net u (neighbour_of taken) (learned_so taken) (path_by u taken) route
