-- A network that does not change: the links that are up, the owners, and the order of each node's neighbours.
use Rattle.std.specs.Prelude.{ℕ, ◌≡◌, Bool, true, ◌==◌, None, List, [], ◌∷◌, filter, if◌then◌else◌}
use Rattle.std.specs.List.{list_any, AllByRecursion}
use Rattle.topology.specs.Lists.{has, ascending}
use Rattle.topology.specs.LinkStates.{are_ends}
use Rattle.topology.specs.Net.{Net, linked, neighbours}
use Rattle.topology.specs.Paths.{differ}
use Rattle.transient_mode.specs.Sights.{Sight}
use Rattle.deflect_delivery.specs.declared.stills.Still.{Still}
use Rattle.deflect_delivery.specs.Terrain.{Terrain}

-- a link between the two is up
abbrev pub joins : Still → ℕ → ℕ → Bool
joins still u v = list_any (λ (link : ℕ × ℕ). are_ends u v link.0 link.1) still.up

-- the order at the place where u stands in the nodes; none if u is not there
abbrev pub order_beside : List ℕ → List (List ℕ) → ℕ → List ℕ
order_beside [] orders u = []
order_beside (x ∷ nodes) [] u = []
order_beside (x ∷ nodes) (order ∷ orders) u = if x == u then order else order_beside nodes orders u

-- the order in which u tries its neighbours
abbrev pub order_of : Net → Still → ℕ → List ℕ
order_of net still u = order_beside (ascending net.nodes) still.orders u

-- the neighbours of u whose link is up, ascending
abbrev pub up_near : Net → Still → ℕ → List ℕ
up_near net still u = filter (joins still u) (neighbours net u)

-- what u knows when a deflected packet is there
abbrev pub sight : Net → Still → ℕ → Sight
sight net still u = record {
  at = u;
  owns = has still.owners u;
  order = order_of net still u;
  up = up_near net still u;
  stable = None;
  backups = [];
}

-- the links that are up, and the owners
abbrev pub terrain : Still → Terrain
terrain still = record { joins = joins still; owns = has still.owners }

-- the order has all neighbours of u, each once
pub record IsOrderOf (net : Net) (u : ℕ) (order : List ℕ) : Type 0 where
  pub all : (w : ℕ) → has order w ≡ has (neighbours net u) w
  pub once : differ order ≡ true

-- such an order for each of the nodes, in their order
abbrev pub AreOrders : Net → List ℕ → List (List ℕ) → Type 0
AreOrders net [] [] = Unit {0}
AreOrders net [] (order ∷ orders) = ⊥
AreOrders net (u ∷ nodes) [] = ⊥
AreOrders net (u ∷ nodes) (order ∷ orders) = IsOrderOf net u order × AreOrders net nodes orders

-- the links and owners are in the network, and each node has an order of all its neighbours
pub record IsStill (net : Net) (still : Still) : Type 0 where
  pub links : AllByRecursion (λ (link : ℕ × ℕ). linked net link.0 link.1 ≡ true) still.up
  pub owners : AllByRecursion (λ n. has net.nodes n ≡ true) still.owners
  pub orders : AreOrders net (ascending net.nodes) still.orders
