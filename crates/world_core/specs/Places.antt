-- The place of a node in a list.
use Rattle.std.specs.Prelude.{ℕ, ◌≡◌, length}
use Rattle.topology.specs.Lists.{ascending}
use Rattle.topology.specs.Net.{Net, IsValid}

-- the list has as many elements as the network has nodes, so each node has the place of its rank
pub record HasPlaces (net : Net) (count : ℕ) : Type 0 where
  pub valid : IsValid net
  pub count_is : count ≡ length (ascending net.nodes)
