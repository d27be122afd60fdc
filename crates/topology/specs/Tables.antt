-- How a topology keeps what was added.
use Rattle.std.specs.Prelude.{◌≡◌, ℕ, List, map, min, max, IsTrue}
use Rattle.std.specs.List.{AllByRecursion}
use Rattle.topology.specs.Net.{Net, neighbours, IsValid}
use Rattle.topology.specs.Paths.{differ}
use Rattle.topology.specs.Lists.{ascending}
use Rattle.topology.specs.declared.links.Link.{Link}
use Rattle.topology.specs.declared.links.Pref.{Pref}
use Rattle.topology.specs.declared.pref_table.Side.{Side}
use Rattle.topology.specs.declared.link_table.LinkKey.{LinkKey}

-- different nodes in the order in which they were added, and how many more fit without a new allocation
pub record Members : Type 0 where
  pub nodes : List ℕ
  pub room : ℕ

-- the second list has the same nodes in ascending order
pub record InBothOrders (added rising : List ℕ) : Type 0 where
  pub apart : IsTrue (differ added)
  pub sorted : rising ≡ ascending added

-- the key of a link: its two ends, the lower first
abbrev pub ends : ℕ → ℕ → LinkKey
ends a b = record { low = min a b; high = max a b }

-- each link is kept under its two ends
pub record UnderTheirEnds (entries : List (LinkKey × Link)) : Type 0 where
  pub each : AllByRecursion (λ e. e.0 ≡ ends e.1.a e.1.b) entries

-- the key of a preference: the node that prefers, then the other
abbrev pub side : ℕ → ℕ → Side
side a b = record { from = a; to = b }

-- each preference is kept under its two nodes
pub record UnderTheirSides (entries : List (Side × Pref)) : Type 0 where
  pub each : AllByRecursion (λ e. e.0 ≡ side e.1.a e.1.b) entries

-- the topology is valid, and the list at each node's place has that node's neighbours
pub record Keeps (net : Net) (lists : List (List ℕ)) : Type 0 where
  pub valid : IsValid net
  pub near : lists ≡ map (neighbours net) net.nodes
