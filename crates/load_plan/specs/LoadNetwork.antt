-- The network of a load: 24 nodes, each but the first three below one or two of the lower nodes, by its draws.
use Rattle.std.specs.Prelude.{ℕ, ◌+◌, ◌-◌, ◌*◌, ◌^◌, ◌<◌, ◌==◌, List, [], ◌∷◌, ◌++◌, map, if◌then◌else◌}
use Rattle.std.specs.List.{flat_map, range_with_len, AllByRecursion}
use Rattle.topology.specs.Net.{Net}
use Rattle.topology.specs.declared.links.Link.{Link}
use Rattle.topology.specs.declared.links.Relation.TheVariants.{Customer, Peer}
use Rattle.topology.specs.declared.names.Scheme.TheVariants.{Deflect}
use Rattle.topology.specs.declared.prefixes.Prefix.{Prefix}
use Rattle.load_plan.specs.Draws.{drawn}

-- the two providers of node i, from 4 on: of the lower nodes, by two draws for each node
unfoldable pub first_provider : ℕ → ℕ → ℕ
first_provider number i = drawn number (2 * i - 7) (i - 1) + 1

unfoldable pub second_provider : ℕ → ℕ → ℕ
second_provider number i = drawn number (2 * i - 6) (i - 1) + 1

-- the first providers of n nodes, from node 4 on
unfoldable pub first_providers : ℕ → ℕ → List ℕ
first_providers number n = map (first_provider number) (range_with_len 4 n)

-- node b is a customer of node a
abbrev pub sells : ℕ → ℕ → Link
sells a b = record { a = a; b = b; relation = Customer }

abbrev pub peers : ℕ → ℕ → Link
peers a b = record { a = a; b = b; relation = Peer }

-- the links of node i to these two providers: one where both are the same node
abbrev pub links_below : ℕ → ℕ → ℕ → List Link
links_below a b i = sells a i ∷ (if b == a then [] else sells b i ∷ [])

abbrev pub provider_links : ℕ → ℕ → List Link
provider_links number i = links_below (first_provider number i) (second_provider number i) i

-- the three consolidators, each a peer of the others
abbrev pub top_links : List Link
top_links = peers 1 2 ∷ peers 1 3 ∷ peers 2 3 ∷ []

-- the links among the consolidators and the first n of the other nodes
unfoldable pub links_among : ℕ → ℕ → List Link
links_among number n = top_links ++ flat_map (provider_links number) (range_with_len 4 n)

-- the ends of the links are below n
abbrev pub AreBelow : ℕ → List Link → Type 0
AreBelow n links = AllByRecursion (λ (link : Link). (link.a < n) × (link.b < n)) links

-- prefix k, from 0: 10.k.0.0/16
abbrev pub load_prefix : ℕ → Prefix
load_prefix k = record { bits = 10 * 2 ^ 24 + k * 2 ^ 16; len = 16 }

-- nodes 1 to n, of which 1 to c are consolidators, these links, and the first p prefixes
unfoldable pub drafted : ℕ → ℕ → List Link → ℕ → Net
drafted n c links p = record {
  nodes = range_with_len 1 n;
  consolidators = range_with_len 1 c;
  links = links;
  preferences = [];
  holds = [];
  prefixes = map load_prefix (range_with_len 0 p);
  hops = 128;
  scheme = Deflect;
}

-- the network of this number
unfoldable pub load_net : ℕ → Net
load_net number = drafted 24 3 (links_among number 21) 12
