-- When a routing state stands for a list of entries: what it stores is what the definitions read from the list.
use Rattle.std.specs.Prelude.{ℕ, ◌≡◌, ◌<◌, [], ◌∷◌, Some, length, map, slice_get}
use Rattle.std.specs.List.{AllByRecursion}
use Rattle.topology.specs.Net.{Net, IsValid, neighbours, relation, file_preference}
use Rattle.path_vector.specs.declared.neighbours.Neighbour.{Neighbour}
use Rattle.path_vector.specs.declared.state.RouteState.{RouteState}
use Rattle.path_vector.specs.History.{History, held, highest, owns, preference}
use Rattle.path_vector.specs.Selection.{candidate}

-- what is stored of a neighbour is what is read from the list
pub record Remembers (net : Net) (u : ℕ) (h : History) (n : Neighbour) : Type 0 where
  pub relates : relation net u n.id ≡ Some n.relation
  pub holds : n.held ≡ held h n.id
  pub named : n.highest ≡ highest h n.id
  pub prefers : n.preference ≡ preference (file_preference net u n.id) h n.id
  pub places : length n.told.items ≡ length net.prefixes
  pub told : (p : ℕ) → p < length net.prefixes → slice_get n.told.items p ≡ Some (candidate u h p n.id)

-- the state is that of node u in this net, after these entries
pub record StandsFor {P : Type 0} (policy : P) (net : Net) (u : ℕ) (state : RouteState P) (h : History) : Type 0 where
  pub same_policy : state.policy ≡ policy
  pub valid : IsValid net
  pub alone : state.alone ≡ u ∷ []
  pub ids : map (λ (n : Neighbour). n.id) state.neighbours.items ≡ neighbours net u
  pub each : AllByRecursion (Remembers net u h) state.neighbours.items
  pub places : length state.owned.items ≡ length net.prefixes
  pub owned : (p : ℕ) → p < length net.prefixes → slice_get state.owned.items p ≡ Some (owns h p)
