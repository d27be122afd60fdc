-- The present state of a run, as a network that does not change.
use Rattle.std.specs.Prelude.{ℕ, List, map, filter}
use Rattle.topology.specs.declared.links.Link.{Link}
use Rattle.topology.specs.Lists.{ascending}
use Rattle.topology.specs.LinkStates.{is_up}
use Rattle.topology.specs.Net.{Net}
use Rattle.path_vector.specs.Rules.{Rules}
use Rattle.path_vector.specs.History.{owns}
use Rattle.path_vector.specs.Ranking.{order}
use Rattle.trigger_log.specs.Entries.{reads}
use Rattle.chronicle.specs.Facts.{Chronicle}
use Rattle.chronicle.specs.Links.{link}
use Rattle.chronicle.specs.Logs.{log_of}
use Rattle.deflect_delivery.specs.declared.stills.Still.{Still}

-- the links that are up, in file order
abbrev pub links_up : Net → Chronicle → List (ℕ × ℕ)
links_up net past = map (λ (l : Link). (l.a, l.b)) (filter (λ (l : Link). is_up (link l.a l.b past)) net.links)

-- the nodes that own p, ascending
abbrev pub owners_of : Net → Chronicle → ℕ → List ℕ
owners_of net past p = filter (λ u. owns (reads (log_of u past)) p) (ascending net.nodes)

-- for each node, ascending, the order in which it tries its neighbours for p
abbrev pub orders_of : Rules → Net → Chronicle → ℕ → List (List ℕ)
orders_of rules net past p = map (λ u. order rules net u (reads (log_of u past)) p) (ascending net.nodes)

-- the links that are up, the owners of p, and the order of each node; crashed nodes are included like all others
unfoldable pub still_now : Rules → Net → Chronicle → ℕ → Still
still_now rules net past p = record { up = links_up net past; owners = owners_of net past p; orders = orders_of rules net past p }
