-- The walk of a packet that is deflected over a network that does not change.
use Rattle.std.specs.Prelude.{ℕ, zero, suc, ◌*◌, ◌-◌, ◌≡◌, Option, Some, None, List, [], ◌∷◌, length, reverse}
use Rattle.topology.specs.Net.{Net}
use Rattle.topology.specs.declared.names.Scheme.TheVariants as scheme
use Rattle.epoch_packet.specs.declared.packets.Packet.{Packet}
use Rattle.epoch_packet.specs.declared.walks.End.{End as Ending}
use Rattle.epoch_packet.specs.Packets.{stamped}
use Rattle.transient_mode.specs.TransientHops.{Hop, Next, Ended, hop_under}
use Rattle.deflect_delivery.specs.declared.stills.Still.{Still}
use Rattle.deflect_delivery.specs.Stills.{sight}

-- the state of a walk: the packet stands at a node after these visits, or the walk is over and had these visits; visits
-- stand newest first
pub data Progress : Type 0 where
  At : (before : List ℕ) → (node : ℕ) → (packet : Packet) → Progress
  Over : (visits : List ℕ) → (ending : Ending) → Progress

-- after a hop at u
abbrev pub come_to : List ℕ → ℕ → Hop → Progress
come_to before u (Next w moved) = At (u ∷ before) w moved
come_to before u (Ended ending) = Over (u ∷ before) ending

-- a walk with these visits so far, the oldest first, whose packet stands at u, or has ended
abbrev pub so_far : List ℕ → ℕ → Packet → Option Ending → Progress
so_far visits u packet None = At (reverse visits) u packet
so_far visits u packet (Some ending) = Over (reverse visits) ending

-- one more hop, by deflection; a walk that is over stays as it is
unfoldable pub one_more : Net → Still → Progress → Progress
one_more net still (At before u packet) = come_to before u (hop_under scheme.Deflect net packet (sight net still u))
one_more net still (Over visits ending) = Over visits ending

-- this many more hops
abbrev pub after_hops : Net → Still → Progress → ℕ → Progress
after_hops net still walk zero = walk
after_hops net still walk (suc count) = one_more net still (after_hops net still walk count)

-- how many moves the packet has: one more than two for each other node. A packet that came back from every node then
-- has one left, so its walk ends as stuck, and not as expired
abbrev pub moves_given : Net → ℕ
moves_given net = 2 * length net.nodes - 1

-- the packet of prefix p that is off the tables at u, with these moves
unfoldable pub set_out : Net → ℕ → ℕ → Packet
set_out net p u = record (stamped net 0 p u None) { budget = moves_given net }

-- the walk from u on, of a packet of prefix p
unfoldable pub whole_walk : Net → Still → ℕ → ℕ → Progress
whole_walk net still p u = after_hops net still (At [] u (set_out net p u)) (2 * length net.nodes)

-- the walk is over, had these visits, the oldest first, and ended like this
abbrev pub IsOver : Progress → List ℕ → Ending → Type 0
IsOver walk visits ending = walk ≡ Over (reverse visits) ending
