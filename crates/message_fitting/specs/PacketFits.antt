-- Which packets a node admits.
use Rattle.std.specs.Prelude.{ℕ, ◌^◌, Bool, ◌&&◌, nat_lt, nat_le, List, length}
use Rattle.std.specs.List.{list_all}
use Rattle.topology.specs.Lists.{has}
use Rattle.topology.specs.Net.{Net, neighbours}
use Rattle.epoch_packet.specs.declared.packets.Packet.{Packet}
use Rattle.message_fitting.specs.ControlFits.{in_order}
use Rattle.message_fitting.specs.Names.{are_nodes, is_number}
use Rattle.topology.specs.declared.limits.TheConstants.{MOST_EPOCHS, MOST_TRAIL}

-- a list that a packet carries: nodes of the network, and no more than there may be
abbrev pub carried_fits : Net → List ℕ → Bool
carried_fits net nodes = nat_le (length nodes) MOST_TRAIL && are_nodes net nodes

-- the packet is numbered from 1, its prefix and its nodes are of the network, and its stamp is an epoch from 1 to 32,
-- or 0; its budget has two bytes, and the set of visited nodes eight
abbrev pub packet_fits : Net → Packet → Bool
packet_fits net packet =
    is_number packet.id && (nat_lt packet.prefix (length net.prefixes) && (nat_le packet.epoch MOST_EPOCHS
    && (nat_lt packet.budget (2 ^ 16) && (nat_lt packet.visited (2 ^ 64)
    && (carried_fits net packet.trail && carried_fits net packet.route)))))

-- they are neighbours of u, ascending
abbrev pub are_links : Net → ℕ → List ℕ → Bool
are_links net u up = in_order nat_lt up && list_all (has (neighbours net u)) up
