-- Which inputs a node admits.
use Rattle.std.specs.Prelude.{ℕ, Bool, true, false, ◌&&◌, ◌==◌, nat_lt, nat_le, Option, Some, None, List, [], ◌∷◌, length}
use Rattle.topology.specs.Lists.{has}
use Rattle.topology.specs.Paths.{differ}
use Rattle.topology.specs.Net.{Net, neighbours}
use Rattle.trigger_log.specs.Going.{Item, News, Marker, Hello}
use Rattle.chronicle.specs.Inputs.{Input, Originate, Withdraw, Prefer, Arrive, Notice, OpenSession, Flush, Snap, Propose, Control, Inject, Hop}
use Rattle.message_fitting.specs.ControlFits.{epoch_fits, message_fits}
use Rattle.message_fitting.specs.Names.{are_nodes, is_number, list_fits}
use Rattle.message_fitting.specs.PacketFits.{packet_fits, are_links}
use Rattle.topology.specs.declared.limits.TheConstants.{MOST_EPOCHS, HIGHEST_PREFERENCE}

-- the first node of the list is v
abbrev pub begins_with : ℕ → List ℕ → Bool
begins_with v [] = false
begins_with v (n ∷ ns) = n == v

-- a path begins with its sender, repeats no node and stays in the network
abbrev pub path_fits : Net → ℕ → Option (List ℕ) → Bool
path_fits net v None = true
path_fits net v (Some path) = begins_with v path && (differ path && are_nodes net path)

-- an update of v: numbered from 1, of a prefix of the network, with triggers and a path that fit; a mark of
-- an epoch that there may be, where a greeting may also come before the first epoch
abbrev pub item_fits : Net → ℕ → Item → Bool
item_fits net v (News number x) =
    is_number number && (nat_lt x.prefix (length net.prefixes) && (list_fits net x.triggers && path_fits net v x.path))
item_fits net v (Marker e) = nat_le 1 e && nat_le e MOST_EPOCHS
item_fits net v (Hello e) = nat_le e MOST_EPOCHS

-- the names of the input are in the network, its other node is a neighbour of u, and each number is in its range:
-- sessions and packets from 1, preferences up to a million. A ballot is for an epoch from 1 to 32, a control message is
-- one that its sender may send, and the links that are up are given by their other ends, ascending
unfoldable pub fits : Net → ℕ → Input → Bool
fits net u (Originate p) = nat_lt p (length net.prefixes)
fits net u (Withdraw p) = nat_lt p (length net.prefixes)
fits net u (Prefer v value) = has (neighbours net u) v && nat_le value HIGHEST_PREFERENCE
fits net u (Arrive v s item) = has (neighbours net u) v && (is_number s && item_fits net v item)
fits net u (Notice v) = has (neighbours net u) v
fits net u (OpenSession v s) = has (neighbours net u) v && is_number s
fits net u (Flush v) = has (neighbours net u) v
fits net u Snap = true
fits net u (Propose e) = epoch_fits e
fits net u (Control from m) = message_fits net from m
fits net u (Inject id p) = is_number id && nat_lt p (length net.prefixes)
fits net u (Hop packet up) = packet_fits net packet && are_links net u up
