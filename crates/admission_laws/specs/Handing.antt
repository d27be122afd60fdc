-- What a node sends out, as its addressee would admit it.
use Rattle.std.specs.Prelude.{ℕ, ◌^◌, Bool, true, ◌&&◌, ◌==◌, nat_le, nat_lt, Option, List, length}
use Rattle.std.specs.List.{list_all}
use Rattle.topology.specs.Lists.{has}
use Rattle.topology.specs.Net.{Net, neighbours}
use Rattle.consolidator.specs.Messages.{Message, Reports, Agrees}
use Rattle.message_fitting.specs.ControlFits.{epoch_fits, message_fits, value_fits}
use Rattle.node_core.specs.Fits.{item_fits, path_fits}
use Rattle.message_fitting.specs.Names.{is_number}
use Rattle.node_core.specs.Outputs.{Output, Logged, Cut, Send, Mail, Published, Forward, Ended}
use Rattle.message_fitting.specs.PacketFits.{packet_fits}

-- for each prefix of the network a path of u, or none
abbrev pub table_fits : Net → ℕ → List (Option (List ℕ)) → Bool
table_fits net u paths = length paths == length net.prefixes && list_all (path_fits net u) paths

-- the report is not too long: it has a row for each session ever held, which are the first with each neighbour, and at
-- most one for each entry
abbrev pub is_short : Message → Bool
is_short (Reports r) = nat_le (length r.sessions) 2112
is_short (Agrees e m) = true

-- an item is from u to a neighbour, in a session from 1; a control message is from u to a node; a table has a value and
-- paths that fit; a packet goes to a node; an end has the number of its packet. All names are in the network, and each
-- number is in its range
abbrev pub output_fits : Net → ℕ → Output → Bool
output_fits net u (Logged index) = true
output_fits net u (Cut e) = epoch_fits e
output_fits net u (Send going) = has (neighbours net u) going.to && (is_number going.session && item_fits net u going.item)
output_fits net u (Mail to m) = has net.nodes to && (message_fits net u m && is_short m)
output_fits net u (Published e value paths) = epoch_fits e && (value_fits net value && table_fits net u paths)
output_fits net u (Forward next packet) = has net.nodes next && packet_fits net packet
output_fits net u (Ended id ending) = nat_lt id (2 ^ 32)
