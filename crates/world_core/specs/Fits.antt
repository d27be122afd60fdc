-- Which events a network admits.
use Rattle.std.specs.Prelude.{Bool, ◌&&◌, nat_lt, nat_le, length}
use Rattle.topology.specs.Lists.{has}
use Rattle.topology.specs.Net.{Net, linked}
use Rattle.topology.specs.declared.limits.TheConstants.{HIGHEST_MESSAGE, HIGHEST_PREFERENCE, MOST_EPOCHS}
use Rattle.chronicle.specs.declared.events.Event.{Event}
use Rattle.chronicle.specs.declared.events.Event.TheVariants.{Originate, Withdraw, Prefer, Deliver, Fail, Restore, Notice, OpenSession, Flush, Snap, Propose, Control, Crash, Restart, Inject, Hop}

-- the names of the event are in the network: its node and prefix, or the link of its two ends; a preference is a
-- million at most, an epoch 1 to 32, the number of a control message 1 to a million, and packets are numbered from 1
abbrev pub fits : Net → Event → Bool
fits net (Originate node prefix) = has net.nodes node && nat_lt prefix (length net.prefixes)
fits net (Withdraw node prefix) = has net.nodes node && nat_lt prefix (length net.prefixes)
fits net (Prefer node nbr value) = linked net node nbr && nat_le value HIGHEST_PREFERENCE
fits net (Deliver from to) = linked net from to
fits net (Fail a b) = linked net a b
fits net (Restore a b) = linked net a b
fits net (Notice node nbr) = linked net node nbr
fits net (OpenSession node nbr) = linked net node nbr
fits net (Flush node nbr) = linked net node nbr
fits net (Snap node) = has net.nodes node
fits net (Propose node epoch) = has net.nodes node && (nat_le 1 epoch && nat_le epoch MOST_EPOCHS)
fits net (Control number) = nat_le 1 number && nat_le number HIGHEST_MESSAGE
fits net (Crash node) = has net.nodes node
fits net (Restart node) = has net.nodes node
fits net (Inject packet node prefix) = nat_le 1 packet && (has net.nodes node && nat_lt prefix (length net.prefixes))
fits net (Hop packet) = nat_le 1 packet
