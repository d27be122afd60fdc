-- The premise of a node's promises on an input.
use Rattle.std.specs.Prelude.{ℕ, ◌≡◌, ◌<◌, true, length}
use Rattle.topology.specs.Lists.{has}
use Rattle.topology.specs.Net.{Net, neighbours}
use Rattle.trigger_log.specs.Going.{Item, News, Marker, Hello}
use Rattle.chronicle.specs.Inputs.{Input, Originate, Withdraw, Prefer, Arrive, Notice, OpenSession, Flush, Snap, Propose, Control, Inject, Hop}
use Rattle.cut_laws.specs.Own.{MayHear}

-- the prefix of an update is one of the network
abbrev pub IsPlaced : Net → Item → Type 0
IsPlaced net (News number x) = x.prefix < length net.prefixes
IsPlaced net (Marker e) = Unit {0}
IsPlaced net (Hello e) = Unit {0}

-- the names of the input are those of the network: its prefixes, and neighbours of u. The path of an update begins with
-- its sender, repeats no node and stays in the network, and the update lists a trigger. Ballots and control messages
-- have no premise, and a packet only that its prefix is one of the network
abbrev pub MayCome : Net → ℕ → Input → Type 0
MayCome net u (Originate p) = p < length net.prefixes
MayCome net u (Withdraw p) = p < length net.prefixes
MayCome net u (Prefer v value) = has (neighbours net u) v ≡ true
MayCome net u (Arrive v s item) = (has (neighbours net u) v ≡ true) × IsPlaced net item × MayHear net v item
MayCome net u (Notice v) = has (neighbours net u) v ≡ true
MayCome net u (OpenSession v s) = has (neighbours net u) v ≡ true
MayCome net u (Flush v) = has (neighbours net u) v ≡ true
MayCome net u Snap = Unit {0}
MayCome net u (Propose e) = Unit {0}
MayCome net u (Control from m) = Unit {0}
MayCome net u (Inject id p) = p < length net.prefixes
MayCome net u (Hop packet up) = packet.prefix < length net.prefixes
