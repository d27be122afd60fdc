-- The packets that a world keeps.
use Rattle.std.specs.Prelude.{ℕ, ◌≡◌, ◌<◌, ◌==◌, Bool, true, false, is_some, Option, Some, None, List, [], ◌∷◌, find, length, option_map, reverse, if◌then◌else◌}
use Rattle.topology.specs.Lists.{has}
use Rattle.topology.specs.Net.{Net}
use Rattle.epoch_packet.specs.declared.packets.Packet.{Packet}
use Rattle.epoch_packet.specs.declared.walks.End.{End as Ending}
use Rattle.epoch_packet.specs.declared.walks.Visit.{Visit as WalkStop}
use Rattle.chronicle.specs.Facts.{Chronicle, Fact, Visit, End}
use Rattle.chronicle.specs.Walks.{Standing, standing, walk, ending, packets}

-- a packet: its number, the node where it stands, its state there while it is kept, its visits, the oldest first, and
-- the end of its walk, if it has ended
pub record JourneyView : Type 0 where
  pub number : ℕ
  pub node : ℕ
  pub packet : Option Packet
  pub visits : List WalkStop
  pub ending : Option Ending

-- the packet has this number
abbrev pub is_of : ℕ → JourneyView → Bool
is_of k journey = journey.number == k

abbrev pub number_of : JourneyView → ℕ
number_of journey = journey.number

-- packet k as the run has it, with this state kept; none where it never entered the network
abbrev pub journey : Option Packet → ℕ → Chronicle → Option JourneyView
journey kept k past =
    option_map (λ (at : Standing). record { number = k; node = at.node; packet = kept; visits = reverse (walk k past); ending = ending k past })
    (standing k past)

-- the visits of packet k, the oldest first, and the end of its walk, if it has ended
abbrev pub walk_of : ℕ → Chronicle → Option (List WalkStop × Option Ending)
walk_of k past = option_map (λ (at : Standing). (reverse (walk k past), ending k past)) (standing k past)

-- the node and the prefix of the packet are of the network
pub record IsPassing (net : Net) (node : ℕ) (packet : Packet) : Type 0 where
  pub node_is_in : has net.nodes node ≡ true
  pub prefix_is_in : packet.prefix < length net.prefixes

-- the list has exactly the packets of the run, as the run has them, but for packets that are away because a node
-- handles them. Each stands at a node of the network, on its way to a prefix of the network; and only the walk of a
-- packet that entered the network has ended
pub record AreWalksBut (away : ℕ → Bool) (net : Net) (past : Chronicle) (walks : List JourneyView) : Type 0 where
  pub kept : ℕ → Option Packet
  pub each : (k : ℕ) → find (is_of k) walks ≡ journey (kept k) k past
  pub is_kept : (k : ℕ) (at : Standing) → away k ≡ false → standing k past ≡ Some at → ending k past ≡ None → kept k ≡ Some at.packet
  pub count : length walks ≡ packets past
  pub inside : (k : ℕ) (at : Standing) → standing k past ≡ Some at → IsPassing net at.node at.packet
  pub unended : (k : ℕ) → standing k past ≡ None → ending k past ≡ None

-- no packet is away
abbrev pub AreWalks : Net → Chronicle → List JourneyView → Type 0
AreWalks net past walks = AreWalksBut (λ k. false) net past walks

-- the packets are those of some run
pub record HasWalks (net : Net) (walks : List JourneyView) : Type 0 where
  pub past : Chronicle
  pub are_walks : AreWalks net past walks

-- packet k is kept, where it entered the network and its walk has not ended
pub record MayGo (k : ℕ) (walks : List JourneyView) : Type 0 where
  pub is_here : (x : JourneyView) → find (is_of k) walks ≡ Some x → x.ending ≡ None → is_some x.packet ≡ true

-- packet k stood at the node in the run, with a walk that has not ended, and is away now
pub record Takes (net : Net) (past : Chronicle) (k node : ℕ) (packet : Packet) (walks : List JourneyView) : Type 0 where
  pub stands : standing k past ≡ Some (record { node = node; packet = packet })
  pub goes_on : ending k past ≡ None
  pub are_walks : AreWalksBut (λ m. k == m) net past walks

-- the packets that are away after a fact: one that comes to a node, or whose walk ends, is away no longer
abbrev pub still : Fact → (ℕ → Bool) → ℕ → Bool
still (Visit node packet) away k = if packet.id == k then false else away k
still (End packet end) away k = if packet == k then false else away k
still other away k = away k

-- the packets that are away after these facts, the oldest first
abbrev pub still_after : List Fact → (ℕ → Bool) → ℕ → Bool
still_after [] away = away
still_after (f ∷ facts) away = still_after facts (still f away)
