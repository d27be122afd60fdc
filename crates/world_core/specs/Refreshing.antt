-- The ways that an event may open or close, and a set of open ways but for these.
use Rattle.std.specs.Prelude.{ℕ, ◌≡◌, Bool, true, false, ◌&&◌, List, [], ◌∷◌, ◌++◌, map}
use Rattle.std.specs.List.{list_any, AllByRecursion}
use Rattle.topology.specs.Net.{Net, linked, neighbours}
use Rattle.chronicle.specs.declared.events.Event.{Event}
use Rattle.chronicle.specs.declared.events.Event.TheVariants.{Originate, Withdraw, Prefer, Deliver, Fail, Restore, Notice, OpenSession, Flush, Snap, Propose, Control, Crash, Restart, Inject, Hop}
use Rattle.topology.specs.declared.ways.Way.{Way}
use Rattle.chronicle.specs.Facts.{Chronicle}
use Rattle.world_core.specs.OpenWays.{is_open}
use Rattle.world_core.specs.WaySets.{same_way}

abbrev pub way : ℕ → ℕ → Way
way from to = record { from = from; to = to }

-- the event fails or restores its link
abbrev pub is_outage : Event → Bool
is_outage (Originate node prefix) = false
is_outage (Withdraw node prefix) = false
is_outage (Prefer node nbr value) = false
is_outage (Deliver from to) = false
is_outage (Fail a b) = true
is_outage (Restore a b) = true
is_outage (Notice node nbr) = false
is_outage (OpenSession node nbr) = false
is_outage (Flush node nbr) = false
is_outage (Snap node) = false
is_outage (Propose node epoch) = false
is_outage (Control number) = false
is_outage (Crash node) = false
is_outage (Restart node) = false
is_outage (Inject packet node prefix) = false
is_outage (Hop packet) = false

-- the ways over the link of the event that it may open or close: both ways where the event fails or restores the link,
-- otherwise the way to the node that opens or closes its session
abbrev pub link_ways : Event → List Way
link_ways (Originate node prefix) = []
link_ways (Withdraw node prefix) = []
link_ways (Prefer node nbr value) = []
link_ways (Deliver from to) = []
link_ways (Fail a b) = way a b ∷ way b a ∷ []
link_ways (Restore a b) = way a b ∷ way b a ∷ []
link_ways (Notice node nbr) = way nbr node ∷ []
link_ways (OpenSession node nbr) = way nbr node ∷ []
link_ways (Flush node nbr) = []
link_ways (Snap node) = []
link_ways (Propose node epoch) = []
link_ways (Control number) = []
link_ways (Crash node) = []
link_ways (Restart node) = []
link_ways (Inject packet node prefix) = []
link_ways (Hop packet) = []

-- the ways to u
abbrev pub ways_to : Net → ℕ → List Way
ways_to net u = map (λ v. way v u) (neighbours net u)

-- the ways to a node that crashes or restarts; a delivery to a crashed node is idle
abbrev pub node_ways : Net → Event → List Way
node_ways net (Originate node prefix) = []
node_ways net (Withdraw node prefix) = []
node_ways net (Prefer node nbr value) = []
node_ways net (Deliver from to) = []
node_ways net (Fail a b) = []
node_ways net (Restore a b) = []
node_ways net (Notice node nbr) = []
node_ways net (OpenSession node nbr) = []
node_ways net (Flush node nbr) = []
node_ways net (Snap node) = []
node_ways net (Propose node epoch) = []
node_ways net (Control number) = []
node_ways net (Crash node) = ways_to net node
node_ways net (Restart node) = ways_to net node
node_ways net (Inject packet node prefix) = []
node_ways net (Hop packet) = []

-- all ways that the event may open or close
abbrev pub turned_ways : Net → Event → List Way
turned_ways net event = node_ways net event ++ link_ways event

-- each way goes over a link
abbrev pub AreLinked : Net → List Way → Type 0
AreLinked net ways = AllByRecursion (λ (w : Way). linked net w.from w.to ≡ true) ways

-- but for these ways, the set has exactly the open ways; of these ways nothing is known
pub record AreOpenBut (net : Net) (past : Chronicle) (turned : List Way) (has : Way → Bool) : Type 0 where
  pub near : AreLinked net turned
  pub right : (one : Way) → list_any (same_way one) turned ≡ false → has one ≡ (linked net one.from one.to && is_open past one.from one.to)
