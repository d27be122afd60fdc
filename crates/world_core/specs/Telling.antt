-- The facts that a node adds and hands out.
use Rattle.std.specs.Prelude.{ℕ, ◌≡◌, true, is_some, List, [], ◌∷◌, ◌++◌}
use Rattle.topology.specs.LinkStates.{carries}
use Rattle.topology.specs.Lists.{has}
use Rattle.topology.specs.Net.{Net, linked}
use Rattle.chronicle.specs.Facts.{Fact, Chronicle, Log, Sent, Took, Fail, Restore, Raise, Start, Mail, Heard, Crash, Restart, Publish, Visit, End}
use Rattle.chronicle.specs.Links.{link}
use Rattle.chronicle.specs.Walks.{standing}
use Rattle.node_core.specs.Outputs.{Output, output_by}
use Rattle.run_record.specs.Walks.{IsPassing}

-- the fact is one that u adds behind these facts: an entry, a higher epoch, a table, a control message to a node of the
-- network, an item over one of its links, queued where the link carries the session, a packet that u passes on, or the
-- end of the walk of a packet that entered the network
abbrev pub IsTold : Net → ℕ → Chronicle → Fact → Type 0
IsTold net u past (Log node entry) = node ≡ u
IsTold net u past (Sent from to session item queued) =
    (from ≡ u) × (linked net u to ≡ true) × (queued ≡ carries (link u to past) session)
IsTold net u past (Took from to session item) = ⊥
IsTold net u past (Fail a b) = ⊥
IsTold net u past (Restore a b) = ⊥
IsTold net u past (Raise node epoch) = node ≡ u
IsTold net u past (Start node epoch ballot) = ⊥
IsTold net u past (Mail from to message) = (from ≡ u) × (has net.nodes from ≡ true) × (has net.nodes to ≡ true)
IsTold net u past (Heard node from message) = ⊥
IsTold net u past (Crash node) = ⊥
IsTold net u past (Restart node) = ⊥
IsTold net u past (Publish node epoch value paths) = node ≡ u
IsTold net u past (Visit node packet) = IsPassing net node packet
IsTold net u past (End packet ending) = is_some (standing packet past) ≡ true

-- each of these facts, the oldest first, is such a fact behind those before it
abbrev pub AreTold : Net → ℕ → Chronicle → List Fact → Type 0
AreTold net u past [] = Unit {0}
AreTold net u past (f ∷ facts) = IsTold net u past f × AreTold net u (f ∷ past) facts

-- the outputs of these facts, the oldest first
abbrev pub shown : Chronicle → List Fact → List Output
shown past [] = []
shown past (f ∷ facts) = output_by f past ++ shown (f ∷ past) facts
