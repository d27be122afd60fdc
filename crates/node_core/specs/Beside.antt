-- Facts that change nothing of a node.
use Rattle.std.specs.Prelude.{ℕ, ◌==◌, ◌≡◌, false}
use Rattle.chronicle.specs.Facts.{Fact, Log, Sent, Took, Fail, Restore, Raise, Start, Mail, Heard, Crash, Restart, Publish, Visit, End}

-- the fact changes nothing that u keeps: it is of another node, of a link or of a packet, or u restarts
abbrev pub IsBeside : ℕ → Fact → Type 0
IsBeside u (Log node entry) = (node == u) ≡ false
IsBeside u (Sent from to session item queued) = (from == u) ≡ false
IsBeside u (Took from to session item) = (to == u) ≡ false
IsBeside u (Fail a b) = Unit {0}
IsBeside u (Restore a b) = Unit {0}
IsBeside u (Raise node epoch) = (node == u) ≡ false
IsBeside u (Start node epoch ballot) = (node == u) ≡ false
IsBeside u (Mail from to message) = (from == u) ≡ false
IsBeside u (Heard node from message) = (node == u) ≡ false
IsBeside u (Crash node) = (node == u) ≡ false
IsBeside u (Restart node) = Unit {0}
IsBeside u (Publish node epoch value paths) = (node == u) ≡ false
IsBeside u (Visit node packet) = Unit {0}
IsBeside u (End packet ending) = Unit {0}
