-- What an acceptor stores of a chronicle.
use Rattle.std.specs.Prelude.{ℕ, Option, ◌≡◌, ◌≢◌}
use Rattle.topology.specs.declared.ballots.Ballot.{Ballot}
use Rattle.paxos_core.specs.Facts.{Pair, Message, Prepare, Promise, Accept, Accepted, Decision, Fact, Start, Mail, Heard, Crash, Other, Chronicle}
use Rattle.paxos_core.specs.Readings.{promised, accepted}

-- the promised ballot, and the accepted pair
pub record Accepting (V : Type 0) : Type 0 where
  pub promised : Option Ballot
  pub accepted : Option (Pair V)

-- `kept` is the acceptor of u after these facts
pub record StandsFor {V : Type 0} (kept : Accepting V) (past : Chronicle V) (u : ℕ) : Type 0 where
  pub promised : kept.promised ≡ promised past u
  pub accepted : kept.accepted ≡ accepted past u

-- the acceptor of u does not read that w heard this message: acceptors do not read it, or w is not u
abbrev pub PassesBy : {V : Type 0} → ℕ → ℕ → Message V → Type 0
PassesBy u w (Prepare b) = w ≢ u
PassesBy u w (Promise b named) = Unit {0}
PassesBy u w (Accept b v) = w ≢ u
PassesBy u w (Accepted b) = Unit {0}
PassesBy u w (Decision v) = Unit {0}

-- the acceptor of u does not read this fact
abbrev pub Unread : {V : Type 0} → ℕ → Fact V → Type 0
Unread u (Start w b) = Unit {0}
Unread u (Mail from to m) = Unit {0}
Unread u (Heard w from m) = PassesBy u w m
Unread u (Crash w) = Unit {0}
Unread u Other = Unit {0}
