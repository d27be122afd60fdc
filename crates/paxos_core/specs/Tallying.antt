-- What a proposer stores of a chronicle.
use Rattle.std.specs.Prelude.{ℕ, Bool, false, ◌*◌, ◌<◌, nat_lt, Option, None, List, [], length, ◌≡◌, ◌≢◌}
use Rattle.topology.specs.Lists.{Among}
use Rattle.topology.specs.declared.ballots.Ballot.{Ballot}
use Rattle.paxos_core.specs.declared.proposer.Phase.{Phase}
use Rattle.paxos_core.specs.declared.proposer.Phase.TheVariants.{Idle, Preparing, Gathering}
use Rattle.paxos_core.specs.Facts.{Pair, Message, Prepare, Promise, Accept, Accepted, Decision, Fact, Start, Mail, Heard, Crash, Other, Chronicle}
use Rattle.paxos_core.specs.Readings.{started, open_ballot, Proposed, Prepares, Gathers, promises, promisers, voters}
use Rattle.paxos_core.specs.Rules.{round_of, highest}

-- its node; the round of its last ballot; its phase; the senders that it counted, in order; the highest pair named; and
-- whether the promises reached a majority
pub record Tallying (V : Type 0) : Type 0 where
  pub node : ℕ
  pub last_round : ℕ
  pub phase : Phase
  pub counted : List ℕ
  pub best : Option (Pair V)
  pub won : Bool

-- two lists of the same length with the same members, in any order
pub record SameMembers (xs ys : List ℕ) : Type 0 where
  pub length : length xs ≡ length ys
  pub into : (x : ℕ) → Among x xs → Among x ys
  pub back : (x : ℕ) → Among x ys → Among x xs

-- the promises of b are counted, with the highest pair until a majority promised
pub record CountsPromises {V : Type 0} (members : ℕ) (kept : Tallying V) (past : Chronicle V)
    (u : ℕ) (b : Ballot) : Type 0 where
  pub prepares : Prepares past u b
  pub counted : SameMembers kept.counted (promisers past u b)
  pub won : kept.won ≡ nat_lt members (2 * length (promises past u b))
  pub best : kept.won ≡ false → kept.best ≡ highest (promises past u b)
  pub no_voters : voters past u b ≡ []

-- the votes for b are counted
pub record CountsVotes {V : Type 0} (kept : Tallying V) (past : Chronicle V) (u : ℕ) (b : Ballot)
    : Type 0 where
  pub gathers : Gathers past u b
  pub counted : SameMembers kept.counted (voters past u b)

-- what is counted fits the phase
abbrev pub CountsIn : {V : Type 0} → Phase → ℕ → Tallying V → Chronicle V → ℕ → Type 0
CountsIn Idle members kept past u = open_ballot past u ≡ None
CountsIn (Preparing b) members kept past u = CountsPromises members kept past u b
CountsIn (Gathering b) members kept past u = CountsVotes kept past u b

-- u counted nobody for b, and proposed nothing in it
pub record NothingOf {V : Type 0} (past : Chronicle V) (u : ℕ) (b : Ballot) : Type 0 where
  pub promises : promises past u b ≡ []
  pub voters : voters past u b ≡ []
  pub proposed : (v : V) → Proposed past u b v → ⊥

-- `kept` is the proposer of u after these facts, with this number of members; no fact names a round of u above its last
-- one
pub record StandsFor {V : Type 0} (members : ℕ) (kept : Tallying V) (past : Chronicle V) (u : ℕ)
    : Type 0 where
  pub node : kept.node ≡ u
  pub last_round : kept.last_round ≡ round_of (started past u)
  pub phase : CountsIn kept.phase members kept past u
  pub later : (b : Ballot) → kept.last_round < b.round → NothingOf past u b

-- the proposer of u does not read that w heard this message: proposers do not read it, or w is not u
abbrev pub PassesBy : {V : Type 0} → ℕ → ℕ → Message V → Type 0
PassesBy u w (Prepare b) = Unit {0}
PassesBy u w (Promise b named) = w ≢ u
PassesBy u w (Accept b v) = Unit {0}
PassesBy u w (Accepted b) = w ≢ u
PassesBy u w (Decision v) = w ≢ u

-- the proposer of u does not read that w sent this message: it is no Accept, or w is not u
abbrev pub Leaves : {V : Type 0} → ℕ → ℕ → Message V → Type 0
Leaves u w (Prepare b) = Unit {0}
Leaves u w (Promise b named) = Unit {0}
Leaves u w (Accept b v) = w ≢ u
Leaves u w (Accepted b) = Unit {0}
Leaves u w (Decision v) = Unit {0}

-- the proposer of u does not read this fact
abbrev pub Unread : {V : Type 0} → ℕ → Fact V → Type 0
Unread u (Start w b) = w ≢ u
Unread u (Mail w to m) = Leaves u w m
Unread u (Heard w from m) = PassesBy u w m
Unread u (Crash w) = w ≢ u
Unread u Other = Unit {0}
