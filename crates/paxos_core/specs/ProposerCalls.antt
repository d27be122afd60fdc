-- What the calls of a proposer return.
use Rattle.std.specs.Prelude.{ℕ, suc, Bool, true, false, not, Option, Some, None, List, [], ◌∷◌, ◌++◌, length, option_map, ◌≡◌, if◌then◌else◌}
use Rattle.topology.specs.Lists.{Among, has}
use Rattle.topology.specs.declared.ballots.Ballot.{Ballot}
use Rattle.paxos_core.specs.declared.proposer.Phase.{Phase}
use Rattle.paxos_core.specs.declared.proposer.Phase.TheVariants.{Idle, Preparing, Gathering}
use Rattle.paxos_core.specs.declared.proposer.Tally.{Tally}
use Rattle.paxos_core.specs.declared.proposer.Tally.TheVariants.{Counted, Majority, Stale, Duplicate}
use Rattle.topology.specs.Ballots.{same_ballot}
use Rattle.paxos_core.specs.Facts.{Pair, Heard, Message, Promise, Accept, Accepted, Decision, Delivery, delivery, Chronicle}
use Rattle.paxos_core.specs.Readings.{Proposed}
use Rattle.paxos_core.specs.Rules.{higher, MaySend}
use Rattle.paxos_core.specs.Answers.{Refusal, Duplicate as refused_twice, StaleBallot, refusal, just_majority, to_each, or_fresh, announce, proposed, ballot_setup, answers}
use Rattle.paxos_core.specs.Tallying.{Tallying, StandsFor}

-- no ballot is prepared or gathered, and nobody is counted
abbrev pub forgotten : {V : Type 0} → Tallying V → Tallying V
forgotten kept = record kept { phase = Idle; counted = []; best = None; won = false }

-- the ballot is prepared, and nobody is counted yet
abbrev pub opened : {V : Type 0} → Tallying V → Ballot → Tallying V
opened kept b = record kept {
  last_round = b.round;
  phase = Preparing b;
  counted = [];
  best = None;
  won = false;
}

-- the prepared ballot is gathered from now on
abbrev pub gathered : Phase → Phase
gathered Idle = Idle
gathered (Preparing b) = Gathering b
gathered (Gathering b) = Gathering b

-- some ballot is prepared
abbrev pub IsPreparing : Phase → Type 0
IsPreparing (Preparing b) = Unit {0}
IsPreparing other = ⊥

-- this ballot is prepared
abbrev pub prepares : Phase → Ballot → Bool
prepares (Preparing c) b = same_ballot c b
prepares other b = false

-- this ballot is gathered
abbrev pub gathers : Phase → Ballot → Bool
gathers (Gathering c) b = same_ballot c b
gathers other b = false

-- the answer to a sender: `present` says whether the ballot is the current one, `counted` who was counted before, and
-- `value` what comes with a majority
abbrev pub tally_of : {V : Type 0} → Bool → List ℕ → ℕ → ℕ → Option V → Tally V
tally_of present counted from members value =
    if not present then Stale
    else if has counted from then Duplicate
    else if just_majority members (suc (length counted)) then Majority value
    else Counted

-- the answer to a Promise; a majority comes with the value of the highest pair that was named, if any
abbrev pub promise_tally : {V : Type 0} → Tallying V → ℕ → Ballot → Option (Pair V) → ℕ → Tally V
promise_tally kept from b named members =
    let value = option_map (λ p. p.1) (higher named kept.best) in
    tally_of (prepares kept.phase b) kept.counted from members value

-- the answer to an Accepted; a majority comes without a value
abbrev pub vote_tally : {V : Type 0} → Tallying V → ℕ → Ballot → ℕ → Tally (Unit {0})
vote_tally kept from b members = tally_of (gathers kept.phase b) kept.counted from members None

-- the sender is added at the end of those counted
abbrev pub counting : {V : Type 0} → Tallying V → ℕ → Tallying V
counting kept from = record kept { counted = kept.counted ++ from ∷ [] }

-- the state after a Promise; at a majority the highest pair is handed out
abbrev pub after_promise : {V : Type 0} → Tally V → Tallying V → ℕ → Option (Pair V) → Tallying V
after_promise Counted kept from named =
    record (counting kept from) { best = higher named kept.best }
after_promise (Majority value) kept from named =
    record (counting kept from) { best = None; won = true }
after_promise Stale kept from named = kept
after_promise Duplicate kept from named = kept

-- the state after an Accepted
abbrev pub after_vote : {V : Type 0} → Tally (Unit {0}) → Tallying V → ℕ → Tallying V
after_vote Counted kept from = counting kept from
after_vote (Majority value) kept from = counting kept from
after_vote Stale kept from = kept
after_vote Duplicate kept from = kept

-- the delivered message is not refused, the proposer goes on with it, and `sent` gives the answers to it
pub record Takes {V : Type 0} (members : ℕ) (new : Tallying V) (past : Chronicle V)
    (d : Delivery (Message V)) (sent : List ℕ → List ℕ → V → List (ℕ × Message V)) : Type 0 where
  pub heard : refusal past d.node d.from d.message ≡ None
  pub stands : StandsFor members new (Heard d.node d.from d.message ∷ past) d.node
  pub sends : (ms nodes : List ℕ) (fresh : V) → length ms ≡ members →
      answers (ballot_setup ms nodes fresh) past d.node d.from d.message ≡ sent ms nodes fresh

-- the delivered message is refused for this reason, and nothing changes
pub record Refuses {V : Type 0} (old new : Tallying V) (past : Chronicle V)
    (d : Delivery (Message V)) (why : Refusal) : Type 0 where
  pub refused : refusal past d.node d.from d.message ≡ Some why
  pub unchanged : new ≡ old

-- after a majority of promises an Accept may go to each member, with the value of the answer or a fresh one
abbrev pub LetsAccept : {V : Type 0} → ℕ → Chronicle V → ℕ → Ballot → Option V → Type 0
LetsAccept {V} members past u b value =
    (ms : List ℕ) (fresh : V) (to : ℕ) → length ms ≡ members → Among to ms →
    MaySend ms past u to (Accept b (or_fresh value fresh))

-- after a majority of acceptances a Decision of the proposed value may go to each node
abbrev pub LetsDecide : {V : Type 0} → ℕ → Chronicle V → ℕ → Ballot → Type 0
LetsDecide {V} members past u b =
    (ms : List ℕ) (v : V) (to : ℕ) → length ms ≡ members → Proposed past u b v →
    MaySend ms past u to (Decision v)

-- nothing is sent
abbrev pub nothing_sent : {V : Type 0} → List ℕ → List ℕ → V → List (ℕ × Message V)
nothing_sent ms nodes fresh = []

-- a Promise that is delivered to a node: its sender, its ballot, and the pair that it names
pub record PromiseDelivery (V : Type 0) : Type 0 where
  pub node : ℕ
  pub from : ℕ
  pub ballot : Ballot
  pub named : Option (Pair V)

-- the delivery of a Promise of b to u
abbrev pub promise_delivery : {V : Type 0} → (u from : ℕ) → Ballot → Option (Pair V) →
    PromiseDelivery V
promise_delivery u from b named = record { node = u; from = from; ballot = b; named = named }

-- that delivery, with its message
abbrev pub delivery_of_promise : {V : Type 0} → PromiseDelivery V → Delivery (Message V)
delivery_of_promise p = delivery p.node p.from (Promise p.ballot p.named)

-- an Accepted that is delivered to a node: its sender, and its ballot
pub record VoteDelivery : Type 0 where
  pub node : ℕ
  pub from : ℕ
  pub ballot : Ballot

-- the delivery of an Accepted of b to u
abbrev pub vote_delivery : (u from : ℕ) → Ballot → VoteDelivery
vote_delivery u from b = record { node = u; from = from; ballot = b }

-- that delivery, with its message
abbrev pub delivery_of_vote : {V : Type 0} → VoteDelivery → Delivery (Message V)
delivery_of_vote vote = delivery vote.node vote.from (Accepted vote.ballot)

-- the meaning of the answer to a Promise: at a majority an Accept goes to each member
abbrev pub SaysPromise : {V : Type 0} → Tally V → ℕ → (old new : Tallying V) → Chronicle V →
    PromiseDelivery V → Type 0
SaysPromise Counted members old new past p =
    Takes members new past (delivery_of_promise p) nothing_sent
SaysPromise (Majority value) members old new past p =
    Takes members new past (delivery_of_promise p)
    (λ ms nodes fresh. to_each ms (Accept p.ballot (or_fresh value fresh)))
    × LetsAccept members (Heard p.node p.from (Promise p.ballot p.named) ∷ past) p.node p.ballot value
SaysPromise Stale members old new past p = Refuses old new past (delivery_of_promise p) StaleBallot
SaysPromise Duplicate members old new past p =
    Refuses old new past (delivery_of_promise p) refused_twice

-- the meaning of the answer to an Accepted: at a majority a Decision of the proposed value goes to each node
abbrev pub SaysVote : {V : Type 0} → Tally (Unit {0}) → ℕ → (old new : Tallying V) → Chronicle V →
    VoteDelivery → Type 0
SaysVote Counted members old new past vote =
    Takes members new past (delivery_of_vote vote) nothing_sent
SaysVote (Majority value) members old new past vote =
    Takes members new past (delivery_of_vote vote)
    (λ ms nodes fresh. announce nodes (proposed past vote.node vote.ballot))
    × LetsDecide members (Heard vote.node vote.from (Accepted vote.ballot) ∷ past) vote.node vote.ballot
SaysVote Stale members old new past vote = Refuses old new past (delivery_of_vote vote) StaleBallot
SaysVote Duplicate members old new past vote =
    Refuses old new past (delivery_of_vote vote) refused_twice
