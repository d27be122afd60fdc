-- For each chronicle that obeys the rules some proposer stands for it.
use Rattle.std.proofs.Common.{ℕ, suc, ◌<◌, true, false, ◌==◌, ◌≡◌, ◌≢◌, Option, Some, None, List, [], ◌∷◌, length, refl, sym, ◌∙◌, ap, subst, arith, inr, ⊎_elim, option_map, if◌then◌else◌}
use Rattle.topology.specs.Lists.{Among, has}
use Rattle.topology.specs.declared.ballots.Ballot.{Ballot}
use Rattle.paxos_core.proofs.Ballots.{same_ballot_self, same_ballot_true}
use Rattle.paxos_core.proofs.History.{eq_of_true, not_eq, some_is}
use Rattle.paxos_core.proofs.Refusing.{finds_not}
use Rattle.paxos_core.proofs.Tallies.{crash_stands, decided_stands, promise_counted, promise_majority, propose_stands, start_stands, vote_counted, vote_majority}
use Rattle.paxos_core.proofs.Unread.{proposer_unread}
use Rattle.paxos_core.specs.Answers.{just_majority}
use Rattle.paxos_core.specs.Facts.{Accept, Accepted, Chronicle, Crash, Decision, Fact, Heard, Mail, Message, Other, Pair, Prepare, Promise, Start}
use Rattle.paxos_core.specs.ProposerCalls.{gathers, prepares}
use Rattle.paxos_core.specs.Readings.{Gathers, Prepares, Proposed, last_act, open_by, open_ballot, promises, promisers, voters}
use Rattle.paxos_core.specs.Rules.{MayFollow, MaySend, MaySendAccept, Obeys, higher}
use Rattle.paxos_core.specs.Tallying.{CountsIn, CountsVotes, Leaves, NothingOf, PassesBy, StandsFor, Tallying, Unread}
use Rattle.paxos_core.specs.declared.proposer.Phase.{Phase}
use Rattle.paxos_core.specs.declared.proposer.Phase.TheVariants.{Gathering, Idle, Preparing}

-- some proposer stands for these facts
abbrev pub Stood : {V : Type 0} → List ℕ → Chronicle V → ℕ → Type 0
Stood {V} members past u = (kept : Tallying V) × StandsFor (length members) kept past u

-- what a new proposer stores
abbrev fresh : {V : Type 0} → ℕ → Tallying V
fresh u = record { node = u; last_round = 0; phase = Idle; counted = []; best = None; won = false }

none_stood : {V : Type 0} (members : List ℕ) (u : ℕ) → Stood {V = V} members [] u
none_stood {V = V} members u = (fresh {V = V} u, record { node = refl; last_round = refl; phase = refl; later = λ b k. record { promises = refl; voters = refl; proposed = λ v s. s.1 } })

-- the phase in which a Promise is heard
prepares_phase : {V : Type 0} (past : Chronicle V) (u n : ℕ) (kept : Tallying V) (b : Ballot) (phase : Phase) → CountsIn phase n kept past u → Prepares past u b → prepares phase b ≡ true
prepares_phase past u n kept b Idle h p = absurd (cc (h, p.0))
prepares_phase past u n kept b (Preparing c) h p =
    let same : c ≡ b = some_is c b (sym h.prepares.0 ∙ p.0) in rw same (same_ballot_self b)
prepares_phase {V = V} past u n kept b (Gathering c) h p =
    let same : c ≡ b = some_is c b (sym h.gathers.0 ∙ p.0) in absurd (p.1 h.gathers.1 (subst (λ z. Proposed past u z h.gathers.1) same h.gathers.2))

gathers_phase : {V : Type 0} (past : Chronicle V) (u n : ℕ) (kept : Tallying V) (b : Ballot) (phase : Phase) → CountsIn phase n kept past u → Gathers past u b → gathers phase b ≡ true
gathers_phase past u n kept b Idle h p = absurd (cc (h, p.0))
gathers_phase past u n kept b (Gathering c) h p =
    let same : c ≡ b = some_is c b (sym h.gathers.0 ∙ p.0) in rw same (same_ballot_self b)
gathers_phase {V = V} past u n kept b (Preparing c) h p =
    let same : b ≡ c = some_is b c (sym p.0 ∙ h.prepares.0) in absurd (h.prepares.1 p.1 (subst (λ z. Proposed past u z p.1) same p.2))

-- a sender that was not heard is not counted
not_kept : {V : Type 0} (past : Chronicle V) (u n : ℕ) (kept : Tallying V) (b : Ballot) (from : ℕ) (phase : Phase) → CountsIn phase n kept past u → prepares phase b ≡ true → (Among from (promisers past u b) → ⊥) → has kept.counted from ≡ false
not_kept past u n kept b from Idle h on out = absurd (cc on)
not_kept {V = V} past u n kept b from (Preparing c) h on out =
    let same : c ≡ b = same_ballot_true c b on in
    finds_not kept.counted from (λ i. out (subst (λ z. Among from (promisers past u z)) same (h.counted.into from i)))
not_kept past u n kept b from (Gathering c) h on out = absurd (cc on)

no_vote_kept : {V : Type 0} (past : Chronicle V) (u n : ℕ) (kept : Tallying V) (b : Ballot) (from : ℕ) (phase : Phase) → CountsIn phase n kept past u → gathers phase b ≡ true → (Among from (voters past u b) → ⊥) → has kept.counted from ≡ false
no_vote_kept past u n kept b from Idle h on out = absurd (cc on)
no_vote_kept past u n kept b from (Preparing c) h on out = absurd (cc on)
no_vote_kept {V = V} past u n kept b from (Gathering c) h on out =
    let same : c ≡ b = same_ballot_true c b on in
    finds_not kept.counted from (λ i. out (subst (λ z. Among from (voters past u z)) same (h.counted.into from i)))

promise_stood : {V : Type 0} (members : List ℕ) (past : Chronicle V) (u from : ℕ) (b : Ballot) (named : Option (Pair V)) → Stood members past u → Prepares past u b → (Among from (promisers past u b) → ⊥) → Stood members (Heard u from (Promise b named) ∷ past) u
promise_stood {V = V} members past u from b named s p out =
    let n = length members in
    let on = prepares_phase past u n s.0 b s.0.phase s.1.phase p in
    let none = not_kept past u n s.0 b from s.0.phase s.1.phase on out in
    (elim (just_majority (length members) (suc (length s.0.counted))) as (λ t. just_majority (length members) (suc (length s.0.counted)) ≡ t → Stood members (Heard u from (Promise b named) ∷ past) u) [
      | true ↦ λ t. let r = promise_majority past u from n s.0 b named (option_map (λ z. z.1) (higher named s.0.best)) s.1 on none t refl in (_, r.0.stands)
      | false ↦ λ t. let r = promise_counted past u from n s.0 b named s.1 on none t in (_, r.stands)
    ]) refl

vote_stood : {V : Type 0} (members : List ℕ) (past : Chronicle V) (u from : ℕ) (b : Ballot) → Stood members past u → Gathers past u b → (Among from (voters past u b) → ⊥) → Stood members (Heard u from (Accepted b) ∷ past) u
vote_stood {V = V} members past u from b s p out =
    let n = length members in
    let on = gathers_phase past u n s.0 b s.0.phase s.1.phase p in
    let none = no_vote_kept past u n s.0 b from s.0.phase s.1.phase on out in
    (elim (just_majority (length members) (suc (length s.0.counted))) as (λ t. just_majority (length members) (suc (length s.0.counted)) ≡ t → Stood members (Heard u from (Accepted b) ∷ past) u) [
      | true ↦ λ t. let r = vote_majority past u from n s.0 b None s.1 on none t in (_, r.0.stands)
      | false ↦ λ t. let r = vote_counted past u from n s.0 b s.1 on none t in (_, r.stands)
    ]) refl

-- the ballot of the last Promise that u heard is the open one, if any
promised_open : {V : Type 0} (members : List ℕ) (past : Chronicle V) (u from : ℕ) (b c : Ballot) (named : Option (Pair V)) → Obeys members past → last_act past u ≡ Some (Heard u from (Promise b named)) → open_ballot past u ≡ Some c → c ≡ b
promised_open members [] u from b c named o e k = absurd (cc e)
promised_open members (Start w d ∷ past) u from b c named o e k =
    elim (w == u) as (λ t. (if t then Some (Start w d) else last_act past u) ≡ Some (Heard u from (Promise b named)) → (if t then Some d else open_ballot past u) ≡ Some c → c ≡ b) [
      | true ↦ λ x y. absurd (cc x)
      | false ↦ λ x y. promised_open members past u from b c named o.1 x y
    ] e k
promised_open members (Mail w to m ∷ past) u from b c named o e k = promised_open members past u from b c named o.1 e k
promised_open members (Crash w ∷ past) u from b c named o e k =
    elim (w == u) as (λ t. (if t then None else open_ballot past u) ≡ Some c → c ≡ b) [
      | true ↦ λ y. absurd (cc y)
      | false ↦ λ y. promised_open members past u from b c named o.1 e y
    ] k
promised_open members (Other ∷ past) u from b c named o e k = promised_open members past u from b c named o.1 e k
promised_open {V = V} members (Heard w x m ∷ past) u from b c named o e k =
    (elim (w == u) as (λ t. (w == u) ≡ t → (if t then Some (Heard w x m) else last_act past u) ≡ Some (Heard u from (Promise b named)) → (if t then open_by m (open_ballot past u) else open_ballot past u) ≡ Some c → c ≡ b) [
      | true ↦ λ t y z.
          let here : m ≡ Promise b named = cc y in
          let who : w ≡ u = cc y in
          let whole : Heard w x m ≡ Heard u x (Promise b named) = cc (who, here) in
          let may : MayFollow members past (Heard u x (Promise b named)) = subst (λ f. MayFollow members past f) whole o.0 in
          let still : open_ballot past u ≡ Some c = subst (λ j. open_by j (open_ballot past u) ≡ Some c) here z in
          some_is c b (sym still ∙ may.1.0.0)
      | false ↦ λ t y z. promised_open members past u from b c named o.1 y z
    ]) refl e k

-- an Accept of b goes out
accept_later : {V : Type 0} (members : List ℕ) (past : Chronicle V) (u to : ℕ) (b : Ballot) (v : V) (kept : Tallying V) → StandsFor (length members) kept past u → MaySendAccept members past u to b v
    → (c : Ballot) → kept.last_round < c.round → NothingOf (Mail u to (Accept b v) ∷ past) u c
accept_later {V = V} members past u to b v kept h may c k =
    let none = h.later c k in
    record {
      promises = none.promises;
      voters = none.voters;
      proposed = λ x s. ⊎_elim
          (λ (e : Mail u to (Accept b v) ≡ Mail u s.0 (Accept c x)).
          let same : b ≡ c = cc e in
          let few : length (promises past u b) ≡ 0 = rw same (rw none.promises refl) in
          absurd (omega (arith, few, may.majority.most)))
          (λ j. none.proposed x (s.0, j)) s.1;
    }

accept_stood : {V : Type 0} (members : List ℕ) (past : Chronicle V) (u to : ℕ) (b : Ballot) (v : V) (kept : Tallying V) → Obeys members past → StandsFor (length members) kept past u → MaySendAccept members past u to b v
    → (phase : Phase) → kept.phase ≡ phase → CountsIn phase (length members) kept past u → Stood members (Mail u to (Accept b v) ∷ past) u
accept_stood {V = V} members past u to b v kept o h may Idle is now = (
  kept,
  record {
    node = h.node;
    last_round = h.last_round;
    phase = subst (λ q. CountsIn q (length members) kept (Mail u to (Accept b v) ∷ past) u) (sym is) now;
    later = accept_later members past u to b v kept h may;
  },
)
accept_stood {V = V} members past u to b v kept o h may (Preparing c) is now =
    let same : c ≡ b = promised_open members past u may.from b c may.named o may.answers now.prepares.0 in
    (_, propose_stands past u to (length members) [] kept b v h (is ∙ ap (λ z. Preparing z) same))
accept_stood {V = V} members past u to b v kept o h may (Gathering c) is now =
    let still : CountsVotes kept (Mail u to (Accept b v) ∷ past) u c = record { gathers = (now.gathers.0, now.gathers.1, (now.gathers.2.0, inr now.gathers.2.1)); counted = now.counted } in (
      kept,
      record {
        node = h.node;
        last_round = h.last_round;
        phase = subst (λ q. CountsIn q (length members) kept (Mail u to (Accept b v) ∷ past) u) (sym is) still;
        later = accept_later members past u to b v kept h may;
      },
    )

-- what u heard
heard_stood : {V : Type 0} (members : List ℕ) (past : Chronicle V) (u from : ℕ) (m : Message V) → Stood members past u → MayFollow members past (Heard u from m) → Stood members (Heard u from m ∷ past) u
heard_stood members past u from (Prepare b) s may = (s.0, proposer_unread (length members) s.0 past u (Heard u from (Prepare b)) tt s.1)
heard_stood members past u from (Accept b v) s may = (s.0, proposer_unread (length members) s.0 past u (Heard u from (Accept b v)) tt s.1)
heard_stood members past u from (Promise b named) s may = promise_stood members past u from b named s may.1.0 may.1.1
heard_stood members past u from (Accepted b) s may = vote_stood members past u from b s may.1.0 may.1.1
heard_stood members past u from (Decision v) s may = (_, decided_stands past u from (length members) v s.0 s.1)

-- what u sent
sent_stood : {V : Type 0} (members : List ℕ) (past : Chronicle V) (u to : ℕ) (m : Message V) → Obeys members past → Stood members past u → MaySend members past u to m → Stood members (Mail u to m ∷ past) u
sent_stood members past u to (Accept b v) o s may = accept_stood members past u to b v s.0 o s.1 may s.0.phase refl s.1.phase
sent_stood members past u to (Prepare b) o s may = (s.0, proposer_unread (length members) s.0 past u (Mail u to (Prepare b)) tt s.1)
sent_stood members past u to (Promise b named) o s may = (s.0, proposer_unread (length members) s.0 past u (Mail u to (Promise b named)) tt s.1)
sent_stood members past u to (Accepted b) o s may = (s.0, proposer_unread (length members) s.0 past u (Mail u to (Accepted b)) tt s.1)
sent_stood members past u to (Decision v) o s may = (s.0, proposer_unread (length members) s.0 past u (Mail u to (Decision v)) tt s.1)

-- w is another node, so its facts are not read
pub heard_aside : {V : Type 0} (m : Message V) (u w : ℕ) → w ≢ u → PassesBy u w m
heard_aside (Prepare b) u w h = tt
heard_aside (Accept b v) u w h = tt
heard_aside (Promise b n) u w h = h
heard_aside (Accepted b) u w h = h
heard_aside (Decision v) u w h = h

-- nor is what w sends
pub sent_aside : {V : Type 0} (m : Message V) (u w : ℕ) → w ≢ u → Leaves u w m
sent_aside (Prepare b) u w h = tt
sent_aside (Accept b v) u w h = h
sent_aside (Promise b n) u w h = tt
sent_aside (Accepted b) u w h = tt
sent_aside (Decision v) u w h = tt

aside : {V : Type 0} (members : List ℕ) (past : Chronicle V) (u : ℕ) (f : Fact V) → Unread u f → Stood members past u → Stood members (f ∷ past) u
aside members past u f h s = (s.0, proposer_unread (length members) s.0 past u f h s.1)

-- a fact of w is u's own, or is not read
by_node : {P : Type 0} (w u : ℕ) → (w ≢ u → P) → (w ≡ u → P) → P
by_node {P = P} w u off on = elim (w == u) as (λ t. (w == u) ≡ t → P) [ true ↦ λ t. on (eq_of_true w u t) | false ↦ λ t. off (λ e. not_eq w u t e) ] refl

start_stood : {V : Type 0} (members : List ℕ) (past : Chronicle V) (u : ℕ) (b : Ballot) → Stood members past u → MayFollow members past (Start u b) → Stood members (Start u b ∷ past) u
start_stood members past u b s may =
    let up : s.0.last_round < b.round = omega (arith, s.1.last_round, may.1) in
    (_, start_stands past u (length members) s.0 b s.1 up)

pub stood : {V : Type 0} (members : List ℕ) (past : Chronicle V) (u : ℕ) → Obeys members past → Stood members past u
stood {V = V} members [] u o = none_stood {V = V} members u
stood {V = V} members (Start w b ∷ past) u o =
    let s = stood members past u o.1 in
    by_node w u (λ h. aside members past u (Start w b) h s) (λ e. subst (λ x. MayFollow members past (Start x b) → Stood members (Start x b ∷ past) u) (sym e) (start_stood members past u b s) o.0)
stood {V = V} members (Mail w to m ∷ past) u o =
    let s = stood members past u o.1 in
    by_node w u (λ h. aside members past u (Mail w to m) (sent_aside m u w h) s) (λ e. subst (λ x. MaySend members past x to m → Stood members (Mail x to m ∷ past) u) (sym e) (sent_stood members past u to m o.1 s) o.0)
stood {V = V} members (Heard w from m ∷ past) u o =
    let s = stood members past u o.1 in
    by_node w u (λ h. aside members past u (Heard w from m) (heard_aside m u w h) s) (λ e. subst (λ x. MayFollow members past (Heard x from m) → Stood members (Heard x from m ∷ past) u) (sym e) (heard_stood members past u from m s) o.0)
stood {V = V} members (Crash w ∷ past) u o =
    let s = stood members past u o.1 in
    by_node w u (λ h. aside members past u (Crash w) h s) (λ e. let now : Stood members (Crash u ∷ past) u = (_, crash_stands past u (length members) s.0 s.1) in subst (λ x. Stood members (Crash x ∷ past) u) (sym e) now)
stood members (Other ∷ past) u o = aside members past u Other tt (stood members past u o.1)
