-- The state of a proposer after each call.
use Rattle.std.proofs.Common.{ℕ, suc, ◌*◌, ◌<◌, Bool, true, false, ◌==◌, ◌≡◌, ◌⊎◌, Option, Some, None, List, [], ◌∷◌, ◌++◌, length, length-append, map, option_map, refl, sym, ◌∙◌, ap, subst, arith, inl, inr, ⊎_elim, true≢false, nat_lt, if◌then◌else◌}
use Rattle.std.proofs.lemmas.Bool.Decides.{nat_tests}
use Rattle.topology.specs.Lists.{Among, has}
use Rattle.topology.specs.declared.ballots.Ballot.{Ballot}
use Rattle.paxos_core.proofs.Ballots.{same_ballot_self, same_ballot_true}
use Rattle.paxos_core.proofs.History.{eq_self, some_is}
use Rattle.paxos_core.proofs.Following.{may_propose}
use Rattle.paxos_core.proofs.Posting.{each_is, posted_has, posted_keeps, posted_open, posted_promises, posted_started, posted_voters}
use Rattle.paxos_core.proofs.Proposals.{length_senders, open_now}
use Rattle.paxos_core.proofs.Refusing.{majority_is, finds, finds_not, found_in, gathering_is, is_gathering, is_preparing, not_found, preparing_is}
use Rattle.paxos_core.specs.Answers.{answers, gathering, just_majority, named_value, or_fresh, posted, preparing, refusal, to_each}
use Rattle.topology.specs.Ballots.{same_ballot}
use Rattle.paxos_core.specs.Facts.{Accept, Accepted, Chronicle, Crash, Decision, Fact, Heard, Mail, Message, Other, Pair, Promise, Start}
use Rattle.paxos_core.specs.ProposerCalls.{LetsAccept, LetsDecide, SaysPromise, SaysVote, forgotten, gathers, opened, prepares, promise_delivery, vote_delivery}
use Rattle.paxos_core.specs.Readings.{Prepares, Proposed, open_by, open_ballot, promisers, promises, started, voters}
use Rattle.paxos_core.specs.Rules.{MaySend, higher, highest, round_of}
use Rattle.paxos_core.specs.Tallying.{CountsIn, CountsPromises, CountsVotes, NothingOf, SameMembers, StandsFor, Tallying}
use Rattle.paxos_core.specs.declared.proposer.Phase.{Phase}
use Rattle.paxos_core.specs.declared.proposer.Phase.TheVariants.{Gathering, Idle, Preparing}
use Rattle.paxos_core.specs.declared.proposer.Tally.TheVariants as tally

-- a ballot that is open was started last
pub open_started : {V : Type 0} (C : Chronicle V) (u : ℕ) (b : Ballot) → open_ballot C u ≡ Some b → started C u ≡ Some b
open_started [] u b e = absurd (cc e)
open_started (Start w c ∷ C) u b e =
    elim (w == u) as (λ t. (if t then Some c else open_ballot C u) ≡ Some b → (if t then Some c else started C u) ≡ Some b) [ true ↦ λ k. k | false ↦ λ k. open_started C u b k ] e
open_started (Heard w v m ∷ C) u b e =
    elim (w == u) as (λ t. (if t then open_by m (open_ballot C u) else open_ballot C u) ≡ Some b → started C u ≡ Some b) [
      | true ↦ λ k. open_started C u b (open_now m (open_ballot C u) b k)
      | false ↦ λ k. open_started C u b k
    ] e
open_started (Mail w x m ∷ C) u b e = open_started C u b e
open_started (Crash w ∷ C) u b e =
    elim (w == u) as (λ t. (if t then None else open_ballot C u) ≡ Some b → started C u ≡ Some b) [ true ↦ λ k. absurd (cc k) | false ↦ λ k. open_started C u b k ] e
open_started (Other ∷ C) u b e = open_started C u b e

-- the round of an open ballot is the last
open_round : {V : Type 0} (past : Chronicle V) (u n : ℕ) (kept : Tallying V) (b : Ballot) → StandsFor n kept past u → open_ballot past u ≡ Some b → b.round ≡ kept.last_round
open_round past u n kept b h e = sym (h.last_round ∙ ap round_of (open_started past u b e))

-- nobody was counted
nobody : (xs ys : List ℕ) → xs ≡ [] → ys ≡ [] → SameMembers xs ys
nobody xs ys d e = rw (d, e) (record { length = refl; into = λ x h. h; back = λ x h. h })

-- a list with one more element at the end, and at the front
in_push : (xs : List ℕ) (v x : ℕ) → Among x (xs ++ v ∷ []) → Among x (v ∷ xs)
in_push [] v x h = h
in_push (y ∷ ys) v x (inl e) = inr (inl e)
in_push (y ∷ ys) v x (inr h) = ⊎_elim (λ e. inl e) (λ k. inr (inr k)) (in_push ys v x h)

push_in : (xs : List ℕ) (v x : ℕ) → Among x (v ∷ xs) → Among x (xs ++ v ∷ [])
push_in [] v x h = h
push_in (y ∷ ys) v x (inl e) = inr (push_in ys v x (inl e))
push_in (y ∷ ys) v x (inr (inl e)) = inl e
push_in (y ∷ ys) v x (inr (inr h)) = inr (push_in ys v x (inr h))

one_more : (xs ys : List ℕ) (v : ℕ) → SameMembers xs ys → SameMembers (xs ++ v ∷ []) (v ∷ ys)
one_more xs ys v h = record {
  length = omega (arith, length-append xs (v ∷ []), h.length);
  into = λ x k. ⊎_elim (λ e. inl e) (λ j. inr (h.into x j)) (in_push xs v x k);
  back = λ x k. push_in xs v x (⊎_elim (λ e. inl e) (λ j. inr (h.back x j)) k);
}

-- if the readings of b stay, there is still nothing of b
still_nothing : {V : Type 0} (f : Fact V) (past : Chronicle V) (u : ℕ) (b : Ballot) → promises (f ∷ past) u b ≡ promises past u b → voters (f ∷ past) u b ≡ voters past u b
    → ((v : V) → Proposed (f ∷ past) u b v → Proposed past u b v) → NothingOf past u b → NothingOf (f ∷ past) u b
still_nothing f past u b p v q h = record { promises = p ∙ h.promises; voters = v ∙ h.voters; proposed = λ x s. h.proposed x (q x s) }

pub start_stands : {V : Type 0} (past : Chronicle V) (u n : ℕ) (kept : Tallying V) (b : Ballot) → StandsFor n kept past u → kept.last_round < b.round → StandsFor n (opened kept b) (Start u b ∷ past) u
start_stands {V = V} past u n kept b h up =
    let none = h.later b up in
    let old : (c : Ballot) (v : V) → Proposed (Start u b ∷ past) u c v → Proposed past u c v = λ c v s. ⊎_elim (λ e. absurd (cc e)) (λ k. (s.0, k)) s.1 in
    record {
      node = h.node;
      last_round = rw (eq_self u) refl;
      phase = record {
        prepares = (rw (eq_self u) refl, λ v s. none.proposed v (old b v s));
        counted = nobody [] (map (λ q. q.0) (promises past u b)) refl (rw none.promises refl);
        won = rw none.promises (grind (arith, nat_tests));
        best = λ w. rw none.promises refl;
        no_voters = none.voters;
      };
      later = λ c k. still_nothing (Start u b) past u c refl refl (old c) (h.later c (omega (arith, k, up)));
    }

pub crash_stands : {V : Type 0} (past : Chronicle V) (u n : ℕ) (kept : Tallying V) → StandsFor n kept past u → StandsFor n (forgotten kept) (Crash u ∷ past) u
crash_stands {V = V} past u n kept h = record {
  node = h.node;
  last_round = h.last_round;
  phase = rw (eq_self u) refl;
  later = λ c k. still_nothing (Crash u) past u c refl refl (λ v s. ⊎_elim (λ e. absurd (cc e)) (λ j. (s.0, j)) s.1) (h.later c k);
}

pub decided_stands : {V : Type 0} (past : Chronicle V) (u from n : ℕ) (v : V) (kept : Tallying V) → StandsFor n kept past u → StandsFor n (forgotten kept) (Heard u from (Decision v) ∷ past) u
decided_stands {V = V} past u from n v kept h = record {
  node = h.node;
  last_round = h.last_round;
  phase = rw (eq_self u) refl;
  later = λ c k. still_nothing (Heard u from (Decision v)) past u c (rw (eq_self u) refl) (rw (eq_self u) refl) (λ x s. ⊎_elim (λ e. absurd (cc e)) (λ j. (s.0, j)) s.1) (h.later c k);
}

-- a promise of one ballot is not a promise of another
other_promises : {V : Type 0} (past : Chronicle V) (u from : ℕ) (b c : Ballot) (named : Option (Pair V)) → b.round < c.round → promises (Heard u from (Promise b named) ∷ past) u c ≡ promises past u c
other_promises past u from b c named lt = rw (eq_self u) (
    elim (same_ballot b c) as (λ t. same_ballot b c ≡ t → (if t then (from, named) ∷ promises past u c else promises past u c) ≡ promises past u c) [
      | true ↦ λ e. let same : b.round ≡ c.round = ap (λ (z : Ballot). z.round) (same_ballot_true b c e) in absurd (omega (arith, same, lt))
      | false ↦ λ e. refl
    ] refl)

other_voters : {V : Type 0} (past : Chronicle V) (u from : ℕ) (b c : Ballot) → b.round < c.round → voters (Heard u from (Accepted b) ∷ past) u c ≡ voters past u c
other_voters past u from b c lt = rw (eq_self u) (
    elim (same_ballot b c) as (λ t. same_ballot b c ≡ t → (if t then from ∷ voters past u c else voters past u c) ≡ voters past u c) [
      | true ↦ λ e. let same : b.round ≡ c.round = ap (λ (z : Ballot). z.round) (same_ballot_true b c e) in absurd (omega (arith, same, lt))
      | false ↦ λ e. refl
    ] refl)

-- the stored phase is what is read
prepared_ballot : (phase : Phase) (b : Ballot) → prepares phase b ≡ true → phase ≡ Preparing b
prepared_ballot Idle b e = absurd (true≢false (sym e))
prepared_ballot (Preparing c) b e = ap (λ z. Preparing z) (same_ballot_true c b e)
prepared_ballot (Gathering c) b e = absurd (true≢false (sym e))

gathered_ballot : (phase : Phase) (b : Ballot) → gathers phase b ≡ true → phase ≡ Gathering b
gathered_ballot Idle b e = absurd (true≢false (sym e))
gathered_ballot (Preparing c) b e = absurd (true≢false (sym e))
gathered_ballot (Gathering c) b e = ap (λ z. Gathering z) (same_ballot_true c b e)

counts_promises : {V : Type 0} (past : Chronicle V) (u n : ℕ) (kept : Tallying V) (b : Ballot) → StandsFor n kept past u → prepares kept.phase b ≡ true → CountsPromises n kept past u b
counts_promises past u n kept b h p = subst (λ q. CountsIn q n kept past u) (prepared_ballot kept.phase b p) h.phase

counts_votes : {V : Type 0} (past : Chronicle V) (u n : ℕ) (kept : Tallying V) (b : Ballot) → StandsFor n kept past u → gathers kept.phase b ≡ true → CountsVotes kept past u b
counts_votes past u n kept b h p = subst (λ q. CountsIn q n kept past u) (gathered_ballot kept.phase b p) h.phase

not_preparing : {V : Type 0} (past : Chronicle V) (u n : ℕ) (kept : Tallying V) (b : Ballot) (phase : Phase) → CountsIn phase n kept past u → prepares phase b ≡ false → preparing past u b ≡ true → ⊥
not_preparing past u n kept b Idle h off on = absurd (cc (h, (preparing_is past u b on).0))
not_preparing past u n kept b (Preparing c) h off on =
    let same : c ≡ b = some_is c b (sym h.prepares.0 ∙ (preparing_is past u b on).0) in true≢false (sym (rw same (same_ballot_self b)) ∙ off)
not_preparing {V = V} past u n kept b (Gathering c) h off on =
    let p = preparing_is past u b on in
    let same : c ≡ b = some_is c b (sym h.gathers.0 ∙ p.0) in p.1 h.gathers.1 (subst (λ z. Proposed past u z h.gathers.1) same h.gathers.2)

not_gathering : {V : Type 0} (past : Chronicle V) (u n : ℕ) (kept : Tallying V) (b : Ballot) (phase : Phase) → CountsIn phase n kept past u → gathers phase b ≡ false → gathering past u b ≡ true → ⊥
not_gathering past u n kept b Idle h off on = absurd (cc (h, (gathering_is past u b on).0))
not_gathering past u n kept b (Gathering c) h off on =
    let same : c ≡ b = some_is c b (sym h.gathers.0 ∙ (gathering_is past u b on).0) in true≢false (sym (rw same (same_ballot_self b)) ∙ off)
not_gathering {V = V} past u n kept b (Preparing c) h off on =
    let p = gathering_is past u b on in
    let same : b ≡ c = some_is b c (sym p.0 ∙ h.prepares.0) in h.prepares.1 p.1 (subst (λ z. Proposed past u z p.1) same p.2)

false_by : (t : Bool) → (t ≡ true → ⊥) → t ≡ false
false_by true h = absurd (h refl)
false_by false h = refl

-- the four answers to a Promise
pub promise_stale : {V : Type 0} (past : Chronicle V) (u from n : ℕ) (kept : Tallying V) (b : Ballot) (named : Option (Pair V)) → StandsFor n kept past u → prepares kept.phase b ≡ false
    → SaysPromise tally.Stale n kept kept past (promise_delivery u from b named)
unfolding refusal
promise_stale past u from n kept b named h off = record {
  refused = rw (false_by (preparing past u b) (not_preparing past u n kept b kept.phase h.phase off)) refl;
  unchanged = refl;
}

pub promise_again : {V : Type 0} (past : Chronicle V) (u from n : ℕ) (kept : Tallying V) (b : Ballot) (named : Option (Pair V)) → StandsFor n kept past u → prepares kept.phase b ≡ true
    → has kept.counted from ≡ true → SaysPromise tally.Duplicate n kept kept past (promise_delivery u from b named)
unfolding refusal
promise_again past u from n kept b named h on found =
    let was = counts_promises past u n kept b h on in
    record {
      refused = rw (is_preparing past u b was.prepares, finds (promisers past u b) from (was.counted.into from (found_in kept.counted from found))) refl;
      unchanged = refl;
    }

-- a sender that is counted is not refused
promise_heard : {V : Type 0} (past : Chronicle V) (u from n : ℕ) (kept : Tallying V) (b : Ballot) (named : Option (Pair V)) → CountsPromises n kept past u b → has kept.counted from ≡ false
    → refusal past u from (Promise b named) ≡ None
unfolding refusal
promise_heard past u from n kept b named was fresh =
    rw (is_preparing past u b was.prepares, finds_not (promisers past u b) from (λ i. not_found kept.counted from fresh (was.counted.back from i))) refl

many_promises : {V : Type 0} (past : Chronicle V) (u n : ℕ) (kept : Tallying V) (b : Ballot) → CountsPromises n kept past u b → length kept.counted ≡ length (promises past u b)
many_promises past u n kept b was = was.counted.length ∙ length_senders (promises past u b)

-- one more sender is counted
promise_stands : {V : Type 0} (past : Chronicle V) (u from n : ℕ) (kept new : Tallying V) (b : Ballot) (named : Option (Pair V)) → StandsFor n kept past u → prepares kept.phase b ≡ true
    → new.node ≡ kept.node → new.last_round ≡ kept.last_round → new.phase ≡ kept.phase → new.counted ≡ kept.counted ++ from ∷ []
    → new.won ≡ nat_lt n (2 * suc (length (promises past u b)))
    → (new.won ≡ false → (kept.won ≡ false) × (new.best ≡ higher named kept.best))
    → StandsFor n new (Heard u from (Promise b named) ∷ past) u
promise_stands {V = V} past u from n kept new b named h on node round phase counted won best =
    let was = counts_promises past u n kept b h on in
    let grown : promises (Heard u from (Promise b named) ∷ past) u b ≡ (from, named) ∷ promises past u b = rw (eq_self u, same_ballot_self b) refl in
    let old : (c : Ballot) (v : V) → Proposed (Heard u from (Promise b named) ∷ past) u c v → Proposed past u c v = λ c v s. ⊎_elim (λ e. absurd (cc e)) (λ k. (s.0, k)) s.1 in
    let open_now : open_ballot (Heard u from (Promise b named) ∷ past) u ≡ Some b = rw (eq_self u) was.prepares.0 in
    let no_voters : voters (Heard u from (Promise b named) ∷ past) u b ≡ [] = rw (eq_self u) was.no_voters in
    let now : CountsPromises n new (Heard u from (Promise b named) ∷ past) u b = record {
      prepares = (open_now, λ v s. was.prepares.1 v (old b v s));
      counted = rw (counted, grown) (one_more kept.counted (map (λ q. q.0) (promises past u b)) from was.counted);
      won = rw grown won;
      best = λ w. rw grown ((best w).1 ∙ ap (higher named) (was.best (best w).0));
      no_voters = no_voters;
    } in
    let same : new.phase ≡ Preparing b = phase ∙ prepared_ballot kept.phase b on in
    let last = open_round past u n kept b h was.prepares.0 in
    record {
      node = node ∙ h.node;
      last_round = round ∙ h.last_round;
      phase = subst (λ q. CountsIn q n new (Heard u from (Promise b named) ∷ past) u) (sym same) now;
      later = λ c k.
          let up : kept.last_round < c.round = omega (arith, round, k) in
          still_nothing (Heard u from (Promise b named)) past u c (other_promises past u from b c named (omega (arith, last, up))) (rw (eq_self u) refl) (old c) (h.later c up);
    }

won_stays : (n k : ℕ) (w : Bool) → w ≡ nat_lt n (2 * k) → just_majority n (suc k) ≡ false → w ≡ nat_lt n (2 * suc k)
won_stays n k w e few = grind (arith, nat_tests)

pub promise_counted : {V : Type 0} (past : Chronicle V) (u from n : ℕ) (kept : Tallying V) (b : Ballot) (named : Option (Pair V)) → StandsFor n kept past u → prepares kept.phase b ≡ true
    → has kept.counted from ≡ false → just_majority n (suc (length kept.counted)) ≡ false
    → SaysPromise tally.Counted n kept (record kept { counted = kept.counted ++ from ∷ []; best = higher named kept.best }) past (promise_delivery u from b named)
unfolding answers
promise_counted {V = V} past u from n kept b named h on fresh few =
    let was = counts_promises past u n kept b h on in
    let many = many_promises past u n kept b was in
    let few_read : just_majority n (suc (length (promises past u b))) ≡ false = rw (← many) few in
    record {
      heard = promise_heard past u from n kept b named was fresh;
      stands = promise_stands past u from n kept _ b named h on refl refl refl refl (won_stays n (length (promises past u b)) kept.won was.won few_read) (λ w. (w, refl));
      sends = λ ms nodes v e. rw (e, few_read) refl;
    }

-- an Accept of the prepared ballot may go out
may_accept : {V : Type 0} (past : Chronicle V) (u from : ℕ) (b : Ballot) (named : Option (Pair V)) (fresh : V) (ms : List ℕ) (to : ℕ) → Prepares past u b
    → just_majority (length ms) (suc (length (promises past u b))) ≡ true → Among to ms
    → MaySend ms (Heard u from (Promise b named) ∷ past) u to (Accept b (or_fresh (named_value ((from, named) ∷ promises past u b)) fresh))
may_accept {V = V} past u from b named fresh ms to prepares most member =
    let grown : promises (Heard u from (Promise b named) ∷ past) u b ≡ (from, named) ∷ promises past u b = rw (eq_self u, same_ballot_self b) refl in
    record {
      from = from;
      named = named;
      answers = rw (eq_self u) refl;
      majority = rw grown (majority_is (length ms) (suc (length (promises past u b))) most);
      member = member;
      value = rw grown (may_propose (Heard u from (Promise b named) ∷ past) u b fresh (highest ((from, named) ∷ promises past u b))
          (λ w s. ⊎_elim (λ e. absurd (cc e)) (λ j. absurd (prepares.1 w (s.0, j))) s.1));
    }

lets_accept : {V : Type 0} (past : Chronicle V) (u from n : ℕ) (b : Ballot) (named : Option (Pair V)) (value : Option V) → Prepares past u b
    → just_majority n (suc (length (promises past u b))) ≡ true → value ≡ named_value ((from, named) ∷ promises past u b)
    → LetsAccept n (Heard u from (Promise b named) ∷ past) u b value
lets_accept past u from n b named value prepares most is =
    λ ms fresh to e member. rw is (may_accept past u from b named fresh ms to prepares (rw e most) member)

lets_decide : {V : Type 0} (past : Chronicle V) (u from n : ℕ) (b : Ballot) → just_majority n (suc (length (voters past u b))) ≡ true → LetsDecide n (Heard u from (Accepted b) ∷ past) u b
lets_decide {V = V} past u from n b most =
    let grown : voters (Heard u from (Accepted b) ∷ past) u b ≡ from ∷ voters past u b = rw (eq_self u, same_ballot_self b) refl in
    λ ms v to e s. record {
      ballot = b;
      from = from;
      answers = rw (eq_self u) refl;
      majority = rw grown (majority_is (length ms) (suc (length (voters past u b))) (rw e most));
      value = s;
    }

won_now : (n k : ℕ) → just_majority n (suc k) ≡ true → (true ≡ nat_lt n (2 * suc k)) × (nat_lt n (2 * k) ≡ false)
won_now n k e = (grind (arith, nat_tests), grind (arith, nat_tests))

pub promise_majority : {V : Type 0} (past : Chronicle V) (u from n : ℕ) (kept : Tallying V) (b : Ballot) (named : Option (Pair V)) (value : Option V) → StandsFor n kept past u → prepares kept.phase b ≡ true
    → has kept.counted from ≡ false → just_majority n (suc (length kept.counted)) ≡ true → value ≡ option_map (λ p. p.1) (higher named kept.best)
    → SaysPromise (tally.Majority value) n kept (record kept { counted = kept.counted ++ from ∷ []; best = None; won = true }) past (promise_delivery u from b named)
unfolding answers
promise_majority {V = V} past u from n kept b named value h on fresh most is =
    let was = counts_promises past u n kept b h on in
    let many = many_promises past u n kept b was in
    let most_read : just_majority n (suc (length (promises past u b))) ≡ true = rw (← many) most in
    let won = won_now n (length (promises past u b)) most_read in
    let best : kept.best ≡ highest (promises past u b) = was.best (was.won ∙ won.1) in
    let value_read : value ≡ named_value ((from, named) ∷ promises past u b) = rw (← best) is in (
      record {
        heard = promise_heard past u from n kept b named was fresh;
        stands = promise_stands past u from n kept _ b named h on refl refl refl refl won.0 (λ w. absurd (true≢false w));
        sends = λ ms nodes v e. rw (e, most_read, value_read) refl;
      },
      lets_accept past u from n b named value was.prepares most_read value_read,
    )

-- the four answers to an Accepted
pub vote_stale : {V : Type 0} (past : Chronicle V) (u from n : ℕ) (kept : Tallying V) (b : Ballot) → StandsFor n kept past u → gathers kept.phase b ≡ false
    → SaysVote tally.Stale n kept kept past (vote_delivery u from b)
unfolding refusal
vote_stale past u from n kept b h off = record {
  refused = rw (false_by (gathering past u b) (not_gathering past u n kept b kept.phase h.phase off)) refl;
  unchanged = refl;
}

pub vote_again : {V : Type 0} (past : Chronicle V) (u from n : ℕ) (kept : Tallying V) (b : Ballot) → StandsFor n kept past u → gathers kept.phase b ≡ true
    → has kept.counted from ≡ true → SaysVote tally.Duplicate n kept kept past (vote_delivery u from b)
unfolding refusal
vote_again past u from n kept b h on found =
    let was = counts_votes past u n kept b h on in
    record {
      refused = rw (is_gathering past u b was.gathers, finds (voters past u b) from (was.counted.into from (found_in kept.counted from found))) refl;
      unchanged = refl;
    }

vote_heard : {V : Type 0} (past : Chronicle V) (u from : ℕ) (kept : Tallying V) (b : Ballot) → CountsVotes kept past u b → has kept.counted from ≡ false → refusal past u from (Accepted b) ≡ None
unfolding refusal
vote_heard past u from kept b was fresh =
    rw (is_gathering past u b was.gathers, finds_not (voters past u b) from (λ i. not_found kept.counted from fresh (was.counted.back from i))) refl

vote_stands : {V : Type 0} (past : Chronicle V) (u from n : ℕ) (kept : Tallying V) (b : Ballot) → StandsFor n kept past u → gathers kept.phase b ≡ true
    → StandsFor n (record kept { counted = kept.counted ++ from ∷ [] }) (Heard u from (Accepted b) ∷ past) u
vote_stands {V = V} past u from n kept b h on =
    let was = counts_votes past u n kept b h on in
    let grown : voters (Heard u from (Accepted b) ∷ past) u b ≡ from ∷ voters past u b = rw (eq_self u, same_ballot_self b) refl in
    let old : (c : Ballot) (v : V) → Proposed (Heard u from (Accepted b) ∷ past) u c v → Proposed past u c v = λ c v s. ⊎_elim (λ e. absurd (cc e)) (λ k. (s.0, k)) s.1 in
    let open_now : open_ballot (Heard u from (Accepted b) ∷ past) u ≡ Some b = rw (eq_self u) was.gathers.0 in
    let new : Tallying V = record kept { counted = kept.counted ++ from ∷ [] } in
    let now : CountsVotes new (Heard u from (Accepted b) ∷ past) u b = record {
      gathers = (open_now, was.gathers.1, (was.gathers.2.0, inr was.gathers.2.1));
      counted = rw grown (one_more kept.counted (voters past u b) from was.counted);
    } in
    let last = open_round past u n kept b h was.gathers.0 in
    record {
      node = h.node;
      last_round = h.last_round;
      phase = subst (λ q. CountsIn q n new (Heard u from (Accepted b) ∷ past) u) (sym (gathered_ballot kept.phase b on)) now;
      later = λ c k. still_nothing (Heard u from (Accepted b)) past u c (rw (eq_self u) refl) (other_voters past u from b c (omega (arith, last, k))) (old c) (h.later c k);
    }

pub vote_counted : {V : Type 0} (past : Chronicle V) (u from n : ℕ) (kept : Tallying V) (b : Ballot) → StandsFor n kept past u → gathers kept.phase b ≡ true
    → has kept.counted from ≡ false → just_majority n (suc (length kept.counted)) ≡ false
    → SaysVote tally.Counted n kept (record kept { counted = kept.counted ++ from ∷ [] }) past (vote_delivery u from b)
unfolding answers
vote_counted {V = V} past u from n kept b h on fresh few =
    let was = counts_votes past u n kept b h on in
    let few_read : just_majority n (suc (length (voters past u b))) ≡ false = rw (← was.counted.length) few in
    record {
      heard = vote_heard past u from kept b was fresh;
      stands = vote_stands past u from n kept b h on;
      sends = λ ms nodes v e. rw (e, few_read) refl;
    }

pub vote_majority : {V : Type 0} (past : Chronicle V) (u from n : ℕ) (kept : Tallying V) (b : Ballot) (value : Option (Unit {0})) → StandsFor n kept past u → gathers kept.phase b ≡ true
    → has kept.counted from ≡ false → just_majority n (suc (length kept.counted)) ≡ true
    → SaysVote (tally.Majority value) n kept (record kept { counted = kept.counted ++ from ∷ [] }) past (vote_delivery u from b)
unfolding answers
vote_majority {V = V} past u from n kept b value h on fresh most =
    let was = counts_votes past u n kept b h on in
    let most_read : just_majority n (suc (length (voters past u b))) ≡ true = rw (← was.counted.length) most in (
      record {
        heard = vote_heard past u from kept b was fresh;
        stands = vote_stands past u from n kept b h on;
        sends = λ ms nodes v e. rw (e, most_read) refl;
      },
      lets_decide past u from n b most_read,
    )

-- an Accept was sent
sent_proposed : {V : Type 0} (u : ℕ) (b c : Ballot) (x y : V) (tos : List ℕ) (past : Chronicle V) → Proposed (posted u (to_each tos (Accept b x)) past) u c y → (b ≡ c) ⊎ Proposed past u c y
sent_proposed {V = V} u b c x y tos past s =
    ⊎_elim (λ k. inr (s.0, k)) (λ k. let e : Accept b x ≡ Accept c y = each_is tos (Accept b x) (Accept c y) s.0 k.1 in inl (cc e)) (posted_has u (to_each tos (Accept b x)) past u s.0 (Accept c y) s.1)

pub propose_stands : {V : Type 0} (past : Chronicle V) (u to n : ℕ) (tos : List ℕ) (kept : Tallying V) (b : Ballot) (x : V) → StandsFor n kept past u → kept.phase ≡ Preparing b
    → StandsFor n (record kept { phase = Gathering b; counted = []; best = None }) (posted u (to_each (to ∷ tos) (Accept b x)) past) u
propose_stands {V = V} past u to n tos kept b x h p =
    let was : CountsPromises n kept past u b = subst (λ q. CountsIn q n kept past u) p h.phase in
    let ms : List (ℕ × Message V) = to_each (to ∷ tos) (Accept b x) in
    let last = open_round past u n kept b h was.prepares.0 in
    record {
      node = h.node;
      last_round = h.last_round ∙ ap round_of (sym (posted_started u u ms past));
      phase = record {
        gathers = (posted_open u u ms past ∙ was.prepares.0, x, (to, posted_keeps u (to_each tos (Accept b x)) (Mail u to (Accept b x) ∷ past) (Mail u to (Accept b x)) (inl refl)));
        counted = nobody [] (voters (posted u ms past) u b) refl (posted_voters u u b ms past ∙ was.no_voters);
      };
      later = λ c k.
          let none = h.later c k in record {
            promises = posted_promises u u c ms past ∙ none.promises;
            voters = posted_voters u u c ms past ∙ none.voters;
            proposed = λ v s. ⊎_elim (λ e. let same : b.round ≡ c.round = ap (λ (z : Ballot). z.round) e in absurd (omega (arith, same, last, k))) (λ j. none.proposed v j) (sent_proposed u b c x v (to ∷ tos) past s);
          };
    }
