-- Facts that are not read leave what is stored.
use Rattle.std.proofs.Common.{ℕ, ◌==◌, ◌≡◌, ◌≢◌, true, false, Option, List, [], ◌∷◌, refl, sym, ◌∙◌, ap, inr, ⊎_elim, if◌then◌else◌, arith}
use Rattle.std.proofs.lemmas.Bool.Decides.{nat_tests}
use Rattle.std.specs.List.{AllByRecursion}
use Rattle.topology.specs.declared.ballots.Ballot.{Ballot}
use Rattle.paxos_core.proofs.Posting.{posted_accepted, posted_promised}
use Rattle.paxos_core.specs.Accepting.{Accepting, StandsFor, Unread, PassesBy}
use Rattle.paxos_core.specs.Answers.{posted}
use Rattle.paxos_core.specs.Facts.{Accept, Accepted, Chronicle, Crash, Decision, Fact, Heard, Mail, Message, Other, Pair, Prepare, Promise, Start}
use Rattle.paxos_core.specs.Readings.{Proposed, accepted, accepted_by, open_by, open_ballot, promised, promised_by, promises, promises_by, started, voters, voters_by}
use Rattle.paxos_core.specs.Rules.{round_of}
use Rattle.paxos_core.specs.Tallying.{CountsIn, Tallying}
use Rattle.paxos_core.specs.Tallying.{Leaves as LeavesTally, PassesBy as PassesTally, StandsFor as StandsTally, Unread as UnreadTally}
use Rattle.paxos_core.specs.declared.proposer.Phase.{Phase}
use Rattle.paxos_core.specs.declared.proposer.Phase.TheVariants.{Gathering, Idle, Preparing}

pub eq_false : (m n : ℕ) → m ≢ n → (m == n) ≡ false
eq_false m n h = elim (m == n) as (λ t. (m == n) ≡ t → t ≡ false) [ true ↦ λ e. absurd (h (grind (arith, nat_tests, e))) | false ↦ λ e. refl ] refl

-- an acceptor
same_promised : {V : Type 0} (m : Message V) (w u : ℕ) (p : Option Ballot) → PassesBy u w m → (if w == u then promised_by m p else p) ≡ p
same_promised (Prepare b) w u p h = rw (eq_false w u h) refl
same_promised (Accept b v) w u p h = rw (eq_false w u h) refl
same_promised (Promise b n) w u p h = elim (w == u) as (λ t. (if t then p else p) ≡ p) [ true ↦ refl | false ↦ refl ]
same_promised (Accepted b) w u p h = elim (w == u) as (λ t. (if t then p else p) ≡ p) [ true ↦ refl | false ↦ refl ]
same_promised (Decision v) w u p h = elim (w == u) as (λ t. (if t then p else p) ≡ p) [ true ↦ refl | false ↦ refl ]

same_accepted : {V : Type 0} (m : Message V) (w u : ℕ) (p : Option (Pair V)) → PassesBy u w m → (if w == u then accepted_by m p else p) ≡ p
same_accepted (Prepare b) w u p h = rw (eq_false w u h) refl
same_accepted (Accept b v) w u p h = rw (eq_false w u h) refl
same_accepted (Promise b n) w u p h = elim (w == u) as (λ t. (if t then p else p) ≡ p) [ true ↦ refl | false ↦ refl ]
same_accepted (Accepted b) w u p h = elim (w == u) as (λ t. (if t then p else p) ≡ p) [ true ↦ refl | false ↦ refl ]
same_accepted (Decision v) w u p h = elim (w == u) as (λ t. (if t then p else p) ≡ p) [ true ↦ refl | false ↦ refl ]

pub acceptor_unread : {V : Type 0} (kept : Accepting V) (past : Chronicle V) (u : ℕ) (f : Fact V) → Unread u f → StandsFor kept past u → StandsFor kept (f ∷ past) u
acceptor_unread kept past u (Heard w from m) h s = record {
  promised = s.promised ∙ sym (same_promised m w u (promised past u) h);
  accepted = s.accepted ∙ sym (same_accepted m w u (accepted past u) h);
}
acceptor_unread kept past u (Start w b) h s = record { promised = s.promised; accepted = s.accepted }
acceptor_unread kept past u (Mail w to m) h s = record { promised = s.promised; accepted = s.accepted }
acceptor_unread kept past u (Crash w) h s = record { promised = s.promised; accepted = s.accepted }
acceptor_unread kept past u Other h s = record { promised = s.promised; accepted = s.accepted }

-- a proposer, if all that it reads stayed the same
pub record SameTally {V : Type 0} (now past : Chronicle V) (u : ℕ) : Type 0 where
  pub started : started now u ≡ started past u
  pub open_ballot : open_ballot now u ≡ open_ballot past u
  pub promises : (b : Ballot) → promises now u b ≡ promises past u b
  pub voters : (b : Ballot) → voters now u b ≡ voters past u b
  pub fewer : (b : Ballot) (v : V) → Proposed now u b v → Proposed past u b v
  pub more : (b : Ballot) (v : V) → Proposed past u b v → Proposed now u b v

same_phase : {V : Type 0} (n : ℕ) (kept : Tallying V) (now past : Chronicle V) (u : ℕ) (phase : Phase) → SameTally now past u → CountsIn phase n kept past u → CountsIn phase n kept now u
same_phase n kept now past u Idle s h = s.open_ballot ∙ h
same_phase n kept now past u (Preparing b) s h = record {
  prepares = (s.open_ballot ∙ h.prepares.0, λ v k. h.prepares.1 v (s.fewer b v k));
  counted = rw (s.promises b) h.counted;
  won = rw (s.promises b) h.won;
  best = rw (s.promises b) h.best;
  no_voters = s.voters b ∙ h.no_voters;
}
same_phase n kept now past u (Gathering b) s h = record {
  gathers = (s.open_ballot ∙ h.gathers.0, h.gathers.1, s.more b h.gathers.1 h.gathers.2);
  counted = rw (s.voters b) h.counted;
}

same_stands : {V : Type 0} (n : ℕ) (kept : Tallying V) (now past : Chronicle V) (u : ℕ) → SameTally now past u → StandsTally n kept past u → StandsTally n kept now u
same_stands n kept now past u s h = record {
  node = h.node;
  last_round = h.last_round ∙ ap round_of (sym s.started);
  phase = same_phase n kept now past u kept.phase s h.phase;
  later = λ b k.
      let none = h.later b k in
      record { promises = s.promises b ∙ none.promises; voters = s.voters b ∙ none.voters; proposed = λ v p. none.proposed v (s.fewer b v p) };
}

same_open : {V : Type 0} (m : Message V) (w u : ℕ) (p : Option Ballot) → PassesTally u w m → (if w == u then open_by m p else p) ≡ p
same_open (Prepare b) w u p h = elim (w == u) as (λ t. (if t then p else p) ≡ p) [ true ↦ refl | false ↦ refl ]
same_open (Accept b v) w u p h = elim (w == u) as (λ t. (if t then p else p) ≡ p) [ true ↦ refl | false ↦ refl ]
same_open (Promise b n) w u p h = rw (eq_false w u h) refl
same_open (Accepted b) w u p h = rw (eq_false w u h) refl
same_open (Decision v) w u p h = rw (eq_false w u h) refl

same_promises : {V : Type 0} (m : Message V) (w u from : ℕ) (b : Ballot) (ps : List (ℕ × Option (Pair V))) → PassesTally u w m → (if w == u then promises_by from m b ps else ps) ≡ ps
same_promises (Prepare c) w u from b p h = elim (w == u) as (λ t. (if t then p else p) ≡ p) [ true ↦ refl | false ↦ refl ]
same_promises (Accept c v) w u from b p h = elim (w == u) as (λ t. (if t then p else p) ≡ p) [ true ↦ refl | false ↦ refl ]
same_promises (Promise c n) w u from b p h = rw (eq_false w u h) refl
same_promises (Accepted c) w u from b p h = rw (eq_false w u h) refl
same_promises (Decision v) w u from b p h = rw (eq_false w u h) refl

same_voters : {V : Type 0} (m : Message V) (w u from : ℕ) (b : Ballot) (ps : List ℕ) → PassesTally u w m → (if w == u then voters_by from m b ps else ps) ≡ ps
same_voters (Prepare c) w u from b p h = elim (w == u) as (λ t. (if t then p else p) ≡ p) [ true ↦ refl | false ↦ refl ]
same_voters (Accept c v) w u from b p h = elim (w == u) as (λ t. (if t then p else p) ≡ p) [ true ↦ refl | false ↦ refl ]
same_voters (Promise c n) w u from b p h = rw (eq_false w u h) refl
same_voters (Accepted c) w u from b p h = rw (eq_false w u h) refl
same_voters (Decision v) w u from b p h = rw (eq_false w u h) refl

-- a message that is no Accept of u is not a proposal of u
not_proposal : {V : Type 0} (m : Message V) (w u to x : ℕ) (b : Ballot) (v : V) → LeavesTally u w m → Mail w to m ≡ Mail u x (Accept b v) → ⊥
not_proposal (Accept c y) w u to x b v h e = h (cc e)
not_proposal (Prepare c) w u to x b v h e = absurd (cc e)
not_proposal (Promise c n) w u to x b v h e = absurd (cc e)
not_proposal (Accepted c) w u to x b v h e = absurd (cc e)
not_proposal (Decision y) w u to x b v h e = absurd (cc e)

unread_same : {V : Type 0} (past : Chronicle V) (u : ℕ) (f : Fact V) → UnreadTally u f → SameTally (f ∷ past) past u
unread_same {V = V} past u (Start w b) h = record {
  started = rw (eq_false w u h) refl;
  open_ballot = rw (eq_false w u h) refl;
  promises = λ c. refl;
  voters = λ c. refl;
  fewer = λ c v k. ⊎_elim (λ e. absurd (cc e)) (λ j. (k.0, j)) k.1;
  more = λ c v k. (k.0, inr k.1);
}
unread_same {V = V} past u (Mail w to m) h = record {
  started = refl;
  open_ballot = refl;
  promises = λ c. refl;
  voters = λ c. refl;
  fewer = λ c v k. ⊎_elim (λ e. absurd (not_proposal m w u to k.0 c v h e)) (λ j. (k.0, j)) k.1;
  more = λ c v k. (k.0, inr k.1);
}
unread_same {V = V} past u (Heard w from m) h = record {
  started = refl;
  open_ballot = same_open m w u (open_ballot past u) h;
  promises = λ c. same_promises m w u from c (promises past u c) h;
  voters = λ c. same_voters m w u from c (voters past u c) h;
  fewer = λ c v k. ⊎_elim (λ e. absurd (cc e)) (λ j. (k.0, j)) k.1;
  more = λ c v k. (k.0, inr k.1);
}
unread_same {V = V} past u (Crash w) h = record {
  started = refl;
  open_ballot = rw (eq_false w u h) refl;
  promises = λ c. refl;
  voters = λ c. refl;
  fewer = λ c v k. ⊎_elim (λ e. absurd (cc e)) (λ j. (k.0, j)) k.1;
  more = λ c v k. (k.0, inr k.1);
}
unread_same {V = V} past u Other h = record {
  started = refl;
  open_ballot = refl;
  promises = λ c. refl;
  voters = λ c. refl;
  fewer = λ c v k. ⊎_elim (λ e. absurd (cc e)) (λ j. (k.0, j)) k.1;
  more = λ c v k. (k.0, inr k.1);
}

pub proposer_unread : {V : Type 0} (n : ℕ) (kept : Tallying V) (past : Chronicle V) (u : ℕ) (f : Fact V) → UnreadTally u f → StandsTally n kept past u → StandsTally n kept (f ∷ past) u
proposer_unread n kept past u f h s = same_stands n kept (f ∷ past) past u (unread_same past u f h) s

-- messages sent one after another
pub acceptor_posted : {V : Type 0} (kept : Accepting V) (past : Chronicle V) (u w : ℕ) (ms : List (ℕ × Message V)) → StandsFor kept past u → StandsFor kept (posted w ms past) u
acceptor_posted kept past u w ms s = record { promised = s.promised ∙ sym (posted_promised w u ms past); accepted = s.accepted ∙ sym (posted_accepted w u ms past) }

pub proposer_posted : {V : Type 0} (n : ℕ) (kept : Tallying V) (past : Chronicle V) (u w : ℕ) (ms : List (ℕ × Message V)) → AllByRecursion (λ m. LeavesTally u w m.1) ms → StandsTally n kept past u → StandsTally n kept (posted w ms past) u
proposer_posted n kept past u w [] all s = s
proposer_posted n kept past u w (m ∷ ms) all s = proposer_posted n kept (Mail w m.0 m.1 ∷ past) u w ms all.1 (proposer_unread n kept past u (Mail w m.0 m.1) all.0 s)
