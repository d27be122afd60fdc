-- The acts of other nodes leave what is read of one node, and what it stores, as they are.
use Rattle.std.proofs.Common.{ℕ, ◌==◌, ◌≡◌, ◌≢◌, false, Some, ◌∷◌, refl, ap, if◌then◌else◌}
use Rattle.topology.specs.declared.ballots.Ballot.{Ballot}
use Rattle.paxos_core.proofs.History.{not_eq}
use Rattle.paxos_core.proofs.Standing.{heard_aside, sent_aside}
use Rattle.paxos_core.proofs.Unread.{acceptor_unread, proposer_unread}
use Rattle.paxos_core.specs.Accepting.{Accepting}
use Rattle.paxos_core.specs.Accepting as accepting
use Rattle.paxos_core.specs.Answers.{proposed, proposed_by}
use Rattle.paxos_core.specs.Decisions.{decision, decision_by}
use Rattle.paxos_core.specs.Facts.{Accept, Accepted, Chronicle, Crash, Decision, Fact, Heard, Mail, Message, Other, Prepare, Promise, Start}
use Rattle.paxos_core.specs.Readings.{started}
use Rattle.paxos_core.specs.Tallying.{Tallying}
use Rattle.paxos_core.specs.Tallying as tallying

-- the fact is not u's: another node started a ballot, sent a message, heard one or crashed; or it is Other
abbrev pub IsBeside : {V : Type 0} → ℕ → Fact V → Type 0
IsBeside u (Start node b) = (node == u) ≡ false
IsBeside u (Mail from to m) = (from == u) ≡ false
IsBeside u (Heard node from m) = (node == u) ≡ false
IsBeside u (Crash node) = (node == u) ≡ false
IsBeside u Other = Unit {0}

-- the acceptor of u does not read what another node hears
heard_elsewhere : {V : Type 0} (m : Message V) (u w : ℕ) → w ≢ u → accepting.PassesBy u w m
heard_elsewhere (Prepare b) u w h = h
heard_elsewhere (Accept b v) u w h = h
heard_elsewhere (Promise b named) u w h = tt
heard_elsewhere (Accepted b) u w h = tt
heard_elsewhere (Decision v) u w h = tt

-- the acceptor of u reads only facts of u
unread_acceptor : {V : Type 0} (u : ℕ) (f : Fact V) → IsBeside u f → accepting.Unread u f
unread_acceptor u (Start node b) q = tt
unread_acceptor u (Mail from to m) q = tt
unread_acceptor u (Heard node from m) q = heard_elsewhere m u node (not_eq node u q)
unread_acceptor u (Crash node) q = tt
unread_acceptor u Other q = tt

-- the proposer of u reads only facts of u
unread_proposer : {V : Type 0} (u : ℕ) (f : Fact V) → IsBeside u f → tallying.Unread u f
unread_proposer u (Start node b) q = not_eq node u q
unread_proposer u (Mail from to m) q = sent_aside m u from (not_eq from u q)
unread_proposer u (Heard node from m) q = heard_aside m u node (not_eq node u q)
unread_proposer u (Crash node) q = not_eq node u q
unread_proposer u Other q = tt

-- the acceptor of u stays as it was
pub acceptor_beside : {V : Type 0} (kept : Accepting V) (past : Chronicle V) (u : ℕ) (f : Fact V) → IsBeside u f → accepting.StandsFor kept past u → accepting.StandsFor kept (f ∷ past) u
acceptor_beside kept past u f q h = acceptor_unread kept past u f (unread_acceptor u f q) h

-- the proposer of u stays as it was
pub proposer_beside : {V : Type 0} (n : ℕ) (kept : Tallying V) (past : Chronicle V) (u : ℕ) (f : Fact V) → IsBeside u f → tallying.StandsFor n kept past u → tallying.StandsFor n kept (f ∷ past) u
proposer_beside n kept past u f q h = proposer_unread n kept past u f (unread_proposer u f q) h

-- the ballot that u started last stays the same
pub started_beside : {V : Type 0} (past : Chronicle V) (u : ℕ) (f : Fact V) → IsBeside u f → started (f ∷ past) u ≡ started past u
started_beside past u (Start node b) q = ap (λ t. if t then Some b else started past u) q
started_beside past u (Mail from to m) q = refl
started_beside past u (Heard node from m) q = refl
started_beside past u (Crash node) q = refl
started_beside past u Other q = refl

-- the value that u proposed in a ballot stays the same
pub proposed_beside : {V : Type 0} (past : Chronicle V) (u : ℕ) (b : Ballot) (f : Fact V) → IsBeside u f → proposed (f ∷ past) u b ≡ proposed past u b
proposed_beside past u b (Start node c) q = refl
proposed_beside past u b (Mail from to m) q = ap (λ t. if t then proposed_by m b (proposed past u b) else proposed past u b) q
proposed_beside past u b (Heard node from m) q = refl
proposed_beside past u b (Crash node) q = refl
proposed_beside past u b Other q = refl

-- the decision that u knows stays the same
pub decision_beside : {V : Type 0} (past : Chronicle V) (u : ℕ) (f : Fact V) → IsBeside u f → decision (f ∷ past) u ≡ decision past u
decision_beside past u (Start node b) q = refl
decision_beside past u (Mail from to m) q = refl
decision_beside past u (Heard node from m) q = ap (λ t. if t then decision_by m (decision past u) else decision past u) q
decision_beside past u (Crash node) q = refl
decision_beside past u Other q = refl
