-- Acceptances of one ballot, read by epoch.
use Rattle.std.proofs.Common.{ℕ, true, false, ◌&&◌, ◌||◌, ◌==◌, ◌≡◌, Option, Some, None, List, [], ◌∷◌, fold, refl, sym, ◌∙◌, ap, if◌then◌else◌, true≢false}
use Rattle.topology.specs.Ballots.{same_ballot}
use Rattle.topology.specs.Lists.{has}
use Rattle.topology.specs.declared.ballots.Ballot.{Ballot}
use Rattle.paxos_core.proofs.Ballots.{same_ballot_true}
use Rattle.leadership.specs.declared.hearings.Hearing.{Hearing}
use Rattle.leadership.specs.Counted.{Acceptance, AreCounted, accepted_in, acceptances, has_acceptance, is_watched, with_acceptance}
use Rattle.leadership.specs.Facts.{Message, PrepareFrom, PromiseFrom, Accept, Accepted}
use Rattle.leadership.specs.Hearings.{voters_heard, votes_in}

-- one message more
voter_more : (m : Message) (e u from : ℕ) (b : Ballot) (vs : List ℕ) (these : List Acceptance) → has vs u ≡ has_acceptance e u these → has (if votes_in e b m then from ∷ vs else vs) u ≡ has_acceptance e u (with_acceptance from (accepted_in b m) these)
voter_more (Accepted d c) e u from b vs these h =
    elim (same_ballot c b) as (λ t. has (if d == e && t then from ∷ vs else vs) u ≡ has_acceptance e u (with_acceptance from (if t then Some d else None) these)) [
      | true ↦ elim (d == e) as (λ s. has (if s && true then from ∷ vs else vs) u ≡ (s && from == u || has_acceptance e u these)) [ true ↦ ap (λ t. from == u || t) h | false ↦ h ]
      | false ↦ elim (d == e) as (λ s. has (if s && false then from ∷ vs else vs) u ≡ has_acceptance e u these) [ true ↦ h | false ↦ h ]
    ]
voter_more (PrepareFrom d c) e u from b vs these h = h
voter_more (PromiseFrom d c named) e u from b vs these h = h
voter_more (Accept d c x) e u from b vs these h = h

voters_from : (e u : ℕ) (b : Ballot) (heard : List Hearing) (vs : List ℕ) (these : List Acceptance) → has vs u ≡ has_acceptance e u these
    → has (fold (λ before (h : Hearing). if votes_in e b h.message then h.from ∷ before else before) vs heard) u ≡ has_acceptance e u (fold (λ before (h : Hearing). with_acceptance h.from (accepted_in b h.message) before) these heard)
voters_from e u b [] vs these h = h
voters_from e u b (g ∷ heard) vs these h =
    voters_from e u b heard (if votes_in e b g.message then g.from ∷ vs else vs) (with_acceptance g.from (accepted_in b g.message) these) (voter_more g.message e u g.from b vs these h)

-- they tell who accepted b for e
pub voters_told : (e u : ℕ) (b : Ballot) (heard : List Hearing) → has (voters_heard e b heard) u ≡ has_acceptance e u (acceptances b heard)
voters_told e u b heard = voters_from e u b heard [] [] refl

-- the same if the ballot is watched
pub voters_kept : (watched : Option Ballot) (who : List ℕ) (these : List Acceptance) (heard : List Hearing) (of : Ballot) (e u : ℕ) → AreCounted watched who these heard → is_watched watched of ≡ true → has_acceptance e u these ≡ has (voters_heard e of heard) u
voters_kept None who these heard of e u h k = absurd (true≢false (sym k))
voters_kept (Some b) who these heard of e u h k =
    ap (has_acceptance e u) h.1 ∙ (sym (voters_told e u b heard) ∙ ap (λ z. has (voters_heard e z heard) u) (same_ballot_true b of k))
