-- Promises and acceptances of one ballot, stored beside all that was heard.
use Rattle.std.specs.Prelude.{ℕ, ◌≡◌, ◌==◌, ◌&&◌, Bool, false, Option, Some, None, List, [], ◌∷◌, fold, if◌then◌else◌}
use Rattle.std.specs.List.{list_any}
use Rattle.topology.specs.Ballots.{same_ballot}
use Rattle.topology.specs.declared.ballots.Ballot.{Ballot}
pub use Rattle.leadership.specs.declared.hearings.Acceptance.{Acceptance}
use Rattle.leadership.specs.declared.hearings.Hearing.{Hearing}
use Rattle.leadership.specs.Facts.{Message, PromiseFrom, Accepted}
use Rattle.leadership.specs.Hearings.{counted_heard}
use Rattle.leadership.specs.Readings.{senders}

-- the epoch for which the message accepts b
abbrev pub accepted_in : Ballot → Message → Option ℕ
accepted_in b (Accepted d c) = if same_ballot c b then Some d else None
accepted_in b other = None

-- one more acceptance, if there is one
abbrev pub with_acceptance : ℕ → Option ℕ → List Acceptance → List Acceptance
with_acceptance from None before = before
with_acceptance from (Some e) before = record { epoch = e; from = from } ∷ before

-- the acceptances of b, the newest first
abbrev pub acceptances : Ballot → List Hearing → List Acceptance
acceptances b heard = fold (λ before (h : Hearing). with_acceptance h.from (accepted_in b h.message) before) [] heard

-- there is an acceptance of u for e
abbrev pub has_acceptance : ℕ → ℕ → List Acceptance → Bool
has_acceptance e u these = list_any (λ (a : Acceptance). a.epoch == e && a.from == u) these

-- if a ballot is watched, these are the senders of its promises, and its acceptances, the newest first
abbrev pub AreCounted : Option Ballot → List ℕ → List Acceptance → List Hearing → Type 0
AreCounted None who these heard = Unit {0}
AreCounted (Some b) who these heard = (who ≡ senders (counted_heard b heard)) × (these ≡ acceptances b heard)

-- this ballot is watched
abbrev pub is_watched : Option Ballot → Ballot → Bool
is_watched None b = false
is_watched (Some c) b = same_ballot c b

-- the message promises b
abbrev pub is_promise : Ballot → Message → Bool
is_promise b (PromiseFrom d c named) = same_ballot c b
is_promise b other = false

-- the message promises the watched ballot
abbrev pub counts : Option Ballot → Message → Bool
counts None m = false
counts (Some b) m = is_promise b m

-- the epoch for which the message accepts the watched ballot
abbrev pub accepts : Option Ballot → Message → Option ℕ
accepts None m = None
accepts (Some b) m = accepted_in b m
