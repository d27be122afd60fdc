-- Sent messages stay, and an event adds its messages at the end.
use Rattle.std.proofs.Common.{ℕ, Bool, true, false, ◌≡◌, Option, Some, None, List, [], ◌∷◌, ◌++◌, if◌then◌else◌}
use Rattle.leadership.specs.declared.events.LeadEvent.{LeadEvent}
use Rattle.leadership.specs.declared.events.LeadEvent.TheVariants as event
use Rattle.leadership.specs.declared.reasons.LeadReason.{LeadReason}
use Rattle.leadership.specs.declared.reasons.LeadReason.TheVariants as reason
use Rattle.leadership.specs.Facts.{Message, PrepareFrom, Accept, Start, Heard, Crash, Restart, Chronicle}
use Rattle.leadership.specs.Readings.{Lead, crashed, leading}
use Rattle.leadership.specs.Answers.{answers, hears, next_ballot, offers, posted, refusal, starts, to_each}
use Rattle.leadership.specs.Mails.{sent}
use Rattle.leadership.specs.Run.{Letter, Step, Idle, Goes, letter, mailed, unless, unless_crashed, offer_refusal, offered_by, step, chronicle_of, after}
use Rattle.leadership.specs.Run.{delivered as comes}
use Rattle.leadership.proofs.Changing.{mailed_posted}
use Rattle.leadership.proofs.Hearing.{append_none}

-- the messages of the first chronicle are the first of the second
abbrev pub GoOn : (past now : Chronicle) → Type 0
GoOn past now = (more : List Letter) × (mailed now ≡ mailed past ++ more)

stays : (past : Chronicle) → GoOn past past
stays past = ([], append_none (mailed past))

posts : (u : ℕ) (ms : List (ℕ × Message)) (past : Chronicle) → GoOn past (posted u ms past)
posts u ms past = (sent u ms, mailed_posted u ms past)

on_unless : (past now : Chronicle) (why : Option LeadReason) → GoOn past now → GoOn past (chronicle_of past (unless why now))
on_unless past now None h = h
on_unless past now (Some why) h = stays past

on_running : (past : Chronicle) (stopped : Bool) (does : Step) → GoOn past (chronicle_of past does) → GoOn past (chronicle_of past (unless_crashed stopped does))
on_running past true does h = stays past
on_running past false does h = h

on_offered : (members : List ℕ) (past : Chronicle) (u e x : ℕ) (l : Option Lead) → GoOn past (chronicle_of past (offered_by members past u e x l))
unfolding offers
on_offered members past u e x None = stays past
on_offered members past u e x (Some l) =
    on_unless past (posted u (to_each members (Accept e l.ballot x)) past) (offer_refusal past u e l) (posts u (to_each members (Accept e l.ballot x)) past)

on_letter : (members : List ℕ) (past : Chronicle) (o : Option Letter) → GoOn past (chronicle_of past (comes members past o))
unfolding hears
on_letter members past None = stays past
on_letter members past (Some m) =
    let ms = answers members past m.to m.from m.message in
    on_running past (crashed past m.to) (unless (refusal members past m.to m.from m.message) (posted m.to ms (Heard m.to m.from m.message ∷ past)))
    (on_unless past (posted m.to ms (Heard m.to m.from m.message ∷ past)) (refusal members past m.to m.from m.message) (posts m.to ms (Heard m.to m.from m.message ∷ past)))

-- after one more event
pub go_on : (e : LeadEvent) (members : List ℕ) (past : Chronicle) → GoOn past (after members past e)
unfolding after step starts
go_on (event.Lead u e) members past =
    let b = next_ballot past u in
    let ms = to_each members (PrepareFrom e b) in
    on_running past (crashed past u) (Goes (posted u ms (Start u e b ∷ past))) (posts u ms (Start u e b ∷ past))
go_on (event.Offer u e x) members past =
    on_running past (crashed past u) (offered_by members past u e x (leading members past u)) (on_offered members past u e x (leading members past u))
go_on (event.Control number) members past = on_letter members past (letter number past)
go_on (event.Crash u) members past = on_running past (crashed past u) (Goes (Crash u ∷ past)) (stays past)
go_on (event.Restart u) members past =
    elim (crashed past u) as (λ t. GoOn past (chronicle_of past (if t then Goes (Restart u ∷ past) else Idle reason.NotCrashed))) [
      | true ↦ stays past
      | false ↦ stays past
    ]
