-- The text of a script's run: the lines of each directive, read from the run at that point.
use Rattle.std.specs.Prelude.{ℕ, zero, suc, Option, Some, None, List, [], ◌∷◌, ◌++◌, flat_map, codes}
use Rattle.std.specs.List.{range_with_len}
use Rattle.std.specs.Fmt.{decimal}
use Rattle.topology.specs.declared.ballots.Ballot.{Ballot}
use Rattle.topology.specs.declared.status.LimitKind.{LimitKind}
use Rattle.topology.specs.declared.limits.TheConstants.{HIGHEST_EPOCH}
use Rattle.leadership.specs.declared.events.LeadEvent.{LeadEvent}
use Rattle.leadership.specs.declared.events.LeadEvent.TheVariants as event
use Rattle.leadership.specs.declared.reasons.LeadReason.{LeadReason}
use Rattle.leadership.specs.declared.reasons.LeadReason.TheVariants.{Crashed, NotCrashed, NoSuchMessage, Promised, StaleBallot, Duplicate, NotLeader, Below, Offered}
use Rattle.leadership.specs.Chosen.{chosen_for}
use Rattle.leadership.specs.Deliveries.{next_mail}
use Rattle.leadership.specs.Limits.{limit_of}
use Rattle.leadership.specs.Run.{Step, Idle, Goes, step, run}
use Rattle.leadership.specs.declared.scripts.Directive.{Directive}
use Rattle.leadership.specs.declared.scripts.Directive.TheVariants.{Event, Deliveries, ShowChosen}
use Rattle.leadership.specs.declared.scripts.Numbered.{Numbered}

-- a ballot: its round, a slash, its node
abbrev pub ballot_text : Ballot → List ℕ
ballot_text b = decimal b.round ++ (codes "/" ++ decimal b.node)

-- the words of a reason
abbrev pub reason_words : LeadReason → List ℕ
reason_words Crashed = codes "crashed"
reason_words NotCrashed = codes "not crashed"
reason_words NoSuchMessage = codes "no such message"
reason_words (Promised b) = codes "promised " ++ ballot_text b
reason_words StaleBallot = codes "stale ballot"
reason_words Duplicate = codes "duplicate"
reason_words NotLeader = codes "not leader"
reason_words Below = codes "below"
reason_words Offered = codes "offered"

-- the line of an event that did nothing
abbrev pub idle_line : ℕ → LeadReason → List ℕ
idle_line line reason = decimal line ++ (codes ": idle " ++ (reason_words reason ++ 10 ∷ []))

-- what is written for an event: its line if it did nothing, and nothing otherwise
abbrev pub step_text : ℕ → Step → List ℕ
step_text line (Idle reason) = idle_line line reason
step_text line (Goes now) = []

-- the line of an epoch with a chosen value
abbrev pub chosen_text : ℕ → Option ℕ → List ℕ
chosen_text e None = []
chosen_text e (Some x) = codes "chosen " ++ (decimal e ++ (codes ": " ++ (decimal x ++ 10 ∷ [])))

-- the lines of all epochs that a script may name, ascending
abbrev pub all_chosen : (members : List ℕ) → List LeadEvent → List ℕ
all_chosen members events =
    flat_map (λ e. chosen_text e (chosen_for members (run members events) e)) (range_with_len 1 HIGHEST_EPOCH)

-- where a directive leads: to these events, or to a limit that stops it
pub data Course : Type 0 where
  Leads : (events : List LeadEvent) → Course
  Stops : (kind : LimitKind) → (number : ℕ) → Course

abbrev pub unless : Option (LimitKind × ℕ) → List LeadEvent → Course
unless None events = Leads events
unless (Some limit) events = Stops limit.0 limit.1

-- one more event, unless a limit stops it
abbrev pub with_event : (members : List ℕ) → List LeadEvent → LeadEvent → Course
with_event members events e = unless (limit_of members events e) (events ++ e ∷ [])

-- the course goes on from there, unless a limit stopped it
abbrev pub then_on : Course → (List LeadEvent → Course) → Course
then_on (Leads events) next = next events
then_on (Stops kind number) next = Stops kind number

-- at most n messages are delivered, each of them the next one at that point
abbrev pub controlled : (members : List ℕ) → ℕ → List LeadEvent → Course
controlled members zero events = Leads events
controlled members (suc n) events =
    elim (next_mail members events) [
      | None ↦ Leads events
      | Some number ↦ then_on (with_event members events (event.Control number)) (controlled members n)
    ]

-- where a directive leads, after these events
abbrev pub course : (members : List ℕ) → List LeadEvent → Directive → Course
course members events (Event e) = with_event members events e
course members events (Deliveries times) = controlled members times events
course members events ShowChosen = Leads events

-- what is written for the directive at this line; `ctl all` writes nothing
abbrev pub said_for : (members : List ℕ) → List LeadEvent → ℕ → Directive → List ℕ
said_for members events line (Event e) = step_text line (step members (run members events) e)
said_for members events line (Deliveries times) = []
said_for members events line ShowChosen = all_chosen members events

abbrev pub said : (members : List ℕ) → List LeadEvent → Numbered → List ℕ
said members events d = said_for members events d.line d.directive

-- these lines, followed by the text of the rest, unless a limit stopped it
abbrev pub text_by : List ℕ → Course → (List LeadEvent → List ℕ) → List ℕ
text_by said (Leads events) rest = said ++ rest events
text_by said (Stops kind number) rest = []

-- the text of the directives, up to the one at which a limit stops
abbrev pub text : (members : List ℕ) → List LeadEvent → List Numbered → List ℕ
text members events [] = []
text members events (d ∷ ds) =
    text_by (said members events d) (course members events d.directive) (λ later. text members later ds)

-- the limit that stops them, if any
abbrev pub stop_by : Course → (List LeadEvent → Option (LimitKind × ℕ)) → Option (LimitKind × ℕ)
stop_by (Leads events) rest = rest events
stop_by (Stops kind number) rest = Some (kind, number)

abbrev pub stop : (members : List ℕ) → List LeadEvent → List Numbered → Option (LimitKind × ℕ)
stop members events [] = None
stop members events (d ∷ ds) = stop_by (course members events d.directive) (λ later. stop members later ds)

-- the events of the directives, up to the one at which a limit stops
abbrev pub events_by : Course → List LeadEvent → (List LeadEvent → List LeadEvent) → List LeadEvent
events_by (Leads events) before rest = rest events
events_by (Stops kind number) before rest = before

abbrev pub events_of : (members : List ℕ) → List LeadEvent → List Numbered → List LeadEvent
events_of members events [] = events
events_of members events (d ∷ ds) =
    events_by (course members events d.directive) events (λ later. events_of members later ds)
