-- The text of a run: for each directive its lines, read on the chronicle at its turn.
use Rattle.std.specs.Prelude.{ℕ, zero, suc, Bool, true, false, is_some, Option, Some, None, List, [], ◌∷◌, ◌++◌, codes, if◌then◌else◌}
use Rattle.std.specs.Fmt.{decimal}
use Rattle.topology.specs.declared.status.Reason.{Reason}
use Rattle.topology.specs.Net.{Net}
use Rattle.path_vector.specs.Rules.{Rules}
use Rattle.chronicle.specs.declared.events.Event.{Event}
use Rattle.chronicle.specs.declared.events.Event.TheVariants as event
use Rattle.chronicle.specs.Run.{step, run}
use Rattle.chronicle.specs.Steps.{Step, Idle, Goes}
use Rattle.chronicle.specs.Deliveries.{next_delivery, next_mail}
use Rattle.chronicle.specs.Walks.{ending}
use Rattle.node_core.specs.NodeLimits.{Reached}
use Rattle.world_core.specs.Limits.{limit_of}
use Rattle.schedule_file.specs.declared.directives.Directive.{Directive}
use Rattle.schedule_file.specs.declared.directives.Directive.TheVariants.{Originate, Withdraw, Probe, Prefer, Deliver, Fail, Restore, Notice, OpenSession, Flush, Snap, Propose, Control, Crash, Restart, Drain, ControlAll, ShowRib, ShowLog, ShowControl, ShowCut, ShowClosure, ShowTables, Inject, Hop, ShowWalk}
use Rattle.schedule_file.specs.declared.lines.Numbered.{Numbered}
use Rattle.route_replay.specs.declared.tasks.Task.{Task}
use Rattle.route_replay.specs.declared.tasks.Task.TheVariants as task
use Rattle.route_replay.specs.declared.node_views.NodeView.TheVariants.{Rib, Log, Cut}
use Rattle.route_replay.specs.declared.views.View.TheVariants as view
use Rattle.view_words.specs.Lines.{ended}
use Rattle.view_words.specs.Reasons.{reason_words}
use Rattle.route_replay.specs.Views.{view_text}

-- the line of an event that did nothing
abbrev pub idle_line : ℕ → Reason → List ℕ
idle_line line reason = ended (decimal line ++ codes ": idle " ++ reason_words reason)

-- an event that did something is not shown
abbrev pub step_text : ℕ → Step → List ℕ
step_text line (Idle reason) = idle_line line reason
step_text line (Goes now) = []

-- where a directive leads: to these events, or to a limit that stops it
pub data Course : Type 0 where
  Leads : (events : List Event) → Course
  Stops : (at : Reached) → Course

-- to these events, where no limit is reached
abbrev pub unless : Option Reached → List Event → Course
unless None events = Leads events
unless (Some reached) events = Stops reached

-- one more event, where no limit stops it
abbrev pub with_event : Rules → Net → List Event → Event → Course
with_event rules net events e = unless (limit_of rules net events e) (events ++ e ∷ [])

-- on from there, where no limit stopped it
abbrev pub then_on : Course → (List Event → Course) → Course
then_on (Leads events) next = next events
then_on (Stops at) next = Stops at

-- at most n deliveries, each the next one when its turn comes
abbrev pub drained : Rules → Net → ℕ → List Event → Course
drained rules net zero events = Leads events
drained rules net (suc n) events =
    elim (next_delivery net (run rules net events)) [
      | None ↦ Leads events
      | Some way ↦ then_on (with_event rules net events (event.Deliver way.from way.to)) (drained rules net n)
    ]

-- at most n control messages, each the next one when its turn comes
abbrev pub controlled : Rules → Net → ℕ → List Event → Course
controlled rules net zero events = Leads events
controlled rules net (suc n) events =
    elim (next_mail rules net events) [
      | None ↦ Leads events
      | Some number ↦ then_on (with_event rules net events (event.Control number)) (controlled rules net n)
    ]

-- the event did nothing
abbrev pub is_idle : Step → Bool
is_idle (Idle reason) = true
is_idle (Goes now) = false

-- at most n hops of packet k: none once its walk has ended, and none after one that did nothing
abbrev pub hopped : Rules → Net → ℕ → ℕ → List Event → Course
hopped rules net k zero events = Leads events
hopped rules net k (suc n) events =
    if is_some (ending k (run rules net events)) then Leads events
    else then_on (with_event rules net events (event.Hop k))
    (λ later. if is_idle (step rules net (run rules net events) (event.Hop k)) then Leads later else hopped rules net k n later)

-- one hop is an event of its own line
abbrev pub hops_of : ℕ → Option ℕ → Task
hops_of k None = task.Event (event.Hop k)
hops_of k (Some times) = task.Hops k times

-- what a directive asks for
abbrev pub task_of : Directive ℕ → Task
task_of (Originate node prefix) = task.Event (event.Originate node prefix)
task_of (Withdraw node prefix) = task.Event (event.Withdraw node prefix)
task_of (Prefer node nbr value) = task.Event (event.Prefer node nbr value)
task_of (Deliver from to) = task.Event (event.Deliver from to)
task_of (Fail a b) = task.Event (event.Fail a b)
task_of (Restore a b) = task.Event (event.Restore a b)
task_of (Notice node nbr) = task.Event (event.Notice node nbr)
task_of (OpenSession node nbr) = task.Event (event.OpenSession node nbr)
task_of (Flush node nbr) = task.Event (event.Flush node nbr)
task_of (Snap node) = task.Event (event.Snap node)
task_of (Propose node epoch) = task.Event (event.Propose node epoch)
task_of (Control number) = task.Event (event.Control number)
task_of (Crash node) = task.Event (event.Crash node)
task_of (Restart node) = task.Event (event.Restart node)
task_of (Inject packet node prefix) = task.Event (event.Inject packet node prefix)
task_of (Hop packet times) = hops_of packet times
task_of (Drain times) = task.Deliveries times
task_of (ControlAll times) = task.ControlMessages times
task_of ShowRib = task.Show (view.Nodes Rib)
task_of ShowLog = task.Show (view.Nodes Log)
task_of (ShowCut epoch) = task.Show (view.Nodes (Cut epoch))
task_of ShowControl = task.Show view.Control
task_of (ShowClosure epoch) = task.Show (view.Closure epoch)
task_of (ShowTables epoch) = task.Show (view.Tables epoch)
task_of (ShowWalk packet) = task.Show (view.Walk packet)
task_of (Probe node prefix) = task.Show (view.Probe node prefix)

-- where a task leads, after these events
abbrev pub course : Rules → Net → List Event → Task → Course
course rules net events (task.Event e) = with_event rules net events e
course rules net events (task.Deliveries times) = drained rules net times events
course rules net events (task.ControlMessages times) = controlled rules net times events
course rules net events (task.Hops packet times) = hopped rules net packet times events
course rules net events (task.Show shown) = Leads events

-- what is written for a task of this line: an event's idle line, or what is shown; deliveries, control messages and hops
-- by the number write nothing
abbrev pub said_for : Rules → Net → List Event → ℕ → Task → List ℕ
said_for rules net events line (task.Event e) = step_text line (step rules net (run rules net events) e)
said_for rules net events line (task.Deliveries times) = []
said_for rules net events line (task.ControlMessages times) = []
said_for rules net events line (task.Hops packet times) = []
said_for rules net events line (task.Show shown) = view_text rules net events shown

-- the lines of a directive, read on the run at its turn
abbrev pub said : Rules → Net → List Event → Numbered → List ℕ
said rules net events d = said_for rules net events d.line (task_of d.directive)

-- what is said, and then the text of the rest, where no limit stopped it
abbrev pub text_by : List ℕ → Course → (List Event → List ℕ) → List ℕ
text_by said (Leads events) rest = said ++ rest events
text_by said (Stops at) rest = []

-- the text of the directives, one after the other, up to the one that a limit stops
abbrev pub text : Rules → Net → List Event → List Numbered → List ℕ
text rules net events [] = []
text rules net events (d ∷ ds) =
    text_by (said rules net events d) (course rules net events (task_of d.directive)) (λ later. text rules net later ds)

-- what is said, and then the texts of the rest, where no limit stopped it
abbrev pub texts_by : List ℕ → Course → (List Event → List (List ℕ)) → List (List ℕ)
texts_by said (Leads events) rest = said ∷ rest events
texts_by said (Stops at) rest = []

-- the same text directive by directive
abbrev pub texts : Rules → Net → List Event → List Numbered → List (List ℕ)
texts rules net events [] = []
texts rules net events (d ∷ ds) =
    texts_by (said rules net events d) (course rules net events (task_of d.directive)) (λ later. texts rules net later ds)

-- all events on the way: none of a directive that a limit stops
abbrev pub events_by : List Event → Course → (List Event → List Event) → List Event
events_by before (Leads events) rest = rest events
events_by before (Stops at) rest = before

-- the events of the directives, one after the other, up to the one that a limit stops
abbrev pub events_of : Rules → Net → List Event → List Numbered → List Event
events_of rules net events [] = events
events_of rules net events (d ∷ ds) =
    events_by events (course rules net events (task_of d.directive)) (λ later. events_of rules net later ds)

-- the limit that stopped the directive, else what stops the rest
abbrev pub stop_by : Course → (List Event → Option Reached) → Option Reached
stop_by (Leads events) rest = rest events
stop_by (Stops at) rest = Some at

-- the count that stops them, where one does
abbrev pub stop : Rules → Net → List Event → List Numbered → Option Reached
stop rules net events [] = None
stop rules net events (d ∷ ds) = stop_by (course rules net events (task_of d.directive)) (λ later. stop rules net later ds)
