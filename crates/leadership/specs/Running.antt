-- What a run of directives needs, and what it leaves.
use Rattle.std.specs.Prelude.{ℕ, ◌≡◌, Option, Some, None, List, [], Result, OnOk, IsErrOf}
use Rattle.std.specs.Io.KnownBytes.{Appends}
use Rattle.route_io.specs.Causes.{RoseIf, AppendsFront, StaysTold}
use Rattle.route_io.specs.Views.{SinkView}
use Rattle.topology.specs.declared.status.LimitKind.{LimitKind}
use Rattle.topology.specs.Lists.{Begins}
use Rattle.leadership.specs.declared.ends.RunEnd.{RunEnd}
use Rattle.leadership.specs.declared.ends.RunEnd.TheVariants.{WriteFault, Limit}
use Rattle.leadership.specs.declared.stops.LeadStop.{LeadStop}
use Rattle.leadership.specs.declared.stops.LeadStop.TheVariants as stop
use Rattle.leadership.specs.Text.{Course, Leads, Stops}
use Rattle.leadership.specs.View.{LeadView}

-- the world has the same members, and its events are those of the course
pub record Advances (old new : LeadView) (led : Course) : Type 0 where
  pub same_members : new.members ≡ old.members
  pub leads : led ≡ Leads new.events

-- a stop at a limit is where the course stops; NoMemory may come at any step
abbrev pub StopsIn : Course → LeadStop → Type 0
StopsIn led stop.NoMemory = Unit {0}
StopsIn led (stop.Limit kind number) = led ≡ Stops kind number

-- the lines that are written on the way; none if a limit stops it
abbrev pub lines_by : List ℕ → Course → List ℕ
lines_by words (Leads events) = words
lines_by words (Stops kind number) = []

-- the limit that stops it, if any
abbrev pub limit_by : Course → Option (LimitKind × ℕ)
limit_by (Leads events) = None
limit_by (Stops kind number) = Some (kind, number)

-- the result of running a text, which this limit stops, if any: the text was written whole, or only its first part,
-- which is not all of it if the sink failed
pub record Runs {T : Type 0} (sink sink' : SinkView) (text : List ℕ) (stopped : Option (LimitKind × ℕ)) (result : Result T RunEnd) : Type 0 where
  pub whole : OnOk result (Appends sink.held sink'.held text × (stopped ≡ None))
  pub limit : (kind : LimitKind) (number : ℕ) → IsErrOf result (Limit kind number)
      → Appends sink.held sink'.held text × (stopped ≡ Some (kind, number))
  pub front : (some : List ℕ) × Begins some text × Appends sink.held sink'.held some
  pub cut_off : IsErrOf result WriteFault → AppendsFront sink.held sink'.held text
  pub stays : StaysTold sink.held sink'.held
  pub same_room : sink'.room ≡ sink.room
  pub cause : RoseIf (IsErrOf result WriteFault) sink.faults sink'.faults
