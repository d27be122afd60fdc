-- What a run of directives asks and leaves.
use Rattle.std.specs.Prelude.{ℕ, ◌≡◌, Option, Some, None, List, [], IsTrue, Result, OnOk, IsErrOf}
use Rattle.std.specs.List.{All}
use Rattle.std.specs.Io.KnownBytes.{Appends}
use Rattle.route_io.specs.Acts.{AddsPieces}
use Rattle.route_io.specs.Causes.{RoseIf, AppendsFront, StaysTold}
use Rattle.route_io.specs.Views.{SinkView}
use Rattle.topology.specs.declared.status.LimitKind.{LimitKind}
use Rattle.topology.specs.Lists.{Begins}
use Rattle.topology.specs.Net.{Net}
use Rattle.chronicle.specs.declared.events.Event.TheVariants as event
use Rattle.world_core.specs.Fits.{fits}
use Rattle.node_core.specs.NodeLimits.{Reached}
use Rattle.world_core.specs.View.{WorldView}
use Rattle.node_core.specs.declared.outputs.Stop.{Stop}
use Rattle.node_core.specs.declared.outputs.Stop.TheVariants as stop
use Rattle.schedule_file.specs.declared.lines.Numbered.{Numbered}
use Rattle.route_replay.specs.declared.ends.RunEnd.{RunEnd}
use Rattle.route_replay.specs.declared.ends.RunEnd.TheVariants.{WriteFault, Limit}
use Rattle.route_replay.specs.declared.tasks.Task.{Task}
use Rattle.route_replay.specs.declared.tasks.Task.TheVariants as task
use Rattle.route_replay.specs.Text.{Course, Leads, Stops, task_of}
use Rattle.route_replay.specs.Views.{FittingView}

-- an event that is asked for fits the network, and so does what is shown
abbrev pub Fitting : Net → Task → Type 0
Fitting net (task.Event e) = IsTrue (fits net e)
Fitting net (task.Deliveries times) = Unit {0}
Fitting net (task.ControlMessages times) = Unit {0}
Fitting net (task.Hops packet times) = IsTrue (fits net (event.Hop packet))
Fitting net (task.Show view) = FittingView net view

-- so is each that the lines ask for
abbrev pub AllFitting : Net → List Numbered → Type 0
AllFitting net lines = All (λ (d : Numbered). Fitting net (task_of d.directive)) lines

-- the world is that of the same network and policy, and its events are those to which the course leads
pub record Advances {P : Type 0} (old new : WorldView P) (led : Course) : Type 0 where
  pub same_policy : new.policy ≡ old.policy
  pub same_net : new.net ≡ old.net
  pub leads : led ≡ Leads new.events

-- a stop at a limit is where the course stops; want of memory may come at any step
abbrev pub StopsIn : Course → Stop → Type 0
StopsIn led stop.NoMemory = Unit {0}
StopsIn led (stop.Limit kind number) = led ≡ Stops (record { kind = kind; number = number })

-- the lines that are written on the way: none where a limit stops it
abbrev pub lines_by : List ℕ → Course → List ℕ
lines_by words (Leads events) = words
lines_by words (Stops at) = []

-- the limit that stops it
abbrev pub limit_by : Course → Option Reached
limit_by (Leads events) = None
limit_by (Stops at) = Some at

-- what came of the run of a text that this limit stops, where one does: it was written whole, or
-- else a front of it, which is not the whole where the sink failed; and each write was of a piece of it
pub record Runs {T : Type 0} (sink sink' : SinkView) (text : List ℕ) (stopped : Option Reached) (result : Result T RunEnd) : Type 0 where
  pub whole : OnOk result (Appends sink.held sink'.held text × (stopped ≡ None))
  pub limit : (kind : LimitKind) (number : ℕ) → IsErrOf result (Limit kind number)
      → Appends sink.held sink'.held text × (stopped ≡ Some (record { kind = kind; number = number }))
  pub front : (some : List ℕ) × Begins some text × Appends sink.held sink'.held some
  pub cut_off : IsErrOf result WriteFault → AppendsFront sink.held sink'.held text
  pub all_pieces : OnOk result (AddsPieces sink sink' text text)
  pub pieces : (taken : List ℕ) × AddsPieces sink sink' text taken
  pub stays : StaysTold sink.held sink'.held
  pub same_room : sink'.room ≡ sink.room
  pub cause : RoseIf (IsErrOf result WriteFault) sink.faults sink'.faults
