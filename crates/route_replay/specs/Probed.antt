-- What holds of the walks that the probes of a schedule show.
use Rattle.std.specs.Prelude.{List, [], ◌∷◌}
use Rattle.topology.specs.Net.{Net}
use Rattle.path_vector.specs.Rules.{Rules}
use Rattle.chronicle.specs.declared.events.Event.{Event}
use Rattle.chronicle.specs.Run.{run}
use Rattle.deflect_delivery.specs.Delivering.{WalkDelivers}
use Rattle.delivery_laws.specs.Now.{still_now}
use Rattle.schedule_file.specs.declared.lines.Numbered.{Numbered}
use Rattle.route_replay.specs.declared.tasks.Task.{Task}
use Rattle.route_replay.specs.declared.tasks.Task.TheVariants as task
use Rattle.route_replay.specs.declared.views.View.TheVariants as view
use Rattle.route_replay.specs.Text.{Course, Leads, Stops, course, task_of}

-- a probe after these events: its walk comes to its end, over the network as it is then, as delivered exactly where links
-- that are up connect its node with an owner, else as stuck
abbrev pub IsProbed : Rules → Net → List Event → Task → Type 0
IsProbed rules net events (task.Show (view.Probe node p)) = WalkDelivers net (still_now rules net (run rules net events) p) p node
IsProbed rules net events other = Unit {0}

-- it holds of the events that a course leads to
abbrev pub Onwards : Course → (List Event → Type 0) → Type 0
Onwards (Leads events) Holds = Holds events
Onwards (Stops at) Holds = Unit {0}

-- so it is with each probe at its turn, up to the directive that a limit stops
abbrev pub AreProbed : Rules → Net → List Event → List Numbered → Type 0
AreProbed rules net events [] = Unit {0}
AreProbed rules net events (d ∷ ds) =
    IsProbed rules net events (task_of d.directive)
    × Onwards (course rules net events (task_of d.directive)) (λ later. AreProbed rules net later ds)
