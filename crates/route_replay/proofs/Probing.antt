-- The walks that the probes of a schedule show.
use Rattle.std.proofs.Common.{◌≡◌, ℕ, true, nat_lt, List, [], ◌∷◌, length}
use Rattle.std.proofs.lemmas.List.Elements.{All-head, All-tail}
use Rattle.topology.specs.Lists.{has}
use Rattle.topology.specs.Net.{Net}
use Rattle.topology.proofs.Tests.{and_left}
use Rattle.path_vector.specs.Rules.{Rules}
use Rattle.chronicle.specs.declared.events.Event.{Event}
use Rattle.chronicle.specs.Facts.{Chronicle}
use Rattle.chronicle.specs.Run.{run}
use Rattle.deflect_delivery.specs.Delivering.{WalkDelivers}
use Rattle.delivery_laws.specs.Now.{still_now}
use Rattle.schedule_file.specs.declared.lines.Numbered.{Numbered}
use Rattle.route_replay.specs.declared.tasks.Task.{Task}
use Rattle.route_replay.specs.declared.tasks.Task.TheVariants as task
use Rattle.route_replay.specs.declared.views.View.TheVariants as view
use Rattle.route_replay.specs.Probed.{IsProbed, Onwards, AreProbed}
use Rattle.route_replay.specs.Running.{Fitting, AllFitting}
use Rattle.route_replay.specs.Text.{Course, Leads, Stops, course, task_of}

-- the walk over each run, from each node
abbrev pub EachDelivers : Rules → Net → Type 0
EachDelivers rules net = (past : Chronicle) (p u : ℕ) → has net.nodes u ≡ true → WalkDelivers net (still_now rules net past p) p u

module _ (rules : Rules) (net : Net) (each : EachDelivers rules net) where
  -- one task that fits
  task_probed : (events : List Event) (t : Task) → Fitting net t → IsProbed rules net events t
  task_probed events (task.Event e) fits = tt
  task_probed events (task.Deliveries times) fits = tt
  task_probed events (task.ControlMessages times) fits = tt
  task_probed events (task.Hops packet times) fits = tt
  task_probed events (task.Show (view.Nodes nodes)) fits = tt
  task_probed events (task.Show view.Control) fits = tt
  task_probed events (task.Show (view.Closure epoch)) fits = tt
  task_probed events (task.Show (view.Tables epoch)) fits = tt
  task_probed events (task.Show (view.Walk packet)) fits = tt
  task_probed events (task.Show (view.Probe node p)) fits =
      each (run rules net events) p node (and_left (has net.nodes node) (nat_lt p (length net.prefixes)) fits)

  -- where the course leads
  onwards : (led : Course) (Holds : List Event → Type 0) → ((events : List Event) → Holds events) → Onwards led Holds
  onwards (Leads events) Holds all = all events
  onwards (Stops at) Holds all = tt

  -- and all that follow
  pub are_probed : (ds : List Numbered) (events : List Event) → AllFitting net ds → AreProbed rules net events ds
  are_probed [] events fits = tt
  are_probed (d ∷ ds) events fits = (
    task_probed events (task_of d.directive) (All-head (λ (e : Numbered). Fitting net (task_of e.directive)) d ds fits),
    onwards (course rules net events (task_of d.directive)) (λ later. AreProbed rules net later ds) (λ later. are_probed ds later (All-tail (λ (e : Numbered). Fitting net (task_of e.directive)) d ds fits)),
  )
