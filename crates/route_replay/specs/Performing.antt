-- What the loop of a load asks and leaves.
use Rattle.std.specs.Prelude.{ℕ, ◌≡◌, Some, None, List}
use Rattle.std.specs.List.{AllByRecursion}
use Rattle.topology.specs.Net.{Net}
use Rattle.path_vector.specs.Rules.{Rules}
use Rattle.world_core.specs.View.{WorldView}
use Rattle.schedule_file.specs.declared.directives.Directive.{Directive}
use Rattle.node_core.specs.declared.outputs.Stop.{Stop}
use Rattle.node_core.specs.declared.outputs.Stop.TheVariants as stop
use Rattle.schedule_file.specs.declared.lines.Numbered.{Numbered}
use Rattle.route_replay.specs.Running.{Fitting}
use Rattle.route_replay.specs.Text.{events_of, stop, task_of}

-- each of these directives fits the network
abbrev pub AllFit : Net → List (Directive ℕ) → Type 0
AllFit net directives = AllByRecursion (λ d. Fitting net (task_of d)) directives

-- the world is that of the same network and policy, its events are those of the lines, and no limit stops these
pub record Performs {P : Type 0} (rules : Rules) (old new : WorldView P) (lines : List Numbered) : Type 0 where
  pub same_policy : new.policy ≡ old.policy
  pub same_net : new.net ≡ old.net
  pub events : new.events ≡ events_of rules old.net old.events lines
  pub goes : stop rules old.net old.events lines ≡ None

-- a stop at a limit is where the lines stop; want of memory may come at any step
abbrev pub StopsLoad : {P : Type 0} → Rules → WorldView P → List Numbered → Stop → Type 0
StopsLoad rules world lines stop.NoMemory = Unit {0}
StopsLoad rules world lines (stop.Limit kind number) =
    stop rules world.net world.events lines ≡ Some (record { kind = kind; number = number })
