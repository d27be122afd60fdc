-- The line of the value that was shown last.
use Rattle.std.specs.Prelude.{ℕ, ◌≡◌, Option, Some, None, List}
use Rattle.std.specs.String.{string_bytes}
use Rattle.topology.specs.Net.{Net}
use Rattle.path_vector.specs.Rules.{Rules}
use Rattle.chronicle.specs.declared.events.Event.{Event}
use Rattle.chronicle.specs.Run.{run}
use Rattle.route_replay.specs.declared.shown_closure.ShownClosure.{ShownClosure}
use Rattle.route_replay.specs.ClosureText.{closure_text}

-- the line is that of the value of this epoch, after these events
pub record IsLineOf (rules : Rules) (net : Net) (events : List Event) (epoch : ℕ) (shown : ShownClosure) : Type 0 where
  pub epoch_is : shown.epoch ≡ epoch
  pub text : string_bytes shown.line ≡ closure_text rules net (run rules net events) epoch

-- where a line is kept, it is that of its epoch after these events
abbrev pub IsCurrent : Rules → Net → List Event → Option ShownClosure → Type 0
IsCurrent rules net events None = Unit {0}
IsCurrent rules net events (Some shown) = IsLineOf rules net events shown.epoch shown
