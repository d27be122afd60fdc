-- Hops of a packet, one after the other.
use Rattle.std.proofs.Common.{◌≡◌, ℕ, suc, ◌+◌, ◌-◌, Bool, true, false, Option, None, List, [], ◌∷◌, ◌++◌, refl, ap, ◌∙◌}
use Rattle.std.specs.Prelude.{is_some, if◌then◌else◌}
use Rattle.topology.specs.declared.status.Reason.{Reason}
use Rattle.topology.specs.Net.{Net}
use Rattle.path_vector.specs.Rules.{Rules}
use Rattle.chronicle.specs.declared.events.Event.{Event}
use Rattle.chronicle.specs.declared.events.Event.TheVariants.{Hop}
use Rattle.chronicle.specs.Facts.{Chronicle}
use Rattle.chronicle.specs.Run.{step, run}
use Rattle.chronicle.specs.Steps.{Step, Idle, Goes}
use Rattle.chronicle.specs.Walks.{ending}
use Rattle.node_core.specs.NodeLimits.{Reached}
use Rattle.run_record.specs.Effects.{Tells}
use Rattle.node_core.specs.NodeLimits.{StopsAt}
use Rattle.world_core.specs.Limits.{limit_of}
use Rattle.run_record.specs.declared.outcomes.Effect.{Effect}
use Rattle.run_record.specs.declared.outcomes.Outcome.TheVariants as outcome
use Rattle.node_core.specs.declared.outputs.Stop.{Stop}
use Rattle.node_core.specs.declared.outputs.Stop.TheVariants as stop
use Rattle.route_replay.specs.Text.{Course, Leads, unless, with_event, then_on, is_idle, hopped}
use Rattle.route_replay.specs.Running.{StopsIn}

-- an event with effects was not idle
pub told_effects : (past : Chronicle) (step : Step) (list : List Effect) → Tells past step (outcome.Did list) → is_idle step ≡ false
told_effects past (Idle reason) list tells = absurd tells
told_effects past (Goes now) list tells = refl

-- one with a reason was
pub told_reason : (past : Chronicle) (step : Step) (reason : Reason) → Tells past step (outcome.Idle reason) → is_idle step ≡ true
told_reason past (Idle why) reason tells = refl
told_reason past (Goes now) reason tells = absurd tells

module _ (rules : Rules) (net : Net) (events : List Event) (k n : ℕ) where
  abbrev now : Step
  now = step rules net (run rules net events) (Hop k)

  -- where one hop leads, and those behind it
  abbrev on_from : Course → Bool → Course
  on_from led idle = then_on led (λ later. if idle then Leads later else hopped rules net k n later)

  -- the walk has ended
  pub hop_ends : is_some (ending k (run rules net events)) ≡ true → hopped rules net k (suc n) events ≡ Leads events
  hop_ends e = ap (λ b. if b then Leads events else on_from (with_event rules net events (Hop k)) (is_idle now)) e

  hop_on : is_some (ending k (run rules net events)) ≡ false → hopped rules net k (suc n) events ≡ on_from (with_event rules net events (Hop k)) (is_idle now)
  hop_on e = ap (λ b. if b then Leads events else on_from (with_event rules net events (Hop k)) (is_idle now)) e

  hop_within : is_some (ending k (run rules net events)) ≡ false → limit_of rules net events (Hop k) ≡ None → (idle : Bool) → is_idle now ≡ idle
      → hopped rules net k (suc n) events ≡ on_from (Leads (events ++ Hop k ∷ [])) idle
  hop_within e within idle is =
      hop_on e ∙ (ap (λ (o : Option Reached). on_from (unless o (events ++ Hop k ∷ [])) (is_idle now)) within
      ∙ ap (λ b. on_from (Leads (events ++ Hop k ∷ [])) b) is)

  -- one hop more
  pub hop_goes : is_some (ending k (run rules net events)) ≡ false → limit_of rules net events (Hop k) ≡ None → is_idle now ≡ false
      → hopped rules net k (suc n) events ≡ hopped rules net k n (events ++ Hop k ∷ [])
  hop_goes e within goes = hop_within e within false goes

  -- a hop that did nothing is the last
  pub hop_idles : is_some (ending k (run rules net events)) ≡ false → limit_of rules net events (Hop k) ≡ None → is_idle now ≡ true
      → hopped rules net k (suc n) events ≡ Leads (events ++ Hop k ∷ [])
  hop_idles e within idles = hop_within e within true idles

  -- a limit stops it
  pub hop_stops : (why : Stop) → is_some (ending k (run rules net events)) ≡ false → StopsAt (limit_of rules net events (Hop k)) why → StopsIn (hopped rules net k (suc n) events) why
  hop_stops stop.NoMemory e stops = tt
  hop_stops (stop.Limit kind number) e stops =
      hop_on e ∙ ap (λ (o : Option Reached). on_from (unless o (events ++ Hop k ∷ [])) (is_idle now)) stops
