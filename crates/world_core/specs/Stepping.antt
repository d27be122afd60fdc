-- The properties of every step in every network.
use Rattle.std.specs.Prelude.{ℕ, ◌≡◌, ◌⊎◌, None, List, [], ◌∷◌, ◌++◌}
use Rattle.topology.specs.Net.{Net}
use Rattle.path_vector.specs.Rules.{Rules}
use Rattle.agreement_laws.specs.Published.{Completes, PublishesLast}
use Rattle.chronicle.specs.declared.events.Event.{Event}
use Rattle.chronicle.specs.Publications.{publications}
use Rattle.chronicle.specs.Run.{run}
use Rattle.world_core.specs.Limits.{limit_of}
use Rattle.world_core.specs.Restarts.{LosesTalliesAlone}
use Rattle.world_core.specs.Sound.{IsSound}

-- the run after the step is sound; a node that now has both the cut and the decision of an epoch publishes its table in
-- this step, as the last fact, and publishes in no other step; a crash and a restart change nothing else; and no count
-- is above its number
pub record IsStep (rules : Rules) (net : Net) (events : List Event) (event : Event) : Type 0 where
  pub sound : IsSound rules net (run rules net (events ++ event ∷ []))
  pub at_once : (u e : ℕ) → Completes (run rules net events) (run rules net (events ++ event ∷ [])) u e
      → PublishesLast rules net (run rules net events) (run rules net (events ++ event ∷ [])) u e
  pub only_then : (u : ℕ) → (publications u (run rules net (events ++ event ∷ [])) ≡ publications u (run rules net events))
      ⊎ ((e : ℕ) × Completes (run rules net events) (run rules net (events ++ event ∷ [])) u e
      × PublishesLast rules net (run rules net events) (run rules net (events ++ event ∷ [])) u e)
  pub restarts : LosesTalliesAlone rules net events event
  pub within : limit_of rules net events event ≡ None
