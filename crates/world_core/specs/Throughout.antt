-- The properties of each moment of a run.
use Rattle.std.specs.Prelude.{ℕ, ◌≡◌, ◌⊎◌, List, [], ◌∷◌, ◌++◌}
use Rattle.topology.specs.Lists.{Begins}
use Rattle.topology.specs.Net.{Net}
use Rattle.path_vector.specs.Rules.{Rules}
use Rattle.agreement_laws.specs.Published.{Completes, PublishesLast}
use Rattle.chronicle.specs.declared.events.Event.{Event}
use Rattle.chronicle.specs.Publications.{publications}
use Rattle.chronicle.specs.Run.{run}
use Rattle.world_core.specs.Restarts.{LosesTalliesAlone}
use Rattle.world_core.specs.Sound.{IsSound}

-- over these events, one after the other
pub record HoldsThroughout (rules : Rules) (net : Net) (events : List Event) : Type 0 where
  -- when any of them have happened, from the first on, the network is sound
  pub sound : (front : List Event) → Begins front events → IsSound rules net (run rules net front)
  -- a node that gets both the cut and the decision of an epoch publishes its table in that step, as the last thing of it
  pub at_once : (front : List Event) (event : Event) → Begins (front ++ event ∷ []) events → (u e : ℕ)
      → Completes (run rules net front) (run rules net (front ++ event ∷ [])) u e
      → PublishesLast rules net (run rules net front) (run rules net (front ++ event ∷ [])) u e
  -- and in no other step does it publish
  pub only_then : (front : List Event) (event : Event) → Begins (front ++ event ∷ []) events → (u : ℕ)
      → (publications u (run rules net (front ++ event ∷ [])) ≡ publications u (run rules net front))
      ⊎ ((e : ℕ) × Completes (run rules net front) (run rules net (front ++ event ∷ [])) u e
      × PublishesLast rules net (run rules net front) (run rules net (front ++ event ∷ [])) u e)
  -- a crash stops a node, and loses the reports that it collected and the ballots that it has open; a restart brings it back;
  -- neither changes anything else
  pub restarts : (front : List Event) (event : Event) → Begins (front ++ event ∷ []) events → LosesTalliesAlone rules net front event
