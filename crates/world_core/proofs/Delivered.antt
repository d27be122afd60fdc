-- How often messages were delivered after one more event.
use Rattle.std.proofs.Common.{ℕ, suc, ◌<◌, ◌≤◌, Bool, true, false, List, [], ◌∷◌, ◌++◌, ◌≡◌, refl, ◌∙◌, ap, arith, length}
use Rattle.std.specs.Prelude.{if◌then◌else◌}
use Rattle.topology.specs.Net.{Net}
use Rattle.path_vector.specs.Rules.{Rules}
use Rattle.chronicle.specs.declared.events.Event.{Event}
use Rattle.chronicle.specs.Deliveries.{counted, counts, deliveries, deliveries_from}
use Rattle.chronicle.specs.Facts.{Chronicle}
use Rattle.chronicle.specs.Run.{after, run}
use Rattle.std.specs.Prelude.{fold}
use Rattle.world_core.specs.Counting.{AreFew, counts_after, no_deliveries}
use Rattle.topology.specs.declared.limits.TheConstants.{MOST_EVENTS}

-- two that count, in either order
in_turn : (a b : Bool) (n : ℕ) → (if a then suc (if b then suc n else n) else (if b then suc n else n)) ≡ (if b then suc (if a then suc n else n) else (if a then suc n else n))
in_turn true true n = refl
in_turn true false n = refl
in_turn false true n = refl
in_turn false false n = refl

module _ (rules : Rules) (net : Net) (k : ℕ) (last : Event) where
  -- one more event at the end, from any chronicle on
  from_there : (past : Chronicle) (events : List Event) → deliveries_from rules net k past (events ++ last ∷ []) ≡ counted k (fold (after rules net) past events) last (deliveries_from rules net k past events)
  from_there past [] = refl
  from_there past (event ∷ later) =
      let now = after rules net past event in
      ap (counted k past event) (from_there now later)
      ∙ in_turn (counts k past event) (counts k (fold (after rules net) now later) last) (deliveries_from rules net k now later)

-- the counts after one more event
pub one_more : (rules : Rules) (net : Net) (events : List Event) (event : Event) (k : ℕ)
    → deliveries rules net (events ++ event ∷ []) k ≡ counts_after (run rules net events) event (deliveries rules net events) k
unfolding deliveries run
one_more rules net events event k = from_there rules net k event [] events

-- each event counts once at most
up_to : (rules : Rules) (net : Net) (k : ℕ) (past : Chronicle) (events : List Event) → deliveries_from rules net k past events ≤ length events
up_to rules net k past [] = omega arith
up_to rules net k past (event ∷ later) =
    let rest = up_to rules net k (after rules net past event) later in
    elim (counts k past event) as (λ b. (if b then suc (deliveries_from rules net k (after rules net past event) later) else deliveries_from rules net k (after rules net past event) later) ≤ suc (length later)) [
      | true ↦ omega (arith, rest)
      | false ↦ omega (arith, rest)
    ]

-- so no count comes to its end
pub few_deliveries : (rules : Rules) (net : Net) (events : List Event) → length events < MOST_EVENTS → AreFew (deliveries rules net events)
unfolding deliveries
few_deliveries rules net events short k = let most = up_to rules net k [] events in omega (arith, most, short)

-- at the start nothing was delivered
pub none_delivered : (rules : Rules) (net : Net) (k : ℕ) → deliveries rules net [] k ≡ no_deliveries k
unfolding deliveries
none_delivered rules net k = refl
