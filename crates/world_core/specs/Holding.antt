-- When the state of a world is that of a run.
use Rattle.std.specs.Prelude.{ℕ, ◌≡◌, true, Option, Some, None, ◌∷◌, ◌++◌, [], slice_get}
use Rattle.topology.specs.Net.{Net, linked}
use Rattle.path_vector.specs.Rules.{Rules}
use Rattle.topology.specs.declared.ways.Way.{Way}
use Rattle.link_model.specs.Tables.{ways_of}
use Rattle.chronicle.specs.declared.events.Event.{Event}
use Rattle.chronicle.specs.declared.events.Event.TheVariants.{Deliver}
use Rattle.chronicle.specs.Deliveries.{arrives, deliveries, next_delivery}
use Rattle.chronicle.specs.Facts.{Chronicle}
use Rattle.chronicle.specs.Run.{run}
use Rattle.world_core.specs.declared.world_state.WorldState.{WorldState}
use Rattle.world_core.specs.Matching.{Stands}
use Rattle.world_core.specs.OpenWays.{AreOpen}
use Rattle.world_core.specs.WaySets.{has_way}

-- the network is as the events leave it, and the set has the ways that are open then
pub record Holds {P : Type 0} (rules : P → Rules) (state : WorldState P) : Type 0 where
  pub stands : Stands (rules state.network.policy) (run (rules state.network.policy) state.network.topology.value state.events.items)
      (deliveries (rules state.network.policy) state.network.topology.value state.events.items) state.network
  pub open_ways : AreOpen state.network.topology.value (run (rules state.network.policy) state.network.topology.value state.events.items)
      (has_way state.network.topology.value state.open_ways)

-- the same network, and one event more
pub record AddsEvent {P : Type 0} (event : Event) (old new : WorldState P) : Type 0 where
  pub policy : new.network.policy ≡ old.network.policy
  pub net : new.network.topology.value ≡ old.network.topology.value
  pub events : new.events.items ≡ old.events.items ++ event ∷ []

-- the same state, or one delivery more, over the way from the one to the other
abbrev pub AddsDelivery : {P : Type 0} → Option (ℕ × ℕ) → WorldState P → WorldState P → Type 0
AddsDelivery None old new = new ≡ old
AddsDelivery (Some ends) old new = AddsEvent (Deliver ends.0 ends.1) old new

-- the next delivery is over this way
pub record IsOver (net : Net) (past : Chronicle) (way : Way) : Type 0 where
  pub near : linked net way.from way.to ≡ true
  pub waits : arrives past way.from way.to ≡ true
  pub first : next_delivery net past ≡ Some way

-- the next delivery is over the way with this number
pub record IsNext (net : Net) (past : Chronicle) (number : ℕ) : Type 0 where
  pub way : Way
  pub here : slice_get (ways_of net) number ≡ Some way
  pub over : IsOver net past way
