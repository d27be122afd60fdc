-- The state of a world after an event.
use Rattle.std.proofs.Common.{ℕ, Option, Some, None, List, [], ◌∷◌, ◌++◌, ◌≡◌, ◌∙◌, ap}
use Rattle.topology.specs.Net.{Net}
use Rattle.chronicle.specs.declared.events.Event.{Event}
use Rattle.chronicle.specs.declared.events.Event.TheVariants.{Deliver}
use Rattle.world_core.specs.declared.world_state.WorldState.{WorldState}
use Rattle.world_core.specs.Holding.{AddsEvent, AddsDelivery}
use Rattle.world_core.specs.View.{WorldView, delivered}

-- a world that follows has the same policy and network, and one event more
pub view_after : {P : Type 0} (event : Event) (old new : WorldState P) → AddsEvent event old new
    → ◌≡◌ {A = WorldView P} (record { policy = new.network.policy; net = new.network.topology.value; events = new.events.items })
    (record { policy = old.network.policy; net = old.network.topology.value; events = old.events.items ++ event ∷ [] })
view_after {P} event old new follows =
    let view : P → Net → List Event → WorldView P = λ policy net all. record { policy = policy; net = net; events = all } in
    ap (λ all. view new.network.policy new.network.topology.value all) follows.events
    ∙ (ap (λ net. view new.network.policy net (old.events.items ++ event ∷ [])) follows.net
    ∙ ap (λ policy. view policy old.network.topology.value (old.events.items ++ event ∷ [])) follows.policy)

-- a world that follows over the way of a delivery is the world after it
pub delivered_view : {P : Type 0} (way : Option (ℕ × ℕ)) (old new : WorldState P) → AddsDelivery way old new
    → ◌≡◌ {A = WorldView P} (record { policy = new.network.policy; net = new.network.topology.value; events = new.events.items })
    (delivered (record { policy = old.network.policy; net = old.network.topology.value; events = old.events.items }) way)
delivered_view {P} None old new same = ap (λ (state : WorldState P). record { policy = state.network.policy; net = state.network.topology.value; events = state.events.items }) same
delivered_view (Some ends) old new follows = view_after (Deliver ends.0 ends.1) old new follows
