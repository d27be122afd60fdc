-- A world, as contracts see it.
use Rattle.std.specs.Prelude.{ℕ, Option, Some, None, List, [], ◌∷◌, ◌++◌}
use Rattle.topology.specs.Net.{Net}
use Rattle.chronicle.specs.declared.events.Event.{Event}
use Rattle.chronicle.specs.declared.events.Event.TheVariants.{Deliver}

-- the policy of all nodes, the network, and the events; all else is read from the run of the events
pub record WorldView (P : Type 0) : Type 0 where
  pub policy : P
  pub net : Net
  pub events : List Event

-- the world after a delivery over this way; the same world where there is none
abbrev pub delivered : {P : Type 0} → WorldView P → Option (ℕ × ℕ) → WorldView P
delivered world None = world
delivered world (Some ends) = record world { events = world.events ++ Deliver ends.0 ends.1 ∷ [] }
