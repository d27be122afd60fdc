-- What holds of a deflected packet while links and owners stay the same.
use Rattle.std.specs.Prelude.{ℕ, ◌≡◌, ◌≤◌, ◌*◌, ◌-◌, true, Some, ◌∷◌, length}
use Rattle.topology.specs.declared.names.Scheme.TheVariants as scheme
use Rattle.topology.specs.Net.{Net}
use Rattle.path_vector.specs.Rules.{Rules}
use Rattle.epoch_packet.specs.declared.walks.End.{End as Ending}
use Rattle.epoch_packet.specs.declared.walks.End.TheVariants.{Delivered}
use Rattle.epoch_packet.specs.declared.walks.Mode.TheVariants.{Transient}
use Rattle.chronicle.specs.declared.events.Event.TheVariants.{Hop}
use Rattle.chronicle.specs.Facts.{Chronicle, End}
use Rattle.chronicle.specs.Run.{step}
use Rattle.chronicle.specs.Steps.{Step, Idle, Goes}
use Rattle.chronicle.specs.Walks.{Standing, standing, walk, ending}
use Rattle.walk_laws.specs.Readings.{moves}
use Rattle.deflect_delivery.specs.Terrain.{Connects}
use Rattle.delivery_laws.specs.Unchanged.{stays, terrain_now}

-- packet k stands there, off the tables, and may arrive
pub record MayArrive (net : Net) (past : Chronicle) (k : ℕ) (at : Standing) : Type 0 where
  pub stands : standing k past ≡ Some at
  pub off : at.packet.mode ≡ Transient
  -- since the packet left the tables no link failed or was restored, and no node became an owner of its prefix or
  -- stopped being one
  pub unchanged : stays k at.packet.prefix past ≡ true
  -- the hop limit is at least two moves for each other node
  pub enough : 2 * (length net.nodes - 1) ≤ net.hops
  -- links that are up lead from the node of the packet to an owner
  pub connected : Connects (terrain_now net at.packet.prefix past) at.node

-- the step does nothing, or ends the walk of packet k as delivered and does nothing else
abbrev pub IdleOrDelivers : ℕ → Chronicle → Step → Type 0
IdleOrDelivers k past (Idle reason) = Unit {0}
IdleOrDelivers k past (Goes now) = now ≡ End k Delivered ∷ past

-- packet k arrives, and its next hop is this step
pub record Arrives (net : Net) (past : Chronicle) (k : ℕ) (hop : Step) : Type 0 where
  -- the packet made at most two moves off the tables for each other node
  pub few : moves (walk k past) ≤ 2 * (length net.nodes - 1)
  -- after that many, its next hop does nothing or delivers it
  pub last : moves (walk k past) ≡ 2 * (length net.nodes - 1) → IdleOrDelivers k past hop
  -- if its walk has ended, it was delivered
  pub ended : (end : Ending) → ending k past ≡ Some end → end ≡ Delivered

-- each deflected packet that may arrive does
pub record DeflectionDelivers (rules : Rules) (net : Net) (past : Chronicle) : Type 0 where
  pub arrives : net.scheme ≡ scheme.Deflect → (k : ℕ) (at : Standing) → MayArrive net past k at → Arrives net past k (step rules net past (Hop k))
