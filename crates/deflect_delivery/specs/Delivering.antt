-- What holds of a walk over a network that does not change.
use Rattle.std.specs.Prelude.{ℕ, ◌*◌, ◌-◌, ◌≡◌, ◌≤◌, ◌⊎◌, List, length}
use Rattle.topology.specs.Net.{Net}
use Rattle.epoch_packet.specs.declared.walks.End.{End as Ending}
use Rattle.epoch_packet.specs.declared.walks.End.TheVariants.{Delivered, Stuck}
use Rattle.deflect_delivery.specs.declared.stills.Still.{Still}
use Rattle.deflect_delivery.specs.Terrain.{Connects}
use Rattle.deflect_delivery.specs.Stills.{terrain}
use Rattle.deflect_delivery.specs.Progress.{IsOver, whole_walk}

-- the walk ends as delivered or stuck, never as expired; it is delivered exactly if links that are up connect
-- its first node to an owner; and it has at most two moves for each other node
pub record Delivers (net : Net) (still : Still) (from : ℕ) (visits : List ℕ) (ending : Ending) : Type 0 where
  pub either : (ending ≡ Delivered) ⊎ (ending ≡ Stuck)
  pub connected : ending ≡ Delivered → Connects (terrain still) from
  pub cut_off : ending ≡ Stuck → Connects (terrain still) from → ⊥
  pub few : length visits - 1 ≤ 2 * (length net.nodes - 1)

-- the walk of a packet of prefix p from a node ends, and ends like this
pub record WalkDelivers (net : Net) (still : Still) (p from : ℕ) : Type 0 where
  pub visits : List ℕ
  pub ending : Ending
  pub over : IsOver (whole_walk net still p from) visits ending
  pub delivers : Delivers net still from visits ending
