-- When links stand for a list of acts: what they store is what is read from the list.
use Rattle.std.specs.Prelude.{ℕ, ◌≡◌, Some, slice_get}
use Rattle.topology.specs.Net.{Net, IsValid}
use Rattle.topology.specs.declared.ways.Way.{Way}
use Rattle.link_model.specs.declared.links.Links.{Links}
use Rattle.link_model.specs.Acts.{LinkActs}
use Rattle.link_model.specs.Tables.{ways_of}
use Rattle.link_model.specs.Ways.{OneWay}
use Rattle.link_model.specs.Readings.{state, channel_after}

-- what is stored of the way from u to w
pub record IsChannel (acts : LinkActs) (u w : ℕ) (kept : OneWay) : Type 0 where
  pub state : kept.state ≡ state u w acts
  pub items : kept.items ≡ channel_after u w acts

-- a channel for each way, at its number
pub record StandsFor (net : Net) (links : Links) (acts : LinkActs) : Type 0 where
  pub valid : IsValid net
  pub numbered : links.table ≡ ways_of net
  pub each : (way : ℕ) (e : Way) (kept : OneWay) → slice_get links.table way ≡ Some e
      → slice_get links.channels.items way ≡ Some kept → IsChannel acts e.from e.to kept
