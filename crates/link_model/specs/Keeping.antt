-- When links hold a given state and given items for each way.
use Rattle.std.specs.Prelude.{ℕ, ◌≡◌, ◌==◌, ◌&&◌, Some, slice_get, if◌then◌else◌}
use Rattle.topology.specs.Net.{Net, IsValid}
use Rattle.topology.specs.declared.ways.Way.{Way}
use Rattle.link_model.specs.declared.links.Links.{Links}
use Rattle.link_model.specs.Tables.{ends, ways_of}
use Rattle.link_model.specs.Ways.{OneWay}

-- the state and the items of each way, by its two nodes
abbrev pub Ways : Type 0
Ways = ℕ → ℕ → OneWay

-- the links hold the ways of a network, each at its number
pub record Keeps (net : Net) (links : Links) (ways : Ways) : Type 0 where
  pub valid : IsValid net
  pub numbered : links.table ≡ ways_of net
  pub each : (way : ℕ) (e : Way) (kept : OneWay) → slice_get links.table way ≡ Some e
      → slice_get links.channels.items way ≡ Some kept → kept ≡ ways e.from e.to

-- the way from one node to another has this number, and no other way has it
pub record IsPlaced (links : Links) (from to way : ℕ) : Type 0 where
  pub here : slice_get links.table way ≡ Some (ends from to)
  pub only : (other : ℕ) → slice_get links.table other ≡ Some (ends from to) → other ≡ way

-- the way from one node to another is `new`, and the other ways are as before
abbrev pub replaced : ℕ → ℕ → OneWay → Ways → Ways
replaced from to new ways u w = if from == u && to == w then new else ways u w
