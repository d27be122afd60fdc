-- The set of open ways that a world keeps.
use Rattle.std.specs.Prelude.{ℕ, ◌≡◌, Bool, false, not, ◌&&◌, Option}
use Rattle.topology.specs.declared.links.LinkState.{LinkState}
use Rattle.topology.specs.declared.links.LinkState.TheVariants.{Up, Down}
use Rattle.topology.specs.Net.{Net, linked}
use Rattle.trigger_log.specs.Entries.{is_session}
use Rattle.topology.specs.declared.ways.Way.{Way}
use Rattle.chronicle.specs.Facts.{Chronicle}
use Rattle.chronicle.specs.Crashes.{crashed}
use Rattle.chronicle.specs.Links.{link}
use Rattle.chronicle.specs.Run.{held_with}

-- the link is up in this session, if one is held
abbrev pub is_joined : LinkState → Option ℕ → Bool
is_joined (Down s) session = false
is_joined (Up s) session = is_session session s

-- node u runs, and holds the session in which the link from v is up: the delivery of an item from v is not idle
abbrev pub is_open : Chronicle → ℕ → ℕ → Bool
is_open past v u = not (crashed u past) && is_joined (link v u past) (held_with u v past)

-- the set, which `has` tests, has exactly the ways that go over a link and are open
abbrev pub AreOpen : Net → Chronicle → (Way → Bool) → Type 0
AreOpen net past has = (way : Way) → has way ≡ (linked net way.from way.to && is_open past way.from way.to)
