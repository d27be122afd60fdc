-- What is stored of one way, from a node to a neighbour.
use Rattle.std.specs.Prelude.{ℕ, Bool, true, false, Option, Some, None, List, [], ◌∷◌, ◌++◌, if◌then◌else◌}
use Rattle.topology.specs.declared.items.Item.{Item}
use Rattle.topology.specs.declared.links.LinkState.{LinkState}
use Rattle.topology.specs.declared.links.LinkState.TheVariants.{Up}
use Rattle.topology.specs.LinkStates.{carries}

-- the state of the link, and the items on their way, the oldest first
pub record OneWay : Type 0 where
  pub state : LinkState
  pub items : List Item

-- a way of a link in this state, with nothing on it
abbrev pub emptied : LinkState → OneWay
emptied link = record { state = link; items = [] }

-- a way at the start
abbrev pub unused : OneWay
unused = emptied (Up 1)

-- the way after a push: the item goes to the end, if the link carries its session
abbrev pub after_push : ℕ → Item → OneWay → OneWay
after_push session item way =
    if carries way.state session then record { state = way.state; items = way.items ++ item ∷ [] } else way

-- there is at least one item
abbrev pub has_items : List Item → Bool
has_items [] = false
has_items (item ∷ items) = true

-- there is a way, and something is on it
abbrev pub holds_some : Option OneWay → Bool
holds_some None = false
holds_some (Some way) = has_items way.items
