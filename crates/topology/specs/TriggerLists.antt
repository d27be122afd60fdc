-- Lists of triggers as they are stored.
use Rattle.std.specs.Prelude.{List, [], ◌∷◌, ◌<◌, length}
use Rattle.topology.specs.declared.names.Trigger.{Trigger}
use Rattle.topology.specs.declared.triggers.Kept.{Kept}
use Rattle.topology.specs.declared.triggers.Kept.TheVariants.{Nothing, One, Many}

-- the triggers, however they are stored
abbrev pub listed_triggers : Kept → List Trigger
listed_triggers Nothing = []
listed_triggers (One trigger) = trigger ∷ []
listed_triggers (Many triggers) = triggers.value.items

-- a list is shared only if it has more than one trigger
abbrev pub IsLong : Kept → Type 0
IsLong Nothing = Unit {0}
IsLong (One trigger) = Unit {0}
IsLong (Many triggers) = 1 < length triggers.value.items
