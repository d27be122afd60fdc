-- The items that an entry sent, as they are kept.
use Rattle.std.specs.Prelude.{ℕ, Bool, ◌+◌, ◌≡◌, ◌≤◌, ◌<◌, ◌^◌, nat_lt, List, [], ◌∷◌, ◌++◌, length}
use Rattle.std.specs.List.{AllByRecursion}
use Rattle.topology.specs.declared.names.Trigger.{Trigger}
use Rattle.topology.specs.declared.items.Sent.{Sent}
use Rattle.topology.specs.declared.sent_items.Kept.{Kept}
use Rattle.topology.specs.declared.sent_items.Kept.TheVariants.{Nothing, One, Two, Alike, Many}

-- the items, wherever they stand
abbrev pub listed_sent : Kept → List Sent
listed_sent Nothing = []
listed_sent (One items) = items
listed_sent (Two items) = items
listed_sent (Alike items) = items.value
listed_sent (Many items) = items.value.items

-- the item lists this trigger and no other, and its session and its number are numbers of two bytes
abbrev pub IsSmall : Trigger → Sent → Type 0
IsSmall t item = (item.triggers ≡ t ∷ []) × (item.session < 2 ^ 16) × (item.seq < 2 ^ 16)

-- at most two items, each of which is so
abbrev pub AreAlike : Trigger → List Sent → Type 0
AreAlike t items = (length items ≤ 2) × AllByRecursion (IsSmall t) items

-- there is no one trigger for which every item is small
abbrev pub AreUnlike : List Sent → Type 0
AreUnlike items = (t : Trigger) → AllByRecursion (IsSmall t) items → ⊥

-- items that stand whole behind those in six bytes are there for a reason: not all together could stand in six bytes
abbrev pub AreWholeForReason : List Sent → List Sent → Type 0
AreWholeForReason first [] = Unit {0}
AreWholeForReason first (item ∷ others) = AreUnlike (first ++ item ∷ others)

-- what is shared could not stand in place, and what has items one by one could not be packed
abbrev pub IsUnlike : Kept → Type 0
IsUnlike Nothing = Unit {0}
IsUnlike (One items) = Unit {0}
IsUnlike (Two items) = Unit {0}
IsUnlike (Alike items) = (t : Trigger) → AreAlike t items.value → ⊥
IsUnlike (Many items) = AreUnlike items.value.items

-- how many triggers the items list, counted once for each item
abbrev pub marks_of : List Sent → ℕ
marks_of [] = 0
marks_of (item ∷ items) = length item.triggers + marks_of items

-- the item lists more triggers than this
abbrev pub is_above : ℕ → Sent → Bool
is_above most item = nat_lt most (length item.triggers)
