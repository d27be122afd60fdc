-- The triggers that lists have, counted.
use Rattle.std.specs.Prelude.{ℕ, ◌+◌, List, [], ◌∷◌, length}
use Rattle.topology.specs.declared.items.Pending.{Pending}
use Rattle.topology.specs.declared.items.Sent.{Sent}

-- the sum of a number of each
abbrev pub total : {A : Type 0} → (A → ℕ) → List A → ℕ
total count [] = 0
total count (x ∷ xs) = count x + total count xs

-- the triggers that items list
abbrev pub item_marks : List Sent → ℕ
item_marks items = total (λ (item : Sent). length item.triggers) items

-- the triggers that rows of updates held back list
abbrev pub row_marks : List Pending → ℕ
row_marks rows = total (λ (row : Pending). length row.triggers) rows
