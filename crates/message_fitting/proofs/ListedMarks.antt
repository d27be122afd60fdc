-- The triggers that items list.
use Rattle.std.proofs.Common.{◌+◌, List, [], ◌∷◌, ◌≡◌, refl, ap, length}
use Rattle.topology.specs.declared.items.Sent.{Sent}
use Rattle.topology.specs.SentLists.{marks_of}
use Rattle.message_fitting.specs.Marks.{item_marks}

-- the triggers that items list, by the count that the items tell
pub same_marks : (items : List Sent) → marks_of items ≡ item_marks items
same_marks [] = refl
same_marks (item ∷ items) = ap (λ n. length item.triggers + n) (same_marks items)
