use Rattle.std.proofs.Common.{◌≡◌, take}
use Rattle.topology.proofs.sent_items.copies.Given as goal

-- the items so far
abbrev pub invariant-loop-item : goal.invariant-loop-item
invariant-loop-item l = l.list.items ≡ take l.item-index l.items
