use Rattle.std.proofs.Common.{◌≡◌, ◌++◌, take, map}
use Rattle.topology.specs.AlikeLists.{unpacked}
use Rattle.topology.proofs.sent_list.SentList.whole.Given as goal

-- the first items so far
abbrev pub invariant-loop-item : goal.invariant-loop-item
invariant-loop-item l = l.items.items ≡ map (unpacked l.trigger) (take l.item-index l.item-items)

-- all of the first, and the others so far
abbrev pub invariant-loop-item-2 : goal.invariant-loop-item-2
invariant-loop-item-2 l = l.items.items ≡ l.initial.items.items ++ take l.item-index l.item-items
