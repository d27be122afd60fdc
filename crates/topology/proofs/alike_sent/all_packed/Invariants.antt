use Rattle.std.proofs.Common.{◌≡◌, take, map}
use Rattle.topology.specs.AlikeLists.{unpacked}
use Rattle.topology.proofs.alike_sent.all_packed.Given as goal

-- the items so far
abbrev pub invariant-loop-item : goal.invariant-loop-item
invariant-loop-item l = map (unpacked l.trigger) l.list.items ≡ take l.item-index l.items
