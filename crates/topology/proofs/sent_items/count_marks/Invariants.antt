use Rattle.std.proofs.Common.{◌+◌, ◌≡◌, drop}
use Rattle.topology.specs.SentLists.{marks_of}
use Rattle.topology.proofs.sent_items.count_marks.Given as goal

-- the count of the items so far, plus that of the others
abbrev pub invariant-loop-item : goal.invariant-loop-item
invariant-loop-item l = l.marks + marks_of (drop l.item-index l.items) ≡ marks_of l.items
