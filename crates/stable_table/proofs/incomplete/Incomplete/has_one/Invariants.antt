use Rattle.std.proofs.Common.{◌≡◌, false, take}
use Rattle.std.specs.List.{list_any}
use Rattle.topology.specs.Triggers.{lists}
use Rattle.stable_table.proofs.incomplete.Incomplete.has_one.Given as goal

abbrev pub invariant-loop-trigger : goal.invariant-loop-trigger
invariant-loop-trigger l = list_any (lists l.self) (take l.trigger-index l.triggers) ≡ false
