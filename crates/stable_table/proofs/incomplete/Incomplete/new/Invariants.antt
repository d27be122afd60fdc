use Rattle.std.proofs.Common.{◌≡◌, ◌||◌, drop}
use Rattle.topology.specs.declared.names.Trigger.{Trigger}
use Rattle.topology.specs.Triggers.{lists}
use Rattle.stable_table.proofs.incomplete.Incomplete.new.Given as goal

abbrev pub invariant-loop-trigger : goal.invariant-loop-trigger
invariant-loop-trigger l = (t : Trigger) → (lists l.set.keys t || lists (drop l.trigger-index l.triggers) t) ≡ lists l.triggers t
