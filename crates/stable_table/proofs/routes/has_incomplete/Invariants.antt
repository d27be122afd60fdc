use Rattle.std.proofs.Common.{◌≡◌, false, take}
use Rattle.std.specs.List.{list_any}
use Rattle.topology.specs.Triggers.{lists}
use Rattle.trigger_log.specs.declared.entries.Entry.{Entry}
use Rattle.stable_table.proofs.routes.has_incomplete.Given as goal

abbrev pub invariant-loop-entry : goal.invariant-loop-entry
invariant-loop-entry l = list_any (λ (e : Entry). list_any (lists l.incomplete) e.triggers) (take l.entry-index l.entries) ≡ false
