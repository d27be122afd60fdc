use Rattle.std.proofs.Common.{◌≡◌, ◌+◌, ◌≤◌, drop}
use Rattle.stable_table.specs.Keeping.{complete_first}
use Rattle.stable_table.proofs.dropping.complete_first.Given as goal

abbrev pub invariant-loop-entry : goal.invariant-loop-entry
invariant-loop-entry l =
    (l.count + complete_first l.incomplete (drop l.entry-index l.entries) ≡ complete_first l.incomplete l.entries) × (l.count ≤ l.entry-index)
