use Rattle.std.proofs.Common.{◌≡◌, ◌+◌, drop}
use Rattle.incomplete_closure.specs.Names.{with_names}
use Rattle.incomplete_closure.proofs.names.Names.add_all.Given as goal

abbrev pub invariant-loop-trigger : goal.invariant-loop-trigger
invariant-loop-trigger g l = (with_names l.self (drop l.trigger-index l.triggers) ≡ with_names l.fn.self l.triggers) × (l.steps ≡ l.fn.steps + l.trigger-index)
