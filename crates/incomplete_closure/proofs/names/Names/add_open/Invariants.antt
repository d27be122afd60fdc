use Rattle.std.proofs.Common.{◌≡◌, ◌+◌, drop}
use Rattle.incomplete_closure.specs.Names.{with_open}
use Rattle.incomplete_closure.proofs.names.Names.add_open.Given as goal

abbrev pub invariant-loop-open_trigger : goal.invariant-loop-open_trigger
invariant-loop-open_trigger g l = (with_open l.self (drop l.open_trigger-index l.opened) ≡ with_open l.fn.self l.opened) × (l.steps ≡ l.fn.steps + l.open_trigger-index)
