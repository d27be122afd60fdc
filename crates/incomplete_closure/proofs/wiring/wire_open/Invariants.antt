use Rattle.std.proofs.Common.{◌≡◌, ◌+◌, ◌++◌, drop, length}
use Rattle.incomplete_closure.specs.Wiring.{wire_open, roots_of}
use Rattle.incomplete_closure.proofs.wiring.wire_open.Given as goal

abbrev pub invariant-loop-open_trigger : goal.invariant-loop-open_trigger
invariant-loop-open_trigger g l =
    (wire_open l.names l.graph (drop l.open_trigger-index l.opened) ≡ wire_open l.names l.fn.graph l.opened)
    × (l.roots.items ++ roots_of l.names (drop l.open_trigger-index l.opened) ≡ roots_of l.names l.opened)
    × (length l.graph ≡ length l.fn.graph) × (l.steps ≡ l.fn.steps + l.open_trigger-index)
