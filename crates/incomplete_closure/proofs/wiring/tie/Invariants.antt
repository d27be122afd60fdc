use Rattle.std.proofs.Common.{◌≡◌, ◌+◌, drop, length}
use Rattle.incomplete_closure.specs.Wiring.{tied}
use Rattle.incomplete_closure.proofs.wiring.tie.Given as goal

abbrev pub invariant-loop-other : goal.invariant-loop-other
invariant-loop-other g l =
    (tied l.names l.graph l.first (drop l.other-index l.others) ≡ tied l.names l.fn.graph l.first l.others)
    × (length l.graph ≡ length l.fn.graph) × (l.steps ≡ l.fn.steps + l.other-index)
