use Rattle.std.proofs.Common.{◌≡◌, ◌+◌, ◌++◌, drop, map}
use Rattle.incomplete_closure.specs.Opening.{with_down}
use Rattle.incomplete_closure.proofs.opening.push_all.Given as goal

abbrev pub invariant-loop-trigger : goal.invariant-loop-trigger
invariant-loop-trigger g l =
    (l.opened.items ++ map (with_down l.down) (drop l.trigger-index l.triggers) ≡ l.fn.opened.items ++ map (with_down l.down) l.triggers)
    × (l.steps ≡ l.fn.steps + l.trigger-index)
