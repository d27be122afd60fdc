use Rattle.std.proofs.Common.{◌≡◌, ◌+◌, drop}
use Rattle.incomplete_closure.specs.Graphs.{enter_all}
use Rattle.incomplete_closure.proofs.reached.Reached.enter_all.Given as goal

abbrev pub invariant-loop-vertex : goal.invariant-loop-vertex
invariant-loop-vertex g l = (enter_all l.self (drop l.vertex-index l.vertices) ≡ enter_all l.fn.self l.vertices) × (l.steps ≡ l.fn.steps + l.vertex-index)
