use Rattle.std.proofs.Common.{◌≤◌, ◌+◌, ◌-◌, length}
use Rattle.incomplete_closure.specs.Graphs.{edges}
use Rattle.incomplete_closure.proofs.Searching.{Going}
use Rattle.incomplete_closure.proofs.search.search.Given as goal

abbrev pub invariant-loop-vertex : goal.invariant-loop-vertex
invariant-loop-vertex g l =
    Going l.fn.graph l.roots l.graph l.reached l.turn × (l.steps + edges l.graph ≤ l.fn.steps + (length l.roots + edges l.fn.graph)) × (l.fn.steps ≤ l.steps)

abbrev pub decreases-loop-vertex : goal.decreases-loop-vertex
decreases-loop-vertex g l = (length l.reached.order - l.turn) + edges l.graph
