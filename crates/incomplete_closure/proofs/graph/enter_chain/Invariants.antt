use Rattle.std.proofs.Common.{◌≡◌, ◌≤◌, ◌+◌, length}
use Rattle.incomplete_closure.specs.Graphs.{enter_all}
use Rattle.incomplete_closure.specs.Chains.{chained}
use Rattle.incomplete_closure.proofs.graph.enter_chain.Given as goal

abbrev pub invariant-loop-at : goal.invariant-loop-at
invariant-loop-at g l =
    (enter_all l.reached (chained l.edges l.at) ≡ enter_all l.fn.reached (chained l.edges l.newest))
    × (l.steps + length (chained l.edges l.at) ≡ l.fn.steps + length (chained l.edges l.newest)) × (l.at ≤ length l.edges) × (l.fn.steps ≤ l.steps)

abbrev pub decreases-loop-at : goal.decreases-loop-at
decreases-loop-at g l = l.at
