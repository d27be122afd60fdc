use Rattle.std.proofs.Common.{◌≡◌, ◌≤◌, ◌+◌, drop, length}
use Rattle.incomplete_closure.specs.Wiring.{wire_rows}
use Rattle.incomplete_closure.specs.Following.{IsBehind}
use Rattle.incomplete_closure.specs.Sizes.{triggers_in}
use Rattle.incomplete_closure.proofs.wiring.wire_rows.Given as goal

abbrev pub invariant-loop-place : goal.invariant-loop-place
invariant-loop-place g l =
    (l.graph ≡ wire_rows l.names l.fn.graph (drop l.place l.rows)) × IsBehind l.names (drop l.place l.rows) l.behind
    × (length l.graph ≡ length l.fn.graph) × (l.steps + l.place ≤ l.fn.steps + (length l.rows + triggers_in (drop l.place l.rows)))
    × (l.fn.steps ≤ l.steps)
