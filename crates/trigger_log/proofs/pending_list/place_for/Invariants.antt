use Rattle.std.proofs.Common.{◌≡◌, ◌≤◌, ◌-◌, true, take, drop, length}
use Rattle.std.specs.List.{AllByRecursion}
use Rattle.trigger_log.specs.Putting.{is_behind}
use Rattle.trigger_log.proofs.RowOrder.{is_ahead}
use Rattle.trigger_log.proofs.pending_list.place_for.Given as goal

-- the row of the prefix and the neighbour belongs behind the rows below low, and before those from high on
abbrev pub invariant-loop-low : goal.invariant-loop-low
invariant-loop-low l = record {
  order : l.low ≤ l.high;
  inside : l.high ≤ length l.rows;
  ahead : AllByRecursion (λ r. is_ahead l.to l.prefix r ≡ true) (take l.low l.rows);
  behind : AllByRecursion (λ r. is_behind l.to l.prefix r ≡ true) (drop l.high l.rows);
}

abbrev pub decreases-loop-low : goal.decreases-loop-low
decreases-loop-low l = l.high - l.low
