use Rattle.std.proofs.Common.{◌≤◌, ◌+◌, take, drop, map}
use Rattle.std.specs.Rc.{rc_value}
use Rattle.incomplete_closure.specs.Tables.{IsTableOf}
use Rattle.incomplete_closure.specs.Sizes.{sessions_of}
use Rattle.incomplete_closure.proofs.session_table.SessionTable.of.Given as goal

abbrev pub invariant-loop-report : goal.invariant-loop-report
invariant-loop-report g l =
    IsTableOf (map rc_value (take l.report-index l.reports)) l.table
    × (l.steps + sessions_of (map rc_value (drop l.report-index l.reports)) ≤ l.fn.steps + sessions_of (map rc_value l.reports))
    × (l.fn.steps ≤ l.steps)
