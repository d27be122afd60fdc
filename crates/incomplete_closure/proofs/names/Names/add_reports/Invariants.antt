use Rattle.std.proofs.Common.{◌≡◌, ◌≤◌, ◌+◌, drop, map}
use Rattle.std.specs.Rc.{rc_value}
use Rattle.incomplete_closure.specs.Names.{with_reports}
use Rattle.incomplete_closure.specs.Sizes.{rows_of, triggers_of}
use Rattle.incomplete_closure.proofs.names.Names.add_reports.Given as goal

abbrev pub invariant-loop-report : goal.invariant-loop-report
invariant-loop-report g l =
    (with_reports l.self (map rc_value (drop l.report-index l.reports)) ≡ with_reports l.fn.self (map rc_value l.reports))
    × (l.steps + (rows_of (map rc_value (drop l.report-index l.reports)) + triggers_of (map rc_value (drop l.report-index l.reports)))
    ≤ l.fn.steps + (rows_of (map rc_value l.reports) + triggers_of (map rc_value l.reports)))
    × (l.fn.steps ≤ l.steps)
