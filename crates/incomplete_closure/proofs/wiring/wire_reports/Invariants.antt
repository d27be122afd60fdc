use Rattle.std.proofs.Common.{◌≡◌, ◌≤◌, ◌+◌, drop, length, map}
use Rattle.std.specs.Rc.{rc_value}
use Rattle.incomplete_closure.specs.Wiring.{wire_reports}
use Rattle.incomplete_closure.specs.Sizes.{rows_of, triggers_of}
use Rattle.incomplete_closure.proofs.wiring.wire_reports.Given as goal

abbrev pub invariant-loop-report : goal.invariant-loop-report
invariant-loop-report g l =
    (wire_reports l.names l.graph (map rc_value (drop l.report-index l.reports)) ≡ wire_reports l.names l.fn.graph (map rc_value l.reports))
    × (length l.graph ≡ length l.fn.graph)
    × (l.steps + (rows_of (map rc_value (drop l.report-index l.reports)) + triggers_of (map rc_value (drop l.report-index l.reports)))
    ≤ l.fn.steps + (rows_of (map rc_value l.reports) + triggers_of (map rc_value l.reports)))
    × (l.fn.steps ≤ l.steps)
