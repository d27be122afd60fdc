use Rattle.std.proofs.Common.{◌≡◌, ◌≤◌, ◌+◌, ◌*◌, ◌++◌, drop, map, flat_map}
use Rattle.std.specs.Rc.{rc_value}
use Rattle.incomplete_closure.specs.Opening.{open_in_report, open_triggers}
use Rattle.incomplete_closure.specs.Sizes.{entries_of, sessions_of, carried_of}
use Rattle.incomplete_closure.proofs.opening.open_triggers.Given as goal

abbrev pub invariant-loop-report : goal.invariant-loop-report
invariant-loop-report g l =
    (l.opened.items ++ flat_map (open_in_report (map rc_value l.reports)) (map rc_value (drop l.report-index l.reports))
    ≡ open_triggers (map rc_value l.reports))
    × (l.steps + (sessions_of (map rc_value (drop l.report-index l.reports)) + (entries_of (map rc_value (drop l.report-index l.reports)) + carried_of (map rc_value (drop l.report-index l.reports))))
    ≤ l.fn.steps + (2 * sessions_of (map rc_value l.reports) + (entries_of (map rc_value l.reports) + carried_of (map rc_value l.reports))))
    × (l.fn.steps + entries_of (map rc_value l.reports) ≤ l.steps + entries_of (map rc_value (drop l.report-index l.reports)))
