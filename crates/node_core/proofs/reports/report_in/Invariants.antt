use Rattle.std.proofs.Common.{◌≡◌, drop, find, map}
use Rattle.std.specs.Rc.{rc_value}
use Rattle.incomplete_closure.specs.Seen.{reports_seen}
use Rattle.node_core.specs.Reports.{is_of_epoch}
use Rattle.node_core.proofs.reports.report_in.Given as goal

-- none of the reports so far is of the epoch
abbrev pub invariant-loop-report : goal.invariant-loop-report
invariant-loop-report l =
    find (is_of_epoch l.epoch) (reports_seen (map rc_value (drop l.report-index l.reports))) ≡ find (is_of_epoch l.epoch) (reports_seen (map rc_value l.reports))
