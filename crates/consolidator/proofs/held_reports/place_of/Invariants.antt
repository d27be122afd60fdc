use Rattle.std.proofs.Common.{◌≡◌, ◌+◌, drop, map}
use Rattle.std.specs.Rc.{rc_value}
use Rattle.consolidator.specs.Holding.{place_of}
use Rattle.consolidator.proofs.held_reports.place_of.Given as goal

abbrev pub invariant-loop-report : goal.invariant-loop-report
invariant-loop-report l =
    (l.place ≡ l.report-index)
    × (l.place + place_of l.node (map rc_value (drop l.report-index l.reports)) ≡ place_of l.node (map rc_value l.reports))
