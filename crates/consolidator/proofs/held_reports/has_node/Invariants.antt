use Rattle.std.proofs.Common.{◌≡◌, drop, map}
use Rattle.std.specs.Rc.{rc_value}
use Rattle.topology.specs.Lists.{has}
use Rattle.incomplete_closure.specs.Seen.{reports_seen}
use Rattle.consolidator.specs.Readings.{nodes_of}
use Rattle.consolidator.proofs.held_reports.has_node.Given as goal

abbrev pub invariant-loop-report : goal.invariant-loop-report
invariant-loop-report l =
    has (nodes_of (reports_seen (map rc_value (drop l.report-index l.reports)))) l.node ≡ has (nodes_of (reports_seen (map rc_value l.reports))) l.node
