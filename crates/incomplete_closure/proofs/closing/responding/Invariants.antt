use Rattle.std.proofs.Common.{◌≡◌, ◌++◌, drop, map}
use Rattle.std.specs.Rc.{rc_value}
use Rattle.incomplete_closure.specs.Together.{nodes_of}
use Rattle.incomplete_closure.proofs.closing.responding.Given as goal

abbrev pub invariant-loop-report : goal.invariant-loop-report
invariant-loop-report l = l.nodes.items ++ nodes_of (map rc_value (drop l.report-index l.reports)) ≡ nodes_of (map rc_value l.reports)
