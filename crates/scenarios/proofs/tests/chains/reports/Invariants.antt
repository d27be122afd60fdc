use Rattle.std.proofs.Common.{map}
use Rattle.std.specs.Rc.{rc_value}
use Rattle.scenarios.proofs.Numbered.{AreNumbered}
use Rattle.scenarios.proofs.tests.chains.reports.Given as goal

abbrev pub invariant-loop-before : goal.invariant-loop-before
invariant-loop-before l = AreNumbered l.before (map rc_value l.reports.items)
