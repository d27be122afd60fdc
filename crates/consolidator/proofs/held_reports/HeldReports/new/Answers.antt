use Rattle.consolidator.proofs.Holding.{none_held}
use Rattle.consolidator.proofs.held_reports.HeldReports.new.Goals as goal

pub invariant_of-result : goal.invariant_of-result
invariant_of-result c = (rw c.new.ensures.items (none_held c.args.epoch), tt)
