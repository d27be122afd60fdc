use Rattle.consolidator.proofs.Holding.{none_held}
use Rattle.consolidator.proofs.held_reports.HeldReports.clear.Goals as goal

pub invariant_of-self : goal.invariant_of-self
invariant_of-self c = (rw c.clear.ensures.items (none_held c.self.inside.epoch), tt)
