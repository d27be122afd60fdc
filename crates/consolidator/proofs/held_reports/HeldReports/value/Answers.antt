use Rattle.std.proofs.Common.{map}
use Rattle.std.specs.Rc.{rc_value}
use Rattle.consolidator.proofs.Holding.{together}
use Rattle.consolidator.proofs.held_reports.HeldReports.value.Goals as goal

pub uncounted_closure-requires : goal.uncounted_closure-requires
uncounted_closure-requires c = rw c.deref.ensures.value (together c.self.inside.epoch (map rc_value c.self.inside.list.items) c.self.invariant.0)
