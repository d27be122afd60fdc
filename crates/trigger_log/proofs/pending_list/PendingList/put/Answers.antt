use Rattle.std.proofs.Common.{sym, subst}
use Rattle.trigger_log.specs.Putting.{RowsRise}
use Rattle.trigger_log.proofs.RowOrder.{put_rises}
use Rattle.trigger_log.proofs.pending_list.PendingList.put.Goals as goal

pub invariant_of-self-2 : goal.invariant_of-self-2
invariant_of-self-2 c = subst RowsRise (sym c.in_ok-put_in.ensures.ok) (put_rises _ c.self.inside.list.items c.self.invariant)
