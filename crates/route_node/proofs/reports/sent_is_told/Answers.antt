use Rattle.route_node.proofs.Copied.{left_told}
use Rattle.route_node.proofs.reports.sent_is_told.Goals as goal

pub loop-place-preserved : goal.loop-place-preserved
loop-place-preserved c =
    left_told c.args.sent.now c.loop-place.place c.unwrap-item.result (rw c.unwrap-item.ensures at c.at.ensures.rest) (rw c.unwrap-item.ensures at c.at.ensures.ascend) c.loop-place.invariant
