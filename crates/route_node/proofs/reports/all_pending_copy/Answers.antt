use Rattle.route_node.specs.Frames.{pending_told}
use Rattle.route_node.proofs.Copied.{copies_more}
use Rattle.route_node.proofs.reports.all_pending_copy.Goals as goal

pub loop-row-preserved : goal.loop-row-preserved
loop-row-preserved c =
    copies_more pending_told c.args.rows.now c.loop-row.row-index c.row-item.result c.in_ok-pending_copy.field-0 c.loop-row.list.items c.push.new.self.items c.loop-row-test.true c.row-item.is c.in_ok-pending_copy.ensures
    c.loop-row.invariant c.in_ok-push.ensures.items
