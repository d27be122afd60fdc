use Rattle.incomplete_closure.specs.Seen.{row_seen}
use Rattle.route_node.specs.Frames.{row_told}
use Rattle.route_node.proofs.Copied.{copies_more}
use Rattle.route_node.proofs.reports.rows_copy.Goals as goal

pub loop-row-preserved : goal.loop-row-preserved
loop-row-preserved c =
    copies_more (λ r. row_told (row_seen r)) c.args.rows.now c.loop-row.row-index c.row-item.result c.in_ok-row_copy.field-0 c.loop-row.list.items c.push.new.self.items c.loop-row-test.true c.row-item.is c.in_ok-row_copy.ensures
    c.loop-row.invariant c.in_ok-push.ensures.items
