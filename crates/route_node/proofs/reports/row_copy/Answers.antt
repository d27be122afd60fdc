use Rattle.route_node.proofs.Copied.{row_is}
use Rattle.route_node.proofs.reports.row_copy.Goals as goal

pub returns : goal.returns
returns c =
    rw (c.in_ok-copy.ensures.copy, c.in_ok-copy-2.ensures.copy)
    (row_is c.args.row.now c.as_slice-triggers.ensures.ascend c.sent_is_told.ensures)
