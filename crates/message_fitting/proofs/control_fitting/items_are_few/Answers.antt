use Rattle.std.proofs.Common.{length, map}
use Rattle.incomplete_closure.specs.Seen.{row_seen}
use Rattle.message_fitting.specs.ControlFits.{items_of}
use Rattle.message_fitting.proofs.Ordering.{too_many, room_left, no_more}
use Rattle.message_fitting.proofs.control_fitting.items_are_few.Goals as goal

pub returns-then-count-left : goal.returns-then-count-left
returns-then-count-left c =
    too_many c.args.rows.now c.loop-row.row-index c.loop-row.left c.row-item.result c.loop-row-test.true c.row-item.is c.len-count.result (length (items_of (map row_seen c.args.rows.now)))
    c.len-count.ensures c.if-count-left.true c.loop-row.invariant

pub loop-row-preserved : goal.loop-row-preserved
loop-row-preserved c =
    room_left c.args.rows.now c.loop-row.row-index c.loop-row.left c.row-item.result c.loop-row-test.true c.row-item.is c.len-count.result (length (items_of (map row_seen c.args.rows.now)))
    c.len-count.ensures c.if-count-left.false c.loop-row.invariant

pub returns : goal.returns
returns c = no_more c.args.rows.now c.loop-row.row-index c.loop-row.left (length (items_of (map row_seen c.args.rows.now))) c.loop-row-test.false c.loop-row.invariant
