use Rattle.std.proofs.Common.{length}
use Rattle.topology.specs.declared.items.Pending.{Pending}
use Rattle.message_fitting.proofs.Totals.{no_room_for, room_for}
use Rattle.message_fitting.proofs.marks.less_pending.Goals as goal

pub returns-in_default-clause-none : goal.returns-in_default-clause-none
returns-in_default-clause-none c =
    no_room_for (λ (row : Pending). length row.triggers) c.args.rows.now c.loop-row.row-index c.row-item.result c.loop-row-test.true c.row-item.is c.args.number c.loop-row.left c.len.result
    c.loop-row.invariant c.len.ensures c.in_default.ensures.none

pub loop-row-preserved : goal.loop-row-preserved
loop-row-preserved c =
    room_for (λ (row : Pending). length row.triggers) c.args.rows.now c.loop-row.row-index c.row-item.result c.loop-row-test.true c.row-item.is c.args.number c.loop-row.left c.in-Some.rest c.len.result
    c.loop-row.invariant c.len.ensures c.in-Some.ensures.some
