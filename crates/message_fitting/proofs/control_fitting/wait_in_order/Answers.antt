use Rattle.std.proofs.Common.{arith}
use Rattle.message_fitting.specs.ControlFits.{waits_sooner}
use Rattle.message_fitting.proofs.Ordering.{order_more, order_broken, order_all}
use Rattle.message_fitting.proofs.control_fitting.wait_in_order.Goals as goal

pub returns-then-not-waits_sooner : goal.returns-then-not-waits_sooner
returns-then-not-waits_sooner c =
    order_broken waits_sooner c.args.rows.now c.loop-place.place c.index-rows-place.result c.index-rows-place-in-loop-place.result (omega arith) c.loop-place-test.true
    c.index-rows-place.is c.index-rows-place-in-loop-place.is c.if-not-waits_sooner.ensures c.loop-place.invariant

pub loop-place-preserved : goal.loop-place-preserved
loop-place-preserved c =
    order_more waits_sooner c.args.rows.now c.loop-place.place c.index-rows-place.result c.index-rows-place-in-loop-place.result (omega arith) c.loop-place-test.true
    c.index-rows-place.is c.index-rows-place-in-loop-place.is c.if-not-waits_sooner.ensures c.loop-place.invariant

pub returns : goal.returns
returns c = order_all waits_sooner c.args.rows.now c.loop-place.place (omega arith) c.loop-place-test.false c.loop-place.invariant
