use Rattle.std.proofs.Common.{arith}
use Rattle.topology.specs.Triggers.{earlier}
use Rattle.message_fitting.proofs.Ordering.{order_more, order_broken, order_all}
use Rattle.message_fitting.proofs.control_fitting.triggers_ascend.Goals as goal

pub returns-then-not-is_earlier : goal.returns-then-not-is_earlier
returns-then-not-is_earlier c =
    order_broken earlier c.args.triggers.now c.loop-place.place c.index-triggers-place.result c.index-triggers-place-in-loop-place.result (omega arith) c.loop-place-test.true
    c.index-triggers-place.is c.index-triggers-place-in-loop-place.is c.if-not-is_earlier.ensures c.loop-place.invariant

pub loop-place-preserved : goal.loop-place-preserved
loop-place-preserved c =
    order_more earlier c.args.triggers.now c.loop-place.place c.index-triggers-place.result c.index-triggers-place-in-loop-place.result (omega arith) c.loop-place-test.true
    c.index-triggers-place.is c.index-triggers-place-in-loop-place.is c.if-not-is_earlier.ensures c.loop-place.invariant

pub returns : goal.returns
returns c = order_all earlier c.args.triggers.now c.loop-place.place (omega arith) c.loop-place-test.false c.loop-place.invariant
