use Rattle.std.proofs.Common.{nat_lt, arith}
use Rattle.message_fitting.proofs.Ordering.{order_more, order_broken, order_all}
use Rattle.message_fitting.proofs.control_fitting.nodes_ascend.Goals as goal

pub returns-then-not-is_lower : goal.returns-then-not-is_lower
returns-then-not-is_lower c =
    order_broken nat_lt c.args.nodes.now c.loop-place.place c.index-nodes-place.result c.index-nodes-place-in-loop-place.result (omega arith) c.loop-place-test.true
    c.index-nodes-place.is c.index-nodes-place-in-loop-place.is c.if-not-is_lower.ensures c.loop-place.invariant

pub loop-place-preserved : goal.loop-place-preserved
loop-place-preserved c =
    order_more nat_lt c.args.nodes.now c.loop-place.place c.index-nodes-place.result c.index-nodes-place-in-loop-place.result (omega arith) c.loop-place-test.true
    c.index-nodes-place.is c.index-nodes-place-in-loop-place.is c.if-not-is_lower.ensures c.loop-place.invariant

pub returns : goal.returns
returns c = order_all nat_lt c.args.nodes.now c.loop-place.place (omega arith) c.loop-place-test.false c.loop-place.invariant
