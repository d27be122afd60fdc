use Rattle.std.proofs.Common.{◌≡◌, length, arith}
use Rattle.std.proofs.lemmas.Bool.Decides.{nat_tests}
use Rattle.deflect_delivery.proofs.Fits.{other_length, has_stranger, as_they_differ}
use Rattle.deflect_delivery.proofs.fitting.is_order.Goals as goal

pub returns-then-order-near : goal.returns-then-order-near
returns-then-order-near c =
    other_length c.args.topology.now c.args.node c.args.order.now c.nodes-nodes.ensures.valid c.neighbours-near.result.now c.neighbours-near.ensures.neighbours
    (λ long. let apart = c.if-order-near.true in grind (arith, nat_tests))

pub returns-then-are_among : goal.returns-then-are_among
returns-then-are_among c =
    let long : length c.args.order.now ≡ length c.neighbours-near.result.now = let same = c.if-order-near.false in grind (arith, nat_tests) in
    as_they_differ c.args.topology.now c.args.node c.args.order.now c.nodes-nodes.ensures.valid c.neighbours-near.result.now c.neighbours-near.ensures.neighbours
    long c.are_among.result c.all_differ.result c.are_among.ensures c.if-are_among.true c.all_differ.ensures

pub returns-else-are_among : goal.returns-else-are_among
returns-else-are_among c =
    has_stranger c.args.topology.now c.args.node c.args.order.now c.nodes-nodes.ensures.valid c.neighbours-near.result.now c.neighbours-near.ensures.neighbours
    c.are_among.result c.are_among.ensures c.if-are_among.false
