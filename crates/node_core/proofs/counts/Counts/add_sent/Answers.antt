use Rattle.std.proofs.Common.{refl}
use Rattle.node_core.proofs.Listed.{adds_items}
use Rattle.node_core.proofs.counts.Counts.add_sent.Goals as goal

pub returns : goal.returns
returns c =
    adds_items c.args.sent.now c.args.self.now _ c.len.result c.in-Some.marks c.any_above.result c.len.ensures c.in-Some.ensures.some c.any_above.ensures c.in_ok-self.ensures c.in_ok-self-2.ensures refl
