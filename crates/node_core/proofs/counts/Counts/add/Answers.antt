use Rattle.std.proofs.Common.{refl}
use Rattle.node_core.proofs.Listed.{counted_more}
use Rattle.node_core.proofs.counts.Counts.add.Goals as goal

pub returns : goal.returns
returns c rules net u k h was shows =
    counted_more rules net u k h c.args.self.now c.add_sent.new.self _ c.args.entry.now c.len.result was shows c.in_ok-add_sent.ensures refl c.len.ensures c.in_ok-self.ensures refl
