use Rattle.std.proofs.Common.{◌∙◌, ap}
use Rattle.chronicle.specs.Logs.{log_of}
use Rattle.node_core.specs.declared.parts.NodeParts.{NodeParts}
use Rattle.node_core.proofs.Counting.{long_lists}
use Rattle.node_core.proofs.node.Node.has_long_list.Goals as goal

pub returns : goal.returns
returns g c policy net u past follows =
    long_lists (g.P.Policy.rules policy) net u past c.deref.result.now.counts.has_long c.any_long.result c.pending.result.now
    (ap (λ (k : NodeParts). k.counts.has_long) c.deref.ensures ∙ follows.keeps.counted.long) c.any_long.ensures ((rw c.deref-2.ensures at c.pending.ensures) policy net u (log_of u past) follows.keeps.log)
