use Rattle.std.proofs.Common.{◌∙◌, ap}
use Rattle.chronicle.specs.Logs.{log_of}
use Rattle.node_core.specs.declared.parts.NodeParts.{NodeParts}
use Rattle.node_core.proofs.Counting.{all_marks}
use Rattle.node_core.proofs.node.Node.has_more_marks.Goals as goal

pub returns : goal.returns
returns g c policy net u past was =
    c.are_more.ensures
    ∙ all_marks (g.P.Policy.rules policy) net u past c.deref.result.now.counts.marks c.pending.result.now
    (ap (λ (k : NodeParts). k.counts.marks) c.deref.ensures ∙ was.keeps.counted.marks) ((rw c.deref-2.ensures at c.pending.ensures) policy net u (log_of u past) was.keeps.log)
