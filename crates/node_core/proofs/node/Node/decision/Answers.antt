use Rattle.std.proofs.Common.{sym, subst}
use Rattle.consolidator.specs.Standing.{StandsFor}
use Rattle.node_core.specs.declared.parts.NodeParts.{NodeParts}
use Rattle.chronicle.specs.Control.{control}
use Rattle.node_core.proofs.node.Node.decision.Goals as goal

pub returns : goal.returns
returns g c policy net u past was =
    c.decision.ensures net (control past) u (subst (λ (k : NodeParts). StandsFor net k.agreement.consolidator (control past) u) (sym c.deref.ensures) was.agrees.part)
