use Rattle.std.proofs.Common.{sym, subst}
use Rattle.node_core.specs.Answering.{MayComplete}
use Rattle.node_core.specs.Outputs.{Hands}
use Rattle.node_core.specs.Standing.{Follows}
use Rattle.node_core.proofs.Concluding.{none_due}
use Rattle.node_core.proofs.node.Node.conclude.Goals as goal

pub returns-in_default-clause-node : goal.returns-in_default-clause-node
returns-in_default-clause-node g c = λ policy net u past now follows may within.
    let rules = g.P.Policy.rules policy in
    subst (Follows policy rules net u c.args.self) (sym (none_due rules net u past now (subst (MayComplete u past now) c.in_default.is may))) follows

pub returns-in_default-clause-outputs : goal.returns-in_default-clause-outputs
returns-in_default-clause-outputs g c = λ policy net u first past now follows may within hands.
    let rules = g.P.Policy.rules policy in
    subst (Hands first c.args.outputs.now) (sym (none_due rules net u past now (subst (MayComplete u past now) c.in_default.is may))) hands
