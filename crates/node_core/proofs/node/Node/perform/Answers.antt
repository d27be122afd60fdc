use Rattle.std.proofs.Common.{◌∙◌, subst, sym}
use Rattle.node_core.specs.Answering.{MayComplete}
use Rattle.node_core.specs.Deciding.{acted}
use Rattle.node_core.proofs.Agreements.{agrees_as, acted_agrees}
use Rattle.node_core.proofs.Counting.{values_small}
use Rattle.node_core.proofs.Proposing.{acted_small}
use Rattle.node_core.proofs.Completing.{acted_once, risen_completes, no_later_cut}
use Rattle.node_core.proofs.node.Node.perform.Goals as goal

pub returns-clause-node : goal.returns-clause-node
returns-clause-node g c = λ policy net u carried past was may.
    let rules = g.P.Policy.rules policy in
    record {
      keeps = c.in_ok-node.ensures.node policy net u carried past was may;
      agrees = agrees_as rules net u c.args.self.parts.value.agreement c.in_ok-node.node.parts.value.agreement (acted rules net carried u past c.args.act) c.in_ok-node.ensures.agreement
          (acted_agrees rules net u c.args.self.parts.value.agreement carried past c.args.act may was.agrees);
      small = acted_small rules net u carried past c.args.act may (values_small rules net u past was.within);
    }

pub returns-clause-says : goal.returns-clause-says
returns-clause-says g c = λ policy net u carried past was may none.
    let rules = g.P.Policy.rules policy in
    let now = acted rules net carried u past c.args.act in
    let keeps = c.in_ok-node.ensures.node policy net u carried past was may in (
      c.in_ok-node.ensures.outputs policy net u carried past was may none,
      subst (MayComplete u past now) (sym c.risen-due.ensures)
          (risen_completes u past now (no_later_cut policy rules net u past c.args.self was.keeps) c.epoch-before.result c.epoch.result
          ((rw c.deref.ensures at c.epoch-before.ensures) net u was.keeps.acts was.keeps.snapshots ∙ was.keeps.alike.same_epoch) ((rw c.deref-2.ensures at c.epoch.ensures) net u keeps.acts keeps.snapshots ∙ keeps.alike.same_epoch)
          (acted_once rules net u past carried c.args.act may)),
    )
