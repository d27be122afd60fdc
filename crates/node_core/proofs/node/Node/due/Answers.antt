use Rattle.std.proofs.Common.{sym, ◌∙◌, ap, subst}
use Rattle.std.specs.Prelude.{option_copied}
use Rattle.consolidator.specs.Standing.{StandsFor as PartStandsFor}
use Rattle.marker_snapshot.specs.Cuts.{cut_of}
use Rattle.chronicle.specs.Control.{control}
use Rattle.node_core.specs.declared.parts.NodeParts.{NodeParts}
use Rattle.node_core.proofs.Concluding.{no_cut, no_decision, table_is}
use Rattle.node_core.proofs.Unboxed.{net_of}
use Rattle.node_core.proofs.node.Node.due.Goals as goal

pub returns-in_default : goal.returns-in_default
returns-in_default g c = λ policy net u now follows.
    no_cut u c.args.epoch now c.cut_of.result (cut_of c.args.epoch follows.keeps.acts) c.in_default.is ((rw c.deref.ensures at c.cut_of.ensures) net u follows.keeps.acts follows.keeps.snapshots) (follows.keeps.alike.same_cut c.args.epoch)

pub returns-in_default-decision : goal.returns-in_default-decision
returns-in_default-decision g c = λ policy net u now follows.
    no_decision u c.args.epoch now
    (sym (ap option_copied c.in_default-decision.is)
    ∙ c.decision.ensures net (control now) u (subst (λ (k : NodeParts). PartStandsFor net k.agreement.consolidator (control now) u) (sym c.deref-2.ensures) follows.agrees.part))

pub returns : goal.returns
returns g c = λ policy net u now follows. (
  c.in_ok-table.ensures.epoch,
  λ above within.
      table_is policy (g.P.Policy.rules policy) c.deref-5.result.now net u c.args.epoch c.in-Some.cut c.args.self.now.log.value now c.in-Some-decision.value.now c.cut_of.result
      (cut_of c.args.epoch follows.keeps.acts) c.in_ok-table.table c.in_ok-place.place
      (net_of c.deref-5.ensures c.deref-4.ensures follows.keeps.same_net)
      follows.keeps.log follows.keeps.drops c.in-Some.is ((rw c.deref.ensures at c.cut_of.ensures) net u follows.keeps.acts follows.keeps.snapshots) (follows.keeps.alike.same_cut c.args.epoch)
      (sym (c.decision.ensures net (control now) u (subst (λ (k : NodeParts). PartStandsFor net k.agreement.consolidator (control now) u) (sym c.deref-2.ensures) follows.agrees.part))
      ∙ ap option_copied c.in-Some-decision.is)
      (λ newer entries whole count few. c.in_ok-table.ensures.table policy net u now newer entries follows whole count few)
      (λ newer entries stands count few. (rw c.deref-6.ensures at c.in_ok-place.ensures) policy u newer entries stands count few)
      above within,
)
