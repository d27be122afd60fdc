use Rattle.std.proofs.Common.{refl, sym, ◌∙◌, ap, subst}
use Rattle.consolidator.specs.Standing.{StandsFor as PartStandsFor}
use Rattle.chronicle.specs.Control.{control}
use Rattle.node_core.specs.declared.parts.NodeParts.{NodeParts}
use Rattle.node_core.proofs.Entering.{keeps_as}
use Rattle.node_core.proofs.Others.{crash_stands}
use Rattle.node_core.proofs.node.Node.lose_tallies.Goals as goal

pub returns : goal.returns
returns g c policy net u past was =
    let rules = g.P.Policy.rules policy in
    let same = c.deref_mut.ensures.value in
    crash_stands policy rules net u past c.args.self.now _
    (keeps_as policy rules net u c.args.self.now _ past same refl refl (c.forget.ensures.reports) was.keeps)
    (c.forget.ensures.tables ∙ ap (λ (k : NodeParts). k.agreement.tables) same)
    (c.forget.ensures.part net (control past) u (subst (λ (k : NodeParts). PartStandsFor net k.agreement.consolidator (control past) u) (sym same) was.agrees.part))
    was
