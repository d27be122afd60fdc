use Rattle.std.proofs.Common.{◌++◌, List, [], ◌∷◌, ◌∙◌, ap, ap₂, refl, subst, sym}
use Rattle.marker_snapshot.specs.Acts.{Takes}
use Rattle.marker_snapshot.specs.Standing.{StandsFor as SnapshotsStandFor}
use Rattle.incomplete_closure.specs.Reports.{Report}
use Rattle.node_core.specs.declared.parts.NodeParts.{NodeParts}
use Rattle.node_core.proofs.Raising.{taken_at}
use Rattle.node_core.proofs.node.Node.raise.Goals as goal

pub returns-clause-others : goal.returns-clause-others
returns-clause-others g c =
    let made = c.in_ok-parts.ensures ∙ c.in_ok-cut.ensures.rest in
    let was = c.into_inner.ensures in
    record {
      topology = ap (λ (k : NodeParts). k.topology) made ∙ ap (λ (k : NodeParts). k.topology) was;
      id = ap (λ (k : NodeParts). k.id) made ∙ ap (λ (k : NodeParts). k.id) was;
      log = refl;
      counts = ap (λ (k : NodeParts). k.counts) made ∙ ap (λ (k : NodeParts). k.counts) was;
      agreement = record {
        part = ap (λ (k : NodeParts). k.agreement.consolidator) made ∙ ap (λ (k : NodeParts). k.agreement.consolidator) was;
        tables = ap (λ (k : NodeParts). k.agreement.tables) made ∙ ap (λ (k : NodeParts). k.agreement.tables) was;
      };
    }

pub returns-clause-snapshots : goal.returns-clause-snapshots
returns-clause-snapshots g c = λ policy net u h acts same log snapshots above.
    let e = c.args.epoch in
    subst (λ (k : NodeParts). SnapshotsStandFor net u k.snapshots (Takes e h ∷ acts)) (sym c.in_ok-parts.ensures)
    (taken_at policy (g.P.Policy.rules policy) c.into_inner.result.topology.value net u c.args.self.log.value h c.into_inner.result.snapshots c.in_ok-cut.cut.snapshots acts e
    (ap (λ (k : NodeParts). k.topology.value) c.into_inner.ensures ∙ same)
    (λ stands log above. (rw c.deref.ensures at c.in_ok-cut.ensures.snapshots) policy u h acts stands log above)
    (subst (λ (k : NodeParts). SnapshotsStandFor net u k.snapshots acts) (sym c.into_inner.ensures) snapshots) log above)

pub returns-clause-reports : goal.returns-clause-reports
returns-clause-reports g c = λ policy net u h log one.
    ap (λ (k : NodeParts). k.agreement.reports) c.in_ok-parts.ensures
    ∙ (c.in_ok-cut.ensures.reports
    ∙ ap₂ (λ (kept : List Report) (r : Report). kept ++ r ∷ []) (ap (λ (k : NodeParts). k.agreement.reports) c.into_inner.ensures) (c.in_ok-report.ensures.report policy net u h log one))

pub returns-clause-outputs : goal.returns-clause-outputs
returns-clause-outputs g c = λ policy net u carried first past same_net same_id log one drops hands.
    c.in_ok-report.ensures.outputs policy net u carried first past same_net same_id log one drops hands
