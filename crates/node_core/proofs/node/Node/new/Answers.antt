use Rattle.std.proofs.Common.{[], sym, ◌∙◌, ap, subst}
use Rattle.trigger_log.specs.Standing.{StandsFor as LogStandsFor, dropped_of}
use Rattle.marker_snapshot.specs.Standing.{StandsFor as SnapshotsStandFor}
use Rattle.consolidator.specs.Standing.{StandsFor as PartStandsFor}
use Rattle.stable_table.specs.TwoTables.{StandsFor as TablesStandFor}
use Rattle.cut_laws.proofs.Owning.{start_own}
use Rattle.node_core.specs.declared.parts.NodeParts.{NodeParts}
use Rattle.node_core.specs.Counting.{AreCounts}
use Rattle.node_core.specs.Reports.{AreReports}
use Rattle.node_core.proofs.Agreements.{start_agrees}
use Rattle.node_core.proofs.Alike.{start_alike}
use Rattle.node_core.proofs.Reporting.{no_reports}
use Rattle.node_core.proofs.Stepping.{start_within}
use Rattle.node_core.proofs.node.Node.new.Goals as goal

pub returns : goal.returns
returns g c =
    let rules = g.P.Policy.rules c.args.policy in
    let net = c.args.topology.value in
    let u = c.args.id in
    let made = c.in_ok-parts.ensures in
    record {
      own = start_own rules net u;
      keeps = record {
        same_net = ap (λ (k : NodeParts). k.topology.value) made;
        same_id = ap (λ (k : NodeParts). k.id) made;
        log = subst (λ l. LogStandsFor c.args.policy rules net u l []) (sym c.in_ok-log-2.ensures.ok) (subst (λ n. LogStandsFor c.args.policy rules n u c.in_ok-log.log []) c.deref.ensures c.in_ok-log.ensures.stands);
        drops = ap (λ l. dropped_of l) c.in_ok-log-2.ensures.ok ∙ c.in_ok-log.ensures.dropped;
        counted = subst (λ (k : NodeParts). AreCounts rules net u [] k.counts) (sym made) (c.none.ensures rules net u);
        acts = [];
        snapshots = subst (λ (k : NodeParts). SnapshotsStandFor net u k.snapshots []) (sym made) (c.new-6.ensures net u);
        alike = start_alike u;
        reports = subst (AreReports rules net u []) (sym (ap (λ (k : NodeParts). k.agreement.reports) made ∙ c.new-3.ensures)) (no_reports rules net u);
      };
      agrees = start_agrees rules net u c.in_ok-parts.parts.value.agreement
          (subst (λ (k : NodeParts). PartStandsFor net k.agreement.consolidator [] u) (sym made) (c.in_ok-new.ensures net))
          (subst (λ (k : NodeParts). TablesStandFor k.agreement.tables []) (sym made) c.new-5.ensures);
      within = start_within rules net u;
    }
