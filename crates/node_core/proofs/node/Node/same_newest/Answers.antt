use Rattle.std.proofs.Common.{Option, Some, List, length, sym, ◌∙◌, ap, subst, option_map}
use Rattle.std.specs.Rc.{rc_value}
use Rattle.trigger_log.specs.Entries.{Entry}
use Rattle.marker_snapshot.specs.Standing.{StandsFor as SnapshotsStandFor}
use Rattle.stable_table.specs.Tables.{View}
use Rattle.stable_table.specs.TwoTables.{StandsFor as TablesStandFor}
use Rattle.chronicle.specs.Epochs.{cut}
use Rattle.node_core.specs.declared.parts.NodeParts.{NodeParts}
use Rattle.node_core.specs.Views.{views}
use Rattle.node_core.proofs.Sharing.{newest_serves}
use Rattle.node_core.proofs.node.Node.same_newest.Goals as goal

pub returns : goal.returns
returns g c = λ policy net u now newer entries follows whole long.
    let rules = g.P.Policy.rules policy in
    let shown = views rules net u now in
    let table : View = c.deref-5.result.now in
    let acts = follows.keeps.acts in
    let stands = subst (λ (k : NodeParts). TablesStandFor k.agreement.tables shown) (sym c.deref.ensures) follows.agrees.tables in
    let is = ap (λ (t : View). Some t) c.deref-5.ensures ∙ (sym (ap (option_map (λ table. rc_value table.now)) c.in_ok-newest.was) ∙ c.newest.ensures shown stands) in
    let complete = c.is_complete_by.ensures c.if-not-is_complete_by.false in
    let same = ap (λ (t : View). t.value) (c.deref-5.ensures ∙ sym c.deref-2.ensures) ∙ complete.0 in
    let told = c.cut_of.ensures net u acts (subst (λ (k : NodeParts). SnapshotsStandFor net u k.snapshots acts) (sym c.deref-3.ensures) follows.keeps.snapshots) in
    let epoch = c.epoch.ensures ∙ ap (λ (t : View). t.epoch) (c.deref-4.ensures ∙ sym c.deref-5.ensures) in
    let cuts = sym c.in_ok-count.was ∙ (told
    ∙ (ap (λ (o : Option (List Entry)). option_map length o) (follows.keeps.alike.same_cut c.epoch.result)
    ∙ ap (λ d. option_map length (cut u d now)) epoch)) in
    newest_serves rules net u now c.args.self.now.parts.value.agreement table c.args.value.now c.in_ok-count.count follows.agrees is same complete.1 cuts newer entries whole (c.if-count-cut.false ∙ long)
