use Rattle.std.proofs.Common.{sym, ◌∙◌, ap, subst, option_map, []}
use Rattle.std.specs.Rc.{rc_value}
use Rattle.std.specs.Prelude.{unwrap_or, slice_get}
use Rattle.stable_table.specs.TwoTables.{StandsFor as TablesStandFor}
use Rattle.stable_table.specs.Tables.{View}
use Rattle.node_core.specs.declared.parts.NodeParts.{NodeParts}
use Rattle.node_core.specs.Views.{views}
use Rattle.node_core.proofs.Sighting.{no_backups, backups_are}
use Rattle.node_core.proofs.node.Node.newest_backups.Goals as goal

pub returns-in-None : goal.returns-in-None
returns-in-None g c policy net u past was inside =
    let rules = g.P.Policy.rules policy in
    let stands = subst (λ (k : NodeParts). TablesStandFor k.agreement.tables (views rules net u past)) (sym c.deref.ensures) was.agrees.tables in
    no_backups rules net u past (sym (ap (option_map (λ table. rc_value table.now)) c.in-None.is) ∙ c.newest.ensures (views rules net u past) stands) c.args.prefix

pub returns-in-Some : goal.returns-in-Some
returns-in-Some g c policy net u past was inside =
    let rules = g.P.Policy.rules policy in
    let stands = subst (λ (k : NodeParts). TablesStandFor k.agreement.tables (views rules net u past)) (sym c.deref.ensures) was.agrees.tables in
    c.backups.ensures ∙ (ap (λ (t : View). unwrap_or (slice_get t.backups c.args.prefix) []) c.deref-in-Some.ensures
    ∙ backups_are rules net u past (rc_value c.in-Some.table.now) (sym (ap (option_map (λ table. rc_value table.now)) c.in-Some.is) ∙ c.newest.ensures (views rules net u past) stands) c.args.prefix inside)
