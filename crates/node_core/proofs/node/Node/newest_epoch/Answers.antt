use Rattle.std.proofs.Common.{sym, ◌∙◌, ap, subst, option_map, Some}
use Rattle.std.specs.Rc.{rc_value}
use Rattle.stable_table.specs.TwoTables.{StandsFor as TablesStandFor}
use Rattle.stable_table.specs.Tables.{View}
use Rattle.node_core.specs.declared.parts.NodeParts.{NodeParts}
use Rattle.node_core.specs.Views.{views}
use Rattle.node_core.proofs.Sighting.{no_epoch, epoch_is}
use Rattle.node_core.proofs.node.Node.newest_epoch.Goals as goal

pub returns-in_err-newest : goal.returns-in_err-newest
returns-in_err-newest g c policy net u past was =
    let rules = g.P.Policy.rules policy in
    let stands = subst (λ (k : NodeParts). TablesStandFor k.agreement.tables (views rules net u past)) (sym c.deref.ensures) was.agrees.tables in
    c.from_residual.ensures ∙ no_epoch rules net u past (sym (ap (option_map (λ table. rc_value table.now)) c.in_err-newest.was) ∙ c.newest.ensures (views rules net u past) stands)

pub returns : goal.returns
returns g c policy net u past was =
    let rules = g.P.Policy.rules policy in
    let stands = subst (λ (k : NodeParts). TablesStandFor k.agreement.tables (views rules net u past)) (sym c.deref.ensures) was.agrees.tables in
    ap (λ e. Some e) (c.epoch.ensures ∙ ap (λ (t : View). t.epoch) c.deref-2.ensures)
    ∙ epoch_is rules net u past (rc_value c.in_ok-newest.field-0.now) (sym (ap (option_map (λ table. rc_value table.now)) c.in_ok-newest.was) ∙ c.newest.ensures (views rules net u past) stands)
