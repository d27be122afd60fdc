use Rattle.std.proofs.Common.{sym, ◌∙◌, ap, subst, option_map}
use Rattle.std.specs.Rc.{rc_value}
use Rattle.stable_table.specs.TwoTables.{StandsFor as TablesStandFor}
use Rattle.node_core.specs.declared.parts.NodeParts.{NodeParts}
use Rattle.node_core.specs.Views.{views}
use Rattle.node_core.proofs.Sighting.{path_at, none_kept, path_kept}
use Rattle.node_core.proofs.node.Node.kept_path.Goals as goal

pub returns-in_err-of : goal.returns-in_err-of
returns-in_err-of g c policy net u past was =
    let rules = g.P.Policy.rules policy in
    let stands = subst (λ (k : NodeParts). TablesStandFor k.agreement.tables (views rules net u past)) (sym c.deref.ensures) was.agrees.tables in
    ap (option_map (λ nodes. nodes.now)) c.from_residual.ensures
    ∙ none_kept rules net u past c.args.epoch c.args.prefix (sym (ap (option_map (λ table. rc_value table.now)) c.in_err-of.was) ∙ c.of.ensures (views rules net u past) stands)

pub returns : goal.returns
returns g c policy net u past was =
    let rules = g.P.Policy.rules policy in
    let stands = subst (λ (k : NodeParts). TablesStandFor k.agreement.tables (views rules net u past)) (sym c.deref.ensures) was.agrees.tables in
    c.path.ensures ∙ (ap (path_at c.args.prefix) c.deref-2.ensures
    ∙ path_kept rules net u past c.args.epoch c.args.prefix (rc_value c.in_ok-of.field-0.now) (sym (ap (option_map (λ table. rc_value table.now)) c.in_ok-of.was) ∙ c.of.ensures (views rules net u past) stands))
