use Rattle.std.proofs.Common.{◌≡◌, ◌+◌, length, arith, sym, ap, ◌∙◌, subst}
use Rattle.topology.specs.Net.{Net, neighbours}
use Rattle.route_replay.specs.declared.node_views.NodeView.{NodeView}
use Rattle.route_replay.specs.NodeViews.{pieces_in}
use Rattle.route_replay.specs.Past.{past_of}
use Rattle.route_replay.proofs.Shown.{length-rib_lines, length-log_lines, length-cut_lines}
use Rattle.route_replay.proofs.node_views.piece_count.Goals as goal

pub returns-in-Rib : goal.returns-in-Rib
returns-in-Rib g c =
    let world = c.args.world.now in
    let rules = g.P.Policy.rules world.policy in
    subst (λ (v : NodeView). c.from.result ≡ length (pieces_in rules world v c.args.id)) (sym c.in-Rib.is)
    (c.from.ensures ∙ c.prefix_count.ensures.count ∙ ap (λ (net : Net). length net.prefixes) c.topology.ensures
    ∙ sym (length-rib_lines rules world.net (past_of rules world) c.args.id))

pub returns-in-Log : goal.returns-in-Log
returns-in-Log g c =
    let world = c.args.world.now in
    let rules = g.P.Policy.rules world.policy in
    let past = past_of rules world in
    subst (λ (v : NodeView). c.kept_count.result ≡ length (pieces_in rules world v c.args.id)) (sym c.in-Log.is)
    (c.kept_count.ensures world.policy world.net c.args.id past c.requires ∙ sym (length-log_lines rules world.net past c.args.id))

pub returns-in-Cut : goal.returns-in-Cut
returns-in-Cut g c =
    let world = c.args.world.now in
    let rules = g.P.Policy.rules world.policy in
    let near = ap length c.neighbours.ensures.neighbours ∙ ap (λ (net : Net). length (neighbours net c.args.id)) c.topology-in-Cut.ensures in
    subst (λ (v : NodeView). length c.neighbours.result.now + 1 ≡ length (pieces_in rules world v c.args.id)) (sym c.in-Cut.is)
    (omega (arith, near, length-cut_lines world.net (past_of rules world) c.in-Cut.field-0 c.args.id))
