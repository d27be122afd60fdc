use Rattle.std.proofs.Common.{◌++◌, refl, sym, subst, ◌∙◌, ap, ◌≡◌}
use Rattle.std.specs.List.{flat_map}
use Rattle.std.specs.String.{string_bytes}
use Rattle.std.proofs.lemmas.Option.{slice_get_read}
use Rattle.topology.specs.Lists.{ascending}
use Rattle.topology.specs.Net.{Net}
use Rattle.route_replay.specs.Gathering.{Breaks}
use Rattle.route_replay.specs.NodeViews.{node_text, all_nodes_text}
use Rattle.route_replay.specs.Past.{past_of}
use Rattle.route_replay.proofs.Gathered.{handed_on, gathers_nothing, gathers_step, breaks_step}
use Rattle.route_replay.proofs.Shown.{node_at}
use Rattle.route_replay.proofs.node_views.all_nodes.Goals as goal

pub loop-id-init : goal.loop-id-init
loop-id-init g c = record { gathers = gathers_nothing _; same_sink = refl }

-- the node at hand is one of the network
pub one_node-requires : goal.one_node-requires
one_node-requires g c =
    node_at c.args.world.now.net c.topology.result.now c.nodes-id-items.result.now c.loop-id.id-index c.id-item.result
    c.topology.ensures c.nodes-id-items.ensures.nodes c.loop-id-test.true c.id-item.is

-- one more node is shown
pub loop-id-preserved : goal.loop-id-preserved
loop-id-preserved g c =
    let world = c.args.world.now in
    let rules = g.P.Policy.rules world.policy in
    let nodes = c.nodes-id-items.result.now in
    let i = c.loop-id.id-index in
    let n = c.id-item.result in
    record {
      gathers = gathers_step (node_text rules world.net (past_of rules world) c.args.view.now) nodes i _ _ _ n c.loop-id-test.true
          (slice_get_read nodes _ i n refl c.loop-id-test.true c.id-item.is) c.loop-id.invariant.gathers c.in_ok-one_node.ensures.gathers;
      same_sink = c.one_node.ensures.same_sink ∙ c.loop-id.invariant.same_sink;
    }

pub returns-in_err-one_node-clause-breaks : goal.returns-in_err-one_node-clause-breaks
unfolding all_nodes_text
returns-in_err-one_node-clause-breaks g c =
    let world = c.args.world.now in
    let rules = g.P.Policy.rules world.policy in
    let shown = node_text rules world.net (past_of rules world) c.args.view.now in
    let nodes = c.nodes-id-items.result.now in
    let i = c.loop-id.id-index in
    let n = c.id-item.result in
    let all : nodes ≡ ascending world.net.nodes = c.nodes-id-items.ensures.nodes ∙ ap (λ (net : Net). ascending net.nodes) c.topology.ensures in
    handed_on c.from_residual.result _ _ c.from_residual.ensures (λ why same.
    subst (λ ns. Breaks (g.O.Sink.seen c.args.page.now.sink.now) (g.O.Sink.seen c.one_node.new.page.sink.now) (string_bytes c.args.page.now.text ++ flat_map shown ns) why) all
    (subst (Breaks _ _ (string_bytes c.args.page.now.text ++ flat_map shown nodes)) (sym same)
    (breaks_step shown nodes i _ _ _ n c.in_err-one_node.field-0.0 c.loop-id-test.true (slice_get_read nodes _ i n refl c.loop-id-test.true c.id-item.is)
    c.loop-id.invariant.gathers c.in_err-one_node.ensures.breaks)))
