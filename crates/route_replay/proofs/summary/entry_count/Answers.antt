use Rattle.std.proofs.Common.{◌≡◌, ◌+◌, List, ℕ, length, ap, ◌∙◌, arith}
use Rattle.topology.specs.Lists.{ascending}
use Rattle.topology.specs.Net.{Net}
use Rattle.topology.proofs.Ascending.{length-ascending}
use Rattle.chronicle.specs.Logs.{log_of}
use Rattle.route_replay.specs.LoadText.{entries_of}
use Rattle.route_replay.specs.Past.{past_of}
use Rattle.route_replay.proofs.Counts.{sum_more, sum_all}
use Rattle.route_replay.proofs.Shown.{node_at}
use Rattle.route_replay.proofs.summary.entry_count.Goals as goal

-- the node at hand is one of the network
pub log_length-requires : goal.log_length-requires
log_length-requires g c =
    node_at c.args.world.now.net c.topology.result.now c.nodes-id-items.result.now c.loop-id.id-index c.id-item.result
    c.topology.ensures c.nodes-id-items.ensures.nodes c.loop-id-test.true c.id-item.is

pub overflow_add-count : goal.overflow_add-count
overflow_add-count g c =
    let few = c.nodes-id-items.ensures.valid.few_nodes in
    let all = ap (λ (l : List ℕ). length l) c.nodes-id-items.ensures.nodes ∙ length-ascending c.topology.result.now.nodes in
    let inside = c.loop-id-test.true in
    let so_far = c.loop-id.invariant.small in
    let one = c.log_length.ensures.small in
    let same = c.from-count.ensures in
    omega (arith, few, all, inside, so_far, one, same)

pub loop-id-preserved : goal.loop-id-preserved
loop-id-preserved g c =
    let world = c.args.world.now in
    let past = past_of (g.P.Policy.rules world.policy) world in
    let so_far = c.loop-id.invariant.small in
    let one = c.log_length.ensures.small in
    let same = c.from-count.ensures in
    record {
      total = ap (λ n. c.loop-id.count + n) (same ∙ c.log_length.ensures.length)
          ∙ sum_more (λ u. length (log_of u past)) c.nodes-id-items.result.now c.loop-id.id-index c.id-item.result c.loop-id.count c.loop-id-test.true c.id-item.is c.loop-id.invariant.total;
      small = omega (arith, so_far, one, same);
    }

pub returns : goal.returns
unfolding entries_of
returns g c =
    let world = c.args.world.now in
    let past = past_of (g.P.Policy.rules world.policy) world in
    let all : c.nodes-id-items.result.now ≡ ascending world.net.nodes = c.nodes-id-items.ensures.nodes ∙ ap (λ (net : Net). ascending net.nodes) c.topology.ensures in
    sum_all (λ u. length (log_of u past)) c.nodes-id-items.result.now (ascending world.net.nodes) c.loop-id.id-index c.loop-id.count c.loop-id-test.false all c.loop-id.invariant.total
