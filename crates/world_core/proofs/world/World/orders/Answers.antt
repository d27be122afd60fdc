use Rattle.std.proofs.Common.{◌≡◌, ◌∙◌, ◌++◌, [], ◌∷◌, true, List, ℕ, length, take, map, refl, sym, ap}
use Rattle.topology.specs.Lists.{ascending}
use Rattle.topology.specs.Net.{Net}
use Rattle.path_vector.specs.Ranking.{order}
use Rattle.trigger_log.specs.Entries.{reads}
use Rattle.chronicle.specs.Logs.{log_of}
use Rattle.chronicle.specs.Run.{run}
use Rattle.world_core.proofs.Nodes.{node_here}
use Rattle.world_core.proofs.Listed.{made_more}
use Rattle.world_core.proofs.world.World.orders.Goals as goal

pub loop-id-preserved : goal.loop-id-preserved
loop-id-preserved g c =
    let world = c.args.self.now in
    let rules = g.P.Policy.rules world.policy in
    let past = run rules world.net world.events in
    let made : ℕ → List ℕ = λ u. order rules world.net u (reads (log_of u past)) c.args.prefix in
    let near = c.nodes-id-items.result.now in
    let i = c.loop-id.id-index in
    let x = c.id-item.result in
    let node = node_here world.net near i x (c.nodes-id-items.ensures.nodes ∙ ap (λ (t : Net). ascending t.nodes) c.topology.ensures) c.loop-id-test.true c.id-item.is in
    record {
      so_far =
          c.in_ok-push.ensures.items
          ∙ (ap (λ l. l ++ c.new-order.result ∷ []) c.loop-id.invariant.so_far
          ∙ (ap (λ e. map made (take i near) ++ e ∷ []) (c.new-order.ensures ∙ c.in_ok-tried.ensures node) ∙ made_more made near i x c.loop-id-test.true c.id-item.is));
    }
