use Rattle.std.proofs.Common.{◌∷◌}
use Rattle.chronicle.specs.Facts.{Crash}
use Rattle.world_core.proofs.Nodes.{node_at, nodes_at}
use Rattle.world_core.proofs.network.Network.forget.Goals as goal

pub returns-clause-nodes : goal.returns-clause-nodes
returns-clause-nodes g c past was =
    let policy = c.args.self.now.policy in
    let rules = g.P.Policy.rules policy in
    let net = c.args.self.now.topology.value in
    let u = c.args.node in
    let items = c.args.self.now.nodes.items in
    let rank = c.unwrap-rank.result in
    let at = rw (c.unwrap-rank.ensures, c.deref.ensures) at c.rank_of.ensures.some in
    let here = node_at policy rules net past items was rank u c.index_mut.result.now at c.index_mut.ensures.value in
    nodes_at policy rules net past items was (Crash u ∷ past) rank u c.lose_tallies.new.self at (c.lose_tallies.ensures policy net u past here)
    (λ v node off stands. c.others_change_nothing_of_what_a_node_stands_for.ensures.beside policy net v node past (Crash u) off stands)
