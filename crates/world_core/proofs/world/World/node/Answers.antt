use Rattle.chronicle.specs.Run.{run}
use Rattle.world_core.proofs.Nodes.{node_at}
use Rattle.world_core.proofs.world.World.node.Goals as goal

pub returns-clause-some : goal.returns-clause-some
returns-clause-some g c =
    let network = c.self.inside.state.value.network in
    let rules = g.P.Policy.rules network.policy in
    let net = network.topology.value in
    let at = rw (c.deref-2.ensures, c.deref.ensures) at c.in_ok-rank.ensures.some in
    let here = node_at network.policy rules net (run rules net c.self.inside.state.value.events.items) network.nodes.items c.self.invariant.stands.are_nodes c.in_ok-rank.rank c.args.id c.index.result.now at (rw c.deref-3.ensures at c.index.ensures) in
    rw (← c.self.view_is) here
