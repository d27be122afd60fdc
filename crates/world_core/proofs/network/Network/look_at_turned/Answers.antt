use Rattle.std.proofs.Common.{◌++◌, subst}
use Rattle.world_core.specs.Refreshing.{AreOpenBut}
use Rattle.world_core.specs.WaySets.{has_way}
use Rattle.world_core.proofs.network.Network.look_at_turned.Goals as goal

pub returns : goal.returns
returns g c past counts turned matches was =
    let net = c.args.self.now.topology.value in
    c.look_at_node.ensures past counts turned matches
    (subst (λ ways. AreOpenBut net past (ways ++ turned) (has_way net c.args.open_ways.now)) (c.in-Some.ensures.some net) was)
