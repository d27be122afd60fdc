use Rattle.chronicle.specs.Run.{after}
use Rattle.world_core.specs.Refreshing.{link_ways}
use Rattle.world_core.specs.WaySets.{has_way}
use Rattle.world_core.proofs.Changing.{all_known, stale}
use Rattle.world_core.proofs.network.Network.refresh.Goals as goal

pub returns : goal.returns
returns g c past counts stands was =
    let rules = g.P.Policy.rules c.args.self.now.policy in
    let net = c.args.self.now.topology.value in
    let event = c.args.event.now in
    let now = after rules net past event in
    let start = stale rules net past event (has_way net c.args.open_ways.now) stands.are_nodes.valid c.requires was in
    let turned = c.look_at_turned.ensures now counts (link_ways event) stands start in
    all_known net now (has_way net c.look_at_link.new.open_ways) (c.look_at_link.ensures now counts stands turned)
