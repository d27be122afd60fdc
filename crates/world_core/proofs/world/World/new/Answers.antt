use Rattle.std.proofs.Common.{[], ◌∙◌, ap, length, nat_lt}
use Rattle.chronicle.specs.Deliveries.{deliveries}
use Rattle.link_model.specs.WaySets.{has_number}
use Rattle.world_core.specs.WaySets.{has_way}
use Rattle.world_core.proofs.AfterSteps.{run-none}
use Rattle.world_core.specs.Counting.{no_deliveries}
use Rattle.world_core.proofs.Delivered.{none_delivered}
use Rattle.world_core.proofs.Fresh.{fresh_open}
use Rattle.world_core.proofs.Next.{numbered_near}
use Rattle.world_core.proofs.Stepped.{counts_so}
use Rattle.world_core.proofs.Numbered.{all_linked}
use Rattle.world_core.proofs.world.World.new.Goals as goal

pub invariant_of-result : goal.invariant_of-result
invariant_of-result g c =
    let network = c.in_ok-network.network in
    let ways = c.in_ok-open_ways.open_ways in
    let rules = g.P.Policy.rules network.policy in
    let net = network.topology.value in
    let links = c.in_ok-network.ensures.stands.are_links in
    let all = all_linked net (has_number ways) links.stands.valid (numbered_near net) (λ number. c.in_ok-open_ways.ensures number ∙ ap (λ l. nat_lt number (length l)) links.stands.numbered) in
    rw c.in_ok-new.ensures.ok (record {
      stands = rw (c.new-2.ensures.items, run-none rules net) (counts_so rules [] no_deliveries (deliveries rules net []) network (none_delivered rules net) c.in_ok-network.ensures.stands);
      open_ways = rw (c.new-2.ensures.items, run-none rules net) (fresh_open net (has_way net ways) all);
    })
