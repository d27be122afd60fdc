use Rattle.std.proofs.Common.{◌∙◌}
use Rattle.chronicle.specs.Deliveries.{deliveries}
use Rattle.chronicle.specs.Run.{run}
use Rattle.world_core.proofs.Mailing.{count_is}
use Rattle.world_core.proofs.world.World.mail_count.Goals as goal

pub returns : goal.returns
returns g c =
    let network = c.self.inside.state.value.network in
    let rules = g.P.Policy.rules network.policy in
    let net = network.topology.value in
    let events = c.self.inside.state.value.events.items in
    let mails = c.self.invariant.stands.are_mails in
    rw (← c.self.view_is) ((rw c.deref.ensures at c.count.ensures) net mails.acts mails.stands ∙ count_is net (run rules net events) (deliveries rules net events) network.mails mails)
