use Rattle.std.proofs.Common.{◌∙◌}
use Rattle.world_core.proofs.Mailing.{next_few, next_is}
use Rattle.world_core.proofs.world.World.next_mail.Goals as goal

pub returns-clause-next : goal.returns-clause-next
returns-clause-next g c =
    let network = c.self.inside.state.value.network in
    let rules = g.P.Policy.rules network.policy in
    let net = network.topology.value in
    let mails = c.self.invariant.stands.are_mails in
    rw (← c.self.view_is) ((rw c.deref.ensures at c.next.ensures) net mails.acts mails.stands ∙ next_is rules net c.self.inside.state.value.events.items network.mails mails)

pub returns-clause-bound : goal.returns-clause-bound
returns-clause-bound g c =
    let network = c.self.inside.state.value.network in
    let rules = g.P.Policy.rules network.policy in
    let net = network.topology.value in
    let events = c.self.inside.state.value.events.items in
    let mails = c.self.invariant.stands.are_mails in
    next_few rules net events _
    ((rw c.deref.ensures at c.next.ensures) net mails.acts mails.stands ∙ next_is rules net events network.mails mails) c.self.invariant.stands.counted.few_mails
