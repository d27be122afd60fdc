use Rattle.std.proofs.Common.{IsNone, refl, sym, ◌∙◌, subst}
use Rattle.chronicle.specs.Deliveries.{deliveries}
use Rattle.chronicle.specs.Run.{run}
use Rattle.world_core.proofs.Mailing.{letter_is}
use Rattle.world_core.proofs.world.World.mail.Goals as goal

pub returns-in_err-kept-clause-none : goal.returns-in_err-kept-clause-none
returns-in_err-kept-clause-none g c =
    let network = c.self.inside.state.value.network in
    let rules = g.P.Policy.rules network.policy in
    let net = network.topology.value in
    let events = c.self.inside.state.value.events.items in
    let mails = c.self.invariant.stands.are_mails in
    let none = sym (letter_is net (run rules net events) (deliveries rules net events) network.mails mails c.args.number) ∙ (rw c.deref.ensures at c.in_err-kept.ensures.none) net mails.acts mails.stands in
    rw (← c.self.view_is) (λ is_none. none, λ is. subst IsNone (sym c.from_residual.ensures) refl)

pub returns-clause-some : goal.returns-clause-some
returns-clause-some g c =
    let network = c.self.inside.state.value.network in
    let rules = g.P.Policy.rules network.policy in
    let net = network.topology.value in
    let events = c.self.inside.state.value.events.items in
    let mails = c.self.invariant.stands.are_mails in
    let kept = (rw c.deref.ensures at c.in_ok-kept.ensures.some) net mails.acts mails.stands in
    rw (← c.self.view_is) (sym (letter_is net (run rules net events) (deliveries rules net events) network.mails mails c.args.number) ∙ kept.0, kept.1 ∙ mails.deliveries c.args.number)

pub returns-clause-none : goal.returns-clause-none
returns-clause-none g c =
    let network = c.self.inside.state.value.network in
    let rules = g.P.Policy.rules network.policy in
    let net = network.topology.value in
    let events = c.self.inside.state.value.events.items in
    let mails = c.self.invariant.stands.are_mails in
    let kept = (rw c.deref.ensures at c.in_ok-kept.ensures.some) net mails.acts mails.stands in
    let there = sym (letter_is net (run rules net events) (deliveries rules net events) network.mails mails c.args.number) ∙ kept.0 in
    rw (← c.self.view_is) (λ none. absurd (cc none), λ none. absurd (cc (sym there ∙ none)))
