use Rattle.std.proofs.Common.{sym, ◌∙◌, refl}
use Rattle.topology.specs.declared.status.Reason.TheVariants.{NoSuchMessage}
use Rattle.consolidator.specs.Seen.{message_seen}
use Rattle.control_mail.specs.Seen.{letter_seen}
use Rattle.chronicle.specs.Inputs as input
use Rattle.chronicle.specs.declared.events.Event.TheVariants.{Control}
use Rattle.world_core.proofs.AfterSteps.{idle}
use Rattle.world_core.proofs.Handed.{passes_on, hears_copy, no_letter}
use Rattle.world_core.proofs.Mailing.{letter_inside, letter_is}
use Rattle.world_core.proofs.network.Network.control.Goals as goal

pub returns-in_default : goal.returns-in_default
returns-in_default g c = record {
  others = record { policy = refl; topology = refl };
  comes = λ past counts was regular.
      let rules = g.P.Policy.rules c.args.self.now.policy in
      let net = c.args.self.now.topology.value in
      let mails = was.are_mails in
      let none = sym (letter_is net past counts c.args.self.now.mails mails c.args.number) ∙ c.in_default.ensures.none net mails.acts mails.stands in
      idle rules past counts _ _ NoSuchMessage (no_letter rules net past c.args.number none) was;
  stopped = tt;
}

pub give-requires-clause-node : goal.give-requires-clause-node
give-requires-clause-node g c =
    let net = c.args.self.now.topology.value in
    let past = c.requires.mails.past in
    let counts = c.requires.mails.counts in
    let mails = c.requires.mails.are_mails in
    let there = sym (letter_is net past counts c.args.self.now.mails mails c.args.number) ∙ (c.in-Some.ensures.some net mails.acts mails.stands).0 in
    (letter_inside net past counts c.args.self.now.mails mails c.args.number (letter_seen c.in-Some.kept.now) there).1

pub returns : goal.returns
returns g c =
    let rules = g.P.Policy.rules c.args.self.now.policy in
    passes_on rules (Control c.args.number) c.in-Some.kept.now.mail.to (input.Control c.in-Some.kept.now.from (message_seen c.in_ok-message.message)) c.args.self.now c.args.self.now c.give.new.self c.give.result refl refl c.give.ensures.others c.give.ensures.comes c.give.ensures.stopped
    (λ past counts was regular.
    let net = c.args.self.now.topology.value in
    let kept = c.in-Some.kept.now in
    let mails = was.are_mails in
    let there = sym (letter_is net past counts c.args.self.now.mails mails c.args.number) ∙ (c.in-Some.ensures.some net mails.acts mails.stands).0 in
    hears_copy rules past counts c.args.self.now was c.args.number (letter_seen kept) (message_seen c.in_ok-message.message) there c.in_ok-message.ensures)
