use Rattle.std.proofs.Common.{sym, ◌∙◌, ap}
use Rattle.std.specs.Prelude.{option_map}
use Rattle.control_mail.specs.Readings.{Letter}
use Rattle.world_core.proofs.Mailing.{letter_is}
use Rattle.world_core.proofs.network.Network.addressee.Goals as goal

pub returns-in_err-kept : goal.returns-in_err-kept
returns-in_err-kept g c past counts was =
    let net = c.args.self.now.topology.value in
    let mails = was.are_mails in
    let none = sym (letter_is net past counts c.args.self.now.mails mails c.args.number) ∙ c.in_err-kept.ensures.none net mails.acts mails.stands in
    c.from_residual.ensures ∙ sym (ap (option_map (λ (m : Letter). m.to)) none)

pub returns : goal.returns
returns g c past counts was =
    let net = c.args.self.now.topology.value in
    let mails = was.are_mails in
    let there = sym (letter_is net past counts c.args.self.now.mails mails c.args.number) ∙ (c.in_ok-kept.ensures.some net mails.acts mails.stands).0 in
    sym (ap (option_map (λ (m : Letter). m.to)) there)
