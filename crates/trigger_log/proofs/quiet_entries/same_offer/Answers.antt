use Rattle.std.proofs.Common.{◌≡◌, rules}
use Rattle.std.specs.Option.{option_copied}
use Rattle.trigger_log.proofs.QuietTurns.{equal_offers}
use Rattle.trigger_log.proofs.quiet_entries.same_offer.Goals as goal

pub returns : goal.returns
returns c =
    let a = c.args.a.now in
    let b = c.args.b.now in
    let prefix : a.prefix ≡ b.prefix = search rules in
    let learnt : a.chosen.learned ≡ b.chosen.learned = search rules in
    equal_offers a b c.same.result (option_copied c.as_ref.result) (option_copied c.as_ref-2.result) c.same.ensures c.as_ref.ensures.value c.as_ref-2.ensures.value prefix learnt
