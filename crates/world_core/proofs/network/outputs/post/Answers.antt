use Rattle.std.proofs.Common.{[], ◌∷◌, ◌++◌, ◌∙◌, ap}
use Rattle.consolidator.specs.Seen.{message_seen}
use Rattle.control_mail.specs.Acts.{Posts}
use Rattle.run_record.specs.declared.outcomes.Effect.TheVariants.{Mailed}
use Rattle.world_core.proofs.Mailing.{posted, posted_number}
use Rattle.world_core.proofs.network.outputs.post.Goals as goal

pub returns-clause-done : goal.returns-clause-done
returns-clause-done c net past counts was from_in to_in =
    let from = c.args.from in
    let to = c.args.mail.to in
    let m = message_seen c.args.mail.message in
    let stands = c.in_ok-post.ensures.ok net was.acts was.stands in
    let number = c.count-number.ensures net (Posts from to m ∷ was.acts) stands ∙ posted_number net past counts c.args.mails.now was from to m in (
      posted net past counts c.args.mails.now c.post.new.self was from to m from_in to_in stands,
      λ wanted. c.in_ok-tell.ensures.told wanted ∙ ap (λ n. c.args.account.now.list ++ Mailed n ∷ []) number,
    )
