use Rattle.std.proofs.Common.{refl, ap, ◌∙◌}
use Rattle.std.proofs.lemmas.Result.{IfOk-weaker}
use Rattle.paxos_core.specs.Facts.{Accept}
use Rattle.paxos_core.specs.Answers.{to_each}
use Rattle.incomplete_closure.specs.declared.values.Value.{Value}
use Rattle.consolidator.specs.Answers.{of_epoch}
use Rattle.consolidator.specs.Seen.{mails_seen}
use Rattle.consolidator.proofs.Hearing.{each_sent}
use Rattle.consolidator.proofs.parts.accept_mails.Goals as goal

pub returns : goal.returns
returns c =
    IfOk-weaker c.to_each.result _ _
    (λ mails sent. each_sent (mails_seen mails) c.args.epoch c.args.epoch c.args.members.now (Accept c.args.ballot c.in_ok-copy.copy) sent refl
    ∙ ap (λ (v : Value). of_epoch c.args.epoch (to_each c.args.members.now (Accept c.args.ballot v))) c.in_ok-copy.ensures)
    c.to_each.ensures
