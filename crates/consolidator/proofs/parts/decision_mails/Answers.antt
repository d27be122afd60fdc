use Rattle.std.proofs.Common.{Some, refl}
use Rattle.std.proofs.lemmas.Result.{IfOk-weaker}
use Rattle.consolidator.specs.Seen.{mails_seen}
use Rattle.consolidator.proofs.Hearing.{announces}
use Rattle.consolidator.proofs.parts.decision_mails.Goals as goal

pub returns : goal.returns
returns c =
    IfOk-weaker c.to_each.result _ _
    (λ mails sent. announces (mails_seen mails) c.args.epoch c.args.epoch c.args.nodes.now (Some c.args.value.now) c.args.value.now c.in_ok-copy.copy sent refl refl c.in_ok-copy.ensures)
    c.to_each.ensures
