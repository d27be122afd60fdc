use Rattle.std.proofs.Common.{sym, ◌∙◌, ap}
use Rattle.consolidator.specs.Seen.{message_seen}
use Rattle.wire_frames.specs.declared.frames.Frame.TheVariants.{Report}
use Rattle.incomplete_closure.specs.Seen.{report_seen}
use Rattle.route_node.specs.Frames.{report_told, mail_frame}
use Rattle.route_node.proofs.outputs.mail_frame.Goals.{in-Report+in_ok-report_copy-in-Report, in-Prepare, in-Promise, in-Accept, in-Accepted, in-Decision}
use Rattle.route_node.proofs.outputs.mail_frame.Goals as goal

pub returns : goal.returns
returns c =
    elim c.match-message.branch [
      | in-Report+in_ok-report_copy-in-Report w ↦
          w.result-is
          ∙ (ap (λ r. Report c.args.mail.to r) (w.in_ok-report_copy-in-Report.ensures ∙ ap (λ r. report_told (report_seen r)) w.deref.ensures)
          ∙ ap (λ m. mail_frame c.args.mail.to (message_seen m)) (sym w.in-Report.is))
      | in-Prepare w ↦ w.result-is ∙ ap (λ m. mail_frame c.args.mail.to (message_seen m)) (sym w.in-Prepare.is)
      | in-Promise w ↦ w.result-is ∙ ap (λ m. mail_frame c.args.mail.to (message_seen m)) (sym w.in-Promise.is)
      | in-Accept w ↦ w.result-is ∙ ap (λ m. mail_frame c.args.mail.to (message_seen m)) (sym w.in-Accept.is)
      | in-Accepted w ↦ w.result-is ∙ ap (λ m. mail_frame c.args.mail.to (message_seen m)) (sym w.in-Accepted.is)
      | in-Decision w ↦ w.result-is ∙ ap (λ m. mail_frame c.args.mail.to (message_seen m)) (sym w.in-Decision.is)
    ]
