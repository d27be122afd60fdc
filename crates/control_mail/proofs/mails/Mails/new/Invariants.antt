use Rattle.control_mail.specs.Keeping.{Keeps, none_stopped, none_waiting}
use Rattle.control_mail.proofs.Standing.{HasBefore}
use Rattle.control_mail.proofs.mails.Mails.new.Given as goal

abbrev pub invariant-loop-node : goal.invariant-loop-node
invariant-loop-node l = record { keeps : Keeps l.inboxes none_stopped none_waiting; boxed : HasBefore l.inboxes l.node-items l.node-index }
