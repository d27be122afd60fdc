-- Messages and mails as the definitions see them.
use Rattle.std.specs.Prelude.{ℕ, List, map}
use Rattle.paxos_core.specs.Facts as paxos
use Rattle.incomplete_closure.specs.Seen.{report_seen}
use Rattle.consolidator.specs.declared.messages.Message.{Message as TheMessage}
use Rattle.consolidator.specs.declared.messages.Message.TheVariants as the
use Rattle.consolidator.specs.declared.messages.Mail.{Mail}
use Rattle.consolidator.specs.Messages.{Message, Reports, Agrees}

-- a message
abbrev pub message_seen : TheMessage → Message
message_seen (the.Report report) = Reports (report_seen report.value)
message_seen (the.Prepare epoch ballot) = Agrees epoch (paxos.Prepare ballot)
message_seen (the.Promise epoch ballot named) = Agrees epoch (paxos.Promise ballot named)
message_seen (the.Accept epoch ballot value) = Agrees epoch (paxos.Accept ballot value)
message_seen (the.Accepted epoch ballot) = Agrees epoch (paxos.Accepted ballot)
message_seen (the.Decision epoch value) = Agrees epoch (paxos.Decision value)

-- messages with their addressees
abbrev pub mails_seen : List Mail → List (ℕ × Message)
mails_seen mails = map (λ (mail : Mail). (mail.to, message_seen mail.message)) mails
