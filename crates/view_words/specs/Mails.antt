-- The words of control messages.
use Rattle.std.specs.Prelude.{ℕ, Option, Some, None, List, ◌++◌, codes}
use Rattle.std.specs.Fmt.{decimal}
use Rattle.topology.specs.declared.ballots.Ballot.{Ballot}
use Rattle.incomplete_closure.specs.declared.values.Value.{Value}
use Rattle.paxos_core.specs.Facts.{Message as Ballots, Prepare, Promise, Accept, Accepted, Decision}
use Rattle.consolidator.specs.Messages.{Message, Reports, Agrees}
use Rattle.control_mail.specs.Readings.{Letter}
use Rattle.view_words.specs.Values.{value_text}
use Rattle.view_words.specs.Lines.{ended}
use Rattle.view_words.specs.Reasons.{ballot_text}

-- a word, and the epoch that the message is about
abbrev pub about : List ℕ → ℕ → List ℕ
about word e = word ++ decimal e

-- what was accepted last, or none
abbrev pub named_text : Option (Ballot × Value) → List ℕ
named_text None = codes "none"
named_text (Some named) = ballot_text named.0 ++ codes " " ++ value_text named.1

-- a message of the agreement of e: its kind, the epoch, and what it says
abbrev pub agrees_text : ℕ → Ballots Value → List ℕ
agrees_text e (Prepare ballot) = about (codes "prepare ") e ++ codes " " ++ ballot_text ballot
agrees_text e (Promise ballot named) = about (codes "promise ") e ++ codes " " ++ ballot_text ballot ++ codes " " ++ named_text named
agrees_text e (Accept ballot value) = about (codes "accept ") e ++ codes " " ++ ballot_text ballot ++ codes " " ++ value_text value
agrees_text e (Accepted ballot) = about (codes "accepted ") e ++ codes " " ++ ballot_text ballot
agrees_text e (Decision value) = about (codes "decision ") e ++ codes " " ++ value_text value

-- a control message
abbrev pub message_text : Message → List ℕ
message_text (Reports report) = about (codes "report ") report.epoch
message_text (Agrees e m) = agrees_text e m

-- the line of the message with this number: its sender and addressee, what it says, and how often it was delivered
abbrev pub mail_line : ℕ → Letter → ℕ → List ℕ
mail_line number m times =
    ended (codes "ctl " ++ decimal number ++ codes ": " ++ decimal m.from ++ codes ">" ++ decimal m.to ++ codes " "
    ++ message_text m.message ++ codes " x" ++ decimal times)
