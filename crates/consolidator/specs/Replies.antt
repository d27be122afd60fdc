-- What a node replies.
use Rattle.std.specs.Prelude.{ℕ, ◌≡◌, Option, Some, None, List}
use Rattle.topology.specs.declared.status.Reason.{Reason}
use Rattle.consolidator.specs.declared.messages.Reply.{Reply}
use Rattle.consolidator.specs.declared.messages.Reply.TheVariants.{Sent, Idle}
use Rattle.consolidator.specs.Messages.{Message}
use Rattle.consolidator.specs.Seen.{mails_seen}

-- the reply is the reason for doing nothing, if there is one; else it is these messages, in this order
abbrev pub Says : Reply → Option Reason → List (ℕ × Message) → Type 0
Says (Sent mails) why out = (why ≡ None) × (mails_seen mails ≡ out)
Says (Idle reason) why out = why ≡ Some reason
