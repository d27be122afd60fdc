-- The stored messages, as the definitions see them.
use Rattle.std.specs.Prelude.{List, map}
use Rattle.consolidator.specs.Seen.{message_seen}
use Rattle.control_mail.specs.declared.inbox.Inbox.{Inbox}
use Rattle.control_mail.specs.declared.kept.Kept.{Kept}
use Rattle.control_mail.specs.Readings.{Letter}

-- the stored messages, the oldest first, and the inboxes of the nodes
pub record Office : Type 0 where
  pub kept : List Kept
  pub boxes : List Inbox

-- the message without its count
abbrev pub letter_seen : Kept → Letter
letter_seen x = record { from = x.from; to = x.mail.to; message = message_seen x.mail.message }

-- the messages without their counts
abbrev pub letters_seen : List Kept → List Letter
letters_seen xs = map letter_seen xs
