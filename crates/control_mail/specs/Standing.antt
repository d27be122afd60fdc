-- When mails stand for a list of acts: what they store is what is read from the list.
use Rattle.std.specs.Prelude.{ℕ, suc, ◌≡◌, true, Some, slice_get}
use Rattle.topology.specs.Lists.{has}
use Rattle.topology.specs.Net.{Net}
use Rattle.control_mail.specs.declared.kept.Kept.{Kept}
use Rattle.control_mail.specs.Acts.{MailActs}
use Rattle.control_mail.specs.Readings.{letters, deliveries, stopped, waits}
use Rattle.control_mail.specs.Keeping.{HasInbox, Keeps}
use Rattle.control_mail.specs.Seen.{Office, letters_seen}

-- the messages with their counts, in order, and an inbox for each node of the network
pub record StandsFor (net : Net) (mails : Office) (acts : MailActs) : Type 0 where
  pub kept : letters_seen mails.kept ≡ letters acts
  pub counted : (k : ℕ) (x : Kept) → slice_get mails.kept k ≡ Some x → x.deliveries ≡ deliveries (suc k) acts
  pub sorted : Keeps mails.boxes (stopped acts) (waits acts)
  pub boxed : (u : ℕ) → has net.nodes u ≡ true → HasInbox mails.boxes u
