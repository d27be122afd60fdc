-- How often control messages were delivered.
use Rattle.std.specs.Prelude.{ℕ, ◌<◌, ◌-◌, ◌^◌}
use Rattle.topology.specs.Net.{Net}
use Rattle.control_mail.specs.Seen.{Office}
use Rattle.chronicle.specs.declared.events.Event.{Event}
use Rattle.chronicle.specs.Deliveries.{counted}
use Rattle.chronicle.specs.Facts.{Chronicle}
use Rattle.world_core.specs.Matching.{AreMails, Counts}

-- no message was delivered
abbrev pub no_deliveries : Counts
no_deliveries k = 0

-- the counts after an event; an idle delivery counts too
abbrev pub counts_after : Chronicle → Event → Counts → Counts
counts_after past event counts k = counted k past event (counts k)

-- each count is below the highest number of its type
abbrev pub AreFew : Counts → Type 0
AreFew counts = (k : ℕ) → counts k < 2 ^ 32 - 1

-- the control messages are those of some run
pub record HasMails (net : Net) (mails : Office) : Type 0 where
  pub past : Chronicle
  pub counts : Counts
  pub are_mails : AreMails net past counts mails

-- the control messages are those of some run, and each may be delivered once more
pub record MayDeliver (net : Net) (mails : Office) : Type 0 where
  pub has : HasMails net mails
  pub few : AreFew has.counts
