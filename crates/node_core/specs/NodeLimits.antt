-- The limits of one node.
use Rattle.std.specs.Prelude.{ℕ, ◌+◌, ◌≡◌, Bool, false, ◌==◌, ◌&&◌, ◌||◌, List, Option, Some, None, nat_lt, length, if◌then◌else◌}
use Rattle.std.specs.List.{list_any}
use Rattle.topology.specs.declared.status.LimitKind.{LimitKind}
use Rattle.topology.specs.declared.status.LimitKind.TheVariants.{Epochs, Triggers, Entries, Updates, Marks}
use Rattle.topology.specs.Net.{Net}
use Rattle.path_vector.specs.Rules.{Rules}
use Rattle.trigger_log.specs.Entries.{Entry}
use Rattle.trigger_log.specs.Pending.{pending_rows}
use Rattle.trigger_log.specs.Sending.{sent_of}
use Rattle.incomplete_closure.specs.declared.values.Value.{Value}
use Rattle.paxos_core.specs.Facts.{Message as Ballots, Accept}
use Rattle.consolidator.specs.declared.messages.Mail.{Mail as ItsMail}
use Rattle.consolidator.specs.declared.messages.Reply.{Reply}
use Rattle.consolidator.specs.declared.messages.Reply.TheVariants as reply
use Rattle.consolidator.specs.Messages.{Message, Reports, Agrees}
use Rattle.consolidator.specs.Seen.{message_seen}
use Rattle.chronicle.specs.Facts.{Fact, Chronicle, Mail}
use Rattle.chronicle.specs.Logs.{log_of}
use Rattle.chronicle.specs.Epochs.{epoch}
use Rattle.chronicle.specs.Steps.{Step, Idle, Goes}
use Rattle.topology.specs.declared.limits.TheConstants.{MOST_EPOCHS, MOST_TRIGGERS, MOST_ENTRIES, MOST_UPDATES, MOST_MARKS}
use Rattle.node_core.specs.Counted.{entry_marks, is_long_item, is_long_row}
use Rattle.message_fitting.specs.Marks.{item_marks, row_marks}
use Rattle.node_core.specs.declared.outputs.Stop.{Stop}
use Rattle.node_core.specs.declared.outputs.Stop.TheVariants as stop

-- a limit that is reached: the kind of the count, and its highest number
pub record Reached : Type 0 where
  pub kind : LimitKind
  pub number : ℕ

-- an Accept whose value has more incomplete triggers than a value may have
abbrev pub proposes_more : Ballots Value → Bool
proposes_more (Accept b v) = nat_lt MOST_TRIGGERS (length v.incomplete)
proposes_more other = false

-- the message proposes such a value
abbrev pub is_large : Message → Bool
is_large (Reports report) = false
is_large (Agrees e m) = proposes_more m

-- one of the messages of the reply proposes such a value
abbrev pub proposes_large : Reply → Bool
proposes_large (reply.Idle reason) = false
proposes_large (reply.Sent mails) = list_any (λ (mail : ItsMail). is_large (message_seen mail.message)) mails

-- u mailed such a message
abbrev pub is_too_large : ℕ → Fact → Bool
is_too_large u (Mail from to m) = from == u && is_large m
is_too_large u other = false

-- u mailed an Accept whose value has more triggers than a value may have; messages of other nodes are not read
abbrev pub has_large_value : ℕ → Chronicle → Bool
has_large_value u now = list_any (is_too_large u) now

-- an item that u's log lists, or a row of what u holds back, has more triggers than a list may have
unfoldable pub has_long_list : Rules → Net → ℕ → Chronicle → Bool
has_long_list rules net u now =
    list_any is_long_item (sent_of rules net u (log_of u now)) || list_any is_long_row (pending_rows rules net u (log_of u now))

-- the first of the four counts that is above its number, in this order
abbrev pub first_of_node : (epochs triggers entries updates : Bool) → Option Reached
first_of_node epochs triggers entries updates =
    if epochs then Some (record { kind = Epochs; number = MOST_EPOCHS })
    else if triggers then Some (record { kind = Triggers; number = MOST_TRIGGERS })
    else if entries then Some (record { kind = Entries; number = MOST_ENTRIES })
    else if updates then Some (record { kind = Updates; number = MOST_UPDATES })
    else None

-- the first of these counts of node u that is above its number; the count of triggers is above where u proposed a value
-- with more than a value may have, or has a list with more than a list may have
unfoldable pub node_above : Rules → Net → ℕ → Chronicle → Option Reached
node_above rules net u now =
    first_of_node (nat_lt MOST_EPOCHS (epoch u now)) (has_large_value u now || has_long_list rules net u now) (nat_lt MOST_ENTRIES (length (log_of u now)))
    (nat_lt MOST_UPDATES (length (sent_of rules net u (log_of u now))))

-- the triggers that entries of u, their items and the rows of what they hold back list, counted once for each list
unfoldable pub marks_of : Rules → Net → ℕ → List Entry → ℕ
marks_of rules net u h = entry_marks h + item_marks (sent_of rules net u h) + row_marks (pending_rows rules net u h)

-- u has more marks than it may have
unfoldable pub has_more_marks : Rules → Net → ℕ → Chronicle → Bool
has_more_marks rules net u now = nat_lt MOST_MARKS (marks_of rules net u (log_of u now))

-- the first count above its number after a step; none after an idle step
abbrev pub limit_before_marks : Rules → Net → ℕ → Step → Option Reached
limit_before_marks rules net u (Idle reason) = None
limit_before_marks rules net u (Goes now) = node_above rules net u now

-- the limit that u reaches: the marks stand behind all other counts
abbrev pub or_marks : Option Reached → Bool → Option Reached
or_marks (Some reached) more = Some reached
or_marks None more = if more then Some (record { kind = Marks; number = MOST_MARKS }) else None

-- the limit that a step of u reaches
abbrev pub node_limit : Rules → Net → ℕ → Step → Option Reached
node_limit rules net u (Idle reason) = None
node_limit rules net u (Goes now) = or_marks (node_above rules net u now) (has_more_marks rules net u now)

-- a stop at a limit is at this one; memory may run out with any input
abbrev pub StopsAt : Option Reached → Stop → Type 0
StopsAt limit stop.NoMemory = Unit {0}
StopsAt limit (stop.Limit kind number) = limit ≡ Some (record { kind = kind; number = number })
