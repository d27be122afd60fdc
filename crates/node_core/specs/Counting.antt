-- The counts that a node keeps of its log.
use Rattle.std.specs.Prelude.{ℕ, ◌+◌, ◌≡◌, ◌||◌, List, length}
use Rattle.std.specs.List.{list_any}
use Rattle.topology.specs.declared.items.Sent.{Sent}
use Rattle.topology.specs.Net.{Net}
use Rattle.path_vector.specs.Rules.{Rules}
use Rattle.trigger_log.specs.Entries.{Entry}
use Rattle.trigger_log.specs.Sending.{sent_of}
use Rattle.node_core.specs.declared.counts.Counts.{Counts}
use Rattle.node_core.specs.Counted.{entry_marks, is_long_item}
use Rattle.message_fitting.specs.Marks.{item_marks}

-- the counts are those of these entries of u: the count of their items, the count of the triggers that entries and
-- items list, and whether an item lists more triggers than a list may have
pub record AreCounts (rules : Rules) (net : Net) (u : ℕ) (h : List Entry) (counts : Counts) : Type 0 where
  pub updates : counts.updates ≡ length (sent_of rules net u h)
  pub marks : counts.marks ≡ entry_marks h + item_marks (sent_of rules net u h)
  pub long : counts.has_long ≡ list_any is_long_item (sent_of rules net u h)

-- adding these items takes the first counts to the second
pub record Adds (items : List Sent) (old new : Counts) : Type 0 where
  pub updates : new.updates ≡ old.updates + length items
  pub marks : new.marks ≡ old.marks + item_marks items
  pub long : new.has_long ≡ (old.has_long || list_any is_long_item items)
