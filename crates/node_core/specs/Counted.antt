-- Counts of the triggers in the lists of a node, and the test for a list that is too long.
use Rattle.std.specs.Prelude.{ℕ, Bool, nat_lt, List, length}
use Rattle.topology.specs.declared.items.Pending.{Pending}
use Rattle.topology.specs.declared.items.Sent.{Sent}
use Rattle.topology.specs.declared.names.Trigger.{Trigger}
use Rattle.trigger_log.specs.Entries.{Entry}
use Rattle.topology.specs.declared.limits.TheConstants.{MOST_TRIGGERS}
use Rattle.message_fitting.specs.Marks.{total}

-- there are more triggers than a list may have
abbrev pub is_long : List Trigger → Bool
is_long triggers = nat_lt MOST_TRIGGERS (length triggers)

-- an item lists more triggers than a list may have
abbrev pub is_long_item : Sent → Bool
is_long_item item = is_long item.triggers

-- a row of updates held back lists more triggers than a list may have
abbrev pub is_long_row : Pending → Bool
is_long_row row = is_long row.triggers

-- the triggers that entries list, counted once for each list
abbrev pub entry_marks : List Entry → ℕ
entry_marks h = total (λ (k : Entry). length k.triggers) h
