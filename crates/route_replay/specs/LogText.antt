-- The text of logs: a line for each entry that a node keeps, with its place in the whole log.
use Rattle.std.specs.Prelude.{ℕ, suc, List, length, drop, map}
use Rattle.topology.specs.Net.{Net}
use Rattle.path_vector.specs.Rules.{Rules}
use Rattle.trigger_log.specs.Sending.{sent_by}
use Rattle.trigger_log.specs.Entered.{Entered, all_entered}
use Rattle.chronicle.specs.Facts.{Chronicle}
use Rattle.chronicle.specs.Drops.{dropped}
use Rattle.chronicle.specs.Logs.{log_of}
use Rattle.view_words.specs.Entries.{line_of}

-- the line of the last of these entries
unfoldable pub entry_line : Rules → Net → ℕ → Entered → List ℕ
entry_line rules net node step =
    line_of net node (suc (length step.before)) step.entry.triggers step.entry.read (sent_by rules net node step.before step.entry)

-- the log of one node without what it has dropped, the oldest entry first
unfoldable pub log_lines : Rules → Net → Chronicle → ℕ → List (List ℕ)
log_lines rules net past node = map (entry_line rules net node) (drop (dropped net node past) (all_entered (log_of node past)))
