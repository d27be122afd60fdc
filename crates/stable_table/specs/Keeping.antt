-- The entries of a cut that list no incomplete trigger, as routing reads them after an earlier history.
use Rattle.std.specs.Prelude.{ℕ, suc, List, [], ◌∷◌, fold, if◌then◌else◌}
use Rattle.std.specs.List.{list_any}
use Rattle.topology.specs.declared.names.Trigger.{Trigger}
use Rattle.topology.specs.Triggers.{lists}
use Rattle.path_vector.specs.History.{History, change}
use Rattle.trigger_log.specs.declared.entries.Entry.{Entry}

-- the history with this entry, if it lists no incomplete trigger
abbrev pub kept_by : List Trigger → History → Entry → History
kept_by incomplete past entry = if list_any (lists incomplete) entry.triggers then past else change entry.scope entry.cause ∷ past

-- the history with those of the entries, the oldest first, that list no incomplete trigger
abbrev pub kept : List Trigger → History → List Entry → History
kept incomplete past entries = fold (kept_by incomplete) past entries

-- how many entries from the first on list no incomplete trigger
abbrev pub complete_first : List Trigger → List Entry → ℕ
complete_first incomplete [] = 0
complete_first incomplete (e ∷ es) = if list_any (lists incomplete) e.triggers then 0 else suc (complete_first incomplete es)
