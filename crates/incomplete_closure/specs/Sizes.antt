-- The size of reports.
use Rattle.std.specs.Prelude.{ℕ, ◌+◌, List, [], ◌∷◌, length}
use Rattle.topology.specs.declared.items.Sent.{Sent}
use Rattle.topology.specs.declared.items.Pending.{Pending}
use Rattle.incomplete_closure.specs.declared.cut_rows.Row.{Row}
use Rattle.incomplete_closure.specs.declared.reports.Report.{Report}

-- how many triggers the rows list
abbrev pub triggers_in : List Row → ℕ
triggers_in [] = 0
triggers_in (row ∷ rows) = length row.triggers + triggers_in rows

-- how many triggers the items list
abbrev pub carried_by : List Sent → ℕ
carried_by [] = 0
carried_by (item ∷ items) = length item.triggers + carried_by items

-- how many items the rows sent
abbrev pub items_in : List Row → ℕ
items_in [] = 0
items_in (row ∷ rows) = length row.sent + items_in rows

-- how many triggers the items of the rows list
abbrev pub carried_in : List Row → ℕ
carried_in [] = 0
carried_in (row ∷ rows) = carried_by row.sent + carried_in rows

-- how many triggers pending rows list
abbrev pub held_in : List Pending → ℕ
held_in [] = 0
held_in (row ∷ rows) = length row.triggers + held_in rows

-- how many rows there are in the reports
abbrev pub rows_of : List Report → ℕ
rows_of [] = 0
rows_of (r ∷ rs) = length r.rows + rows_of rs

-- how many triggers the rows list
abbrev pub triggers_of : List Report → ℕ
triggers_of [] = 0
triggers_of (r ∷ rs) = triggers_in r.rows + triggers_of rs

-- how many sent items there are
abbrev pub items_of : List Report → ℕ
items_of [] = 0
items_of (r ∷ rs) = items_in r.rows + items_of rs

-- how many pending rows there are
abbrev pub pending_of : List Report → ℕ
pending_of [] = 0
pending_of (r ∷ rs) = length r.pending + pending_of rs

-- how many triggers sent items and pending rows list
abbrev pub carried_of : List Report → ℕ
carried_of [] = 0
carried_of (r ∷ rs) = carried_in r.rows + held_in r.pending + carried_of rs

-- how many session rows there are
abbrev pub sessions_of : List Report → ℕ
sessions_of [] = 0
sessions_of (r ∷ rs) = length r.sessions + sessions_of rs

-- how many rows, sent items and pending rows there are
abbrev pub entries_of : List Report → ℕ
entries_of reports = rows_of reports + items_of reports + pending_of reports

-- how many rows, sent items, pending rows, session rows and listed triggers there are
abbrev pub size_of : List Report → ℕ
size_of reports = entries_of reports + sessions_of reports + triggers_of reports + carried_of reports
