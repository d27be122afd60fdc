-- Which triggers are open: those of items that were sent to a node with a report and not received there, and those of
-- updates held back from such a node.
use Rattle.std.specs.Prelude.{ℕ, Bool, is_none, ◌==◌, ◌&&◌, Option, Some, None, List, [], ◌++◌, nat_lt, find, map, flat_map, if◌then◌else◌}
use Rattle.topology.specs.declared.names.Trigger.{Trigger}
use Rattle.topology.specs.declared.items.Sent.{Sent}
use Rattle.topology.specs.declared.items.Pending.{Pending}
use Rattle.incomplete_closure.specs.declared.cut_rows.Row.{Row}
use Rattle.incomplete_closure.specs.declared.session_rows.SessionRow.{SessionRow}
use Rattle.incomplete_closure.specs.declared.reports.Report.{Report}
use Rattle.incomplete_closure.specs.declared.opening.OpenTrigger.{OpenTrigger}

-- the row of session s with v; if rows repeat, the first
abbrev pub row_of : Report → ℕ → ℕ → Option SessionRow
row_of report v s = find (λ (row : SessionRow). row.nbr == v && row.session == s) report.sessions

-- how many updates were received; 0 without a row
abbrev pub received_of : Option SessionRow → ℕ
received_of None = 0
received_of (Some row) = row.received

-- the trigger of the Down, if there is a row with one
abbrev pub down_of : Option SessionRow → Option Trigger
down_of None = None
down_of (Some row) = row.down

-- a trigger together with that of the Down
abbrev pub with_down : Option Trigger → Trigger → OpenTrigger
with_down down t = record { trigger = t; down = down }

-- the triggers of an item, if its receiver has received fewer updates than its number
abbrev pub if_open : Option SessionRow → Sent → List OpenTrigger
if_open row item = if nat_lt (received_of row) item.seq then map (with_down (down_of row)) item.triggers else []

-- the report of node v
abbrev pub of_node : List Report → ℕ → Option Report
of_node reports v = find (λ (r : Report). r.node == v) reports

-- the open triggers of an item that v sent, if its receiver has a report
abbrev pub open_at : Option Report → ℕ → Sent → List OpenTrigger
open_at None v item = []
open_at (Some to) v item = if_open (row_of to v item.session) item

-- the open triggers of an update that v holds back, if its receiver has a report
abbrev pub waiting_at : Option Report → ℕ → Pending → List OpenTrigger
waiting_at None v row = []
waiting_at (Some to) v row = map (with_down (down_of (row_of to v row.session))) row.triggers

-- the open triggers of a row of v
abbrev pub open_in_row : List Report → ℕ → Row → List OpenTrigger
open_in_row reports v row = flat_map (λ (item : Sent). open_at (of_node reports item.to) v item) row.sent

-- the open triggers of rows of v
abbrev pub open_in_rows : List Report → ℕ → List Row → List OpenTrigger
open_in_rows reports v rows = flat_map (open_in_row reports v) rows

-- the open triggers of what v holds back
abbrev pub waiting_in : List Report → ℕ → List Pending → List OpenTrigger
waiting_in reports v rows = flat_map (λ (row : Pending). waiting_at (of_node reports row.to) v row) rows

-- the open triggers of a report
abbrev pub open_in_report : List Report → Report → List OpenTrigger
open_in_report reports from = open_in_rows reports from.node from.rows ++ waiting_in reports from.node from.pending

-- all open triggers
abbrev pub open_triggers : List Report → List OpenTrigger
open_triggers reports = flat_map (open_in_report reports) reports

-- the receiver has not closed the session
abbrev pub is_start : OpenTrigger → Bool
is_start o = is_none o.down
