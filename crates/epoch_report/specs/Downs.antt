-- A report as the code makes it: a session row has only the first trigger that its Down lists.
use Rattle.std.specs.Prelude.{ℕ, ◌≡◌, Option, Some, None, List, [], ◌∷◌, map, length}
use Rattle.topology.specs.declared.names.Trigger.{Trigger}
use Rattle.trigger_log.specs.Entries.{Entry, closing}
use Rattle.incomplete_closure.specs.Reports.{SessionRow, Report}

-- only the first trigger of the list, if there is a list
abbrev pub first_of : Option (List Trigger) → Option (List Trigger)
first_of None = None
first_of (Some []) = None
first_of (Some (t ∷ ts)) = Some (t ∷ [])

-- the session row with only the first trigger of its Down
abbrev pub first_down : SessionRow → SessionRow
first_down row = record { nbr = row.nbr; session = row.session; received = row.received; down = first_of row.down }

-- the report with such session rows
abbrev pub first_downs : Report → Report
first_downs report = record {
  node = report.node;
  epoch = report.epoch;
  rows = report.rows;
  sessions = map first_down report.sessions;
  pending = report.pending;
}

-- each Down of the entries lists exactly one trigger, so its session row has the whole list
abbrev pub DownsListOne : List Entry → Type 0
DownsListOne h = (w s : ℕ) (ts : List Trigger) → closing h w s ≡ Some ts → length ts ≡ 1
