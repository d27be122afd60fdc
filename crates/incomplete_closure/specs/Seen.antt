-- Reports of the code as the definitions see them, with a list of triggers for a Down.
use Rattle.std.specs.Prelude.{List, [], ◌∷◌, map, option_map}
use Rattle.topology.specs.declared.names.Trigger.{Trigger}
use Rattle.incomplete_closure.specs.declared.cut_rows.Row.{Row as TheRow}
use Rattle.incomplete_closure.specs.declared.session_rows.SessionRow.{SessionRow as TheSessionRow}
use Rattle.incomplete_closure.specs.declared.reports.Report.{Report as TheReport}
use Rattle.incomplete_closure.specs.Reports.{Row, SessionRow, Report}

-- a row
abbrev pub row_seen : TheRow → Row
row_seen row = record { triggers = row.triggers; scope = row.scope; sent = row.sent }

-- a session row, with the trigger of its Down as a list
abbrev pub session_seen : TheSessionRow → SessionRow
session_seen row = record {
  nbr = row.nbr;
  session = row.session;
  received = row.received;
  down = option_map (λ (t : Trigger). t ∷ []) row.down;
}

-- a report
abbrev pub report_seen : TheReport → Report
report_seen report = record {
  node = report.node;
  epoch = report.epoch;
  rows = map row_seen report.rows;
  sessions = map session_seen report.sessions;
  pending = report.pending;
}

-- reports
abbrev pub reports_seen : List TheReport → List Report
reports_seen reports = map report_seen reports
