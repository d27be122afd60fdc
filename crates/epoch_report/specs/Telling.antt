-- Rows of a report, made from the entries and sessions that a log stores.
use Rattle.trigger_log.specs.declared.entries.Entry.{Entry}
use Rattle.trigger_log.specs.declared.sessions.SessionMark.{SessionMark}
use Rattle.incomplete_closure.specs.declared.cut_rows.Row.{Row}
use Rattle.incomplete_closure.specs.declared.session_rows.SessionRow.{SessionRow}

-- the row of an entry
abbrev pub row_told : Entry → Row
row_told entry = record { triggers = entry.triggers; scope = entry.scope; sent = entry.sent }

-- the row of a session
abbrev pub session_told : SessionMark → SessionRow
session_told mark = record { nbr = mark.nbr; session = mark.session; received = mark.received; down = mark.down }
