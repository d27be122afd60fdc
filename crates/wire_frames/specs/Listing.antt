-- The fields of version 2: lists of triggers, and reports whose rows and items may list any number of them.
use Rattle.std.specs.Prelude.{ℕ, Bool, true, false, not, ◌&&◌, ◌||◌, ◌==◌, ◌+◌, nat_le, List, [], ◌∷◌, length, Option, Some, None, if◌then◌else◌}
use Rattle.std.specs.List.{list_all}
use Rattle.std.specs.Int.{w16, is_in_range}
use Rattle.topology.specs.declared.frame_faults.FrameKind.TheVariants as fault
use Rattle.topology.specs.declared.names.Trigger.{Trigger}
use Rattle.topology.specs.declared.names.Scope.{Scope}
use Rattle.topology.specs.declared.names.Scope.TheVariants.{One, All, Nothing}
use Rattle.topology.specs.declared.items.Sent.{Sent}
use Rattle.topology.specs.declared.items.Pending.{Pending}
use Rattle.topology.specs.declared.limits.TheConstants.{MOST_ENTRIES, MOST_MARKS, MOST_PENDING, MOST_SESSIONS, MOST_TRIGGERS}
use Rattle.incomplete_closure.specs.declared.cut_rows.Row.{Row}
use Rattle.incomplete_closure.specs.declared.session_rows.SessionRow.{SessionRow}
use Rattle.incomplete_closure.specs.declared.reports.Report.{Report}
use Rattle.wire_frames.specs.Formats.{Format, tested, ordered, guarded, pair, led, Meaning, meant, Series, listed, reached}
use Rattle.wire_frames.specs.Fields.{node, prefix, positive, epoch, many, each, scope_number, no_trigger, is_one, is_alone, one_trigger, rising_triggers, more_items, session_rows, above, report}

-- ---- lists of triggers

-- how many triggers a list has: at least `low` and at most 8192; with the lists before it, which have `before`
-- triggers, at most 65536
unfoldable pub more_triggers : ℕ → ℕ → Format ℕ
more_triggers low before = tested w16 (λ n. is_in_range low MOST_TRIGGERS n && nat_le (before + n) MOST_MARKS)

-- triggers in ascending order, at least `low` of them, after lists with `before` triggers in all
unfoldable pub triggers : ℕ → ℕ → Format (List Trigger)
triggers low before = listed (more_triggers low before) rising_triggers no_trigger

-- the triggers of an update: one in version 1, more in version 2
abbrev pub spelled_triggers : List Trigger → List ℕ
spelled_triggers ts = if is_one ts then one_trigger.spells ts else (triggers 2 0).spells ts

-- the list may stand in an update
abbrev pub triggers_fit : List Trigger → Bool
triggers_fit ts = if is_one ts then one_trigger.fits ts else (triggers 2 0).fits ts

-- the version in which an update with this list is spelled
abbrev pub update_version : List Trigger → ℕ
update_version ts = if is_one ts then 1 else 2

-- ---- which reports are spelled in version 1

-- the trigger of a list if it has just one
abbrev pub only_of : List Trigger → Option Trigger
only_of [] = None
only_of (t ∷ []) = Some t
only_of (t ∷ s ∷ ts) = None

-- the list has exactly this trigger
abbrev pub has_alone : Option Trigger → List Trigger → Bool
has_alone None ts = false
has_alone (Some t) ts = is_alone t ts

-- the row lists one trigger, and so does each of its items
abbrev pub is_plain_row : Row → Bool
is_plain_row r = is_one r.triggers && list_all (λ item. has_alone (only_of r.triggers) item.triggers) r.sent

-- each row and its items list the same one trigger, and nothing is pending
abbrev pub is_plain : Report → Bool
is_plain r = list_all is_plain_row r.rows && length r.pending == 0

-- ---- items

-- the state while the items of a row are read: the only trigger of the row, if it has just one; how many triggers are
-- listed so far; and whether the row and its items so far list the same one trigger
pub record RowSoFar : Type 0 where
  pub only : Option Trigger
  pub marks : ℕ
  pub plain : Bool

-- the state before the items of a row with these triggers, after rows that list `before` triggers
abbrev pub begun : ℕ → List Trigger → RowSoFar
begun before ts = record { only = only_of ts; marks = before + length ts; plain = is_one ts }

-- the neighbour, the session, the number and the triggers of an item
abbrev pub item_meaning : Meaning (ℕ × (ℕ × (ℕ × List Trigger))) Sent
item_meaning = record {
  make = λ p. record { to = p.0; session = p.1.0; seq = p.1.1.0; triggers = p.1.1.1 };
  parts = λ item. (item.to, (item.session, (item.seq, item.triggers)));
  only = each;
}

-- an item, after lists with `before` triggers in all
unfoldable pub item : ℕ → Format Sent
item before = meant (pair node (pair positive (pair positive (triggers 1 before)))) item_meaning

-- the state after an item with these triggers
abbrev pub behind_item : RowSoFar → List Trigger → RowSoFar
behind_item s ts = record { only = s.only; marks = s.marks + length ts; plain = s.plain && has_alone s.only ts }

-- the items of a row
abbrev pub listed_items : Series RowSoFar Sent
listed_items = record { at = λ s. item s.marks; step = λ s x. behind_item s x.triggers; spells = (item 0).spells }

-- ---- rows

-- the state while rows are read: how many items they have, how many triggers they and their items list, and whether
-- each row lists one trigger that its items list too
pub record RowsSoFar : Type 0 where
  pub items : ℕ
  pub marks : ℕ
  pub plain : Bool

-- the state before the first row
abbrev pub no_rows : RowsSoFar
no_rows = record { items = 0; marks = 0; plain = true }

-- the number of a scope may stand with no triggers (true), or with some; the scope is Nothing exactly where no trigger
-- is listed
abbrev pub may_stand : Bool → ℕ → Bool
may_stand true n = n == 65534
may_stand false n = nat_le n 255 || n == 65535

-- the scope with this number
abbrev pub scope_of : ℕ → Scope
scope_of n = if n == 65535 then All else if n == 65534 then Nothing else One n

-- the scope has a number of its own: a prefix must be a possible place
abbrev pub is_told : Scope → Bool
is_told (One p) = nat_le p 255
is_told All = true
is_told Nothing = true

-- a scope as its number
abbrev pub any_scope_meaning : Meaning ℕ Scope
any_scope_meaning = record { make = scope_of; parts = scope_number; only = is_told }

-- the scope of a row, with no triggers or with some
unfoldable pub scope_beside : Bool → Format Scope
scope_beside none = meant (tested w16 (may_stand none)) any_scope_meaning

-- the triggers, the scope and the items of an entry
abbrev pub listed_row_meaning : Meaning (List Trigger × (Scope × List Sent)) Row
listed_row_meaning = record {
  make = λ p. record { triggers = p.0; scope = p.1.0; sent = p.1.1 };
  parts = λ r. (r.triggers, (r.scope, r.sent));
  only = each;
}

-- what follows the triggers of a row: its scope and its items
abbrev pub behind_triggers : RowsSoFar → List Trigger → Format (Scope × List Sent)
behind_triggers s ts = pair (scope_beside (length ts == 0)) (listed (more_items s.items) listed_items (begun s.marks ts))

-- an entry of the cut, after these rows
unfoldable pub listed_row : RowsSoFar → Format Row
listed_row s = meant (led (triggers 0 s.marks) (behind_triggers s)) listed_row_meaning

-- the state after a row whose items ended in this state
abbrev pub with_row : RowsSoFar → ℕ → RowSoFar → RowsSoFar
with_row s n row = record { items = s.items + n; marks = row.marks; plain = s.plain && row.plain }

-- the rows of a report
abbrev pub listed_rows : Series RowsSoFar Row
listed_rows = record {
  at = listed_row;
  step = λ s r. with_row s (length r.sent) (reached listed_items (begun s.marks r.triggers) r.sent);
  spells = (listed_row no_rows).spells;
}

-- ---- pending rows

-- the state while pending rows are read: the neighbour and prefix of the last, and how many triggers the report lists
-- so far
pub record PendingSoFar : Type 0 where
  pub last : ℕ × ℕ
  pub marks : ℕ

-- the state before the first pending row, after lists with `before` triggers in all
abbrev pub nothing_pending : ℕ → PendingSoFar
nothing_pending before = record { last = (0, 0); marks = before }

-- the neighbour and the prefix, by which pending rows are ordered
abbrev pub pending_key : Format (ℕ × ℕ)
pending_key = pair node prefix

-- the neighbour, the prefix, the session and the triggers of a pending row
abbrev pub pending_meaning : Meaning ((ℕ × ℕ) × (ℕ × List Trigger)) Pending
pending_meaning = record {
  make = λ p. record { to = p.0.0; prefix = p.0.1; session = p.1.0; triggers = p.1.1 };
  parts = λ row. ((row.to, row.prefix), (row.session, row.triggers));
  only = each;
}

-- a held-back update, after these pending rows
unfoldable pub pending_row : PendingSoFar → Format Pending
pending_row s = meant (pair (ordered pending_key (above s.last)) (pair positive (triggers 1 s.marks))) pending_meaning

-- the state after a pending row with this key and these triggers
abbrev pub behind_pending : PendingSoFar → ℕ × ℕ → List Trigger → PendingSoFar
behind_pending s key ts = record { last = key; marks = s.marks + length ts }

-- the pending rows of a report, ascending
abbrev pub pending_rows : Series PendingSoFar Pending
pending_rows = record {
  at = pending_row;
  step = λ s row. behind_pending s (row.to, row.prefix) row.triggers;
  spells = (pending_row (nothing_pending 0)).spells;
}

-- ---- reports

-- what follows the rows of a report that list `marks` triggers: the session rows and the pending rows
abbrev pub behind_rows : ℕ → Format (List SessionRow × List Pending)
behind_rows marks = pair (listed (many MOST_SESSIONS) session_rows (0, 0)) (listed (many MOST_PENDING) pending_rows (nothing_pending marks))

-- the node, the epoch, the rows, the sessions and the pending rows of a report
abbrev pub listed_report_meaning : Meaning (ℕ × (ℕ × (List Row × (List SessionRow × List Pending)))) Report
listed_report_meaning = record {
  make = λ p. record { node = p.0; epoch = p.1.0; rows = p.1.1.0; sessions = p.1.1.1.0; pending = p.1.1.1.1 };
  parts = λ r. (r.node, (r.epoch, (r.rows, (r.sessions, r.pending))));
  only = each;
}

-- the report of any cut
abbrev pub any_report : Format Report
any_report = meant (pair node (pair epoch (led (listed (many MOST_ENTRIES) listed_rows no_rows) (λ rows. behind_rows (reached listed_rows no_rows rows).marks)))) listed_report_meaning

-- the report of a cut that has no spelling in version 1
unfoldable pub listed_report : Format Report
listed_report = guarded fault.Value any_report (λ r. not (is_plain r))

-- the spelling of a report, in version 1 if it has one there
abbrev pub spelled_report : Report → List ℕ
spelled_report r = if is_plain r then report.spells r else listed_report.spells r

-- the report may stand in a frame
abbrev pub report_fits : Report → Bool
report_fits r = if is_plain r then report.fits r else listed_report.fits r

-- the version of a report's spelling
abbrev pub report_version : Report → ℕ
report_version r = if is_plain r then 1 else 2
