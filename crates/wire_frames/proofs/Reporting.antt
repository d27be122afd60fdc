-- A report of version 2 that is skipped field by field.
use Rattle.std.proofs.Common.{◌≡◌, ℕ, Bool, true, false, ◌&&◌, List, length, Ok, Err, refl, sym, ap, ap₂, ◌∙◌}
use Rattle.std.specs.Prelude.{◌==◌}
use Rattle.topology.specs.declared.frame_faults.FrameKind.TheVariants as fault
use Rattle.topology.specs.declared.items.Pending.{Pending}
use Rattle.topology.specs.declared.limits.TheConstants.{MOST_ENTRIES, MOST_PENDING, MOST_SESSIONS}
use Rattle.incomplete_closure.specs.declared.cut_rows.Row.{Row}
use Rattle.incomplete_closure.specs.declared.session_rows.SessionRow.{SessionRow}
use Rattle.incomplete_closure.specs.declared.reports.Report.{Report as TheReport}
use Rattle.wire_frames.specs.Formats.{listed, reached}
use Rattle.wire_frames.specs.Fields.{node, epoch, many, session_rows}
use Rattle.wire_frames.specs.Listing.{is_plain, RowsSoFar, no_rows, listed_rows, pending_rows, nothing_pending, any_report, listed_report}
use Rattle.wire_frames.proofs.Versions.{rows_reach}

-- a report of these parts
abbrev pub report_made : ℕ → ℕ → List Row → List SessionRow → List Pending → TheReport
report_made n e rows sessions pending = record { node = n; epoch = e; rows = rows; sessions = sessions; pending = pending }

-- the fields that were read, one after another
pub parts_read : (n e : ℕ) (rows : List Row) (sessions : List SessionRow) (pending : List Pending) (b0 b1 b2 b3 b4 b5 : List ℕ) → node.reads b0 ≡ Ok (n, b1) → epoch.reads b1 ≡ Ok (e, b2)
    → (listed (many MOST_ENTRIES) listed_rows no_rows).reads b2 ≡ Ok (rows, b3) → (listed (many MOST_SESSIONS) session_rows (0, 0)).reads b3 ≡ Ok (sessions, b4)
    → (listed (many MOST_PENDING) pending_rows (nothing_pending (reached listed_rows no_rows rows).marks)).reads b4 ≡ Ok (pending, b5)
    → any_report.reads b0 ≡ Ok (report_made n e rows sessions pending, b5)
parts_read n e rows sessions pending b0 b1 b2 b3 b4 b5 h0 h1 h2 h3 h4 = rw (h0, h1, h2, h3, h4) refl

-- whether a report of these parts is plain follows from the state after its rows
pub plain_is : (n e : ℕ) (rows : List Row) (sessions : List SessionRow) (pending : List Pending) (s : RowsSoFar) (count : ℕ) → s ≡ reached listed_rows no_rows rows → count ≡ length pending
    → is_plain (report_made n e rows sessions pending) ≡ (s.plain && count == 0)
plain_is n e rows sessions pending s count is long =
    ap₂ (λ (b : Bool) (k : ℕ). b && k == 0) (sym (rows_reach no_rows rows) ∙ sym (ap (λ (t : RowsSoFar). t.plain) is)) (sym long)

pub plain_refused : (r : TheReport) (b0 b5 : List ℕ) → any_report.reads b0 ≡ Ok (r, b5) → is_plain r ≡ true → listed_report.reads b0 ≡ Err fault.Value
unfolding listed_report
plain_refused r b0 b5 read plain = rw (read, plain) refl

pub other_passes : (r : TheReport) (b0 b5 : List ℕ) → any_report.reads b0 ≡ Ok (r, b5) → is_plain r ≡ false → listed_report.reads b0 ≡ Ok (r, b5)
unfolding listed_report
other_passes r b0 b5 read plain = rw (read, plain) refl
