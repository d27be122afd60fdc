-- If each receiver of what is open has closed the session, no trigger is incomplete.
use Rattle.std.proofs.Common.{true, false, Bool, Option, Some, None, List, [], ◌∷◌, ◌≡◌, refl, sym, ◌∙◌}
use Rattle.std.specs.Prelude.{is_none}
use Rattle.std.specs.List.{AllByRecursion, list_any}
use Rattle.topology.specs.declared.names.Trigger.{Trigger}
use Rattle.topology.specs.Triggers.{lists}
use Rattle.topology.proofs.Tests.{or_left, or_right}
use Rattle.incomplete_closure.specs.declared.cut_rows.Row.{Row}
use Rattle.incomplete_closure.specs.declared.reports.Report.{Report}
use Rattle.incomplete_closure.specs.declared.opening.OpenTrigger.{OpenTrigger}
use Rattle.incomplete_closure.specs.Opening.{is_start}
use Rattle.incomplete_closure.specs.Closed.{is_due, ClosedAt, ClosedRows, IsLeast}

-- an open trigger whose session is closed blocks nothing by itself
open_closed : (opened : List OpenTrigger) → list_any is_start opened ≡ false → AllByRecursion (ClosedAt (lists [])) opened
open_closed [] none = tt
open_closed (o ∷ opened) none = (not_due o.down (or_left (is_start o) (list_any is_start opened) none), open_closed opened (or_right (is_start o) (list_any is_start opened) none))
  where
    not_due : (down : Option Trigger) → is_none down ≡ false → is_due (lists []) down ≡ true → lists [] o.trigger ≡ true
    not_due None off due = absurd (cc off)
    not_due (Some s) off due = absurd (cc due)

-- nor does a row without a blocked trigger
none_listed : (ts : List Trigger) → list_any (lists []) ts ≡ false
none_listed [] = refl
none_listed (t ∷ ts) = none_listed ts

differ : {b : Bool} {P : Type 0} → b ≡ true → b ≡ false → P
differ e f = absurd (cc (sym e ∙ f))

rows_closed : (rows : List Row) → ClosedRows (lists []) rows
rows_closed [] = tt
rows_closed (row ∷ later) = (λ some. differ some (none_listed row.triggers), rows_closed later)

reports_closed : (reports : List Report) → AllByRecursion (λ (r : Report). ClosedRows (lists []) r.rows) reports
reports_closed [] = tt
reports_closed (r ∷ reports) = (rows_closed r.rows, reports_closed reports)

-- so the least closed set is empty
pub none_least : (opened : List OpenTrigger) (reports : List Report) → list_any is_start opened ≡ false → IsLeast opened reports []
none_least opened reports none = record {
  ascending = tt;
  closed = record { items = open_closed opened none; rows = reports_closed reports };
  least = λ inside closed t there. absurd there;
}
