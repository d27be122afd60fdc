-- Sets that are closed under what is open and under rows.
use Rattle.std.specs.Prelude.{Bool, true, ◌≡◌, Option, Some, None, List, [], ◌∷◌}
use Rattle.std.specs.List.{list_any, AllByRecursion}
use Rattle.topology.specs.declared.names.Trigger.{Trigger}
use Rattle.topology.specs.Triggers.{Ascend, lists}
use Rattle.topology.specs.Lists.{Among}
use Rattle.incomplete_closure.specs.declared.cut_rows.Row.{Row}
use Rattle.incomplete_closure.specs.declared.reports.Report.{Report}
use Rattle.incomplete_closure.specs.declared.opening.OpenTrigger.{OpenTrigger}
use Rattle.incomplete_closure.specs.Blocked.{shares}

-- there is no Down, or its trigger is in the set
abbrev pub is_due : (Trigger → Bool) → Option Trigger → Bool
is_due inside None = true
is_due inside (Some s) = inside s

-- the set is closed under this open trigger
abbrev pub ClosedAt : (Trigger → Bool) → OpenTrigger → Type 0
ClosedAt inside o = is_due inside o.down ≡ true → inside o.trigger ≡ true

-- all these triggers are in the set
abbrev pub AllInside : (Trigger → Bool) → List Trigger → Type 0
AllInside inside ts = AllByRecursion (λ t. inside t ≡ true) ts

-- if the rows share a prefix, all triggers of the later one are in the set
abbrev pub ClosedFrom : (Trigger → Bool) → Row → Row → Type 0
ClosedFrom inside row next = shares row.scope next.scope ≡ true → AllInside inside next.triggers

-- all triggers of the row, and those of later rows that share a prefix, are in the set
pub record RowClosed (inside : Trigger → Bool) (row : Row) (later : List Row) : Type 0 where
  pub together : AllInside inside row.triggers
  pub order : AllByRecursion (ClosedFrom inside row) later

-- this holds for each row that lists a trigger of the set
abbrev pub ClosedRows : (Trigger → Bool) → List Row → Type 0
ClosedRows inside [] = Unit {0}
ClosedRows inside (row ∷ later) = (list_any inside row.triggers ≡ true → RowClosed inside row later) × ClosedRows inside later

-- the set is closed under what is open and under the rows of these reports
pub record ClosedFor (opened : List OpenTrigger) (reports : List Report) (inside : Trigger → Bool) : Type 0 where
  pub items : AllByRecursion (ClosedAt inside) opened
  pub rows : AllByRecursion (λ (r : Report). ClosedRows inside r.rows) reports

-- the triggers, ascending, are the least such set
pub record IsLeast (opened : List OpenTrigger) (reports : List Report) (collected : List Trigger) : Type 0 where
  pub ascending : Ascend collected
  pub closed : ClosedFor opened reports (lists collected)
  pub least : (inside : Trigger → Bool) → ClosedFor opened reports inside → (t : Trigger) → Among t collected → inside t ≡ true
