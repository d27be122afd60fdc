-- Numbers for triggers: a list of different triggers.
use Rattle.std.specs.Prelude.{ℕ, Option, Some, None, List, [], ◌∷◌, ◌++◌, length, position, if◌then◌else◌}
use Rattle.topology.specs.declared.names.Trigger.{Trigger}
use Rattle.topology.specs.Triggers.{same_trigger, lists}
use Rattle.incomplete_closure.specs.declared.cut_rows.Row.{Row}
use Rattle.incomplete_closure.specs.declared.reports.Report.{Report}
use Rattle.incomplete_closure.specs.declared.opening.OpenTrigger.{OpenTrigger}

-- the trigger is added at the end, unless it is there
abbrev pub with_name : List Trigger → Trigger → List Trigger
with_name names t = if lists names t then names else names ++ t ∷ []

-- each trigger of the list is added
abbrev pub with_names : List Trigger → List Trigger → List Trigger
with_names names [] = names
with_names names (t ∷ ts) = with_names (with_name names t) ts

-- each trigger of the rows is added
abbrev pub with_rows : List Trigger → List Row → List Trigger
with_rows names [] = names
with_rows names (row ∷ rows) = with_rows (with_names names row.triggers) rows

-- each trigger of the reports is added
abbrev pub with_reports : List Trigger → List Report → List Trigger
with_reports names [] = names
with_reports names (r ∷ rs) = with_reports (with_rows names r.rows) rs

-- each open trigger is added
abbrev pub with_open : List Trigger → List OpenTrigger → List Trigger
with_open names [] = names
with_open names (o ∷ os) = with_open (with_name names o.trigger) os

-- all triggers that reports, and what is open between them, list
abbrev pub names_of : List Report → List OpenTrigger → List Trigger
names_of reports opened = with_open (with_reports [] reports) opened

-- the place of the trigger
abbrev pub place_of : List Trigger → Trigger → Option ℕ
place_of names t = position (same_trigger t) names

-- the place, or `past` where there is none
abbrev pub place_or : ℕ → Option ℕ → ℕ
place_or past None = past
place_or past (Some i) = i

-- the number of the trigger: its place, or the length of the list if it is not there
abbrev pub number_of : List Trigger → Trigger → ℕ
number_of names t = place_or (length names) (place_of names t)
