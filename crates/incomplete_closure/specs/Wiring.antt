-- The graph of reports. Its vertices are the numbers of the triggers, and one more for triggers without a number. A row
-- is represented by its first trigger: if one of its triggers is blocked, so are the others.
use Rattle.std.specs.Prelude.{ℕ, ◌+◌, ◌==◌, Option, Some, None, List, [], ◌∷◌, ◌++◌, length, replicate, flat_map, if◌then◌else◌}
use Rattle.std.specs.Option.{option_to_list}
use Rattle.topology.specs.declared.names.Trigger.{Trigger}
use Rattle.topology.specs.declared.names.Scope.{Scope}
use Rattle.topology.specs.declared.names.Scope.TheVariants.{One, All, Nothing}
use Rattle.incomplete_closure.specs.declared.cut_rows.Row.{Row}
use Rattle.incomplete_closure.specs.declared.reports.Report.{Report}
use Rattle.incomplete_closure.specs.declared.opening.OpenTrigger.{OpenTrigger}
use Rattle.incomplete_closure.specs.Graphs.{linked}
use Rattle.incomplete_closure.specs.Names.{number_of}

-- the first row of p or of all, among a row with this scope and number and the rows after it
abbrev pub nearest_by : Scope → ℕ → ℕ → Option ℕ → Option ℕ
nearest_by (One q) number p later = if q == p then Some number else later
nearest_by All number p later = Some number
nearest_by Nothing number p later = later

-- the same for a row with these triggers; a row without triggers is left out
abbrev pub nearest_at : List Trigger → List Trigger → Scope → ℕ → Option ℕ → Option ℕ
nearest_at names [] scope p later = later
nearest_at names (t ∷ ts) scope p later = nearest_by scope (number_of names t) p later

-- the number of the first row of p or of all
abbrev pub nearest : List Trigger → ℕ → List Row → Option ℕ
nearest names p [] = None
nearest names p (row ∷ later) = nearest_at names row.triggers row.scope p (nearest names p later)

-- the stretch of a row and of the rows after it: every row up to the first row of all, and that one
abbrev pub stretch_by : Scope → ℕ → List ℕ → List ℕ
stretch_by (One q) number later = later ++ number ∷ []
stretch_by All number later = number ∷ []
stretch_by Nothing number later = later

-- the same for a row with these triggers; a row without triggers is left out
abbrev pub stretch_at : List Trigger → List Trigger → Scope → List ℕ → List ℕ
stretch_at names [] scope later = later
stretch_at names (t ∷ ts) scope later = stretch_by scope (number_of names t) later

-- the numbers of the rows up to the first row of all, and of that row, without rows of no prefix
abbrev pub stretch : List Trigger → List Row → List ℕ
stretch names [] = []
stretch names (row ∷ later) = stretch_at names row.triggers row.scope (stretch names later)

-- the later rows to which a row of this scope leads: a row of one prefix to the next row that shares it, a row of all
-- to the stretch up to the next row of all, a row of no prefix to none
abbrev pub next_rows : List Trigger → Scope → List Row → List ℕ
next_rows names (One p) later = option_to_list (nearest names p later)
next_rows names All later = stretch names later
next_rows names Nothing later = []

-- edges are added from a vertex to each of these
abbrev pub fanned : List (List ℕ) → ℕ → List ℕ → List (List ℕ)
fanned graph from [] = graph
fanned graph from (to ∷ tos) = fanned (linked graph from to) from tos

-- edges are added both ways between the first trigger of a row and each of the others
abbrev pub tied : List Trigger → List (List ℕ) → ℕ → List Trigger → List (List ℕ)
tied names graph first [] = graph
tied names graph first (t ∷ ts) = tied names (linked (linked graph first (number_of names t)) (number_of names t) first) first ts

-- the edges of a row with these triggers, which leads to these rows
abbrev pub wire_row : List Trigger → List (List ℕ) → List Trigger → List ℕ → List (List ℕ)
wire_row names graph [] next = graph
wire_row names graph (t ∷ ts) next = fanned (tied names graph (number_of names t) ts) (number_of names t) next

-- the edges of the rows of a report, the last first
abbrev pub wire_rows : List Trigger → List (List ℕ) → List Row → List (List ℕ)
wire_rows names graph [] = graph
wire_rows names graph (row ∷ later) = wire_row names (wire_rows names graph later) row.triggers (next_rows names row.scope later)

-- the edges of the rows of reports
abbrev pub wire_reports : List Trigger → List (List ℕ) → List Report → List (List ℕ)
wire_reports names graph [] = graph
wire_reports names graph (r ∷ rs) = wire_reports names (wire_rows names graph r.rows) rs

-- an edge from the trigger of the Down to the open one, if there is a Down
abbrev pub wire_down : List Trigger → List (List ℕ) → Option Trigger → Trigger → List (List ℕ)
wire_down names graph None t = graph
wire_down names graph (Some s) t = linked graph (number_of names s) (number_of names t)

-- these edges for all that is open
abbrev pub wire_open : List Trigger → List (List ℕ) → List OpenTrigger → List (List ℕ)
wire_open names graph [] = graph
wire_open names graph (o ∷ os) = wire_open names (wire_down names graph o.down o.trigger) os

-- the open trigger is a root if there is no Down
abbrev pub root_of : List Trigger → Option Trigger → Trigger → List ℕ
root_of names None t = number_of names t ∷ []
root_of names (Some s) t = []

-- the roots of all that is open
abbrev pub roots_of : List Trigger → List OpenTrigger → List ℕ
roots_of names opened = flat_map (λ (o : OpenTrigger). root_of names o.down o.trigger) opened

-- the graph of the rows of reports, over these numbers
unfoldable pub graph_of_rows : List Trigger → List Report → List (List ℕ)
graph_of_rows names reports = wire_reports names (replicate (length names + 1) []) reports
