-- How many edges the graph of reports has, how much is open, and how many steps the closure takes.
use Rattle.std.proofs.Common.{ℕ, zero, suc, ◌+◌, ◌-◌, ◌*◌, ◌<◌, ◌≤◌, get_or, drop, true, false, Option, Some, None, List, [], ◌∷◌, length, map, flat_map, replicate, ◌≡◌, refl, ap, arith, if◌then◌else◌, nat_lt}
use Rattle.std.specs.Option.{option_to_list}
use Rattle.std.proofs.lemmas.List.{length-append, length-map, drop_more}
use Rattle.topology.specs.declared.names.Trigger.{Trigger}
use Rattle.topology.specs.declared.names.Scope.{Scope}
use Rattle.topology.specs.declared.names.Scope.TheVariants.{One, All, Nothing}
use Rattle.topology.specs.declared.items.Sent.{Sent}
use Rattle.topology.specs.declared.items.Pending.{Pending}
use Rattle.incomplete_closure.specs.declared.cut_rows.Row.{Row}
use Rattle.incomplete_closure.specs.declared.session_rows.SessionRow.{SessionRow}
use Rattle.incomplete_closure.specs.declared.reports.Report.{Report}
use Rattle.incomplete_closure.specs.declared.opening.OpenTrigger.{OpenTrigger}
use Rattle.incomplete_closure.specs.Opening.{received_of, down_of, with_down, if_open, row_of, of_node, open_at, waiting_at, open_in_row, open_in_rows, waiting_in, open_in_report, open_triggers}
use Rattle.incomplete_closure.specs.Graphs.{linked, edges}
use Rattle.incomplete_closure.specs.Names.{number_of}
use Rattle.incomplete_closure.specs.Wiring.{nearest, stretch, stretch_at, next_rows, fanned, tied, wire_row, wire_rows, wire_reports, wire_down, wire_open, root_of, roots_of, graph_of_rows}
use Rattle.incomplete_closure.specs.Sizes.{triggers_in, carried_by, carried_in, held_in, rows_of, triggers_of, sessions_of, entries_of, carried_of, size_of}

-- ---- edges

linked_edges : (graph : List (List ℕ)) (from to : ℕ) → edges (linked graph from to) ≤ edges graph + 1
unfolding edges
linked_edges [] from to = omega arith
linked_edges (xs ∷ graph) zero to = omega arith
linked_edges (xs ∷ graph) (suc from) to = let more = linked_edges graph from to in omega arith

fanned_edges : (graph : List (List ℕ)) (from : ℕ) (tos : List ℕ) → edges (fanned graph from tos) ≤ edges graph + length tos
fanned_edges graph from [] = omega arith
fanned_edges graph from (to ∷ tos) =
    let one = linked_edges graph from to in
    let more = fanned_edges (linked graph from to) from tos in
    omega arith

tied_edges : (names : List Trigger) (graph : List (List ℕ)) (first : ℕ) (ts : List Trigger) → edges (tied names graph first ts) ≤ edges graph + 2 * length ts
tied_edges names graph first [] = omega arith
tied_edges names graph first (t ∷ ts) =
    let n = number_of names t in
    let one = linked_edges graph first n in
    let two = linked_edges (linked graph first n) n first in
    let more = tied_edges names (linked (linked graph first n) n first) first ts in
    omega arith

one_at_most : (o : Option ℕ) → length (option_to_list o) ≤ 1
one_at_most None = omega arith
one_at_most (Some x) = omega arith

-- the rows that a row leads to and its new stretch together are at most two more than the stretch so far
next_edges : (names ts : List Trigger) (t : Trigger) (scope : Scope) (later : List Row)
    → length (next_rows names scope later) + length (stretch_at names (t ∷ ts) scope (stretch names later)) ≤ length (stretch names later) + 2
next_edges names ts t (One p) later =
    let one = one_at_most (nearest names p later) in
    let two = length-append (stretch names later) (number_of names t ∷ []) in
    omega arith
next_edges names ts t All later = omega arith
next_edges names ts t Nothing later = omega arith

row_edges : (names : List Trigger) (graph : List (List ℕ)) (ts : List Trigger) (scope : Scope) (later : List Row)
    → edges (wire_row names graph ts (next_rows names scope later)) + length (stretch_at names ts scope (stretch names later)) ≤ edges graph + length (stretch names later) + 2 * length ts
row_edges names graph [] scope later = omega arith
row_edges names graph (t ∷ ts) scope later =
    let n = number_of names t in
    let one = tied_edges names graph n ts in
    let two = fanned_edges (tied names graph n ts) n (next_rows names scope later) in
    let next = next_edges names ts t scope later in
    omega arith

rows_edges : (names : List Trigger) (graph : List (List ℕ)) (rows : List Row) → edges (wire_rows names graph rows) + length (stretch names rows) ≤ edges graph + 2 * triggers_in rows
rows_edges names graph [] = omega arith
rows_edges names graph (row ∷ later) =
    let before = rows_edges names graph later in
    let here = row_edges names (wire_rows names graph later) row.triggers row.scope later in
    omega arith

reports_edges : (names : List Trigger) (graph : List (List ℕ)) (rs : List Report) → edges (wire_reports names graph rs) ≤ edges graph + 2 * triggers_of rs
reports_edges names graph [] = omega arith
reports_edges names graph (r ∷ rs) =
    let here = rows_edges names graph r.rows in
    let more = reports_edges names (wire_rows names graph r.rows) rs in
    omega arith

-- each open trigger adds an edge or a root
down_edges : (names : List Trigger) (graph : List (List ℕ)) (d : Option Trigger) (t : Trigger) → edges (wire_down names graph d t) + length (root_of names d t) ≤ edges graph + 1
down_edges names graph None t = omega arith
down_edges names graph (Some s) t = let one = linked_edges graph (number_of names s) (number_of names t) in omega arith

open_edges : (names : List Trigger) (graph : List (List ℕ)) (os : List OpenTrigger) → edges (wire_open names graph os) + length (roots_of names os) ≤ edges graph + length os
open_edges names graph [] = omega arith
open_edges names graph (o ∷ os) =
    let here = down_edges names graph o.down o.trigger in
    let more = open_edges names (wire_down names graph o.down o.trigger) os in
    let both = length-append (root_of names o.down o.trigger) (roots_of names os) in
    omega arith

no_edges : (n : ℕ) → edges (replicate n []) ≡ 0
unfolding edges
no_edges zero = refl
no_edges (suc n) = let more = no_edges n in omega arith

pub graph_edges : (names : List Trigger) (rs : List Report) (os : List OpenTrigger) → length (roots_of names os) + edges (wire_open names (graph_of_rows names rs) os) ≤ 2 * triggers_of rs + length os
unfolding graph_of_rows
graph_edges names rs os =
    let none = no_edges (length names + 1) in
    let rows = reports_edges names (replicate (length names + 1) []) rs in
    let items = open_edges names (graph_of_rows names rs) os in
    omega arith

-- ---- what is open

open_one : (row : Option SessionRow) (item : Sent) → length (if_open row item) ≤ length item.triggers
open_one row item =
    let same = length-map item.triggers (with_down (down_of row)) in
    elim (nat_lt (received_of row) item.seq) as (λ b. length (if b then map (with_down (down_of row)) item.triggers else []) ≤ length item.triggers) [ true ↦ omega arith | false ↦ omega arith ]

open_at_most : (o : Option Report) (v : ℕ) (item : Sent) → length (open_at o v item) ≤ length item.triggers
open_at_most None v item = omega arith
open_at_most (Some r) v item = open_one (row_of r v item.session) item

waiting_at_most : (o : Option Report) (v : ℕ) (row : Pending) → length (waiting_at o v row) ≤ length row.triggers
waiting_at_most None v row = omega arith
waiting_at_most (Some r) v row = let same = length-map row.triggers (with_down (down_of (row_of r v row.session))) in omega arith

in_items : (rs : List Report) (v : ℕ) (sent : List Sent) → length (flat_map (λ (item : Sent). open_at (of_node rs item.to) v item) sent) ≤ carried_by sent
in_items rs v [] = omega arith
in_items rs v (item ∷ sent) =
    let one = open_at_most (of_node rs item.to) v item in
    let more = in_items rs v sent in
    let both = length-append (open_at (of_node rs item.to) v item) (flat_map (λ (item : Sent). open_at (of_node rs item.to) v item) sent) in
    omega arith

in_rows : (rs : List Report) (v : ℕ) (rows : List Row) → length (open_in_rows rs v rows) ≤ carried_in rows
in_rows rs v [] = omega arith
in_rows rs v (row ∷ rows) =
    let one = in_items rs v row.sent in
    let more = in_rows rs v rows in
    let both = length-append (open_in_row rs v row) (open_in_rows rs v rows) in
    omega arith

in_waiting : (rs : List Report) (v : ℕ) (rows : List Pending) → length (waiting_in rs v rows) ≤ held_in rows
in_waiting rs v [] = omega arith
in_waiting rs v (row ∷ rows) =
    let one = waiting_at_most (of_node rs row.to) v row in
    let more = in_waiting rs v rows in
    let both = length-append (waiting_at (of_node rs row.to) v row) (waiting_in rs v rows) in
    omega arith

in_reports : (rs these : List Report) → length (flat_map (open_in_report rs) these) ≤ carried_of these
in_reports rs [] = omega arith
in_reports rs (r ∷ these) =
    let rows = in_rows rs r.node r.rows in
    let waiting = in_waiting rs r.node r.pending in
    let here = length-append (open_in_rows rs r.node r.rows) (waiting_in rs r.node r.pending) in
    let more = in_reports rs these in
    let both = length-append (open_in_report rs r) (flat_map (open_in_report rs) these) in
    omega arith

pub open_at_most_carried : (rs : List Report) → length (open_triggers rs) ≤ carried_of rs
open_at_most_carried rs = in_reports rs rs

-- ---- the steps of rows, the last first

drop_triggers : (rows : List Row) (n : ℕ) → triggers_in (drop n rows) ≤ triggers_in rows
drop_triggers [] zero = omega arith
drop_triggers [] (suc n) = omega arith
drop_triggers (row ∷ rows) zero = omega arith
drop_triggers (row ∷ rows) (suc n) = let more = drop_triggers rows n in omega arith

-- those of one row, and of all behind it
row_triggers : (rows : List Row) (p : ℕ) (row : Row) → p < length rows → row ≡ get_or rows p row → length row.triggers + triggers_in (drop (p + 1) rows) ≤ triggers_in rows
row_triggers rows p row up is =
    let all = drop_triggers rows p in
    let parts = ap triggers_in (drop_more rows p row up) in
    let here = ap (λ (z : Row). length z.triggers) is in
    omega arith

pub most_so_far : (rows : List Row) (q : ℕ) (row : Row) (s t w f : ℕ) → 0 < q → q ≤ length rows → row ≡ get_or rows (q - 1) row → s + q ≤ f + (length rows + triggers_in (drop q rows))
    → t ≡ s + 1 → w ≤ t + length row.triggers → w ≤ f + (length rows + triggers_in rows)
most_so_far rows q row s t w f some within is before one more =
    let back : q - 1 + 1 ≡ q = omega arith in
    let here = row_triggers rows (q - 1) row (omega arith) is in
    let same = ap (λ z. triggers_in (drop z rows)) back in
    omega arith

-- ---- the steps of the whole

-- from the names on: up to the graph, and with the search
pub steps_searched : (names : List Trigger) (rs : List Report) (os : List OpenTrigger) (roots : List ℕ) (graph : List (List ℕ)) (named rows wired searched : ℕ)
    → rows ≤ named + (rows_of rs + triggers_of rs) → wired ≤ rows + length os
    → roots ≡ roots_of names os → graph ≡ wire_open names (graph_of_rows names rs) os → searched ≤ wired + (length roots + edges graph)
    → searched ≤ named + (rows_of rs + 3 * triggers_of rs + 2 * length os)
steps_searched names rs os roots graph named rows wired searched b c is made d =
    let all = graph_edges names rs os in
    let these = ap edges made in
    let those = ap length is in
    omega arith

pub steps_gathered : (rs : List Report) (before after : ℕ) → after ≤ before + (2 * sessions_of rs + (entries_of rs + carried_of rs)) → after ≤ before + 6 * size_of rs
steps_gathered rs before after h = omega arith

pub steps_led : (rs : List Report) (before gathered after : ℕ) (os : List OpenTrigger) → os ≡ open_triggers rs → gathered ≤ before + (2 * sessions_of rs + (entries_of rs + carried_of rs))
    → after ≤ gathered + (2 * rows_of rs + 4 * triggers_of rs + 3 * length os) → after ≤ before + 6 * size_of rs
steps_led rs before gathered after os is h k =
    let few = open_at_most_carried rs in
    let same = ap length is in
    omega arith
