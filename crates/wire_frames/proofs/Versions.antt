-- Which updates and reports have a spelling in version 1.
use Rattle.std.proofs.Common.{◌≡◌, ◌≢◌, arith, ◌+◌, ℕ, Bool, true, false, not, ◌&&◌, List, [], ◌∷◌, Some, None, length, refl, sym, ap, ◌∙◌}
use Rattle.std.specs.Prelude.{◌==◌}
use Rattle.std.specs.List.{list_all}
use Rattle.std.proofs.lemmas.Bool.{and_parts, and_from, not-true}
use Rattle.topology.specs.declared.names.Trigger.{Trigger}
use Rattle.topology.specs.declared.items.Sent.{Sent}
use Rattle.topology.specs.declared.limits.TheConstants.{MOST_ENTRIES, MOST_SESSIONS}
use Rattle.incomplete_closure.specs.declared.cut_rows.Row.{Row}
use Rattle.incomplete_closure.specs.declared.reports.Report.{Report as TheReport}
use Rattle.wire_frames.specs.Formats.{many_fit, reached, listed}
use Rattle.wire_frames.specs.Fields.{epoch, node, many, first_of, is_one, is_alone, one_trigger, no_trigger, rising_triggers, trigger, scope, more_items, sent, items, row, rows, session_rows, report}
use Rattle.wire_frames.specs.Listing.{more_triggers, triggers, only_of, has_alone, is_plain_row, is_plain, RowSoFar, begun, listed_items, RowsSoFar, any_report, listed_rows, listed_report}

-- ---- updates

pub one_is_one : (ts : List Trigger) → one_trigger.fits ts ≡ true → is_one ts ≡ true
unfolding one_trigger
one_is_one ts h = (and_parts (is_one ts) (trigger.fits (first_of ts)) h).0

pub several_are_not_one : (ts : List Trigger) → (triggers 2 0).fits ts ≡ true → is_one ts ≡ false
unfolding triggers more_triggers
several_are_not_one [] h = absurd cc
several_are_not_one (t ∷ []) h = absurd cc
several_are_not_one (t ∷ s ∷ ts) h = refl

-- ---- reports

items_alone : (t : Trigger) (xs : List Sent) → many_fit items t xs ≡ true → list_all (λ item. has_alone (Some t) item.triggers) xs ≡ true
unfolding sent
items_alone t [] h = refl
items_alone t (x ∷ xs) h =
    let p = and_parts ((items.at t).fits x) (many_fit items t xs) h in
    and_from (is_alone t x.triggers) (list_all (λ item. has_alone (Some t) item.triggers) xs) (and_parts (is_alone t x.triggers) _ p.0).0 (items_alone t xs p.1)

row_alone : (ts : List Trigger) (xs : List Sent) → is_one ts ≡ true → many_fit items (first_of ts) xs ≡ true → (is_one ts && list_all (λ item. has_alone (only_of ts) item.triggers) xs) ≡ true
row_alone [] xs one fit = absurd cc
row_alone (t ∷ []) xs one fit = items_alone t xs fit
row_alone (t ∷ s ∷ ts) xs one fit = absurd cc

row_plain : (before : ℕ) (r : Row) → (row before).fits r ≡ true → is_plain_row r ≡ true
unfolding row
row_plain before r h =
    let p = and_parts (is_one r.triggers) (trigger.fits (first_of r.triggers) && (scope.fits r.scope && (listed (more_items before) items (first_of r.triggers)).fits r.sent)) h in
    let q = and_parts (trigger.fits (first_of r.triggers)) (scope.fits r.scope && (listed (more_items before) items (first_of r.triggers)).fits r.sent) p.1 in
    let s = and_parts (scope.fits r.scope) ((listed (more_items before) items (first_of r.triggers)).fits r.sent) q.1 in
    row_alone r.triggers r.sent p.0 (and_parts ((more_items before).fits (length r.sent)) (many_fit items (first_of r.triggers) r.sent) s.1).1

rows_plain : (before : ℕ) (rs : List Row) → many_fit rows before rs ≡ true → list_all is_plain_row rs ≡ true
rows_plain before [] h = refl
rows_plain before (r ∷ rs) h =
    let p = and_parts ((row before).fits r) (many_fit rows (before + length r.sent) rs) h in
    and_from (is_plain_row r) (list_all is_plain_row rs) (row_plain before r p.0) (rows_plain (before + length r.sent) rs p.1)

-- what version 1 spells is plain
pub report_is_plain : (r : TheReport) → report.fits r ≡ true → is_plain r ≡ true
unfolding report
report_is_plain r h =
    let lists = (listed (many MOST_ENTRIES) rows 0).fits r.rows && (listed (many MOST_SESSIONS) session_rows (0, 0)).fits r.sessions in
    let p = and_parts (length r.pending == 0) (node.fits r.node && (epoch.fits r.epoch && lists)) h in
    let q = and_parts (node.fits r.node) (epoch.fits r.epoch && lists) p.1 in
    let s = and_parts (epoch.fits r.epoch) lists q.1 in
    let t = and_parts ((listed (many MOST_ENTRIES) rows 0).fits r.rows) ((listed (many MOST_SESSIONS) session_rows (0, 0)).fits r.sessions) s.1 in
    and_from (list_all is_plain_row r.rows) (length r.pending == 0) (rows_plain 0 r.rows (and_parts ((many MOST_ENTRIES).fits (length r.rows)) (many_fit rows 0 r.rows) t.0).1) p.0

-- what version 2 spells is not plain
pub listed_is_not_plain : (r : TheReport) → listed_report.fits r ≡ true → is_plain r ≡ false
unfolding listed_report
listed_is_not_plain r h = not-true (is_plain r) (and_parts (any_report.fits r) (not (is_plain r)) h).1

-- ---- the state after rows

and_grouped : (a b c : Bool) → ((a && b) && c) ≡ (a && (b && c))
and_grouped true b c = refl
and_grouped false b c = refl

pub items_reach : (s : RowSoFar) (xs : List Sent) → (reached listed_items s xs).plain ≡ (s.plain && list_all (λ item. has_alone s.only item.triggers) xs)
items_reach s [] = sym (and_true s.plain)
  where
    and_true : (b : Bool) → (b && true) ≡ b
    and_true true = refl
    and_true false = refl
items_reach s (x ∷ xs) =
    items_reach (listed_items.step s x) xs ∙ and_grouped s.plain (has_alone s.only x.triggers) (list_all (λ item. has_alone s.only item.triggers) xs)

pub rows_reach : (s : RowsSoFar) (rs : List Row) → (reached listed_rows s rs).plain ≡ (s.plain && list_all is_plain_row rs)
rows_reach s [] = sym (and_true s.plain)
  where
    and_true : (b : Bool) → (b && true) ≡ b
    and_true true = refl
    and_true false = refl
rows_reach s (r ∷ rs) =
    rows_reach (listed_rows.step s r) rs
    ∙ ap (λ (b : Bool). (s.plain && b) && list_all is_plain_row rs) (items_reach (begun s.marks r.triggers) r.sent)
    ∙ and_grouped s.plain (is_plain_row r) (list_all is_plain_row rs)

-- ---- the only trigger of a list

pub only_then : (ts : List Trigger) (last : Trigger) → length ts ≡ 1 → reached rising_triggers no_trigger ts ≡ last → Some last ≡ only_of ts
only_then [] last long e = absurd (omega arith)
only_then (t ∷ []) last long e = ap (λ (u : Trigger). Some u) (sym e)
only_then (t ∷ s ∷ ts) last long e = absurd (omega arith)

pub only_else : (ts : List Trigger) (count : ℕ) → length ts ≡ count → count ≢ 1 → None ≡ only_of ts
only_else [] count long other = refl
only_else (t ∷ []) count long other = absurd (other (sym long))
only_else (t ∷ s ∷ ts) count long other = refl
