-- The report of a cut fits.
use Rattle.std.proofs.Common.{ℕ, zero, suc, ◌+◌, ◌^◌, ◌<◌, ◌≤◌, Bool, true, false, cond, ◌&&◌, ◌==◌, Option, Some, None, List, [], ◌∷◌, ◌++◌, ◌≡◌, refl, ap, subst, arith, length, drop}
use Rattle.std.specs.Prelude.{nat_le, nat_lt}
use Rattle.std.specs.List.{list_all, list_any}
use Rattle.std.proofs.lemmas.List.{length-append}
use Rattle.std.proofs.lemmas.Grind.{flat_map-append}
use Rattle.topology.specs.declared.items.Sent.{Sent}
use Rattle.topology.specs.declared.names.Trigger.{Trigger}
use Rattle.topology.specs.Lists.{has}
use Rattle.topology.specs.Net.{Net, IsValid, neighbours}
use Rattle.topology.proofs.Tests.{and_left, and_right, and_both, or_left, same_refl}
use Rattle.path_vector.specs.Rules.{Rules}
use Rattle.path_vector.specs.History.{held, opened, ready}
use Rattle.trigger_log.specs.Dropping.{trimmed}
use Rattle.trigger_log.specs.Entries.{Entry, Update, reads, closes}
use Rattle.trigger_log.specs.Fits.{Fits}
use Rattle.trigger_log.specs.Making.{making}
use Rattle.trigger_log.specs.Pending.{pending_rows}
use Rattle.trigger_log.specs.Sending.{close_list, news, next_number, sent_from, updates_sent, close_sent, sent_to, sent_by, sent_of}
use Rattle.trigger_log.proofs.Gathering.{ready_held}
use Rattle.incomplete_closure.specs.Reports.{Row}
use Rattle.consolidator.specs.Messages.{Reports}
use Rattle.epoch_report.specs.Reporting.{entry_row, entry_rows, session_rows}
use Rattle.epoch_report.specs.Trimming.{trimmed_report}
use Rattle.message_fitting.specs.ControlFits.{epoch_fits, scope_fits, listed_fits, marks_of_row, marks_of_rows, pending_fits, report_fits, report_marks, row_fits, row_lists_fit, items_of, rows_are_few, rows_fit, sessions_fit, message_fits}
use Rattle.node_core.specs.Counted.{entry_marks, is_long, is_long_item}
use Rattle.message_fitting.specs.Marks.{item_marks, row_marks}
use Rattle.node_core.specs.Fits.{path_fits}
use Rattle.message_fitting.specs.Names.{is_number, list_fits, triggers_fit}
use Rattle.node_core.specs.NodeLimits.{marks_of}
use Rattle.topology.specs.declared.limits.TheConstants.{MOST_ENTRIES, MOST_MARKS, MOST_TRIGGERS, MOST_UPDATES}
use Rattle.message_fitting.proofs.Totals.{total_append}
use Rattle.admission_laws.specs.Handing.{is_short}
use Rattle.admission_laws.proofs.Each.{each_append, each_flat, among_has, has_among, none_flat, none_last}
use Rattle.admission_laws.proofs.Items.{news_fit, update_fits}
use Rattle.admission_laws.proofs.Listing.{close_known}
use Rattle.admission_laws.proofs.Waiting.{waiting_are}
use Rattle.admission_laws.proofs.Bounds.{number_is, most_is, not_long, short_items, Within, Reportable, within_before, outbox_few, said_few, fewer_before}
use Rattle.admission_laws.proofs.Sessions.{AllFit, first_fits, rest_fits, triggers_of, scope_of, held_number, neighbour_is, sessions_are, sessions_few}

-- an item with these parts fits
sent_is : (net : Net) (w s n : ℕ) (ts : List Trigger) → has net.nodes w ≡ true → is_number s ≡ true → 1 ≤ n → n < 2 ^ 32 → list_fits net ts ≡ true
    → (has net.nodes w && (is_number s && (is_number n && list_fits net ts))) ≡ true
sent_is net w s n ts node session one few lists =
    and_both (has net.nodes w) (is_number s && (is_number n && list_fits net ts)) node
    (and_both (is_number s) (is_number n && list_fits net ts) session (and_both (is_number n) (list_fits net ts) (number_is n one few) lists))

-- items that are made of updates fit, numbered on from n
from_fits : (net : Net) (u w s n : ℕ) (xs : List Update) → has net.nodes w ≡ true → is_number s ≡ true → 1 ≤ n → n + length xs ≤ 2 ^ 32 → list_all (update_fits net u) xs ≡ true
    → list_all (listed_fits net) (sent_from w s n xs) ≡ true
from_fits net u w s n [] node session one few all = refl
from_fits net u w s n (x ∷ xs) node session one few all =
    let it : Sent = record { to = w; session = s; seq = n; triggers = x.triggers } in
    let first = and_left (update_fits net u x) (list_all (update_fits net u) xs) all in
    let lists = and_left (list_fits net x.triggers) (path_fits net u x.path) (and_right (nat_lt x.prefix (length net.prefixes)) (list_fits net x.triggers && path_fits net u x.path) first) in
    and_both (listed_fits net it) (list_all (listed_fits net) (sent_from w s (suc n) xs)) (sent_is net w s n x.triggers node session one (omega arith) lists)
    (from_fits net u w s (suc n) xs node session (omega arith) (omega arith) (and_right (update_fits net u x) (list_all (update_fits net u) xs) all))

-- if all rows pass, those after the first n do
each_left : (test : Row → Bool) (n : ℕ) (rows : List Row) → list_all test rows ≡ true → list_all test (drop n rows) ≡ true
each_left test zero rows all = all
each_left test (suc n) [] all = refl
each_left test (suc n) (r ∷ rows) all = each_left test n rows (and_right (test r) (list_all test rows) all)

-- there are no more rows after the first n than in all
few_left : (n : ℕ) (rows : List Row) → length (drop n rows) ≤ length rows
few_left zero rows = omega arith
few_left (suc n) [] = omega arith
few_left (suc n) (r ∷ rows) = let less = few_left n rows in omega arith

-- the rows after the first n list no more items than all
few_items_left : (n : ℕ) (rows : List Row) → length (items_of (drop n rows)) ≤ length (items_of rows)
few_items_left zero rows = omega arith
few_items_left (suc n) [] = omega arith
few_items_left (suc n) (r ∷ rows) =
    let less = few_items_left n rows in
    let both = length-append r.sent (items_of rows) in
    omega arith

-- the rows after the first n list no more triggers than all
few_marks_left : (n : ℕ) (rows : List Row) → marks_of_rows (drop n rows) ≤ marks_of_rows rows
few_marks_left zero rows = omega arith
few_marks_left (suc n) [] = omega arith
few_marks_left (suc n) (r ∷ rows) = let less = few_marks_left n rows in omega (arith, less)

module _ (rules : Rules) (net : Net) (u : ℕ) (valid : IsValid net) (own : has net.nodes u ≡ true) where
  module _ (k : Entry) (h : List Entry) (all : AllFit net u (k ∷ h)) (fits : Fits (k ∷ h)) (few : Within rules net u (k ∷ h)) where
    -- the updates that an entry lists for w fit
    updates_fit : (w : ℕ) (session : Option ℕ) → has (neighbours net u) w ≡ true → held (k.read ∷ reads h) w ≡ session
        → list_all (listed_fits net) (updates_sent (making rules net u h k) w session) ≡ true
    updates_fit w None near is = refl
    updates_fit w (Some s) near is =
        from_fits net u w s (next_number rules net u h w s) (news rules net u h k w) (neighbour_is net u w valid near) (held_number net u (k ∷ h) w s all is) (omega arith)
        (let most = said_few rules net u valid k h w s fits near is in let limit = few.updates in omega arith)
        (news_fit rules net u valid own k h w s all fits few near is)

    -- the close that an entry lists for w is short
    close_short : (w : ℕ) (session : Option ℕ) → has (neighbours net u) w ≡ true → ready (reads h) w ≡ session → list_any is_long_item (close_sent (making rules net u h k) w session) ≡ false
    unfolding sent_by
    close_short w session near is =
        let here = none_flat is_long_item (sent_to rules net u h k) (neighbours net u) w (short_items rules net u k h few.short) (has_among (neighbours net u) w near) in
        subst (λ o. list_any is_long_item (close_sent (making rules net u h k) w o) ≡ false) is
        (none_last is_long_item (updates_sent (making rules net u h k) w (held (k.read ∷ reads h) w)) (close_sent (making rules net u h k) w (ready (reads h) w)) here)

    -- the close that an entry lists for w fits
    close_fits : (w : ℕ) (session : Option ℕ) → has (neighbours net u) w ≡ true → ready (reads h) w ≡ session → list_all (listed_fits net) (close_sent (making rules net u h k) w session) ≡ true
    close_fits w None near is = refl
    close_fits w (Some s) near is =
        let holds = ready_held (held (reads h) w) (opened (reads h) w) s is in
        let most = outbox_few rules net u valid h w s fits.1 near in
        let less = fewer_before rules net u k h in
        let limit = few.updates in
        let n = next_number rules net u h w s in
        let ts = close_list rules net u h k w in
        let it : Sent = record { to = w; session = s; seq = n; triggers = ts } in
        (elim (closes k.read.cause w s) as (λ b. closes k.read.cause w s ≡ b → list_any is_long_item (cond b (it ∷ []) []) ≡ false → list_all (listed_fits net) (cond b (it ∷ []) []) ≡ true) [
          | true ↦ λ ends short.
              let lists : list_fits net ts ≡ true =
              and_both (nat_le (length ts) MOST_TRIGGERS) (triggers_fit net ts) (not_long ts (or_left (is_long ts) false short)) (close_known rules net u k h w s all fits ends) in
              let one : listed_fits net it ≡ true =
              sent_is net w s n ts (neighbour_is net u w valid near) (held_number net u h w s (rest_fits net u k h all) holds) (omega arith) (omega arith) lists in
              and_both (listed_fits net it) true one refl
          | false ↦ λ ends short. refl
        ]) refl (close_short w (Some s) near is)

    -- all items that the entry lists fit
    entry_lists : list_all (listed_fits net) (sent_by rules net u h k) ≡ true
    unfolding sent_by
    entry_lists =
        each_flat (listed_fits net) (sent_to rules net u h k) (neighbours net u)
        (λ w there. let near = among_has (neighbours net u) w there in
        each_append (listed_fits net) (updates_sent (making rules net u h k) w (held (k.read ∷ reads h) w)) (close_sent (making rules net u h k) w (ready (reads h) w))
        (updates_fit w (held (k.read ∷ reads h) w) near refl) (close_fits w (ready (reads h) w) near refl))

    -- the row of the entry fits
    row_is : row_fits net (entry_row rules net u h k) ≡ true
    row_is =
        let items = sent_by rules net u h k in
        let entry = first_fits net u k h all in
        and_both (row_lists_fit net k.read.scope k.triggers) (scope_fits net k.read.scope && list_all (listed_fits net) items) (triggers_of net u k entry)
        (and_both (scope_fits net k.read.scope) (list_all (listed_fits net) items) (scope_of net u k entry) entry_lists)

  -- the rows of a log fit
  rows_are : (h : List Entry) → AllFit net u h → Fits h → Within rules net u h → list_all (row_fits net) (entry_rows rules net u h) ≡ true
  unfolding entry_rows
  rows_are [] all fits few = refl
  rows_are (k ∷ h) all fits few =
      each_append (row_fits net) (entry_rows rules net u h) (entry_row rules net u h k ∷ []) (rows_are h (rest_fits net u k h all) fits.1 (within_before rules net u k h few))
      (and_both (row_fits net (entry_row rules net u h k)) true (row_is k h all fits few) refl)

  -- a log has as many rows as entries
  rows_count : (h : List Entry) → length (entry_rows rules net u h) ≡ length h
  unfolding entry_rows
  rows_count [] = refl
  rows_count (k ∷ h) =
      let before = rows_count h in
      let both = length-append (entry_rows rules net u h) (entry_row rules net u h k ∷ []) in
      omega arith

  -- the rows of a log list as many items as its entries
  items_count : (h : List Entry) → length (items_of (entry_rows rules net u h)) ≡ length (sent_of rules net u h)
  unfolding entry_rows sent_of
  items_count [] = refl
  items_count (k ∷ h) =
      let before = items_count h in
      let items = sent_by rules net u h k in
      let parts = ap length (flat_map-append (λ (row : Row). row.sent) (entry_rows rules net u h) (entry_row rules net u h k ∷ [])) in
      let both = length-append (items_of (entry_rows rules net u h)) (items ++ []) in
      let none = length-append items [] in
      let all = length-append (sent_of rules net u h) (sent_by rules net u h k) in
      omega arith

  -- the rows of a log list as many triggers as its entries and their items
  marks_count : (h : List Entry) → marks_of_rows (entry_rows rules net u h) ≡ entry_marks h + item_marks (sent_of rules net u h)
  unfolding entry_rows sent_of
  marks_count [] = omega arith
  marks_count (k ∷ h) =
      let before = marks_count h in
      let both = total_append marks_of_row (entry_rows rules net u h) (entry_row rules net u h k ∷ []) in
      let items = total_append (λ (item : Sent). length item.triggers) (sent_of rules net u h) (sent_by rules net u h k) in
      omega (arith, before, both, items)

  -- the report of a cut lists no more triggers than it may
  report_few : (e n : ℕ) (h : List Entry) → Reportable rules net u h → nat_le (report_marks (trimmed_report rules net u e (trimmed n h))) MOST_MARKS ≡ true
  unfolding trimmed_report marks_of
  report_few e n h listed =
      let count = marks_count h in
      let less = few_marks_left n (entry_rows rules net u h) in
      let limit = listed.marks in
      most_is (marks_of_rows (drop n (entry_rows rules net u h)) + row_marks (pending_rows rules net u h)) MOST_MARKS (omega (arith, count, less, limit))

  -- the report of a cut fits as a control message of u
  pub report_is : (e n : ℕ) (h : List Entry) → epoch_fits e ≡ true → AllFit net u h → Fits h → Within rules net u h → Reportable rules net u h
      → message_fits net u (Reports (trimmed_report rules net u e (trimmed n h))) ≡ true
  unfolding trimmed_report
  report_is e n h epoch all fits few listed =
      let rows = drop n (entry_rows rules net u h) in
      let sessions = session_rows net u h in
      let waiting = pending_rows rules net u h in
      let r = trimmed_report rules net u e (trimmed n h) in
      let lists = nat_le (report_marks r) MOST_MARKS in
      and_both (has net.nodes u) (epoch_fits e && (u == u && report_fits net r)) own
      (and_both (epoch_fits e) (u == u && report_fits net r) epoch
      (and_both (u == u) (report_fits net r) (same_refl u)
      (and_both (rows_fit net rows) (sessions_fit net sessions && (pending_fits net waiting && lists))
      (and_both (list_all (row_fits net) rows) (rows_are_few rows) (each_left (row_fits net) n (entry_rows rules net u h) (rows_are h all fits few)) (counted h few))
      (and_both (sessions_fit net sessions) (pending_fits net waiting && lists) (sessions_are net u h valid own all fits few.entries)
      (and_both (pending_fits net waiting) lists (waiting_are rules net u valid own h all fits listed.rows) (report_few e n h listed))))))
    where
      -- a report has no more rows and items than it may
      counted : (l : List Entry) → Within rules net u l → rows_are_few (drop n (entry_rows rules net u l)) ≡ true
      counted l within =
          let rows = drop n (entry_rows rules net u l) in
          let less = few_left n (entry_rows rules net u l) in
          let fewer = few_items_left n (entry_rows rules net u l) in
          and_both (nat_le (length rows) MOST_ENTRIES) (nat_le (length (items_of rows)) MOST_UPDATES)
          (most_is (length rows) MOST_ENTRIES (let count = rows_count l in let limit = within.entries in omega arith))
          (most_is (length (items_of rows)) MOST_UPDATES (let count = items_count l in let limit = within.updates in omega arith))

  -- it has few sessions
  pub report_short : (e n : ℕ) (h : List Entry) → Within rules net u h → is_short (Reports (trimmed_report rules net u e (trimmed n h))) ≡ true
  unfolding trimmed_report
  report_short e n h few = most_is (length (session_rows net u h)) 2112 (let most = sessions_few net u h valid own few.entries in omega arith)
