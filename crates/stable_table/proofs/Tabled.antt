-- The rows of all prefixes form the table, over the kept entries of the cut on top of the dropped ones.
use Rattle.std.proofs.Common.{ℕ, ◌+◌, ◌-◌, ◌≤◌, false, Option, List, [], ◌∷◌, ◌++◌, length, length-append, drop, take, ◌≡◌, refl, sym, ◌∙◌, ap, ap₂, subst, arith, map, filter, filter_map, fold, option_and_then}
use Rattle.std.specs.Prelude.{if◌then◌else◌}
use Rattle.std.specs.List.{AllZip, cons_option, list_any, range_with_len}
use Rattle.std.proofs.lemmas.List.FromFn.{map-range_with_len_more}
use Rattle.topology.specs.declared.names.Trigger.{Trigger}
use Rattle.topology.specs.Lists.{has}
use Rattle.topology.specs.Triggers.{lists}
use Rattle.topology.specs.Net.{Net, neighbours, places, file_preference}
use Rattle.path_vector.specs.Rules.{Rules}
use Rattle.path_vector.specs.History.{History, Scoped, concerning}
use Rattle.path_vector.specs.Parts.{Accepted}
use Rattle.path_vector.specs.Selection.{Choice, Route, best, choice, choices, path_of}
use Rattle.path_vector.specs.Ranking.{put_choice, by_rank}
use Rattle.path_vector.proofs.Local.{best_local, candidate_local, preference_local}
use Rattle.trigger_log.specs.declared.entries.Entry.{Entry as Shown}
use Rattle.trigger_log.specs.Entries.{Entry, reads}
use Rattle.trigger_log.specs.Fits.{Fits}
use Rattle.trigger_log.specs.Entered.{all_entered, Shows}
use Rattle.trigger_log.specs.Dropping.{Trimmed, trimmed, base_of, kept_of}
use Rattle.trigger_log.specs.KeptEntries.{taken}
use Rattle.trigger_log.proofs.Droppable.{kept_and_base, base_length}
use Rattle.trigger_log.proofs.Kept.{entered_on, first_shown, reads_parts, taken_all}
use Rattle.trigger_log.proofs.Zips.{zip_push}
use Rattle.incomplete_closure.specs.declared.values.Value.{Value}
use Rattle.stable_table.specs.declared.rows.Row.{Row}
use Rattle.stable_table.specs.Keeping.{kept_by}
use Rattle.stable_table.specs.Rows.{RowView, IsRow, prefix_row}
use Rattle.stable_table.specs.Tables.{View, all_responded, answered}
use Rattle.stable_table.specs.Trimming.{ShowsTable, trimmed_complete, trimmed_path, trimmed_table, trimmed_backups, trimmed_table_of}
use Rattle.stable_table.proofs.Based.{kept_on_base, trimmed_reads}
use Rattle.stable_table.proofs.Keeping.{all_kept, reads_kept, kept_accepted, scoped_of}

-- ---- one more row

map_same : (xs : List ℕ) → map (λ x. x) xs ≡ xs
map_same [] = refl
map_same (x ∷ xs) = ap (λ l. x ∷ l) (map_same xs)

range_more : (n : ℕ) → range_with_len 0 (n + 1) ≡ range_with_len 0 n ++ n ∷ []
range_more n =
    sym (map_same (range_with_len 0 (n + 1))) ∙ (map-range_with_len_more (λ x. x) 0 n n (omega arith) ∙ ap (λ l. l ++ n ∷ []) (map_same (range_with_len 0 n)))

pub rows_more : (P : ℕ → Row → Type 0) (rows : List Row) (n : ℕ) (row : Row) → AllZip P (range_with_len 0 n) rows → P n row → AllZip P (range_with_len 0 (n + 1)) (rows ++ row ∷ [])
rows_more P rows n row all here = subst (λ l. AllZip P l (rows ++ row ∷ [])) (sym (range_more n)) (zip_push P (range_with_len 0 n) rows n row all here)

-- ---- what is read for a prefix depends only on the entries that concern it

filter_map_same : (f g : ℕ → Option Choice) → ((v : ℕ) → f v ≡ g v) → (vs : List ℕ) → filter_map f vs ≡ filter_map g vs
filter_map_same f g same [] = refl
filter_map_same f g same (v ∷ vs) = ap₂ (λ o l. cons_option o l) (same v) (filter_map_same f g same vs)

choice_local : (net : Net) (u p v : ℕ) (h : History) → Scoped h → choice net u (concerning p h) p v ≡ choice net u h p v
choice_local net u p v h s = rw (candidate_local u p v h s, preference_local (file_preference net u v) p v h s) refl

by_rank_local : (rules : Rules) (net : Net) (u p : ℕ) (h : History) → Scoped h → by_rank rules net u (concerning p h) p ≡ by_rank rules net u h p
unfolding by_rank choices
by_rank_local rules net u p h s =
    ap (λ (cs : List Choice). fold (λ sorted c. put_choice rules.before c sorted) [] cs)
    (filter_map_same (choice net u (concerning p h) p) (choice net u h p) (λ v. choice_local net u p v h s) (neighbours net u))

-- ---- the table

zip_same : {A B C : Type 0} (R : A → B → Type 0) (f : A → C) (g : B → C) → ((x : A) (y : B) → R x y → g y ≡ f x) → (xs : List A) (ys : List B) → AllZip R xs ys → map g ys ≡ map f xs
zip_same R f g same [] [] z = refl
zip_same R f g same [] (y ∷ ys) z = absurd z
zip_same R f g same (x ∷ xs) [] z = absurd z
zip_same R f g same (x ∷ xs) (y ∷ ys) z = ap₂ (λ a b. a ∷ b) (same x y z.0) (zip_same R f g same xs ys z.1)

made : ℕ → Value → List (Option (List ℕ)) → List (List (List ℕ)) → View
made epoch value paths backups = record { epoch = epoch; value = value; paths = paths; backups = backups }

-- what routing reads of the entries that are kept and list no incomplete trigger, on top of those that were dropped
abbrev pub kept_reads : Value → Trimmed → History
kept_reads value log = reads_kept value.incomplete (kept_of log) ++ reads (base_of log)

-- the row of p over them
abbrev pub kept_row : Rules → Net → ℕ → Value → Trimmed → ℕ → RowView
kept_row rules net u value log p = prefix_row rules net u value (kept_reads value log) p

pub reads_accepted : (value : Value) (log : Trimmed) → Fits log.entries → Accepted (kept_reads value log)
reads_accepted value log fits = kept_accepted value.incomplete (kept_of log) (base_of log) (subst Fits (sym (kept_and_base log)) fits)

module _ (rules : Rules) (net : Net) (u : ℕ) (value : Value) (log : Trimmed) (within : log.dropped ≤ length log.entries) (fits : Fits log.entries) where
  scoped : Scoped (kept_reads value log)
  scoped = scoped_of (kept_reads value log) (reads_accepted value log fits)

  best_is : (p : ℕ) → best rules net u (kept_reads value log) p ≡ best rules net u (reads (trimmed_complete value p log)) p
  best_is p = sym (ap (λ h. best rules net u h p) (trimmed_reads value p log within) ∙ best_local rules net u p (kept_reads value log) scoped)

  ranks_are : (p : ℕ) → by_rank rules net u (kept_reads value log) p ≡ by_rank rules net u (reads (trimmed_complete value p log)) p
  ranks_are p = sym (ap (λ h. by_rank rules net u h p) (trimmed_reads value p log within) ∙ by_rank_local rules net u p (kept_reads value log) scoped)

  path_is : (p : ℕ) (row : Row) → IsRow (kept_row rules net u value log p) row → row.path ≡ trimmed_path rules net u value log p
  unfolding trimmed_path
  path_is p row r = r.path ∙ ap (λ (b : Route). option_and_then (answered value u) (path_of u b)) (best_is p)

  backups_is : (p : ℕ) (row : Row) → IsRow (kept_row rules net u value log p) row → row.backups.items ≡ trimmed_backups rules net u value log p
  unfolding trimmed_backups
  backups_is p row r = r.backups ∙ ap (λ (cs : List Choice). if has value.responding u then filter (all_responded value) (map (λ (c : Choice). c.path) cs) else []) (ranks_are p)

  pub shows_table : (rows : List Row) → AllZip (λ p. IsRow (kept_row rules net u value log p)) (places net) rows → ShowsTable rules net u value log rows
  unfolding trimmed_table
  shows_table rows z = record {
    paths = zip_same (λ p. IsRow (kept_row rules net u value log p)) (trimmed_path rules net u value log) (λ (r : Row). r.path) path_is (places net) rows z;
    backups = zip_same (λ p. IsRow (kept_row rules net u value log p)) (trimmed_backups rules net u value log) (λ (r : Row). r.backups.items) backups_is (places net) rows z;
  }

pub table_is : (rules : Rules) (net : Net) (u epoch : ℕ) (value copied : Value) (log : Trimmed) (rows : List Row) → copied ≡ value → ShowsTable rules net u value log rows
    → record { epoch = epoch; value = copied; paths = map (λ (r : Row). r.path) rows; backups = map (λ (r : Row). r.backups.items) rows } ≡ trimmed_table_of rules net u epoch value log
unfolding made
table_is rules net u epoch value copied log rows same shows =
    ap (λ v. made epoch v (map (λ (r : Row). r.path) rows) (map (λ (r : Row). r.backups.items) rows)) same
    ∙ ap₂ (made epoch value) shows.paths shows.backups

-- ---- what is shown of a cut

-- the entries of the cut that are kept stand first in what the log keeps
pub cut_shown : (rules : Rules) (net : Net) (u n cut : ℕ) (newer entries : List Entry) (all : List Shown) → AllZip (Shows rules net u) (drop n (all_entered (newer ++ entries))) all → cut ≡ length entries → n ≤ cut
    → AllZip (Shows rules net u) (entered_on (kept_of (trimmed n entries)) (base_of (trimmed n entries))) (take (cut - n) all)
cut_shown rules net u n cut newer entries all z is within =
    let log = trimmed n entries in
    let mid = kept_of log in
    let base = base_of log in
    let short : n ≤ length entries = omega (arith, is, within) in
    let halves : mid ++ base ≡ entries = kept_and_base log in
    let size : length base ≡ n = base_length log short in
    let total : length (mid ++ base) ≡ length entries = ap length halves in
    let parts = length-append mid base in
    let first : cut - n ≡ length mid = omega (arith, is, size, total, parts) in
    subst (λ m. AllZip (Shows rules net u) (entered_on mid base) (take m all)) (sym first)
    (first_shown rules net u newer mid base all
    (subst (λ l. AllZip (Shows rules net u) l all) (ap₂ (λ m h. drop m (all_entered (newer ++ h))) (sym size) (sym halves)) z))

module _ (rules : Rules) (net : Net) (u n cut : ℕ) (value : Value) (newer entries : List Entry) (incomplete : List Trigger) (all shown : List Shown)
    (z : AllZip (Shows rules net u) (drop n (all_entered (newer ++ entries))) all) (first : shown ≡ take (cut - n) all) (is : cut ≡ length entries) (within : n ≤ cut) (same : incomplete ≡ value.incomplete) where
  -- what routing reads from the kept entries of the cut, after the base
  pub cut_kept : fold (kept_by incomplete) (reads (base_of (trimmed n entries))) shown ≡ kept_reads value (trimmed n entries)
  cut_kept =
      ap₂ (λ (i : List Trigger) (s : List Shown). fold (kept_by i) (reads (base_of (trimmed n entries))) s) same first
      ∙ kept_on_base rules net u value.incomplete (kept_of (trimmed n entries)) (base_of (trimmed n entries)) (take (cut - n) all) (reads (base_of (trimmed n entries))) (cut_shown rules net u n cut newer entries all z is within)

  -- if no kept entry of the cut lists an incomplete trigger, this is what routing reads from the whole cut
  pub cut_whole : list_any (λ (e : Shown). list_any (lists incomplete) e.triggers) shown ≡ false → kept_reads value (trimmed n entries) ≡ reads entries
  cut_whole none =
      sym cut_kept
      ∙ (all_kept incomplete (reads (base_of (trimmed n entries))) shown none
      ∙ (ap (fold taken (reads (base_of (trimmed n entries)))) first
      ∙ (taken_all rules net u (kept_of (trimmed n entries)) (base_of (trimmed n entries)) (take (cut - n) all) (reads (base_of (trimmed n entries))) (cut_shown rules net u n cut newer entries all z is within)
      ∙ (reads_parts (kept_of (trimmed n entries)) (base_of (trimmed n entries)) ∙ ap reads (kept_and_base (trimmed n entries))))))

-- a cut that is as long as the log is the log
pub no_newer : (newer entries : List Entry) (cut count : ℕ) → cut ≡ length entries → count ≡ length (newer ++ entries) → cut ≡ count → newer ≡ []
no_newer [] entries cut count is all same = refl
no_newer (k ∷ newer) entries cut count is all same =
    let long = length-append newer entries in
    absurd (omega (arith, is, all, long, same))
