-- Tables from a base: first the state after the dropped entries, then the kept entries that list no incomplete trigger.
use Rattle.std.proofs.Common.{ℕ, ◌≤◌, Bool, true, false, cond, not, ◌&&◌, nat_lt, List, [], ◌∷◌, ◌++◌, length, map, filter, fold, option_and_then, Option, ◌≡◌, refl, sym, ◌∙◌, ap, ap₂, arith}
use Rattle.std.specs.Prelude.{if◌then◌else◌}
use Rattle.std.specs.List.{list_any, AllZip}
use Rattle.std.proofs.lemmas.Bool.Decides.{nat_tests}
use Rattle.std.proofs.lemmas.List.{length-append}
use Rattle.topology.specs.declared.names.Trigger.{Trigger}
use Rattle.topology.specs.Triggers.{lists}
use Rattle.topology.specs.Lists.{has}
use Rattle.topology.specs.Net.{Net, places}
use Rattle.path_vector.specs.Rules.{Rules}
use Rattle.path_vector.specs.History.{History, concerns, concerning}
use Rattle.path_vector.specs.Selection.{Choice, best, path_of}
use Rattle.path_vector.specs.Ranking.{by_rank}
use Rattle.trigger_log.specs.declared.entries.Entry.{Entry as Shown}
use Rattle.trigger_log.specs.Dropping.{Trimmed, trimmed, base_of, kept_of}
use Rattle.trigger_log.proofs.Droppable.{kept_and_base, base_length, base_stays}
use Rattle.trigger_log.proofs.Kept.{entered_on}
use Rattle.trigger_log.proofs.Zips.{fold_append, zip_split}
use Rattle.trigger_log.specs.Entries.{Entry, reads}
use Rattle.trigger_log.specs.Entered.{Shows}
use Rattle.stable_table.specs.Tables.{all_responded, answered, complete, table_path, table, backups, table_of}
use Rattle.incomplete_closure.specs.declared.values.Value.{Value}
use Rattle.stable_table.specs.Trimming.{complete_after, trimmed_complete, trimmed_path, trimmed_table, trimmed_backups, trimmed_table_of}
use Rattle.stable_table.specs.Keeping.{kept_by}
use Rattle.stable_table.proofs.Keeping.{is_kept, reads_kept, kept_same}

-- if all of the base was dropped, the complete entries are those of the later entries on top of those of the base that
-- concern the prefix
pub complete_of_base : (incomplete : Trigger → Bool) (p : ℕ) (newer base : List Entry)
    → complete_after (length base) incomplete p (newer ++ base) ≡ complete incomplete p newer ++ filter (λ (k : Entry). concerns p k.read.scope) base
complete_of_base incomplete p [] base = all_of (length base) base (omega arith)
  where
    all_of : (n : ℕ) (h : List Entry) → length h ≤ n → complete_after n incomplete p h ≡ filter (λ (k : Entry). concerns p k.read.scope) h
    all_of n [] le = refl
    all_of n (k ∷ h) le =
        let yes : nat_lt (length h) n ≡ true = grind (arith, nat_tests, le) in
        rw yes (ap₂ (λ b xs. if b then k ∷ xs else xs) (and_true (concerns p k.read.scope)) (all_of n h (omega (arith, le))))
      where
        and_true : (b : Bool) → (b && true) ≡ b
        and_true true = refl
        and_true false = refl
complete_of_base incomplete p (k ∷ newer) base =
    let before = complete_of_base incomplete p newer base in
    let long = length-append newer base in
    let no : nat_lt (length (newer ++ base)) (length base) ≡ false = grind (arith, nat_tests, long) in
    rw (no, before) (by (concerns p k.read.scope && not (list_any incomplete k.triggers)))
  where
    rest : List Entry
    rest = filter (λ (j : Entry). concerns p j.read.scope) base

    by : (b : Bool) → (if b then k ∷ (complete incomplete p newer ++ rest) else complete incomplete p newer ++ rest) ≡ (if b then k ∷ complete incomplete p newer else complete incomplete p newer) ++ rest
    by true = refl
    by false = refl

-- the same as routing reads it: what is read from the base and from the kept entries, as far as they concern the prefix
pub complete_on_base : (incomplete : List Trigger) (p : ℕ) (newer base : List Entry)
    → reads (complete_after (length base) (lists incomplete) p (newer ++ base)) ≡ concerning p (reads_kept incomplete newer ++ reads base)
complete_on_base incomplete p newer base = ap reads (complete_of_base (lists incomplete) p newer base) ∙ by newer
  where
    of_base : (h : List Entry) → reads (filter (λ (k : Entry). concerns p k.read.scope) h) ≡ concerning p (reads h)
    of_base [] = refl
    of_base (k ∷ h) =
        let before = of_base h in
        elim (concerns p k.read.scope) as (λ b. reads (cond b (k ∷ filter (λ (j : Entry). concerns p j.read.scope) h) (filter (λ (j : Entry). concerns p j.read.scope) h)) ≡ cond b (k.read ∷ concerning p (reads h)) (concerning p (reads h))) [
          | true ↦ ap (λ r. k.read ∷ r) before
          | false ↦ before
        ]

    by : (h : List Entry) → reads (complete (lists incomplete) p h ++ filter (λ (k : Entry). concerns p k.read.scope) base) ≡ concerning p (reads_kept incomplete h ++ reads base)
    by [] = of_base base
    by (k ∷ h) = step (concerns p k.read.scope) (is_kept incomplete k) refl (by h)
      where
        rest : List Entry
        rest = filter (λ (j : Entry). concerns p j.read.scope) base

        step : (a b : Bool) → concerns p k.read.scope ≡ a → reads (complete (lists incomplete) p h ++ rest) ≡ concerning p (reads_kept incomplete h ++ reads base)
            → reads (cond (a && b) (k ∷ complete (lists incomplete) p h) (complete (lists incomplete) p h) ++ rest)
            ≡ concerning p (reads (cond b (k ∷ filter (is_kept incomplete) h) (filter (is_kept incomplete) h)) ++ reads base)
        step true true e before = rw e (ap (λ r. k.read ∷ r) before)
        step true false e before = before
        step false true e before = rw e before
        step false false e before = before

-- what a log dropped is what its cut dropped
pub base_behind : (n : ℕ) (newer entries : List Entry) → n ≤ length entries → base_of (trimmed n (newer ++ entries)) ≡ base_of (trimmed n entries)
base_behind n [] entries within = refl
base_behind n (k ∷ newer) entries within =
    let long = length-append newer entries in
    base_stays n k (newer ++ entries) (omega (arith, within, long)) ∙ base_behind n newer entries within

-- the shown entries after the base, on top of what is read from the base
pub kept_on_base : (rules : Rules) (net : Net) (u : ℕ) (incomplete : List Trigger) (newer base : List Entry) (shown : List Shown) (past : History) → AllZip (Shows rules net u) (entered_on newer base) shown
    → fold (kept_by incomplete) past shown ≡ reads_kept incomplete newer ++ past
kept_on_base rules net u incomplete [] base [] past z = refl
kept_on_base rules net u incomplete [] base (s ∷ shown) past z = absurd z
kept_on_base rules net u incomplete (k ∷ newer) base shown past z =
    let parts = zip_split (Shows rules net u) (entered_on newer base) (record { before = newer ++ base; entry = k } ∷ []) shown z in
    ap (fold (kept_by incomplete) past) (sym parts.2)
    ∙ (fold_append (kept_by incomplete) past parts.0 parts.1
    ∙ (ap (λ before. fold (kept_by incomplete) before parts.1) (kept_on_base rules net u incomplete newer base parts.0 past parts.3) ∙ last parts.1 parts.4))
  where
    last : (bs : List Shown) → AllZip (Shows rules net u) (record { before = newer ++ base; entry = k } ∷ []) bs → fold (kept_by incomplete) (reads_kept incomplete newer ++ past) bs ≡ reads_kept incomplete (k ∷ newer) ++ past
    last [] z = absurd z
    last (b ∷ []) z = kept_same incomplete (reads_kept incomplete newer ++ past) b k z.0.triggers z.0.read ∙ more (is_kept incomplete k)
      where
        more : (t : Bool) → (if t then k.read ∷ (reads_kept incomplete newer ++ past) else reads_kept incomplete newer ++ past) ≡ reads (cond t (k ∷ filter (is_kept incomplete) newer) (filter (is_kept incomplete) newer)) ++ past
        more true = refl
        more false = refl
    last (b ∷ c ∷ bs) z = absurd z.1

-- the complete entries of a log as routing reads them: the kept entries without an incomplete trigger on top of the
-- dropped ones, as far as they concern the prefix
pub trimmed_reads : (value : Value) (p : ℕ) (log : Trimmed) → log.dropped ≤ length log.entries
    → reads (trimmed_complete value p log) ≡ concerning p (reads_kept value.incomplete (kept_of log) ++ reads (base_of log))
trimmed_reads value p log within =
    sym (ap₂ (λ (n : ℕ) (h : List Entry). reads (complete_after n (lists value.incomplete) p h)) (base_length log within) (kept_and_base log))
    ∙ complete_on_base value.incomplete p (kept_of log) (base_of log)

-- where nothing was dropped, the complete entries are those that list no incomplete trigger
whole_complete : (incomplete : Trigger → Bool) (p : ℕ) (h : List Entry) → complete_after 0 incomplete p h ≡ complete incomplete p h
whole_complete incomplete p [] = refl
whole_complete incomplete p (k ∷ h) =
    let none : nat_lt (length h) 0 ≡ false = grind (arith, nat_tests) in
    rw none (ap (λ ks. if concerns p k.read.scope && not (list_any incomplete k.triggers) then k ∷ ks else ks) (whole_complete incomplete p h))

path_of_whole : (rules : Rules) (net : Net) (u : ℕ) (value : Value) (h : List Entry) (p : ℕ) → trimmed_path rules net u value (trimmed 0 h) p ≡ table_path rules net u value h p
unfolding trimmed_path table_path
path_of_whole rules net u value h p = ap (λ (ks : List Entry). option_and_then (answered value u) (path_of u (best rules net u (reads ks) p))) (whole_complete (lists value.incomplete) p h)

backups_of_whole : (rules : Rules) (net : Net) (u : ℕ) (value : Value) (h : List Entry) (p : ℕ) → trimmed_backups rules net u value (trimmed 0 h) p ≡ backups rules net u value h p
unfolding trimmed_backups backups
backups_of_whole rules net u value h p =
    ap (λ (ks : List Entry). if has value.responding u then filter (all_responded value) (map (λ (c : Choice). c.path) (by_rank rules net u (reads ks) p)) else []) (whole_complete (lists value.incomplete) p h)

-- the table, too
pub whole_table : (rules : Rules) (net : Net) (u epoch : ℕ) (value : Value) (h : List Entry) → trimmed_table_of rules net u epoch value (trimmed 0 h) ≡ table_of rules net u epoch value h
unfolding trimmed_table table
whole_table rules net u epoch value h =
    ap₂ (λ (paths : List (Option (List ℕ))) (backups : List (List (List ℕ))). record { epoch = epoch; value = value; paths = paths; backups = backups })
    (map_same paths_same (places net)) (map_same backups_same (places net))
  where
    map_same : {A : Type 0} {f g : ℕ → A} → ((p : ℕ) → f p ≡ g p) → (ps : List ℕ) → map f ps ≡ map g ps
    map_same same [] = refl
    map_same same (p ∷ ps) = ap₂ (λ a l. a ∷ l) (same p) (map_same same ps)

    paths_same : (p : ℕ) → trimmed_path rules net u value (trimmed 0 h) p ≡ table_path rules net u value h p
    paths_same p = path_of_whole rules net u value h p

    backups_same : (p : ℕ) → trimmed_backups rules net u value (trimmed 0 h) p ≡ backups rules net u value h p
    backups_same p = backups_of_whole rules net u value h p
