-- Readings of a run in which every fact fits.
use Rattle.std.proofs.Common.{ℕ, zero, suc, ◌≤◌, Bool, true, false, cond, ◌&&◌, ◌==◌, Option, Some, None, List, [], ◌∷◌, ◌≡◌, refl, arith, length, IfSome, slice_get, option_map, option_and_then}
use Rattle.std.specs.Prelude.{nat_lt, nat_le}
use Rattle.std.specs.List.{list_all}
use Rattle.topology.specs.Lists.{has}
use Rattle.topology.specs.Net.{Net, IsValid}
use Rattle.topology.proofs.Tests.{and_left, and_right, and_both}
use Rattle.path_vector.specs.Rules.{Rules}
use Rattle.trigger_log.specs.Dropping.{trimmed}
use Rattle.trigger_log.specs.Entries.{Entry}
use Rattle.incomplete_closure.specs.declared.values.Value.{Value}
use Rattle.stable_table.specs.Published as tables
use Rattle.chronicle.specs.Facts.{Fact, Chronicle, Log, Raise, Publish}
use Rattle.chronicle.specs.Logs.{log_of, log_by}
use Rattle.chronicle.specs.Epochs.{epoch, epoch_by, cut, cut_by}
use Rattle.chronicle.specs.Drops.{dropped_below}
use Rattle.chronicle.specs.Publications.{Publication, publications, publications_by, epoch_of, newest, path_in, newest_path, backups_over, backups_in, newest_backups, newest_epoch}
use Rattle.message_fitting.specs.ControlFits.{epoch_fits, value_fits}
use Rattle.node_core.specs.Fits.{path_fits}
use Rattle.message_fitting.specs.PacketFits.{carried_fits}
use Rattle.topology.specs.declared.limits.TheConstants.{MOST_EPOCHS}
use Rattle.admission_laws.specs.Handing.{table_fits}
use Rattle.admission_laws.proofs.Facts.{entry_fits, fact_fits, AllFacts}
use Rattle.admission_laws.proofs.Bounds.{most_from}
use Rattle.admission_laws.proofs.Sessions.{AllFit}
use Rattle.admission_laws.proofs.Candidates.{path_carried, backups_carried}

-- an epoch that fits is not above the highest
epoch_few : (e : ℕ) → epoch_fits e ≡ true → e ≤ MOST_EPOCHS
epoch_few e fits = most_from e MOST_EPOCHS (and_right (nat_le 1 e) (nat_le e MOST_EPOCHS) fits)

-- the table of a node fits
abbrev publication_fits : Net → ℕ → Publication → Bool
publication_fits net u t = epoch_fits t.epoch && (value_fits net t.value && table_fits net u t.paths)

module _ (net : Net) (u : ℕ) where
  -- the first fact fits
  pub first_fact : (f : Fact) (past : Chronicle) → AllFacts net u (f ∷ past) → fact_fits net u f ≡ true
  first_fact f past all = and_left (fact_fits net u f) (list_all (fact_fits net u) past) all

  -- if all facts fit, those before the newest do
  pub facts_before : (f : Fact) (past : Chronicle) → AllFacts net u (f ∷ past) → AllFacts net u past
  facts_before f past all = and_right (fact_fits net u f) (list_all (fact_fits net u) past) all

  -- ---- entries and cuts

  -- the entries of u fit, with one more fact that fits
  log_then : (f : Fact) (before : List Entry) → fact_fits net u f ≡ true → AllFit net u before → AllFit net u (log_by u f before)
  log_then (Log w k) before fits all =
      elim (w == u) as (λ t. AllFit net u (cond t (k ∷ before) before)) [
        | true ↦ and_both (entry_fits net u k) (list_all (entry_fits net u) before) (and_right (w == u) (entry_fits net u k) fits) all
        | false ↦ all
      ]
  log_then other before fits all = all

  -- each entry fits
  pub log_fits : (past : Chronicle) → AllFacts net u past → AllFit net u (log_of u past)
  log_fits [] all = refl
  log_fits (f ∷ past) all = log_then f (log_of u past) (first_fact f past all) (log_fits past (facts_before f past all))

  -- the entries of the cut fit, with one more fact that fits
  cut_then : (e : ℕ) (f : Fact) (log : List Entry) (before : Option (List Entry)) → AllFit net u log → IfSome before (AllFit net u) → IfSome (cut_by u e f log before) (AllFit net u)
  cut_then e (Raise w d) log before now is = elim (w == u && d == e) as (λ t. IfSome (cond t (Some log) before) (AllFit net u)) [ true ↦ now | false ↦ is ]
  cut_then e other log before now is = is

  -- if all facts fit, each entry of a cut does
  cut_fits : (e : ℕ) (past : Chronicle) → AllFacts net u past → IfSome (cut u e past) (AllFit net u)
  cut_fits e [] all = tt
  cut_fits e (f ∷ past) all =
      let before = facts_before f past all in
      cut_then e f (log_of u past) (cut u e past) (log_fits past before) (cut_fits e past before)

  -- ---- epochs

  -- the epoch is not above the highest, with one more fact that fits
  epoch_then : (f : Fact) (before : ℕ) → fact_fits net u f ≡ true → before ≤ MOST_EPOCHS → epoch_by u f before ≤ MOST_EPOCHS
  epoch_then (Raise w e) before fits low = elim (w == u) as (λ t. cond t e before ≤ MOST_EPOCHS) [ true ↦ epoch_few e (and_right (w == u) (epoch_fits e) fits) | false ↦ low ]
  epoch_then other before fits low = low

  -- no epoch is above the highest
  pub epoch_low : (past : Chronicle) → AllFacts net u past → epoch u past ≤ MOST_EPOCHS
  epoch_low [] all = omega arith
  epoch_low (f ∷ past) all = epoch_then f (epoch u past) (first_fact f past all) (epoch_low past (facts_before f past all))

  -- ---- tables

  -- the tables of u fit, with one more fact that fits
  tables_then : (f : Fact) (before : List Publication) → fact_fits net u f ≡ true → list_all (publication_fits net u) before ≡ true
      → list_all (publication_fits net u) (publications_by u f before) ≡ true
  tables_then (Publish w e value paths) before fits all =
      let t : Publication = record { epoch = e; value = value; paths = paths } in
      elim (w == u) as (λ b. list_all (publication_fits net u) (cond b (t ∷ before) before) ≡ true) [
        | true ↦ and_both (publication_fits net u t) (list_all (publication_fits net u) before) (and_right (w == u) (publication_fits net u t) fits) all
        | false ↦ all
      ]
  tables_then other before fits all = all

  -- each table fits
  tables_fit : (past : Chronicle) → AllFacts net u past → list_all (publication_fits net u) (publications u past) ≡ true
  tables_fit [] all = refl
  tables_fit (f ∷ past) all = tables_then f (publications u past) (first_fact f past all) (tables_fit past (facts_before f past all))

-- of two elements, the one of the higher epoch passes, if both pass
newer_passes : {A : Type 0} (of : A → ℕ) (p : A → Bool) (t : A) (o : Option A) → p t ≡ true → IfSome o (λ x. p x ≡ true) → p (tables.newer of t o) ≡ true
newer_passes of p t None here later = here
newer_passes of p t (Some x) here later = elim (nat_lt (of t) (of x)) as (λ b. p (cond b x t) ≡ true) [ true ↦ later | false ↦ here ]

-- of a list, the element of the highest epoch passes, if all pass
newest_passes : {A : Type 0} (of : A → ℕ) (p : A → Bool) (ts : List A) → list_all p ts ≡ true → IfSome (tables.newest of ts) (λ x. p x ≡ true)
newest_passes of p [] all = tt
newest_passes of p (t ∷ ts) all =
    newer_passes of p t (tables.newest of ts) (and_left (p t) (list_all p ts) all) (newest_passes of p ts (and_right (p t) (list_all p ts) all))

-- the element at a place passes, if all pass
at_passes : {A : Type 0} (p : A → Bool) (xs : List A) (i : ℕ) → list_all p xs ≡ true → IfSome (slice_get xs i) (λ x. p x ≡ true)
at_passes p [] i all = tt
at_passes p (x ∷ xs) zero all = and_left (p x) (list_all p xs) all
at_passes p (x ∷ xs) (suc i) all = at_passes p xs i (and_right (p x) (list_all p xs) all)

module _ (net : Net) (u : ℕ) (past : Chronicle) (all : AllFacts net u past) where
  -- the newest table fits
  newest_fits : IfSome (newest u past) (λ t. publication_fits net u t ≡ true)
  newest_fits = newest_passes epoch_of (publication_fits net u) (publications u past) (tables_fit net u past all)

  -- the epoch of the newest table is not above the highest
  pub newest_epoch_low : IfSome (newest_epoch u past) (λ e. e ≤ MOST_EPOCHS)
  newest_epoch_low = of_table (newest u past) newest_fits
    where
      -- the epoch of a table that fits is not above the highest
      of_table : (o : Option Publication) → IfSome o (λ t. publication_fits net u t ≡ true) → IfSome (option_map epoch_of o) (λ e. e ≤ MOST_EPOCHS)
      of_table None fits = tt
      of_table (Some t) fits = epoch_few t.epoch (and_left (epoch_fits t.epoch) (value_fits net t.value && table_fits net u t.paths) fits)

  -- the path of the newest table can be carried
  pub newest_path_carried : (p : ℕ) → IsValid net → IfSome (newest_path u p past) (λ path. carried_fits net path ≡ true)
  newest_path_carried p valid = of_table (newest u past) newest_fits
    where
      -- the path at a place of a table can be carried
      of_place : (o : Option (Option (List ℕ))) → IfSome o (λ path. path_fits net u path ≡ true) → IfSome (option_and_then (λ path. path) o) (λ path. carried_fits net path ≡ true)
      of_place None fits = tt
      of_place (Some None) fits = tt
      of_place (Some (Some path)) fits = path_carried net u path valid fits

      -- of the table that there may be
      of_table : (o : Option Publication) → IfSome o (λ t. publication_fits net u t ≡ true) → IfSome (option_and_then (path_in p) o) (λ path. carried_fits net path ≡ true)
      of_table None fits = tt
      of_table (Some t) fits =
          let table = and_right (value_fits net t.value) (table_fits net u t.paths) (and_right (epoch_fits t.epoch) (value_fits net t.value && table_fits net u t.paths) fits) in
          of_place (slice_get t.paths p)
          (at_passes (path_fits net u) t.paths p (and_right (length t.paths == length net.prefixes) (list_all (path_fits net u) t.paths) table))

  -- the backups of the newest table can be carried
  pub newest_backups_carried : (rules : Rules) (p : ℕ) → IsValid net → has net.nodes u ≡ true → list_all (carried_fits net) (newest_backups rules net u p past) ≡ true
  newest_backups_carried rules p valid own = of_table (newest u past)
    where
      -- the backups over a cut of entries that fit can be carried
      of_cut : (value : Value) (n : ℕ) (c : Option (List Entry)) → IfSome c (AllFit net u) → list_all (carried_fits net) (backups_over rules net u p value (option_map (trimmed n) c)) ≡ true
      of_cut value n None fits = refl
      of_cut value n (Some c) fits = backups_carried rules net u valid own value (trimmed n c) p fits

      -- the backups of a table that fits can be carried
      of_table : (o : Option Publication) → list_all (carried_fits net) (backups_in rules net u p past o) ≡ true
      of_table None = refl
      of_table (Some t) = of_cut t.value (dropped_below net u t.epoch past) (cut u t.epoch past) (cut_fits net u t.epoch past all)
