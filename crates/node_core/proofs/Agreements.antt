-- What a node keeps of agreements and of tables, where it acts and where others do.
use Rattle.std.proofs.Common.{ℕ, ◌<◌, ◌≤◌, false, ◌==◌, List, [], ◌∷◌, map, ◌≡◌, refl, sym, ◌∙◌, ap, ap₂, subst, arith}
use Rattle.std.specs.Prelude.{Option, option_map}
use Rattle.std.specs.List.{AllByRecursion}
use Rattle.std.proofs.lemmas.Bool.Decides.{nat_tests}
use Rattle.topology.specs.Net.{Net}
use Rattle.path_vector.specs.Rules.{Rules}
use Rattle.trigger_log.specs.Dropping.{Trimmed, trimmed}
use Rattle.trigger_log.specs.Entries.{Entry}
use Rattle.epoch_report.specs.Trimming.{trimmed_report}
use Rattle.stable_table.specs.TwoTables.{StandsFor as TablesStandFor}
use Rattle.consolidator.specs.Facts as consolidator
use Rattle.consolidator.specs.Messages.{Reports}
use Rattle.consolidator.specs.Standing.{StandsFor as PartStandsFor}
use Rattle.consolidator.proofs.Beside.{stands_beside, stands_reported}
use Rattle.chronicle.specs.Facts.{Fact, Chronicle, Raise, Mail}
use Rattle.chronicle.specs.Logs.{log_of}
use Rattle.chronicle.specs.Epochs.{epoch, cut}
use Rattle.chronicle.specs.Control.{control}
use Rattle.chronicle.specs.Drops.{dropped_below, table_cut}
use Rattle.chronicle.specs.Publications.{Publication, publications}
use Rattle.chronicle.specs.Steps.{Carried}
use Rattle.chronicle.proofs.Blocks.{same_number}
use Rattle.node_core.specs.declared.agreement.Agreement.{Agreement}
use Rattle.node_core.specs.declared.duties.Duty.{Duty}
use Rattle.node_core.specs.Agreeing.{Agrees, AgreesAs, IsOver, IsByCut}
use Rattle.node_core.specs.Deciding.{MayDo, acted}
use Rattle.node_core.specs.Views.{backups_over, view_of, views}
use Rattle.node_core.proofs.ByActs.{Quiet, acts_keep}

-- ---- tables

-- no epoch of these is above n
abbrev pub AreLow : ℕ → List Publication → Type 0
AreLow n ts = AllByRecursion (λ (t : Publication). t.epoch ≤ n) ts

-- nor above a higher one
pub low_on : (m n : ℕ) (ts : List Publication) → m ≤ n → AreLow m ts → AreLow n ts
low_on m n [] le low = tt
low_on m n (t ∷ ts) le low = (let here : t.epoch ≤ m = low.0 in omega (arith, here, le), low_on m n ts le low.1)

module _ (rules : Rules) (net : Net) (u : ℕ) (past now : Chronicle) where
  -- where the cuts up to n are as they were, so are the tables of these epochs
  same_list : (n : ℕ) → ((e : ℕ) → e ≤ n → table_cut net u e now ≡ table_cut net u e past) → (ts : List Publication) → AreLow n ts → map (view_of rules net u now) ts ≡ map (view_of rules net u past) ts
  same_list n cuts [] low = refl
  same_list n cuts (t ∷ ts) low =
      ap₂ (λ v vs. v ∷ vs) (ap (λ c. record { epoch = t.epoch; value = t.value; paths = t.paths; backups = backups_over rules net u t.value c }) (cuts t.epoch low.0)) (same_list n cuts ts low.1)

  -- where they were made by the cuts, they are
  by_cuts_on : (n : ℕ) → ((e : ℕ) → e ≤ n → table_cut net u e now ≡ table_cut net u e past) → (ts : List Publication) → AreLow n ts → AllByRecursion (IsByCut rules net u past) ts → AllByRecursion (IsByCut rules net u now) ts
  by_cuts_on n cuts [] low by = tt
  by_cuts_on n cuts (t ∷ ts) low by = (subst (IsOver rules net u t) (sym (cuts t.epoch low.0)) by.0, by_cuts_on n cuts ts low.1 by.1)

  -- so are all that u published
  pub same_views : (n : ℕ) → publications u now ≡ publications u past → ((e : ℕ) → e ≤ n → table_cut net u e now ≡ table_cut net u e past) → AreLow n (publications u past) → views rules net u now ≡ views rules net u past
  same_views n same cuts low = ap (map (view_of rules net u now)) same ∙ same_list n cuts (publications u past) low

  -- the tables that are kept are as they were
  pub agrees_on : (old new : Agreement) → new.tables ≡ old.tables → PartStandsFor net new.consolidator (control now) u → publications u now ≡ publications u past → epoch u past ≤ epoch u now
      → ((e : ℕ) → e ≤ epoch u past → table_cut net u e now ≡ table_cut net u e past) → Agrees rules net u old past → Agrees rules net u new now
  agrees_on old new tables part same up cuts was = record {
    part = part;
    tables = subst (TablesStandFor new.tables) (sym (same_views (epoch u past) same cuts was.low)) (subst (λ t. TablesStandFor t (views rules net u past)) (sym tables) was.tables);
    low = subst (AreLow (epoch u now)) (sym same) (low_on (epoch u past) (epoch u now) (publications u past) up was.low);
    by_cuts = subst (AllByRecursion (IsByCut rules net u now)) (sym same) (by_cuts_on (epoch u past) cuts (publications u past) was.low was.by_cuts);
  }

-- ---- acts

module _ (rules : Rules) (net : Net) (u : ℕ) (kept : Agreement) where
  -- a fact that is none of cuts, of agreement or of tables
  quiet_agrees : (f : Fact) (past : Chronicle) → Quiet f → Agrees rules net u kept past → Agrees rules net u kept (f ∷ past)
  quiet_agrees f past quiet was =
      agrees_on rules net u past (f ∷ past) kept kept refl
      (subst (λ g. PartStandsFor net kept.consolidator (g ∷ control past) u) (sym quiet.no_control) (stands_beside net kept.consolidator (control past) u consolidator.Other tt was.part))
      (quiet.no_table u (publications u past))
      (let same = quiet.no_epoch u (epoch u past) in omega (arith, same))
      (λ e low. ap₂ (λ n (o : Option (List Entry)). option_map (trimmed n) o) (quiet.no_drop net u e past) (quiet.no_cut u e (log_of u past) (cut u e past))) was

  -- an epoch that is not above is not the new one
  older_cut : (e d : ℕ) (past : Chronicle) → epoch u past < e → d ≤ epoch u past → cut u d (Raise u e ∷ past) ≡ cut u d past
  older_cut e d past high low =
      let other : (e == d) ≡ false = grind (arith, nat_tests) in
      rw (same_number u, other) refl

  -- the new epoch
  new_epoch : (e : ℕ) (past : Chronicle) → epoch u (Raise u e ∷ past) ≡ e
  new_epoch e past = rw (same_number u) refl

  -- the epoch rises
  raised_agrees : (e : ℕ) (past : Chronicle) → epoch u past < e → Agrees rules net u kept past → Agrees rules net u kept (Raise u e ∷ past)
  raised_agrees e past high was =
      agrees_on rules net u past (Raise u e ∷ past) kept kept refl
      (stands_beside net kept.consolidator (control past) u consolidator.Other tt was.part)
      refl (let is = new_epoch e past in omega (arith, is, high)) (λ d low. ap (option_map (trimmed (dropped_below net u d past))) (older_cut e d past high low)) was

  -- a report is mailed
  reported_agrees : (w e : ℕ) (c : Trimmed) (past : Chronicle) → Agrees rules net u kept past → Agrees rules net u kept (Mail u w (Reports (trimmed_report rules net u e c)) ∷ past)
  reported_agrees w e c past was =
      agrees_on rules net u past (Mail u w (Reports (trimmed_report rules net u e c)) ∷ past) kept kept refl
      (stands_reported net kept.consolidator (control past) u w (trimmed_report rules net u e c) was.part)
      refl (omega arith) (λ d low. refl) was

  -- what the node does of its own accord, or over its links
  pub acted_agrees : (carried : Carried) (past : Chronicle) (act : Duty) → MayDo net u past act → Agrees rules net u kept past → Agrees rules net u kept (acted rules net carried u past act)
  acted_agrees carried past act may was =
      acts_keep rules net u (λ now. Agrees rules net u kept now) (λ now. Agrees rules net u kept now)
      (record { before = quiet_agrees; nothing = λ now is. is; rises = raised_agrees; further = quiet_agrees; reports = reported_agrees })
      carried past act may was

-- the same part, and the same tables
pub agrees_as : (rules : Rules) (net : Net) (u : ℕ) (old new : Agreement) (past : Chronicle) → AgreesAs old new → Agrees rules net u old past → Agrees rules net u new past
agrees_as rules net u old new past same was = record {
  part = subst (λ k. PartStandsFor net k (control past) u) (sym same.part) was.part;
  tables = subst (λ t. TablesStandFor t (views rules net u past)) (sym same.tables) was.tables;
  low = was.low;
  by_cuts = was.by_cuts;
}

-- at the start nothing is kept
pub start_agrees : (rules : Rules) (net : Net) (u : ℕ) (kept : Agreement) → PartStandsFor net kept.consolidator [] u → TablesStandFor kept.tables [] → Agrees rules net u kept []
start_agrees rules net u kept part tables = record { part = part; tables = tables; low = tt; by_cuts = tt }
