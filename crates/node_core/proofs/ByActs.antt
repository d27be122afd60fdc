-- What each act of a node keeps, fact by fact.
use Rattle.std.proofs.Common.{ℕ, ◌<◌, Bool, true, false, Option, Some, None, List, [], ◌∷◌, map, ◌≡◌, refl, arith, nat_lt}
use Rattle.std.specs.Prelude.{if◌then◌else◌}
use Rattle.std.proofs.lemmas.Bool.Decides.{nat_tests}
use Rattle.topology.specs.Lists.{ascending}
use Rattle.topology.specs.Net.{Net}
use Rattle.topology.specs.declared.names.Scope.TheVariants.{All}
use Rattle.path_vector.specs.declared.causes.Cause.TheVariants.{Ready, Up}
use Rattle.path_vector.specs.Rules.{Rules}
use Rattle.path_vector.specs.History.{ready}
use Rattle.trigger_log.specs.Entries.{Entry, flush, local, reads}
use Rattle.trigger_log.specs.Going.{Item, News, Marker, Hello, Going, going_by, item_of}
use Rattle.trigger_log.specs.Dropping.{Trimmed}
use Rattle.epoch_report.specs.Trimming.{trimmed_report}
use Rattle.consolidator.specs.Facts as agreement
use Rattle.consolidator.specs.Messages.{Reports}
use Rattle.chronicle.specs.Facts.{Fact, Chronicle, Log, Sent, Took, Raise, Mail, happen}
use Rattle.chronicle.specs.Logs.{log_of}
use Rattle.chronicle.specs.Epochs.{epoch, epoch_by, raised_by, cut_by}
use Rattle.chronicle.specs.Control.{control_by}
use Rattle.chronicle.specs.Drops.{dropped_below, kept_log}
use Rattle.chronicle.specs.Publications.{Publication, publications_by}
use Rattle.chronicle.specs.Inputs.{arrival}
use Rattle.chronicle.specs.Steps.{Carried, sends, mails, write, open_session, markers, take_cut, raise, meet_mark, heard, unless_ready, take_item}
use Rattle.node_core.specs.declared.duties.Duty.{Duty}
use Rattle.node_core.specs.declared.duties.Duty.TheVariants.{Enter, Open, Take, Flush, Rise}
use Rattle.node_core.specs.Deciding.{MayDo, acted}

-- a fact that is none of a cut, of agreement or of a table
pub record Quiet (f : Fact) : Type 0 where
  pub no_control : control_by f ≡ agreement.Other
  pub no_epoch : (u before : ℕ) → epoch_by u f before ≡ before
  pub no_raise : (u : ℕ) (before : List ℕ) → raised_by u f before ≡ before
  pub no_cut : (u e : ℕ) (entries : List Entry) (before : Option (List Entry)) → cut_by u e f entries before ≡ before
  pub no_table : (u : ℕ) (before : List Publication) → publications_by u f before ≡ before
  pub no_drop : (net : Net) (u e : ℕ) (past : Chronicle) → dropped_below net u e (f ∷ past) ≡ dropped_below net u e past

-- quiet facts, at most one raise, and then quiet facts and reports: P holds before the raise, Q after it
pub record Acting (rules : Rules) (net : Net) (u : ℕ) (P Q : Chronicle → Type 0) : Type 0 where
  pub before : (f : Fact) (past : Chronicle) → Quiet f → P past → P (f ∷ past)
  pub nothing : (past : Chronicle) → P past → Q past
  pub rises : (e : ℕ) (past : Chronicle) → epoch u past < e → P past → Q (Raise u e ∷ past)
  pub further : (f : Fact) (past : Chronicle) → Quiet f → Q past → Q (f ∷ past)
  pub reports : (w e : ℕ) (c : Trimmed) (past : Chronicle) → Q past → Q (Mail u w (Reports (trimmed_report rules net u e c)) ∷ past)

-- an entry is quiet
quiet_log : (u : ℕ) (k : Entry) → Quiet (Log u k)
quiet_log u k = record { no_control = refl; no_epoch = λ v b. refl; no_raise = λ v b. refl; no_cut = λ v e l b. refl; no_table = λ v b. refl; no_drop = λ n v e p. refl }

-- so is an item that is taken
quiet_took : (v u s : ℕ) (x : Item) → Quiet (Took v u s x)
quiet_took w u s x = record { no_control = refl; no_epoch = λ v b. refl; no_raise = λ v b. refl; no_cut = λ v e l b. refl; no_table = λ v b. refl; no_drop = λ n v e p. refl }

-- so is one that is sent
quiet_sent : (u w s : ℕ) (x : Item) (queued : Bool) → Quiet (Sent u w s x queued)
quiet_sent u w s x queued = record { no_control = refl; no_epoch = λ v b. refl; no_raise = λ v b. refl; no_cut = λ v e l b. refl; no_table = λ v b. refl; no_drop = λ n v e p. refl }

module _ (R : Chronicle → Type 0) (on : (f : Fact) (past : Chronicle) → Quiet f → R past → R (f ∷ past)) (carried : Carried) (u : ℕ) where
  -- what goes out
  sends_keep : (gs : List Going) (now : Chronicle) → R now → R (happen now (sends carried u gs))
  sends_keep [] now r = r
  sends_keep (g ∷ gs) now r =
      let f = Sent u g.to g.session g.item (carried g.to g.session) in
      sends_keep gs (f ∷ now) (on f now (quiet_sent u g.to g.session g.item (carried g.to g.session)) r)

  -- an entry
  write_keeps : (rules : Rules) (net : Net) (k : Entry) (past : Chronicle) → R past → R (write rules net carried u k past)
  unfolding write
  write_keeps rules net k past r = sends_keep (going_by rules net u (log_of u past) k) (Log u k ∷ past) (on (Log u k) past (quiet_log u k) r)

module _ (rules : Rules) (net : Net) (u : ℕ) (P Q : Chronicle → Type 0) (a : Acting rules net u P Q) (carried : Carried) where
  -- the reports of one cut
  reports_keep : (e : ℕ) (c : Trimmed) (tos : List ℕ) (now : Chronicle) → Q now → Q (happen now (mails u (map (λ w. (w, Reports (trimmed_report rules net u e c))) tos)))
  reports_keep e c [] now q = q
  reports_keep e c (w ∷ tos) now q = reports_keep e c tos (Mail u w (Reports (trimmed_report rules net u e c)) ∷ now) (a.reports w e c now q)

  -- the epoch rises
  raise_keeps : (e : ℕ) (past : Chronicle) → epoch u past < e → P past → Q (raise rules net carried u e past)
  unfolding raise take_cut
  raise_keeps e past above p =
      let gs = markers net u e (log_of u past) in
      reports_keep e (kept_log net u past) (ascending net.consolidators) (happen (Raise u e ∷ past) (sends carried u gs))
      (sends_keep Q a.further carried u gs (Raise u e ∷ past) (a.rises e past above p))

  -- a mark is met
  meet_keeps : (e : ℕ) (past : Chronicle) → P past → Q (meet_mark rules net carried u e past)
  meet_keeps e past p =
      (elim (nat_lt (epoch u past) e) as (λ t. nat_lt (epoch u past) e ≡ t → Q (if t then raise rules net carried u e past else past)) [
        | true ↦ λ q. raise_keeps e past (above q) p
        | false ↦ λ q. a.nothing past p
      ]) refl
    where
      above : nat_lt (epoch u past) e ≡ true → epoch u past < e
      above q = grind (arith, nat_tests)

  -- a greeting is answered by an entry, or by nothing
  greeted_keeps : (v s : ℕ) (known : Option ℕ) (past : Chronicle) → Q past → Q (unless_ready known past (write rules net carried u (local u (log_of u past) All (Ready v s)) past))
  greeted_keeps v s (Some t) past q = q
  greeted_keeps v s None past q = write_keeps Q a.further carried u rules net (local u (log_of u past) All (Ready v s)) past q

  -- an item is taken
  take_keeps : (v s : ℕ) (x : Item) (past : Chronicle) → P past → Q (take_item rules net carried u (arrival v s x) past)
  unfolding take_item
  take_keeps v s (News n x) past p =
      let now = Took v u s (News n x) ∷ past in
      a.nothing (write rules net carried u (heard v s n x) now) (write_keeps P a.before carried u rules net (heard v s n x) now (a.before (Took v u s (News n x)) past (quiet_took v u s (News n x)) p))
  take_keeps v s (Marker e) past p = meet_keeps e (Took v u s (Marker e) ∷ past) (a.before (Took v u s (Marker e)) past (quiet_took v u s (Marker e)) p)
  take_keeps v s (Hello e) past p =
      greeted_keeps v s (ready (reads (log_of u past)) v) (meet_mark rules net carried u e (Took v u s (Hello e) ∷ past))
      (meet_keeps e (Took v u s (Hello e) ∷ past) (a.before (Took v u s (Hello e)) past (quiet_took v u s (Hello e)) p))

  -- a session is opened
  open_keeps : (v s : ℕ) (past : Chronicle) → P past → Q (open_session carried u v s past)
  unfolding open_session
  open_keeps v s past p =
      let k = local u (log_of u past) All (Up v s) in
      let gs : List Going = record { to = v; session = s; item = Hello (epoch u past) } ∷ [] in
      a.nothing (happen (Log u k ∷ past) (sends carried u gs)) (sends_keep P a.before carried u gs (Log u k ∷ past) (a.before (Log u k) past (quiet_log u k) p))

  -- what the node may do
  pub acts_keep : (past : Chronicle) (act : Duty) → MayDo net u past act → P past → Q (acted rules net carried u past act)
  acts_keep past (Enter scope cause) may p =
      let k = local u (log_of u past) scope cause in
      a.nothing (write rules net carried u k past) (write_keeps P a.before carried u rules net k past p)
  acts_keep past (Open v s) may p = open_keeps v s past p
  acts_keep past (Take v s item) may p = take_keeps v s (item_of item) past p
  acts_keep past (Flush v) may p = a.nothing (write rules net carried u (flush v) past) (write_keeps P a.before carried u rules net (flush v) past p)
  acts_keep past (Rise e) may p = raise_keeps e past may p
