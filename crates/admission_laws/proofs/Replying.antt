-- After a ballot, a control message or a table, all facts of the run still fit.
use Rattle.std.proofs.Common.{ℕ, Bool, true, false, ◌&&◌, ◌||◌, ◌==◌, nat_lt, Option, Some, None, List, [], ◌∷◌, length, find, ◌≡◌, refl, sym, ◌∙◌, ap, subst, option_map, option_and_then, if◌then◌else◌, IfSome}
use Rattle.std.specs.List.{list_all}
use Rattle.topology.specs.declared.status.Reason.{Reason}
use Rattle.topology.specs.Lists.{has}
use Rattle.topology.specs.Net.{Net, IsValid}
use Rattle.topology.proofs.Tests.{and_left, and_right, and_both, or_left, or_right, not_false, same_refl, same_is}
use Rattle.path_vector.specs.Rules.{Rules}
use Rattle.trigger_log.specs.Dropping.{Trimmed, trimmed}
use Rattle.trigger_log.specs.Entries.{Entry, reads}
use Rattle.trigger_log.specs.Sending.{sent_of}
use Rattle.incomplete_closure.specs.declared.values.Value.{Value}
use Rattle.stable_table.specs.Trimming.{trimmed_table}
use Rattle.consolidator.specs.Answers.{refusal_of, replies, proposal_refusal, ballot_of, asks}
use Rattle.consolidator.specs.Facts as consolidator
use Rattle.consolidator.specs.Facts.{agreement}
use Rattle.consolidator.specs.Messages.{Message, Reports, Agrees}
use Rattle.chronicle.specs.Control.{control_by, control, decision}
use Rattle.chronicle.specs.Epochs.{epoch, raised, cut}
use Rattle.chronicle.specs.Drops.{dropped_below}
use Rattle.chronicle.specs.Facts.{Fact, Chronicle, Raise, Start, Mail, Heard, Crash, Publish, happen}
use Rattle.chronicle.specs.Giving.{unless, proposes, hears, answer, concluded, give}
use Rattle.chronicle.specs.Inputs.{Input}
use Rattle.chronicle.specs.Inputs as input
use Rattle.chronicle.specs.Logs.{log_of}
use Rattle.chronicle.specs.Publications.{completes, publication_of, goes_on_with, publish}
use Rattle.chronicle.specs.Run.{chronicle_of}
use Rattle.chronicle.specs.Steps.{Step, Idle, Goes, Carried, mails}
use Rattle.cut_laws.specs.Older.{Older, whole, less}
use Rattle.cut_laws.specs.Own.{Own, MayReach}
use Rattle.cut_laws.specs.Received.{BringsFrom}
use Rattle.cut_laws.proofs.Agreeing.{control_mails}
use Rattle.cut_laws.proofs.Bringing.{brings_simple, brings_inside}
use Rattle.cut_laws.proofs.Owning.{own_answered}
use Rattle.message_fitting.specs.ControlFits.{ballot_fits, epoch_fits, message_fits, value_fits}
use Rattle.node_core.specs.Fits.{fits}
use Rattle.node_core.specs.NodeLimits.{first_of_node, is_large, is_too_large, has_large_value, has_long_list, node_above}
use Rattle.topology.specs.declared.limits.TheConstants.{MOST_EPOCHS, MOST_ENTRIES, MOST_UPDATES}
use Rattle.admission_laws.specs.Handing.{table_fits, is_short}
use Rattle.admission_laws.proofs.Facts.{fact_fits, AllFacts}
use Rattle.admission_laws.proofs.Ballots.{mailed_fits, control_fits, said_of, ballots_of, agreement_fits, decision_fits}
use Rattle.admission_laws.proofs.Holding.{HeldAscend, heard_ascend, posted_ascend}
use Rattle.admission_laws.proofs.Saying.{mail_fits, mail_small, replies_fit, ballot_of_fits, asks_fit}
use Rattle.admission_laws.proofs.Tables.{table_of_fits}
use Rattle.admission_laws.proofs.Unheard.{IsUnheard, answer_keeps, publish_keeps}

-- ---- the agreements' readings of such facts

module _ (net : Net) (u : ℕ) where
  -- a message that fits also fits as the agreements read it
  mailed_of : (m : Message) → message_fits net u m ≡ true → mailed_fits net m ≡ true
  mailed_of (Reports r) fit = refl
  mailed_of (Agrees e m) fit = said_of net u m (ballots_of net u e m fit)

  -- a fact that fits also fits as the agreements read it
  control_of : (f : Fact) → fact_fits net u f ≡ true → control_fits net (control_by f) ≡ true
  control_of (Start w e b) fit =
      and_right (epoch_fits e) (ballot_fits net b) (and_right (w == u) (epoch_fits e && ballot_fits net b) fit)
  control_of (Mail from to m) fit =
      mailed_of m
      (and_left (message_fits net u m) (is_short m)
      (and_right (has net.nodes to) (message_fits net u m && is_short m) (and_right (from == u) (has net.nodes to && (message_fits net u m && is_short m)) fit)))
  control_of (Heard w from m) fit = and_right (w == u) (message_fits net from m) fit
  control_of other fit = refl

  -- if all facts fit, all fit as the agreements read them
  pub control_all : (past : Chronicle) → AllFacts net u past → list_all (control_fits net) (control past) ≡ true
  control_all [] all = refl
  control_all (f ∷ past) all =
      and_both (control_fits net (control_by f)) (list_all (control_fits net) (control past))
      (control_of f (and_left (fact_fits net u f) (list_all (fact_fits net u) past) all))
      (control_all past (and_right (fact_fits net u f) (list_all (fact_fits net u) past) all))

  -- all facts fit with one more fact that fits
  pub one_more : (f : Fact) (past : Chronicle) → fact_fits net u f ≡ true → AllFacts net u past → AllFacts net u (f ∷ past)
  one_more f past fit all = and_both (fact_fits net u f) (list_all (fact_fits net u) past) fit all

  -- all facts fit after u mails messages that fit
  pub mails_more : (ms : List (ℕ × Message)) (now : Chronicle) → list_all (mail_fits net u) ms ≡ true → AllFacts net u now → AllFacts net u (happen now (mails u ms))
  mails_more [] now fit all = all
  mails_more (m ∷ ms) now fit all =
      mails_more ms (Mail u m.0 m.1 ∷ now) (and_right (mail_fits net u m) (list_all (mail_fits net u) ms) fit)
      (one_more (Mail u m.0 m.1) now
      (and_both (u == u) (mail_fits net u m) (same_refl u) (and_left (mail_fits net u m) (list_all (mail_fits net u) ms) fit)) all)

-- ---- values that are not too large

-- if u has mailed no value that is too large, none of these messages names one
small_mails : (u : ℕ) (ms : List (ℕ × Message)) (now : Chronicle) → has_large_value u (happen now (mails u ms)) ≡ false → (list_all mail_small ms ≡ true) × (has_large_value u now ≡ false)
small_mails u [] now small = (refl, small)
small_mails u (m ∷ ms) now small =
    let rest = small_mails u ms (Mail u m.0 m.1 ∷ now) small in
    let mine : (u == u && is_large m.1) ≡ false = or_left (u == u && is_large m.1) (has_large_value u now) rest.1 in
    let one : is_large m.1 ≡ false = ap (λ b. b && is_large m.1) (sym (same_refl u)) ∙ mine in
    (and_both (mail_small m) (list_all mail_small ms) (not_false (is_large m.1) one) rest.0, or_right (u == u && is_large m.1) (has_large_value u now) rest.1)

-- ---- ballots and control messages

-- a step that goes on had no reason not to
goes_on : (o : Option Reason) (now next : Chronicle) → unless o now ≡ Goes next → (o ≡ None) × (now ≡ next)
goes_on None now next e = (refl, cc e)
goes_on (Some why) now next e = absurd (cc e)

module _ (rules : Rules) (net : Net) (valid : IsValid net) (carried : Carried) (u : ℕ) (here : has net.nodes u ≡ true) (past : Chronicle) (all : AllFacts net u past) where
  -- all facts fit after a ballot starts and sends its requests
  proposes_fits : (e : ℕ) → epoch_fits e ≡ true → proposal_refusal net (control past) u e ≡ None → AllFacts net u (proposes net u past e)
  unfolding proposes
  proposes_fits e at free =
      let b = ballot_of (control past) u e in
      let facts = control_all net u past all in
      mails_more net u (asks net (control past) u e) (Start u e b ∷ past) (asks_fit net valid u here (control past) facts e at free)
      (one_more net u (Start u e b) past
      (and_both (u == u) (epoch_fits e && ballot_fits net b) (same_refl u)
      (and_both (epoch_fits e) (ballot_fits net b) at (ballot_of_fits net valid u here (control past) facts e free)))
      all)

  pub proposing_facts : (e : ℕ) (now : Chronicle) → epoch_fits e ≡ true → answer rules net carried u past (input.Propose e) ≡ Goes now → AllFacts net u now
  unfolding answer
  proposing_facts e now at goes =
      let on = goes_on (proposal_refusal net (control past) u e) (proposes net u past e) now goes in
      subst (AllFacts net u) on.1 (proposes_fits e at on.0)

  -- all facts fit after a control message is heard and answered
  hears_fits : (from : ℕ) (m : Message) → HeldAscend u (control past) → message_fits net from m ≡ true → refusal_of net (control past) u from m ≡ None
      → has_large_value u (hears net u past from m) ≡ false → AllFacts net u (hears net u past from m)
  unfolding hears
  hears_fits from m up fit free small =
      let out = replies net (control past) u from m in
      mails_more net u out (Heard u from m ∷ past)
      (replies_fit net valid u here (control past) (control_all net u past all) from m up fit free (small_mails u out (Heard u from m ∷ past) small).0)
      (one_more net u (Heard u from m) past (and_both (u == u) (message_fits net from m) (same_refl u) fit) all)

  pub hearing_facts : (from : ℕ) (m : Message) (now : Chronicle) → HeldAscend u (control past) → message_fits net from m ≡ true → answer rules net carried u past (input.Control from m) ≡ Goes now
      → has_large_value u now ≡ false → AllFacts net u now
  unfolding answer
  hearing_facts from m now up fit goes small =
      let on = goes_on (refusal_of net (control past) u from m) (hears net u past from m) now goes in
      subst (AllFacts net u) on.1 (hears_fits from m up fit on.0 (subst (λ c. has_large_value u c ≡ false) (sym on.1) small))

-- ---- the reports that u holds

-- the nodes of the reports that u holds ascend
abbrev pub ReportsAscend : ℕ → Chronicle → Type 0
ReportsAscend u past = HeldAscend u (control past)

-- the nodes of the reports still ascend after a control message is heard and answered
hears_ascend : (net : Net) (u from : ℕ) (m : Message) (past : Chronicle) → ReportsAscend u past → refusal_of net (control past) u from m ≡ None → ReportsAscend u (hears net u past from m)
unfolding hears
hears_ascend net u from m past up free =
    let out = replies net (control past) u from m in
    subst (HeldAscend u) (sym (control_mails u out (Heard u from m ∷ past)))
    (posted_ascend u u out (consolidator.Heard u from m ∷ control past) (heard_ascend net u from m (control past) up free))

module _ (rules : Rules) (net : Net) (carried : Carried) (u : ℕ) where
  -- the nodes of the reports still ascend after a fact that is no control message that is heard
  ascend_more : (f : Fact) (now : Chronicle) → IsUnheard f → ReportsAscend u now → ReportsAscend u (f ∷ now)
  ascend_more (Heard node from m) now un up = absurd un
  ascend_more (Crash node) now un up = absurd un
  ascend_more other now un up = up

  -- the nodes of the reports still ascend with the table that is due
  ascend_concluded : (past : Chronicle) (s : Step) → ReportsAscend u past → ReportsAscend u (chronicle_of past s) → ReportsAscend u (chronicle_of past (concluded rules net u past s))
  ascend_concluded past (Idle why) before after = before
  ascend_concluded past (Goes now) before after = publish_keeps rules net carried u (ReportsAscend u) ascend_more past now after

  ascend_heard : (o : Option Reason) (from : ℕ) (m : Message) (past : Chronicle) → refusal_of net (control past) u from m ≡ o → ReportsAscend u past
      → ReportsAscend u (chronicle_of past (unless o (hears net u past from m)))
  ascend_heard None from m past free up = hears_ascend net u from m past up free
  ascend_heard (Some why) from m past free up = up

  -- the nodes of the reports still ascend after the answer to an input
  ascend_answered : (i : Input) (past : Chronicle) → ReportsAscend u past → ReportsAscend u (chronicle_of past (answer rules net carried u past i))
  unfolding answer
  ascend_answered (input.Control from m) past up = ascend_heard (refusal_of net (control past) u from m) from m past refl up
  ascend_answered other past up = answer_keeps rules net carried u (ReportsAscend u) ascend_more other past tt up

  -- the nodes of the reports still ascend after all that u does with an input
  pub ascend_given : (i : Input) (past : Chronicle) → ReportsAscend u past → ReportsAscend u (chronicle_of past (give rules net carried u past i))
  unfolding give
  ascend_given i past up = ascend_concluded past (answer rules net carried u past i) up (ascend_answered i past up)

-- ---- the table that is published

-- if each path that a log received begins with its sender, each path that an older part received does
older_brings : (net : Net) (log c : List Entry) → Older log c → BringsFrom net (reads log) → BringsFrom net (reads c)
older_brings net log _ whole brings = brings
older_brings net log _ (less {k = k} {h = h} older) brings = (older_brings net log (k ∷ h) older brings).1

-- a cut is of an epoch that there may be
cut_epoch : (net : Net) (u e : ℕ) (past : Chronicle) (c : List Entry) → AllFacts net u past → cut u e past ≡ Some c → epoch_fits e ≡ true
cut_epoch net u e [] c all is = absurd (cc is)
cut_epoch net u e (Raise w d ∷ past) c all is =
    let mine : epoch_fits d ≡ true = and_right (w == u) (epoch_fits d) (and_left (fact_fits net u (Raise w d)) (list_all (fact_fits net u) past) all) in
    let before = cut_epoch net u e past c (and_right (fact_fits net u (Raise w d)) (list_all (fact_fits net u) past) all) in
    (elim (w == u && d == e) as (λ t. (w == u && d == e) ≡ t → (if t then Some (log_of u past) else cut u e past) ≡ Some c → epoch_fits e ≡ true) [
      | true ↦ λ q g. subst (λ n. epoch_fits n ≡ true) (same_is d e (and_right (w == u) (d == e) q)) mine
      | false ↦ λ q g. before g
    ]) refl is
cut_epoch net u e (f ∷ past) c all is = cut_epoch net u e past c (and_right (fact_fits net u f) (list_all (fact_fits net u) past) all) is

module _ (rules : Rules) (net : Net) (u : ℕ) (here : has net.nodes u ≡ true) (now : Chronicle) (all : AllFacts net u now) (own : Own rules net now u) where
  -- a decision that u knows fits
  known_fits : (e : ℕ) (v : Value) → decision u e now ≡ Some v → value_fits net v ≡ true
  known_fits e v is =
      subst (λ o. IfSome o (λ w. value_fits net w ≡ true)) is
      (decision_fits net (agreement e (control now)) u (agreement_fits net e (control now) (control_all net u now all)))

  -- the table over a cut of u fits
  cut_table : (e n : ℕ) (c : List Entry) (v : Value) → cut u e now ≡ Some c → table_fits net u (trimmed_table rules net u v (trimmed n c)) ≡ true
  cut_table e n c v is =
      let brings = older_brings net (log_of u now) c (own.marks.older e c is) own.paths in
      table_of_fits rules net u here v (trimmed n c) (brings_simple net (reads c) brings) (brings_inside net (reads c) brings)

  publishing : (e n : ℕ) (o : Option (List Entry)) (d : Option Value) → cut u e now ≡ o → decision u e now ≡ d
      → AllFacts net u (goes_on_with (option_and_then (λ (c : Trimmed). option_map (λ (v : Value). Publish u e v (trimmed_table rules net u v c)) d) (option_map (trimmed n) o)) now)
  publishing e n None d is known = all
  publishing e n (Some c) None is known = all
  publishing e n (Some c) (Some v) is known =
      let paths = trimmed_table rules net u v (trimmed n c) in
      one_more net u (Publish u e v paths) now
      (and_both (u == u) (epoch_fits e && (value_fits net v && table_fits net u paths)) (same_refl u)
      (and_both (epoch_fits e) (value_fits net v && table_fits net u paths) (cut_epoch net u e now c all is)
      (and_both (value_fits net v) (table_fits net u paths) (known_fits e v known) (cut_table e n c v is))))
      all

  publishing_at : (o : Option ℕ) → AllFacts net u (goes_on_with (option_and_then (λ e. publication_of rules net u e now) o) now)
  publishing_at None = all
  publishing_at (Some e) = publishing e (dropped_below net u e now) (cut u e now) (decision u e now) refl refl

  -- all facts fit with the table that is due
  pub published_facts : (past : Chronicle) → AllFacts net u (publish rules net u past now)
  unfolding publish
  published_facts past = publishing_at (find (completes u past now) (raised u now))

-- ---- with the table

-- no count is above its number
none_of : (epochs triggers entries updates : Bool) → first_of_node epochs triggers entries updates ≡ None → (epochs ≡ false) × (triggers ≡ false) × (entries ≡ false) × (updates ≡ false)
none_of true triggers entries updates e = absurd (cc e)
none_of false true entries updates e = absurd (cc e)
none_of false false true updates e = absurd (cc e)
none_of false false false true e = absurd (cc e)
none_of false false false false e = (refl, refl, refl, refl)

-- each count is within its number
pub within : (rules : Rules) (net : Net) (u : ℕ) (now : Chronicle) → node_above rules net u now ≡ None
    → (nat_lt MOST_EPOCHS (epoch u now) ≡ false) × ((has_large_value u now || has_long_list rules net u now) ≡ false) × (nat_lt MOST_ENTRIES (length (log_of u now)) ≡ false)
    × (nat_lt MOST_UPDATES (length (sent_of rules net u (log_of u now))) ≡ false)
unfolding node_above
within rules net u now none =
    none_of (nat_lt MOST_EPOCHS (epoch u now)) (has_large_value u now || has_long_list rules net u now) (nat_lt MOST_ENTRIES (length (log_of u now))) (nat_lt MOST_UPDATES (length (sent_of rules net u (log_of u now)))) none

-- a step that goes on with its table went on before it
pub concluded_goes : (rules : Rules) (net : Net) (u : ℕ) (past : Chronicle) (s : Step) (now : Chronicle) → concluded rules net u past s ≡ Goes now
    → (c : Chronicle) × (s ≡ Goes c) × (publish rules net u past c ≡ now)
concluded_goes rules net u past (Idle why) now e = absurd (cc e)
concluded_goes rules net u past (Goes c) now e = (c, refl, cc e)

-- a table is no value that is proposed
unpublished_small : (rules : Rules) (net : Net) (carried : Carried) (u : ℕ) (past now : Chronicle) → has_large_value u (publish rules net u past now) ≡ false → has_large_value u now ≡ false
unpublished_small rules net carried u past now =
    publish_keeps rules net carried u (λ c. has_large_value u c ≡ false → has_large_value u now ≡ false)
    (λ f c un before small. before (or_right (is_too_large u f) (has_large_value u c) small)) past now (λ small. small)

module _ (rules : Rules) (net : Net) (valid : IsValid net) (carried : Carried) (u : ℕ) (here : has net.nodes u ≡ true) (past : Chronicle) (own : Own rules net past u) (all : AllFacts net u past) where
  -- all facts fit after an input that goes on, if those before its table do
  pub given_facts : (i : Input) (now : Chronicle) → MayReach net i → give rules net carried u past i ≡ Goes now
      → ((c : Chronicle) → answer rules net carried u past i ≡ Goes c → publish rules net u past c ≡ now → AllFacts net u c) → AllFacts net u now
  unfolding give
  given_facts i now may goes answered =
      let g = concluded_goes rules net u past (answer rules net carried u past i) now goes in
      let own_then : Own rules net g.0 u =
      subst (λ s. Own rules net (chronicle_of past s) u) g.1 (own_answered rules net u carried past i valid own may) in
      subst (AllFacts net u) g.2 (published_facts rules net u here g.0 (answered g.0 g.1 g.2) own_then past)

  -- all facts fit after a ballot is to start
  pub propose_given : (e : ℕ) (now : Chronicle) → fits net u (input.Propose e) ≡ true → give rules net carried u past (input.Propose e) ≡ Goes now → AllFacts net u now
  unfolding fits
  propose_given e now fit goes = given_facts (input.Propose e) now tt goes (λ c is published. proposing_facts rules net valid carried u here past all e c fit is)

  -- all facts fit after a control message comes
  pub control_given : (from : ℕ) (m : Message) (now : Chronicle) → ReportsAscend u past → fits net u (input.Control from m) ≡ true → node_above rules net u now ≡ None
      → give rules net carried u past (input.Control from m) ≡ Goes now → AllFacts net u now
  unfolding fits
  control_given from m now up fit within_all goes =
      given_facts (input.Control from m) now tt goes
      (λ c is published.
      let small : has_large_value u (publish rules net u past c) ≡ false = subst (λ k. has_large_value u k ≡ false) (sym published) (or_left (has_large_value u now) (has_long_list rules net u now) (within rules net u now within_all).1) in
      hearing_facts rules net valid carried u here past all from m c up fit is (unpublished_small rules net carried u past c small))
