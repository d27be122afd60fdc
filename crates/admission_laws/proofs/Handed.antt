-- If a node admits each input, every fact of its run fits, and so does all that the node hands out.
use Rattle.std.proofs.Common.{ℕ, ◌^◌, ◌≤◌, Bool, true, false, ◌&&◌, ◌==◌, Option, Some, None, List, [], ◌∷◌, ◌≡◌, refl, sym, ◌∙◌, ap, subst, arith}
use Rattle.std.specs.Prelude.{nat_lt}
use Rattle.std.specs.List.{list_all, list_any}
use Rattle.std.proofs.lemmas.Bool.Decides.{nat_tests}
use Rattle.topology.specs.Lists.{has}
use Rattle.topology.specs.Net.{Net, IsValid, neighbours}
use Rattle.topology.proofs.Tests.{and_right, and_both, or_left, or_right}
use Rattle.path_vector.specs.Rules.{Rules}
use Rattle.trigger_log.specs.Pending.{pending_rows}
use Rattle.trigger_log.specs.Sending.{sent_of}
use Rattle.trigger_log.proofs.Collected.{none_at_first}
use Rattle.node_core.specs.Counted.{is_long_item, is_long_row}
use Rattle.message_fitting.specs.Marks.{row_marks}
use Rattle.chronicle.specs.Facts.{Fact, Chronicle, Log, Sent, Took, Fail, Restore, Raise, Start, Mail, Heard, Crash, Restart, Publish, Visit, End}
use Rattle.chronicle.specs.Control.{control}
use Rattle.chronicle.specs.Epochs.{epoch}
use Rattle.chronicle.specs.Inputs.{Input}
use Rattle.chronicle.specs.Inputs as input
use Rattle.chronicle.specs.Logs.{log_of}
use Rattle.chronicle.specs.Run.{chronicle_of}
use Rattle.chronicle.specs.Steps.{Step, Idle, Goes}
use Rattle.chronicle.proofs.Publishing.{log_publish, epoch_publish}
use Rattle.cut_laws.specs.Own.{Own, MayReach}
use Rattle.cut_laws.proofs.Beside.{same_by_fact}
use Rattle.cut_laws.proofs.Owning.{own_given, own_same, start_own}
use Rattle.message_fitting.specs.ControlFits.{epoch_fits, message_fits, value_fits}
use Rattle.node_core.specs.Fits.{item_fits, fits}
use Rattle.message_fitting.specs.Names.{is_number}
use Rattle.node_core.specs.NodeLimits.{Reached, has_large_value, has_long_list, has_more_marks, marks_of, node_above, node_limit, or_marks}
use Rattle.node_core.specs.Outputs.{output_by, outputs}
use Rattle.message_fitting.specs.PacketFits.{packet_fits}
use Rattle.topology.specs.declared.limits.TheConstants.{MOST_EPOCHS, MOST_MARKS}
use Rattle.node_core.proofs.Admitting.{may_come}
use Rattle.admission_laws.specs.Handing.{table_fits, is_short, output_fits}
use Rattle.admission_laws.specs.NodeRuns.{each_link, gives, going_on, alone, restarted, limit_at, AllAdmitted}
use Rattle.admission_laws.proofs.Facts.{fact_fits, AllFacts}
use Rattle.admission_laws.proofs.Each.{each_append}
use Rattle.admission_laws.proofs.Bounds.{Within, Reportable}
use Rattle.admission_laws.proofs.Logs.{first_fact, facts_before}
use Rattle.admission_laws.proofs.Holding.{crash_ascends}
use Rattle.admission_laws.proofs.Answering.{Fine, IsPlain, answer_fine}
use Rattle.admission_laws.proofs.Replying.{ReportsAscend, ascend_given, within, given_facts, propose_given, control_given}

-- ---- one input

-- of an input that fits is known what the laws of a node alone ask
reaches : (net : Net) (u : ℕ) (i : Input) → fits net u i ≡ true → MayReach net i
reaches net u (input.Arrive v s x) is = (may_come net u (input.Arrive v s x) is).2
reaches net u other is = tt

-- if no list of u is too long, no item and no row of what is held back has a list that is too long
short_lists : (rules : Rules) (net : Net) (u : ℕ) (now : Chronicle) → has_long_list rules net u now ≡ false
    → (list_any is_long_item (sent_of rules net u (log_of u now)) ≡ false) × (list_any is_long_row (pending_rows rules net u (log_of u now)) ≡ false)
unfolding has_long_list
short_lists rules net u now short = (
  or_left (list_any is_long_item (sent_of rules net u (log_of u now))) (list_any is_long_row (pending_rows rules net u (log_of u now))) short,
  or_right (list_any is_long_item (sent_of rules net u (log_of u now))) (list_any is_long_row (pending_rows rules net u (log_of u now))) short,
)

-- if no count is above its limit, only the marks could be, and they are not
before_marks : (o : Option Reached) (more : Bool) → or_marks o more ≡ None → (o ≡ None) × (more ≡ false)
before_marks None true e = absurd (cc e)
before_marks None false e = (refl, refl)
before_marks (Some r) more e = absurd (cc e)

-- a log is within the limits if no count is above its limit
log_within : (rules : Rules) (net : Net) (u : ℕ) (now : Chronicle) → node_above rules net u now ≡ None → Within rules net u (log_of u now)
log_within rules net u now none = record {
  entries = let count = (within rules net u now none).2 in grind (arith, nat_tests);
  updates = let count = (within rules net u now none).3 in grind (arith, nat_tests);
  short = (short_lists rules net u now (or_right (has_large_value u now) (has_long_list rules net u now) (within rules net u now none).1)).0;
}

-- if no count is above its limit and the lists have few triggers, a report may be made of the log
log_reportable : (rules : Rules) (net : Net) (u : ℕ) (now : Chronicle) → node_above rules net u now ≡ None → has_more_marks rules net u now ≡ false → Reportable rules net u (log_of u now)
unfolding has_more_marks
log_reportable rules net u now none few = record {
  rows = (short_lists rules net u now (or_right (has_large_value u now) (has_long_list rules net u now) (within rules net u now none).1)).1;
  marks = few_from (marks_of rules net u (log_of u now)) few;
}
  where
    few_from : (n : ℕ) → nat_lt MOST_MARKS n ≡ false → n ≤ MOST_MARKS
    few_from n is = grind (arith, nat_tests)

-- a report may be made of a log without entries
none_listed : (rules : Rules) (net : Net) (u : ℕ) → Reportable rules net u []
unfolding marks_of sent_of
none_listed rules net u = record {
  rows = rw (none_at_first rules net u) refl;
  marks = let none = ap row_marks (none_at_first rules net u) in omega (arith, none);
}

-- if no count is above its limit, the epoch is not
epoch_within : (rules : Rules) (net : Net) (u : ℕ) (now : Chronicle) → node_above rules net u now ≡ None → epoch u now ≤ MOST_EPOCHS
epoch_within rules net u now none = let count = (within rules net u now none).0 in grind (arith, nat_tests)

module _ (rules : Rules) (net : Net) (u : ℕ) (valid : IsValid net) (here : has net.nodes u ≡ true) where
  module _ (past : Chronicle) (own : Own rules net past u) (all : AllFacts net u past) (listed : Reportable rules net u (log_of u past)) where
    -- all facts fit after an input that is no ballot and no control message
    plain_facts : (i : Input) (now : Chronicle) → IsPlain i → fits net u i ≡ true → node_above rules net u now ≡ None → gives rules net u past i ≡ Goes now → AllFacts net u now
    plain_facts i now plain is few goes =
        given_facts rules net valid each_link u here past own all i now (reaches net u i is) goes
        (λ c answered published.
        let fine : Fine rules net u (Goes c) = subst (Fine rules net u) answered (answer_fine rules net u valid here each_link past all own.alone.fits listed i plain is) in
        let log : log_of u c ≡ log_of u now = sym (log_publish rules net u past c u) ∙ ap (log_of u) published in
        let low : epoch u c ≡ epoch u now = sym (epoch_publish rules net u past c u) ∙ ap (epoch u) published in
        fine (subst (Within rules net u) (sym log) (log_within rules net u now few)) (subst (λ e. e ≤ MOST_EPOCHS) (sym low) (epoch_within rules net u now few)))

    -- each input keeps that every fact fits
    gives_facts : (i : Input) (now : Chronicle) → ReportsAscend u past → fits net u i ≡ true → node_above rules net u now ≡ None → gives rules net u past i ≡ Goes now → AllFacts net u now
    gives_facts (input.Propose e) now up is few goes = propose_given rules net valid each_link u here past own all e now is goes
    gives_facts (input.Control from m) now up is few goes = control_given rules net valid each_link u here past own all from m now up is few goes
    gives_facts other now up is few goes = plain_facts other now tt is few goes

    -- all facts fit after an input, whether the step goes on or is idle
    then_facts : (i : Input) (s : Step) → ReportsAscend u past → fits net u i ≡ true → node_limit rules net u s ≡ None → gives rules net u past i ≡ s → AllFacts net u (chronicle_of past s)
    then_facts i (Idle why) up is few goes = all
    then_facts i (Goes now) up is few goes = gives_facts i now up is (before_marks (node_above rules net u now) (has_more_marks rules net u now) few).0 goes

  -- after a step that goes over no limit, a report may be made of the log
  step_listed : (past : Chronicle) (s : Step) → Reportable rules net u (log_of u past) → node_limit rules net u s ≡ None → Reportable rules net u (log_of u (chronicle_of past s))
  step_listed past (Idle why) listed few = listed
  step_listed past (Goes now) listed few =
      let both = before_marks (node_above rules net u now) (has_more_marks rules net u now) few in log_reportable rules net u now both.0 both.1

  -- ---- all inputs

  -- what holds of a node alone: each fact fits, a report may be made of its log, and the reports that it holds ascend
  pub record IsFine (past : Chronicle) : Type 0 where
    pub own : Own rules net past u
    pub facts : AllFacts net u past
    pub listed : Reportable rules net u (log_of u past)
    pub ascends : ReportsAscend u past

  fine_none : IsFine []
  fine_none = record { own = start_own rules net u; facts = refl; listed = none_listed rules net u; ascends = λ e. refl }

  fine_more : (past : Chronicle) (i : Input) → IsFine past → fits net u i ≡ true → limit_at rules net u past i ≡ None → IsFine (chronicle_of past (gives rules net u past i))
  fine_more past i fine fit few = record {
    own = own_given rules net u each_link past i valid fine.own (reaches net u i fit);
    facts = then_facts past fine.own fine.facts fine.listed i (gives rules net u past i) fine.ascends fit few refl;
    listed = step_listed past (gives rules net u past i) fine.listed few;
    ascends = ascend_given rules net each_link u i past fine.ascends;
  }

  fine_on : (past : Chronicle) (inputs : List Input) → IsFine past → AllAdmitted rules net u past inputs → IsFine (going_on rules net u past inputs)
  unfolding going_on
  fine_on past [] fine admitted = fine
  fine_on past (i ∷ before) fine admitted = fine_more (going_on rules net u past before) i (fine_on past before fine admitted.2) admitted.0 admitted.1

  -- a crash and a restart leave all that is needed
  fine_again : (past : Chronicle) → IsFine past → IsFine (Restart u ∷ Crash u ∷ past)
  fine_again past fine =
      let crashed = own_same rules net past (Crash u ∷ past) u fine.own (same_by_fact u (Crash u) past tt) in
      record {
        own = own_same rules net (Crash u ∷ past) (Restart u ∷ Crash u ∷ past) u crashed (same_by_fact u (Restart u) (Crash u ∷ past) tt);
        facts = fine.facts;
        listed = fine.listed;
        ascends = crash_ascends u (control past);
      }

-- ---- what is handed out

module _ (net : Net) (u : ℕ) where
  -- what a fact that fits shows is admitted
  shown_fits : (f : Fact) (past : Chronicle) → fact_fits net u f ≡ true → list_all (output_fits net u) (output_by f past) ≡ true
  shown_fits (Log w k) past is = refl
  shown_fits (Sent from to s item queued) past is =
      let sent = has (neighbours net u) to && (is_number s && item_fits net u item) in and_both sent true (and_right (from == u) sent is) refl
  shown_fits (Took from to s item) past is = refl
  shown_fits (Fail a b) past is = refl
  shown_fits (Restore a b) past is = refl
  shown_fits (Raise w e) past is = and_both (epoch_fits e) true (and_right (w == u) (epoch_fits e) is) refl
  shown_fits (Start w e b) past is = refl
  shown_fits (Mail from to m) past is =
      let mailed = has net.nodes to && (message_fits net u m && is_short m) in and_both mailed true (and_right (from == u) mailed is) refl
  shown_fits (Heard w from m) past is = refl
  shown_fits (Crash w) past is = refl
  shown_fits (Restart w) past is = refl
  shown_fits (Publish w e value paths) past is =
      let table = epoch_fits e && (value_fits net value && table_fits net u paths) in and_both table true (and_right (w == u) table is) refl
  shown_fits (Visit w packet) past is = and_both (has net.nodes w && packet_fits net packet) true is refl
  shown_fits (End id ending) past is = and_both (nat_lt id (2 ^ 32)) true is refl

  -- if all facts fit, all that they show is admitted
  outputs_fit : (past : Chronicle) → AllFacts net u past → list_all (output_fits net u) (outputs past) ≡ true
  outputs_fit [] all = refl
  outputs_fit (f ∷ past) all =
      each_append (output_fits net u) (outputs past) (output_by f past) (outputs_fit past (facts_before net u f past all)) (shown_fits f past (first_fact net u f past all))

-- all that a node hands out is admitted by its addressees
pub all_fit : (rules : Rules) (net : Net) (u : ℕ) (inputs : List Input) → IsValid net → has net.nodes u ≡ true → AllAdmitted rules net u [] inputs
    → list_all (output_fits net u) (outputs (alone rules net u inputs)) ≡ true
all_fit rules net u inputs valid here admitted =
    outputs_fit net u (alone rules net u inputs) (fine_on rules net u valid here [] inputs (fine_none rules net u valid here) admitted).facts

-- all that a node hands out after a restart is admitted by its addressees
pub all_fit_again : (rules : Rules) (net : Net) (u : ℕ) (kept inputs : List Input) → IsValid net → has net.nodes u ≡ true → AllAdmitted rules net u [] kept
    → AllAdmitted rules net u (restarted rules net u kept) inputs → list_all (output_fits net u) (outputs (going_on rules net u (restarted rules net u kept) inputs)) ≡ true
all_fit_again rules net u kept inputs valid here before admitted =
    outputs_fit net u (going_on rules net u (restarted rules net u kept) inputs)
    (fine_on rules net u valid here (restarted rules net u kept) inputs
    (fine_again rules net u valid here (alone rules net u kept) (fine_on rules net u valid here [] kept (fine_none rules net u valid here) before)) admitted).facts
