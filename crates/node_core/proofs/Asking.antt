-- What a node's part in the agreements answers.
use Rattle.std.proofs.Common.{ℕ, Bool, true, false, ◌==◌, ◌&&◌, ◌||◌, Option, Some, None, List, [], ◌∷◌, ◌++◌, map, ◌≡◌, refl, sym, ◌∙◌, ap, ap₂, subst, arith, is_some}
use Rattle.std.specs.Prelude.{if◌then◌else◌}
use Rattle.std.proofs.lemmas.Bool.Decides.{nat_tests}
use Rattle.std.proofs.lemmas.List.{append-nil}
use Rattle.topology.specs.declared.status.LimitKind.TheVariants.{Triggers}
use Rattle.topology.specs.declared.status.Reason.{Reason}
use Rattle.topology.specs.declared.status.Reason.TheVariants.{NotConsolidator}
use Rattle.topology.specs.Lists.{has}
use Rattle.topology.specs.Net.{Net}
use Rattle.path_vector.specs.Rules.{Rules}
use Rattle.incomplete_closure.specs.declared.values.Value.{Value}
use Rattle.paxos_core.specs.Facts.{Message as Ballots, Prepare, Promise, Accept, Accepted, Decision}
use Rattle.paxos_core.specs.Answers.{refusal, decided, Decided}
use Rattle.paxos_core.specs.Decisions.{decision_by}
use Rattle.consolidator.specs.declared.messages.Outbox.{Outbox}
use Rattle.consolidator.specs.declared.messages.Reply.{Reply}
use Rattle.consolidator.specs.declared.messages.Reply.TheVariants as reply
use Rattle.consolidator.specs.Answers.{refusal_of, replies, received_as, received, proposal_refusal, asks, ballot_of, proposed_as, proposed, reason_where}
use Rattle.consolidator.specs.Facts as consolidator
use Rattle.consolidator.specs.Facts.{agreement}
use Rattle.consolidator.specs.Keeping.{Kept}
use Rattle.consolidator.specs.Messages.{Message, Reports, Agrees as Agreed}
use Rattle.consolidator.specs.Seen.{mails_seen}
use Rattle.consolidator.specs.Standing.{StandsFor as PartStandsFor}
use Rattle.consolidator.proofs.Parting.{decided_known}
use Rattle.chronicle.specs.Drops.{table_cut}
use Rattle.chronicle.proofs.Dropping.{dropped_mails, reported_mails, table_cut_mails}
use Rattle.chronicle.specs.Facts.{Chronicle, Start, Heard}
use Rattle.chronicle.specs.Logs.{log_of}
use Rattle.chronicle.specs.Epochs.{epoch, raised, cut}
use Rattle.chronicle.specs.Messages.{took}
use Rattle.chronicle.specs.Control.{control, decision}
use Rattle.chronicle.specs.Publications.{publications, has_both}
use Rattle.chronicle.specs.Inputs.{Input, Propose, Control}
use Rattle.chronicle.specs.Steps.{Step, Idle, Goes, Carried}
use Rattle.chronicle.specs.Giving.{unless, answer, proposes, hears}
use Rattle.chronicle.specs.Run.{chronicle_of}
use Rattle.chronicle.proofs.Quieting.{log_mails, epoch_mails, cut_mails, took_mails, publications_mails}
use Rattle.chronicle.proofs.Due.{decision_heard, decision_heard_of_another, raised_proposes, decision_proposes, raised_hears, decision_hears}
use Rattle.cut_laws.proofs.Agreeing.{control_mails}
use Rattle.node_core.specs.declared.answers.Answer.TheVariants as told
use Rattle.topology.specs.declared.limits.TheConstants.{MOST_TRIGGERS}
use Rattle.node_core.specs.declared.node.Node.{Node}
use Rattle.node_core.specs.declared.parts.NodeParts.{NodeParts}
use Rattle.node_core.specs.declared.outputs.Output.{Output as Given}
use Rattle.node_core.specs.declared.outputs.Stop.TheVariants as stop
use Rattle.node_core.specs.Agreeing.{Agrees}
use Rattle.node_core.specs.Answering.{Consults, MayComplete, Says, decided_by, posts}
use Rattle.node_core.specs.Keeping.{Keeps}
use Rattle.node_core.specs.Outputs.{Hands, output_of, outputs}
use Rattle.node_core.specs.NodeLimits.{has_large_value, node_above, limit_before_marks, proposes_large, StopsAt}
use Rattle.node_core.specs.Standing.{Follows}
use Rattle.node_core.proofs.Agreements.{agrees_on}
use Rattle.node_core.proofs.Entering.{same_keeps}
use Rattle.node_core.proofs.Undropped.{SameDrops, no_drops}
use Rattle.node_core.proofs.Handing.{outputs_mails}
use Rattle.node_core.proofs.Counting.{epoch_low, triggers_above}
use Rattle.node_core.proofs.Proposing.{any_large, large_mails, reply_large}

-- a step of agreement: it changes no log, epoch or cut, publishes nothing, and drops nothing
pub record Quietly (net : Net) (u : ℕ) (past now : Chronicle) : Type 0 where
  pub logs : log_of u now ≡ log_of u past
  pub epochs : epoch u now ≡ epoch u past
  pub cuts : (e : ℕ) → cut u e now ≡ cut u e past
  pub items : (v s : ℕ) → took v u s now ≡ took v u s past
  pub tables : publications u now ≡ publications u past
  pub drops : SameDrops net u past now
  pub table_cuts : (e : ℕ) → table_cut net u e now ≡ table_cut net u e past

-- at first
pub still : (net : Net) (u : ℕ) (past : Chronicle) → Quietly net u past past
still net u past = record { logs = refl; epochs = refl; cuts = λ e. refl; items = λ v s. refl; tables = refl; drops = no_drops; table_cuts = λ e. refl }

-- the step goes on, the messages are sent, and of no other epoch than this may u have both its cut and its decision now
pub record Went (net : Net) (u : ℕ) (past : Chronicle) (step : Step) (list : Outbox) (kept : Kept) (due : Option ℕ) : Type 0 where
  pub now : Chronicle
  pub goes : step ≡ Goes now
  pub part : PartStandsFor net kept (control now) u
  pub shown : outputs now ≡ outputs past ++ posts (mails_seen list)
  pub quietly : Quietly net u past now
  pub proposed : has_large_value u now ≡ (any_large (mails_seen list) || has_large_value u past)
  pub completes : MayComplete u past now due

-- ---- the decision that comes

module _ (net : Net) (u : ℕ) (past : Chronicle) (from : ℕ) where
  -- what brings no decision makes none known
  undecided : (d : ℕ) (b : Ballots Value) → ((before : Option Value) → decision_by b before ≡ before) → (e : ℕ) → decision u e (Heard u from (Agreed d b) ∷ past) ≡ decision u e past
  undecided d b none e =
      (elim (d == e) as (λ t. (d == e) ≡ t → decision u e (Heard u from (Agreed d b) ∷ past) ≡ decision u e past) [
        | true ↦ λ on.
            let same : d ≡ e = grind (arith, nat_tests) in
            subst (λ n. decision u e (Heard u from (Agreed n b) ∷ past) ≡ decision u e past) (sym same) (decision_heard u e from b past ∙ none (decision u e past))
        | false ↦ λ off. decision_heard_of_another u e u from d b past off
      ]) refl

  -- the decisions tell which epoch may be complete
  both_hears : (m : Message) (e : ℕ) → decision u e (Heard u from m ∷ past) ≡ decision u e past → has_both u e (hears net u past from m) ≡ has_both u e past
  both_hears m e same =
      ap₂ (λ (r : List ℕ) (o : Option Value). has r e && is_some o) (raised_hears net u past from m u) (decision_hears net u past from m u e ∙ same)

  -- a decision is heard once
  heard_once : (d : ℕ) (v : Value) → refusal_of net (control past) u from (Agreed d (Decision v)) ≡ None → is_some (decision u d past) ≡ false
  unfolding refusal_of refusal
  heard_once d v free = sym (decided_known (agreement d (control past)) u) ∙ by_test (decided (agreement d (control past)) u) (for_all (has net.consolidators u) free)
    where
      for_all : (h : Bool) → (if h || true then reason_where (if decided (agreement d (control past)) u then Some Decided else None) else Some NotConsolidator) ≡ None
          → reason_where (if decided (agreement d (control past)) u then Some Decided else None) ≡ None
      for_all true q = q
      for_all false q = q

      by_test : (t : Bool) → reason_where (if t then Some Decided else None) ≡ None → t ≡ false
      by_test true q = absurd (cc q)
      by_test false q = refl

  -- of the message
  pub hear_completes : (m : Message) → refusal_of net (control past) u from m ≡ None → MayComplete u past (hears net u past from m) (decided_by (Control from m))
  hear_completes (Reports r) free = λ e. both_hears (Reports r) e refl
  hear_completes (Agreed d (Prepare b)) free = λ e. both_hears (Agreed d (Prepare b)) e (undecided d (Prepare b) (λ before. refl) e)
  hear_completes (Agreed d (Promise b named)) free = λ e. both_hears (Agreed d (Promise b named)) e (undecided d (Promise b named) (λ before. refl) e)
  hear_completes (Agreed d (Accept b v)) free = λ e. both_hears (Agreed d (Accept b v)) e (undecided d (Accept b v) (λ before. refl) e)
  hear_completes (Agreed d (Accepted b)) free = λ e. both_hears (Agreed d (Accepted b)) e (undecided d (Accepted b) (λ before. refl) e)
  hear_completes (Agreed d (Decision v)) free = (
    not_both (has (raised u past) d) (is_some (decision u d past)) (heard_once d v free),
    λ e off. both_hears (Agreed d (Decision v)) e (decision_heard_of_another u e u from d (Decision v) past off),
  )
    where
      not_both : (a b : Bool) → b ≡ false → (a && b) ≡ false
      not_both true b off = off
      not_both false b off = refl

-- ---- a ballot

module _ (rules : Rules) (net : Net) (carried : Carried) (u : ℕ) (past : Chronicle) where
  module _ (e : ℕ) (kept : Kept) where
    -- there is a reason not to
    propose_idle : (why : Reason) → Consults net (reply.Idle why) kept (control past) u (Propose e) → (answer rules net carried u past (Propose e) ≡ Idle why) × PartStandsFor net kept (control past) u
    unfolding answer proposed
    propose_idle why c =
        let is : proposal_refusal net (control past) u e ≡ Some why = c.answer in
        (ap (λ o. unless o (proposes net u past e)) is, subst (λ o. PartStandsFor net kept (proposed_as o net (control past) u e) u) is c.stands)

    -- the ballot starts
    propose_sent : (list : Outbox) → Consults net (reply.Sent list) kept (control past) u (Propose e) → Went net u past (answer rules net carried u past (Propose e)) list kept None
    unfolding answer proposed proposes
    propose_sent list c =
        let is : proposal_refusal net (control past) u e ≡ None = c.answer.0 in
        let ms = asks net (control past) u e in
        let started : Chronicle = Start u e (ballot_of (control past) u e) ∷ past in
        record {
          now = proposes net u past e;
          goes = ap (λ o. unless o (proposes net u past e)) is;
          part = subst (λ p. PartStandsFor net kept p u) (sym (control_mails u ms started)) (subst (λ o. PartStandsFor net kept (proposed_as o net (control past) u e) u) is c.stands);
          shown = outputs_mails u started ms ∙ (ap (λ l. l ++ posts ms) (append-nil (outputs past)) ∙ ap (λ l. outputs past ++ posts l) (sym c.answer.1));
          quietly = record {
            logs = log_mails u ms started u;
            epochs = epoch_mails u ms started u;
            cuts = λ d. cut_mails u ms started u d;
            items = λ v s. took_mails u ms started v u s;
            tables = publications_mails u ms started u;
            drops = record { same_count = dropped_mails net u u ms started; same_reported = λ d. reported_mails net u d u ms started };
            table_cuts = λ d. table_cut_mails net u d u ms started;
          };
          proposed = large_mails u ms started ∙ ap (λ l. any_large l || has_large_value u past) (sym c.answer.1);
          completes = λ d. ap₂ (λ (r : List ℕ) (o : Option Value). has r d && is_some o) (raised_proposes net u past e u) (decision_proposes net u past e u d);
        }

  -- ---- a control message

  module _ (from : ℕ) (m : Message) (kept : Kept) where
    -- there is a reason to do nothing
    hear_idle : (why : Reason) → Consults net (reply.Idle why) kept (control past) u (Control from m) → (answer rules net carried u past (Control from m) ≡ Idle why) × PartStandsFor net kept (control past) u
    unfolding answer received
    hear_idle why c =
        let is : refusal_of net (control past) u from m ≡ Some why = c.answer in
        (ap (λ o. unless o (hears net u past from m)) is, subst (λ o. PartStandsFor net kept (received_as o net (control past) u from m) u) is c.stands)

    -- it is heard
    hear_sent : (list : Outbox) → Consults net (reply.Sent list) kept (control past) u (Control from m) → Went net u past (answer rules net carried u past (Control from m)) list kept (decided_by (Control from m))
    unfolding answer received hears
    hear_sent list c =
        let is : refusal_of net (control past) u from m ≡ None = c.answer.0 in
        let ms = replies net (control past) u from m in
        let heard : Chronicle = Heard u from m ∷ past in
        record {
          now = hears net u past from m;
          goes = ap (λ o. unless o (hears net u past from m)) is;
          part = subst (λ p. PartStandsFor net kept p u) (sym (control_mails u ms heard)) (subst (λ o. PartStandsFor net kept (received_as o net (control past) u from m) u) is c.stands);
          shown = outputs_mails u heard ms ∙ (ap (λ l. l ++ posts ms) (append-nil (outputs past)) ∙ ap (λ l. outputs past ++ posts l) (sym c.answer.1));
          quietly = record {
            logs = log_mails u ms heard u;
            epochs = epoch_mails u ms heard u;
            cuts = λ d. cut_mails u ms heard u d;
            items = λ v s. took_mails u ms heard v u s;
            tables = publications_mails u ms heard u;
            drops = record { same_count = dropped_mails net u u ms heard; same_reported = λ d. reported_mails net u d u ms heard };
            table_cuts = λ d. table_cut_mails net u d u ms heard;
          };
          proposed = large_mails u ms heard ∙ ap (λ l. any_large l || has_large_value u past) (sym c.answer.1);
          completes = hear_completes net u past from m is;
        }

-- ---- what is answered

module _ (rules : Rules) (net : Net) (carried : Carried) (u : ℕ) (past : Chronicle) (kept : Kept) where
  -- nothing is done
  pub asked_idle : (i : Input) (why : Reason) → Consults net (reply.Idle why) kept (control past) u i → (answer rules net carried u past i ≡ Idle why) × PartStandsFor net kept (control past) u
  asked_idle (Propose e) why c = propose_idle rules net carried u past e kept why c
  asked_idle (Control from m) why c = hear_idle rules net carried u past from m kept why c
  asked_idle other why c = absurd c

  -- messages are sent
  pub asked_sent : (i : Input) (list : Outbox) → Consults net (reply.Sent list) kept (control past) u i → Went net u past (answer rules net carried u past i) list kept (decided_by i)
  asked_sent (Propose e) list c = propose_sent rules net carried u past e kept list c
  asked_sent (Control from m) list c = hear_sent rules net carried u past from m kept list c
  asked_sent other list c = absurd c

  -- a message that proposes too large a value would go out: the node stops
  pub asked_stops : (i : Input) (r : Reply) → Consults net r kept (control past) u i → proposes_large r ≡ true → node_above rules net u past ≡ None
      → StopsAt (limit_before_marks rules net u (answer rules net carried u past i)) (stop.Limit Triggers MOST_TRIGGERS)
  asked_stops i (reply.Idle why) c large within = absurd (cc large)
  asked_stops i (reply.Sent list) c large within =
      let went = asked_sent i list c in
      let same = went.quietly.epochs in
      let low = epoch_low rules net u past within in
      let more : has_large_value u went.now ≡ true = went.proposed ∙ ap (λ b. b || has_large_value u past) (reply_large (reply.Sent list) list true refl large) in
      ap (limit_before_marks rules net u) went.goes ∙ triggers_above rules net u went.now (omega (arith, same, low)) more

-- no such message goes out
pub small_sent : (net : Net) (u : ℕ) (past : Chronicle) (step : Step) (r : Reply) (list : Outbox) (kept : Kept) (due : Option ℕ) (went : Went net u past step list kept due) → r ≡ reply.Sent list → proposes_large r ≡ false
    → has_large_value u past ≡ false → has_large_value u went.now ≡ false
small_sent net u past step r list kept due went is small was = went.proposed ∙ ap₂ (λ a b. a || b) (reply_large r list false is small) was

-- the part of the node is asked in its network
pub consulted : {parts held : NodeParts} (net : Net) (kept : Kept) (r : Reply) (past : consolidator.Chronicle) (u : ℕ) (i : Input) → held ≡ parts → parts.topology.value ≡ net → PartStandsFor net parts.agreement.consolidator past u
    → (PartStandsFor held.topology.value held.agreement.consolidator past u → Consults held.topology.value r kept past u i) → Consults net r kept past u i
consulted {parts} net kept r past u i same is stands asks =
    subst (λ (n : Net). Consults n r kept past u i) is
    ((subst (λ (k : NodeParts). PartStandsFor k.topology.value k.agreement.consolidator past u → Consults k.topology.value r kept past u i) same asks)
    (subst (λ (n : Net). PartStandsFor n parts.agreement.consolidator past u) (sym is) stands))

-- what the node keeps then
pub follows_quietly : {P : Type 0} (policy : P) (rules : Rules) (net : Net) (u : ℕ) (past now : Chronicle) (old new : Node P) → Quietly net u past now → Keeps policy rules net u new past
    → new.parts.value.agreement.tables ≡ old.parts.value.agreement.tables → PartStandsFor net new.parts.value.agreement.consolidator (control now) u → Agrees rules net u old.parts.value.agreement past → has_large_value u now ≡ false → Follows policy rules net u new now
follows_quietly policy rules net u past now old new quiet keeps tables part was small = record {
  small = small;
  keeps = same_keeps policy rules net u new past now quiet.logs quiet.epochs quiet.cuts quiet.items quiet.drops keeps;
  agrees = agrees_on rules net u past now old.parts.value.agreement new.parts.value.agreement tables part quiet.tables (let same = quiet.epochs in omega (arith, same)) (λ e low. quiet.table_cuts e) was;
}

-- where nothing is done it follows what was
pub follows_idle : {P : Type 0} (policy : P) (rules : Rules) (net : Net) (u : ℕ) (past : Chronicle) (step : Step) (why : Reason) (new : Node P) → step ≡ Idle why → Follows policy rules net u new past
    → Follows policy rules net u new (chronicle_of past step)
follows_idle policy rules net u past step why new is follows = subst (λ s. Follows policy rules net u new (chronicle_of past s)) (sym is) follows

-- else what the step leaves
pub follows_on : {P : Type 0} (policy : P) (rules : Rules) (net : Net) (u : ℕ) (past : Chronicle) (step : Step) (now : Chronicle) (new : Node P) → step ≡ Goes now → Follows policy rules net u new now
    → Follows policy rules net u new (chronicle_of past step)
follows_on policy rules net u past step now new is follows = subst (λ s. Follows policy rules net u new (chronicle_of past s)) (sym is) follows

-- what it says: the reason
pub says_why : (u : ℕ) (past : Chronicle) (step : Step) (why : Reason) (out : List Given) → step ≡ Idle why → Says u past step (told.Idle why) out
says_why u past step why out is = subst (λ s. Says u past s (told.Idle why) out) (sym is) refl

-- or the messages
pub hands_posted : (past now : Chronicle) (list : Outbox) (old new : List Given) → old ≡ [] → map output_of new ≡ map output_of old ++ posts (mails_seen list) → outputs now ≡ outputs past ++ posts (mails_seen list)
    → Hands past new now
hands_posted past now list old new none are shown =
    ap (λ l. outputs past ++ l) (are ∙ ap (λ l. map output_of l ++ posts (mails_seen list)) none) ∙ sym shown
