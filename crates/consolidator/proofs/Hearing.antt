-- How a part answers a message of its agreement, and its state after that.
use Rattle.std.proofs.Common.{ℕ, true, false, Bool, ◌≡◌, refl, sym, ◌∙◌, ap, subst, Option, Some, None, List, [], ◌∷◌, length, map, if◌then◌else◌}
use Rattle.std.specs.Prelude.{is_some, IfSome, option_map, Result, Ok, Err, IfOk}
use Rattle.std.specs.Option.{option_or}
use Rattle.topology.specs.declared.ballots.Ballot.{Ballot}
use Rattle.topology.specs.declared.status.Reason.{Reason}
use Rattle.topology.specs.declared.status.Reason.TheVariants as reason
use Rattle.topology.specs.Lists.{has}
use Rattle.paxos_core.specs.declared.acceptor.Prepared.TheVariants as prepared
use Rattle.paxos_core.specs.declared.acceptor.Took.TheVariants as took
use Rattle.paxos_core.specs.declared.proposer.Phase.{Phase}
use Rattle.paxos_core.specs.declared.proposer.Phase.TheVariants.{Idle, Preparing, Gathering}
use Rattle.paxos_core.specs.declared.proposer.Tally.{Tally}
use Rattle.paxos_core.specs.declared.proposer.Tally.TheVariants as tally
use Rattle.paxos_core.specs.Facts.{Pair, Message, Prepare, Promise, Accept, Accepted, Decision, Heard, delivery, Chronicle}
use Rattle.paxos_core.specs.Readings.{promised, accepted, started}
use Rattle.paxos_core.specs.Decisions.{decision}
use Rattle.paxos_core.specs.Rules.{round_of, higher}
use Rattle.paxos_core.specs.Accepting.{Accepting}
use Rattle.paxos_core.specs.Accepting as accepting
use Rattle.paxos_core.specs.AcceptorCalls.{AnswersPrepare, AnswersAccept, AcceptorAfter}
use Rattle.paxos_core.specs.Tallying.{Tallying, Leaves}
use Rattle.paxos_core.specs.Tallying as tallying
use Rattle.paxos_core.specs.ProposerCalls.{IsPreparing, prepares, gathers, tally_of, promise_tally, vote_tally, after_promise, after_vote, promise_delivery, vote_delivery, SaysPromise, SaysVote}
use Rattle.paxos_core.specs.Answers.{opened, next_ballot, Refusal, Promised, Decided, refusal, decided, ballot_setup, answers, received, received_as, posted, proposed, or_fresh, announce, to_each}
use Rattle.paxos_core.proofs.Ballots.{same_ballot_true, same_parts}
use Rattle.incomplete_closure.specs.Reports.{Report}
use Rattle.incomplete_closure.specs.Collecting.{value_of}
use Rattle.incomplete_closure.specs.declared.values.Value.{Value}
use Rattle.consolidator.specs.declared.messages.Reply.TheVariants as told
use Rattle.consolidator.specs.declared.messages.Mail.{Mail as TheMail}
use Rattle.consolidator.specs.declared.parts.Part.{Part}
use Rattle.consolidator.specs.Answers.{reason_of, reason_where, of_epoch, refuses_report, is_last, no_round, not_proposing}
use Rattle.consolidator.specs.Holding.{Holding}
use Rattle.consolidator.specs.Messages.{Agrees}
use Rattle.consolidator.specs.Messages as mail
use Rattle.consolidator.specs.Parts.{StandsFor, addressees, epoch_past, Hears, Keeps, Proposes, opened_as, gone, of_use, after_report}
use Rattle.consolidator.specs.Readings.{put_report, nodes_of, is_empty}
use Rattle.consolidator.specs.Seen.{mails_seen}
use Rattle.consolidator.proofs.Parting.{answered, tallied, decides, decided_known, leaves_announce}

-- one message to each, in the form in which it is sent
pub each_of : (e : ℕ) (nodes : List ℕ) (m : Message Value) → map (λ (to : ℕ). (to, Agrees e m)) nodes ≡ of_epoch e (to_each nodes m)
each_of e [] m = refl
each_of e (x ∷ xs) m = let head : ℕ × mail.Message = (x, Agrees e m) in ap (λ zs. head ∷ zs) (each_of e xs m)

pub each_sent : (seen : List (ℕ × mail.Message)) (e d : ℕ) (nodes : List ℕ) (m : Message Value) → seen ≡ map (λ (to : ℕ). (to, Agrees d m)) nodes → d ≡ e → seen ≡ of_epoch e (to_each nodes m)
each_sent seen e d nodes m sent same = sent ∙ (ap (λ x. map (λ (to : ℕ). (to, Agrees x m)) nodes) same ∙ each_of e nodes m)

-- ---- refused, or not

pub is_refused : (members nodes : List ℕ) (old new : Part) (past : Chronicle Value) (reports : List Report) (u from : ℕ) (m : Message Value) (why : Refusal)
    → refusal past u from m ≡ Some why → StandsFor (length members) new past reports u → Hears (addressees members nodes) (told.Idle (reason_of why)) old new (epoch_past past reports) (delivery u from m)
unfolding received
is_refused members nodes old new past reports u from m why refused h = record {
  answer = ap reason_where refused;
  stands = subst (λ w. StandsFor (length members) new (received_as w (ballot_setup members nodes (value_of reports)) past u from m) reports u) (sym refused) h;
}

pub is_heard : (members nodes : List ℕ) (mails : List TheMail) (old new : Part) (past : Chronicle Value) (reports : List Report) (u from : ℕ) (m : Message Value) (out : List (ℕ × Message Value))
    → refusal past u from m ≡ None → answers (ballot_setup members nodes (value_of reports)) past u from m ≡ out → mails_seen mails ≡ of_epoch old.reports.epoch out
    → StandsFor (length members) new (posted u out (Heard u from m ∷ past)) reports u → Hears (addressees members nodes) (told.Sent mails) old new (epoch_past past reports) (delivery u from m)
unfolding received
is_heard members nodes mails old new past reports u from m out taken says sent h = record {
  answer = (ap reason_where taken, sent ∙ ap (of_epoch old.reports.epoch) (sym says));
  stands = subst (λ w. StandsFor (length members) new (received_as w (ballot_setup members nodes (value_of reports)) past u from m) reports u) (sym taken)
      (subst (λ ms. StandsFor (length members) new (posted u ms (Heard u from m ∷ past)) reports u) (sym says) h);
}

-- ---- the acceptor

prepare_says : (members nodes : List ℕ) (fresh : Value) (past : Chronicle Value) (u from : ℕ) (b : Ballot) → answers (ballot_setup members nodes fresh) past u from (Prepare b) ≡ (from, Promise b (accepted past u)) ∷ []
unfolding answers
prepare_says members nodes fresh past u from b = refl

accept_says : (members nodes : List ℕ) (fresh : Value) (past : Chronicle Value) (u from : ℕ) (b : Ballot) (v : Value) → answers (ballot_setup members nodes fresh) past u from (Accept b v) ≡ (from, Accepted b) ∷ []
unfolding answers
accept_says members nodes fresh past u from b v = refl

pub promises : (members nodes : List ℕ) (mails : List TheMail) (old : Part) (a : Accepting Value) (past : Chronicle Value) (reports : List Report) (u from : ℕ) (b : Ballot)
    → AnswersPrepare prepared.Promise old.acceptor a past (delivery u from (Prepare b)) → mails_seen mails ≡ (from, Agrees old.reports.epoch (Promise b old.acceptor.accepted)) ∷ []
    → StandsFor (length members) old past reports u → Hears (addressees members nodes) (told.Sent mails) old (record old { acceptor = a }) (epoch_past past reports) (delivery u from (Prepare b))
promises members nodes mails old a past reports u from b says sent h =
    let out : List (ℕ × Message Value) = (from, Promise b (accepted past u)) ∷ [] in
    let made : Option (Pair Value) → List (ℕ × mail.Message) = λ named. (from, Agrees old.reports.epoch (Promise b named)) ∷ [] in
    let takes : accepting.StandsFor a (Heard u from (Prepare b) ∷ past) u = subst (λ w. AcceptorAfter w old.acceptor a past u (Heard u from (Prepare b))) says.answer says.state in
    is_heard members nodes mails old (record old { acceptor = a }) past reports u from (Prepare b) out says.answer (prepare_says members nodes (value_of reports) past u from b)
    (sent ∙ ap made h.acceptor.accepted)
    (answered (length members) old a past reports u from (Prepare b) out (λ d. refl) tt (tt, tt) takes h)

-- what is sent, with the epoch and the pair given apart
pub one_promise : (seen : List (ℕ × mail.Message)) (from e d : ℕ) (b : Ballot) (named kept old : Option (Pair Value)) → seen ≡ (from, Agrees d (Promise b named)) ∷ [] → d ≡ e → named ≡ kept → kept ≡ old → seen ≡ (from, Agrees e (Promise b old)) ∷ []
one_promise seen from e d b named kept old sent same copied stays =
    let made : ℕ → Option (Pair Value) → List (ℕ × mail.Message) = λ x p. (from, Agrees x (Promise b p)) ∷ [] in
    sent ∙ (ap (λ x. made x named) same ∙ ap (made e) (copied ∙ stays))

pub one_accepted : (seen : List (ℕ × mail.Message)) (from e d : ℕ) (b : Ballot) → seen ≡ (from, Agrees d (Accepted b)) ∷ [] → d ≡ e → seen ≡ (from, Agrees e (Accepted b)) ∷ []
one_accepted seen from e d b sent same =
    let made : ℕ → List (ℕ × mail.Message) = λ x. (from, Agrees x (Accepted b)) ∷ [] in
    sent ∙ ap made same

pub accepts : (members nodes : List ℕ) (mails : List TheMail) (old : Part) (a : Accepting Value) (past : Chronicle Value) (reports : List Report) (u from : ℕ) (b : Ballot) (v : Value)
    → AnswersAccept took.Accepted old.acceptor a past (delivery u from (Accept b v)) → mails_seen mails ≡ (from, Agrees old.reports.epoch (Accepted b)) ∷ []
    → StandsFor (length members) old past reports u → Hears (addressees members nodes) (told.Sent mails) old (record old { acceptor = a }) (epoch_past past reports) (delivery u from (Accept b v))
accepts members nodes mails old a past reports u from b v says sent h =
    let out : List (ℕ × Message Value) = (from, Accepted b) ∷ [] in
    let takes : accepting.StandsFor a (Heard u from (Accept b v) ∷ past) u = subst (λ w. AcceptorAfter w old.acceptor a past u (Heard u from (Accept b v))) says.answer says.state in
    is_heard members nodes mails old (record old { acceptor = a }) past reports u from (Accept b v) out says.answer (accept_says members nodes (value_of reports) past u from b v) sent
    (answered (length members) old a past reports u from (Accept b v) out (λ d. refl) tt (tt, tt) takes h)

-- a refused message leaves the acceptor
pub keeps_acceptor : (n : ℕ) (old : Part) (a : Accepting Value) (past : Chronicle Value) (reports : List Report) (u : ℕ) → a ≡ old.acceptor → StandsFor n old past reports u → StandsFor n (record old { acceptor = a }) past reports u
keeps_acceptor n old a past reports u same h = let P : Accepting Value → Type 0 = λ z. StandsFor n (record old { acceptor = z }) past reports u in subst P (sym same) h

pub prepare_refused : (members nodes : List ℕ) (old : Part) (a : Accepting Value) (past : Chronicle Value) (reports : List Report) (u from : ℕ) (b c : Ballot)
    → AnswersPrepare (prepared.Refused c) old.acceptor a past (delivery u from (Prepare b))
    → StandsFor (length members) old past reports u → Hears (addressees members nodes) (told.Idle (reason.Promised c)) old (record old { acceptor = a }) (epoch_past past reports) (delivery u from (Prepare b))
prepare_refused members nodes old a past reports u from b c says h =
    let same : a ≡ old.acceptor = subst (λ w. AcceptorAfter w old.acceptor a past u (Heard u from (Prepare b))) says.answer says.state in
    is_refused members nodes old (record old { acceptor = a }) past reports u from (Prepare b) (Promised c) says.answer (keeps_acceptor (length members) old a past reports u same h)

pub accept_refused : (members nodes : List ℕ) (old : Part) (a : Accepting Value) (past : Chronicle Value) (reports : List Report) (u from : ℕ) (b : Ballot) (v : Value) (why : Refusal)
    → refusal past u from (Accept b v) ≡ Some why → AcceptorAfter (refusal past u from (Accept b v)) old.acceptor a past u (Heard u from (Accept b v))
    → StandsFor (length members) old past reports u → Hears (addressees members nodes) (told.Idle (reason_of why)) old (record old { acceptor = a }) (epoch_past past reports) (delivery u from (Accept b v))
accept_refused members nodes old a past reports u from b v why refused state h =
    let same : a ≡ old.acceptor = subst (λ w. AcceptorAfter w old.acceptor a past u (Heard u from (Accept b v))) refused state in
    is_refused members nodes old (record old { acceptor = a }) past reports u from (Accept b v) why refused (keeps_acceptor (length members) old a past reports u same h)

-- ---- the proposer

present_majority : {V : Type 0} (present : Bool) (counted : List ℕ) (from members : ℕ) (value v : Option V) → tally.Majority v ≡ tally_of present counted from members value → present ≡ true
present_majority true counted from members value v e = refl
present_majority false counted from members value v e = absurd (cc e)

pub prepares_is : (phase : Phase) (b : Ballot) → prepares phase b ≡ true → phase ≡ Preparing b
prepares_is (Preparing c) b e = ap (λ z. Preparing z) (same_ballot_true c b e)
prepares_is Idle b e = absurd (cc e)
prepares_is (Gathering c) b e = absurd (cc e)

pub gathers_is : (phase : Phase) (b : Ballot) → gathers phase b ≡ true → phase ≡ Gathering b
gathers_is (Gathering c) b e = ap (λ z. Gathering z) (same_ballot_true c b e)
gathers_is Idle b e = absurd (cc e)
gathers_is (Preparing c) b e = absurd (cc e)

pub promise_prepares : (old : Tallying Value) (from : ℕ) (b : Ballot) (named : Option (Pair Value)) (members : ℕ) (v : Option Value)
    → tally.Majority v ≡ promise_tally old from b named members → old.phase ≡ Preparing b
promise_prepares old from b named members v e =
    prepares_is old.phase b (present_majority (prepares old.phase b) old.counted from members (option_map (λ (p : Pair Value). p.1) (higher named old.best)) v e)

pub vote_gathers : (old : Tallying Value) (from : ℕ) (b : Ballot) (members : ℕ) (v : Option (Unit {0}))
    → tally.Majority v ≡ vote_tally old from b members → old.phase ≡ Gathering b
vote_gathers old from b members v e = gathers_is old.phase b (present_majority (gathers old.phase b) old.counted from members None v e)

pub is_preparing : (phase : Phase) (b : Ballot) → phase ≡ Preparing b → IsPreparing phase
is_preparing phase b e = subst IsPreparing (sym e) tt

not_both : (phase : Phase) (b : Ballot) → phase ≡ Preparing b → phase ≡ Idle → ⊥
not_both phase b p q = absurd (cc (sym p ∙ q))

-- if a ballot is prepared, no decision is known
pub undecided : (n : ℕ) (old : Part) (past : Chronicle Value) (reports : List Report) (u : ℕ) (b : Ballot) → old.proposer.phase ≡ Preparing b → StandsFor n old past reports u → decision past u ≡ None
undecided n old past reports u b phase h =
    (elim (decision past u) as (λ d. (is_some d ≡ true → old.proposer.phase ≡ Idle) → d ≡ None) [
      | None ↦ λ over. refl
      | Some v ↦ λ over. absurd (not_both old.proposer.phase b phase (over refl))
    ]) h.over

-- so all reports are held
pub all_held : (n : ℕ) (old : Part) (past : Chronicle Value) (reports : List Report) (u : ℕ) → decision past u ≡ None → StandsFor n old past reports u → old.reports.reports ≡ reports
all_held n old past reports u still h = h.held ∙ ap (λ d. of_use d reports) still

pub keeps_proposer : (n : ℕ) (old : Part) (t : Tallying Value) (past : Chronicle Value) (reports : List Report) (u : ℕ) → t ≡ old.proposer → StandsFor n old past reports u → StandsFor n (record old { proposer = t }) past reports u
keeps_proposer n old t past reports u same h = let P : Tallying Value → Type 0 = λ z. StandsFor n (record old { proposer = z }) past reports u in subst P (sym same) h

pub promise_counted : (members nodes : List ℕ) (mails : List TheMail) (old : Part) (t : Tallying Value) (past : Chronicle Value) (reports : List Report) (u from : ℕ) (b : Ballot) (named : Option (Pair Value))
    → mails ≡ [] → SaysPromise tally.Counted (length members) old.proposer t past (promise_delivery u from b named) → t.phase ≡ old.proposer.phase
    → StandsFor (length members) old past reports u → Hears (addressees members nodes) (told.Sent mails) old (record old { proposer = t }) (epoch_past past reports) (delivery u from (Promise b named))
promise_counted members nodes mails old t past reports u from b named none says phase h =
    is_heard members nodes mails old (record old { proposer = t }) past reports u from (Promise b named) [] says.heard (says.sends members nodes (value_of reports) refl) (ap mails_seen none)
    (tallied (length members) old t past reports u from (Promise b named) [] (λ d. refl) tt tt says.stands phase h)

pub promise_refused : (members nodes : List ℕ) (old : Part) (t : Tallying Value) (past : Chronicle Value) (reports : List Report) (u from : ℕ) (b : Ballot) (named : Option (Pair Value)) (why : Refusal)
    → refusal past u from (Promise b named) ≡ Some why → t ≡ old.proposer
    → StandsFor (length members) old past reports u → Hears (addressees members nodes) (told.Idle (reason_of why)) old (record old { proposer = t }) (epoch_past past reports) (delivery u from (Promise b named))
promise_refused members nodes old t past reports u from b named why refused same h =
    is_refused members nodes old (record old { proposer = t }) past reports u from (Promise b named) why refused (keeps_proposer (length members) old t past reports u same h)

-- a majority promised: the value goes out
pub promise_majority : (members nodes : List ℕ) (mails : List TheMail) (old new : Part) (t : Tallying Value) (past : Chronicle Value) (reports : List Report) (u from : ℕ) (b : Ballot) (named : Option (Pair Value)) (best : Option Value) (v : Value)
    → SaysPromise (tally.Majority best) (length members) old.proposer t past (promise_delivery u from b named) → t.phase ≡ old.proposer.phase → old.proposer.phase ≡ Preparing b
    → v ≡ or_fresh best (value_of old.reports.reports) → mails_seen mails ≡ of_epoch old.reports.epoch (to_each members (Accept b v))
    → ((decision (Heard u from (Promise b named) ∷ past) u ≡ None) → StandsFor (length members) (record old { proposer = t }) (Heard u from (Promise b named) ∷ past) reports u
    → StandsFor (length members) new (posted u (to_each members (Accept b v)) (Heard u from (Promise b named) ∷ past)) reports u)
    → StandsFor (length members) old past reports u → Hears (addressees members nodes) (told.Sent mails) old new (epoch_past past reports) (delivery u from (Promise b named))
promise_majority members nodes mails old new t past reports u from b named best v says phase preparing is_value sent goes h =
    let still : decision past u ≡ None = undecided (length members) old past reports u b preparing h in
    let part : Part = record old { proposer = t } in
    let counted : StandsFor (length members) part (Heard u from (Promise b named) ∷ past) reports u =
    tallied (length members) old t past reports u from (Promise b named) [] (λ d. refl) tt tt says.0.stands phase h in
    let value : v ≡ or_fresh best (value_of reports) = is_value ∙ ap (λ rs. or_fresh best (value_of rs)) (all_held (length members) old past reports u still h) in
    is_heard members nodes mails old new past reports u from (Promise b named) (to_each members (Accept b v)) says.0.heard
    (says.0.sends members nodes (value_of reports) refl ∙ ap (λ x. to_each members (Accept b x)) (sym value)) sent
    (goes (undecided (length members) part (Heard u from (Promise b named) ∷ past) reports u b (phase ∙ preparing) counted) counted)

pub vote_counted : (members nodes : List ℕ) (mails : List TheMail) (old : Part) (t : Tallying Value) (past : Chronicle Value) (reports : List Report) (u from : ℕ) (b : Ballot)
    → mails_seen mails ≡ [] → SaysVote tally.Counted (length members) old.proposer t past (vote_delivery u from b) → t.phase ≡ old.proposer.phase
    → StandsFor (length members) old past reports u → Hears (addressees members nodes) (told.Sent mails) old (record old { proposer = t }) (epoch_past past reports) (delivery u from (Accepted b))
vote_counted members nodes mails old t past reports u from b none says phase h =
    is_heard members nodes mails old (record old { proposer = t }) past reports u from (Accepted b) [] says.heard (says.sends members nodes (value_of reports) refl) none
    (tallied (length members) old t past reports u from (Accepted b) [] (λ d. refl) tt tt says.stands phase h)

pub vote_refused : (members nodes : List ℕ) (old : Part) (t : Tallying Value) (past : Chronicle Value) (reports : List Report) (u from : ℕ) (b : Ballot) (why : Refusal)
    → refusal past u from (Accepted b) ≡ Some why → t ≡ old.proposer
    → StandsFor (length members) old past reports u → Hears (addressees members nodes) (told.Idle (reason_of why)) old (record old { proposer = t }) (epoch_past past reports) (delivery u from (Accepted b))
vote_refused members nodes old t past reports u from b why refused same h =
    is_refused members nodes old (record old { proposer = t }) past reports u from (Accepted b) why refused (keeps_proposer (length members) old t past reports u same h)

-- a majority accepted: the proposed value goes to all nodes
pub vote_majority : (members nodes : List ℕ) (mails : List TheMail) (old : Part) (t : Tallying Value) (past : Chronicle Value) (reports : List Report) (u from : ℕ) (b : Ballot) (v : Option (Unit {0}))
    → SaysVote (tally.Majority v) (length members) old.proposer t past (vote_delivery u from b) → t.phase ≡ old.proposer.phase → old.proposer.phase ≡ Gathering b
    → mails_seen mails ≡ of_epoch old.reports.epoch (announce nodes old.proposed)
    → StandsFor (length members) old past reports u → Hears (addressees members nodes) (told.Sent mails) old (record old { proposer = t }) (epoch_past past reports) (delivery u from (Accepted b))
vote_majority members nodes mails old t past reports u from b v says phase gathering sent h =
    let out : List (ℕ × Message Value) = announce nodes (proposed past u b) in
    is_heard members nodes mails old (record old { proposer = t }) past reports u from (Accepted b) out says.0.heard (says.0.sends members nodes (value_of reports) refl)
    (sent ∙ ap (λ x. of_epoch old.reports.epoch (announce nodes x)) (h.value b gathering))
    (tallied (length members) old t past reports u from (Accepted b) out (λ d. refl) tt (leaves_announce u u nodes (proposed past u b)) says.0.stands phase h)

-- ---- a decision

abbrev refuses_decision : Bool → Option Refusal
refuses_decision knows = if knows then Some Decided else None

decision_refusal : (past : Chronicle Value) (u from : ℕ) (v : Value) → refusal past u from (Decision v) ≡ refuses_decision (decided past u)
unfolding refusal
decision_refusal past u from v = refl

decision_says : (members nodes : List ℕ) (fresh : Value) (past : Chronicle Value) (u from : ℕ) (v : Value) → answers (ballot_setup members nodes fresh) past u from (Decision v) ≡ []
unfolding answers
decision_says members nodes fresh past u from v = refl

pub decided_again : (members nodes : List ℕ) (old : Part) (past : Chronicle Value) (reports : List Report) (u from : ℕ) (v : Value) → is_some old.decision ≡ true
    → StandsFor (length members) old past reports u → Hears (addressees members nodes) (told.Idle reason.Decided) old old (epoch_past past reports) (delivery u from (Decision v))
decided_again members nodes old past reports u from v knows h =
    let is : decided past u ≡ true = decided_known past u ∙ (ap (λ (d : Option Value). is_some d) (sym h.known) ∙ knows) in
    is_refused members nodes old old past reports u from (Decision v) Decided (decision_refusal past u from v ∙ ap refuses_decision is) h

none_of : (d : Option Value) → is_some d ≡ false → d ≡ None
none_of None e = refl
none_of (Some v) e = absurd (cc e)

pub decided_now : (members nodes : List ℕ) (mails : List TheMail) (old new : Part) (past : Chronicle Value) (reports : List Report) (u from : ℕ) (v : Value) → is_some old.decision ≡ false
    → mails ≡ [] → new ≡ gone (record old { decision = Some v }) → StandsFor (length members) old past reports u
    → Hears (addressees members nodes) (told.Sent mails) old new (epoch_past past reports) (delivery u from (Decision v))
decided_now members nodes mails old new past reports u from v unknown none made h =
    let still : decision past u ≡ None = sym h.known ∙ none_of old.decision unknown in
    let is : decided past u ≡ false = decided_known past u ∙ ap (λ (d : Option Value). is_some d) still in
    is_heard members nodes mails old new past reports u from (Decision v) [] (decision_refusal past u from v ∙ ap refuses_decision is) (decision_says members nodes (value_of reports) past u from v) (ap mails_seen none)
    (subst (λ (p : Part). StandsFor (length members) p (Heard u from (Decision v) ∷ past) reports u) (sym made) (decides (length members) old v past reports u from still h))

-- ---- a report

pub report_decided : (n : ℕ) (old : Part) (past : Chronicle Value) (reports : List Report) (u : ℕ) (r : Report) → is_some old.decision ≡ true → StandsFor n old past reports u → Keeps n (told.Idle reason.Decided) old (epoch_past past reports) u r
report_decided n old past reports u r knows h =
    let is : is_some (decision past u) ≡ true = ap (λ (d : Option Value). is_some d) (sym h.known) ∙ knows in
    let why : refuses_report (is_some (decision past u)) (has (nodes_of reports) r.node) ≡ Some reason.Decided = ap (λ d. refuses_report d (has (nodes_of reports) r.node)) is in
    record { answer = why; stands = subst (λ w. StandsFor n old past (after_report w r reports) u) (sym why) h }

pub report_again : (n : ℕ) (old : Part) (past : Chronicle Value) (reports : List Report) (u : ℕ) (r : Report) → is_some old.decision ≡ false → has (nodes_of old.reports.reports) r.node ≡ true
    → StandsFor n old past reports u → Keeps n (told.Idle reason.Duplicate) old (epoch_past past reports) u r
report_again n old past reports u r unknown held h =
    let still : decision past u ≡ None = sym h.known ∙ none_of old.decision unknown in
    let is : has (nodes_of reports) r.node ≡ true = ap (λ rs. has (nodes_of rs) r.node) (sym (all_held n old past reports u still h)) ∙ held in
    let why : refuses_report (is_some (decision past u)) (has (nodes_of reports) r.node) ≡ Some reason.Duplicate =
    ap (λ d. refuses_report (is_some d) (has (nodes_of reports) r.node)) still ∙ ap (λ b. refuses_report false b) is in
    record { answer = why; stands = subst (λ w. StandsFor n old past (after_report w r reports) u) (sym why) h }

with_report : (n : ℕ) (old : Part) (held : Holding) (past : Chronicle Value) (reports : List Report) (u : ℕ) (r : Report) → held.reports ≡ put_report r old.reports.reports → decision past u ≡ None
    → StandsFor n old past reports u → StandsFor n (record old { reports = held }) past (put_report r reports) u
with_report n old held past reports u r kept still h = record {
  acceptor = h.acceptor;
  proposer = h.proposer;
  own = h.own;
  value = h.value;
  held = kept ∙ (ap (put_report r) (all_held n old past reports u still h) ∙ ap (λ d. of_use d (put_report r reports)) (sym still));
  known = h.known;
  over = h.over;
}

pub report_kept : (n : ℕ) (mails : List TheMail) (old : Part) (held : Holding) (past : Chronicle Value) (reports : List Report) (u : ℕ) (r : Report) → is_some old.decision ≡ false → has (nodes_of old.reports.reports) r.node ≡ false
    → mails ≡ [] → held.reports ≡ put_report r old.reports.reports → StandsFor n old past reports u → Keeps n (told.Sent mails) (record old { reports = held }) (epoch_past past reports) u r
report_kept n mails old held past reports u r unknown new none kept h =
    let still : decision past u ≡ None = sym h.known ∙ none_of old.decision unknown in
    let is : has (nodes_of reports) r.node ≡ false = ap (λ rs. has (nodes_of rs) r.node) (sym (all_held n old past reports u still h)) ∙ new in
    let why : refuses_report (is_some (decision past u)) (has (nodes_of reports) r.node) ≡ None =
    ap (λ d. refuses_report (is_some d) (has (nodes_of reports) r.node)) still ∙ ap (λ b. refuses_report false b) is in
    record {
      answer = (why, ap mails_seen none);
      stands = subst (λ w. StandsFor n (record old { reports = held }) past (after_report w r reports) u) (sym why) (with_report n old held past reports u r kept still h);
    }

-- ---- why no ballot is started

own_round : (s : Option Ballot) (last u : ℕ) → last ≡ round_of s → IfSome s (λ b. b.node ≡ u) → is_last (Some (record { round = last; node = u })) ≡ is_last s
own_round None last u e h = let P : ℕ → Type 0 = λ n. is_last (Some (record { round = n; node = u })) ≡ None in subst P (sym e) refl
own_round (Some b) last u e h =
    let mine : Ballot = record { round = last; node = u } in
    let same : mine ≡ b = same_parts mine b e (sym h) in
    ap (λ (c : Ballot). is_last (Some c)) same

-- the reasons, given whether a decision is known and whether a report is held
abbrev not_proposing_if : Chronicle Value → ℕ → (decided empty : Bool) → Option Reason
not_proposing_if past u decided empty =
    if decided then Some reason.Decided else if empty then Some reason.NoReport else no_round (promised past u) (started past u)

pub why_not_decided : (n : ℕ) (old : Part) (past : Chronicle Value) (reports : List Report) (u : ℕ) → is_some old.decision ≡ true → StandsFor n old past reports u → Some reason.Decided ≡ not_proposing past reports u
why_not_decided n old past reports u knows h =
    let is : is_some (decision past u) ≡ true = ap (λ (d : Option Value). is_some d) (sym h.known) ∙ knows in
    sym (ap (λ d. not_proposing_if past u d (is_empty reports)) is)

-- where no decision is known
not_proposing_then : (past : Chronicle Value) (reports : List Report) (u : ℕ) → decision past u ≡ None → not_proposing past reports u ≡ not_proposing_if past u false (is_empty reports)
not_proposing_then past reports u still = ap (λ (d : Option Value). not_proposing_if past u (is_some d) (is_empty reports)) still

pub why_not_report : (n : ℕ) (old : Part) (past : Chronicle Value) (reports : List Report) (u : ℕ) → is_some old.decision ≡ false → is_empty old.reports.reports ≡ true → StandsFor n old past reports u → Some reason.NoReport ≡ not_proposing past reports u
why_not_report n old past reports u unknown none h =
    let still : decision past u ≡ None = sym h.known ∙ none_of old.decision unknown in
    let is : is_empty reports ≡ true = ap is_empty (sym (all_held n old past reports u still h)) ∙ none in
    sym (not_proposing_then past reports u still ∙ ap (not_proposing_if past u false) is)

pub why_not_round : (n : ℕ) (old : Part) (past : Chronicle Value) (reports : List Report) (u : ℕ) → is_some old.decision ≡ false → is_empty old.reports.reports ≡ false → StandsFor n old past reports u
    → no_round old.acceptor.promised (Some (record { round = old.proposer.last_round; node = u })) ≡ not_proposing past reports u
why_not_round n old past reports u unknown some h =
    let still : decision past u ≡ None = sym h.known ∙ none_of old.decision unknown in
    let is : is_empty reports ≡ false = ap is_empty (sym (all_held n old past reports u still h)) ∙ some in
    let rounds : no_round old.acceptor.promised (Some (record { round = old.proposer.last_round; node = u })) ≡ no_round (promised past u) (started past u) =
    ap (λ p. no_round p (Some (record { round = old.proposer.last_round; node = u }))) h.acceptor.promised
    ∙ ap (λ r. option_or (is_last (promised past u)) r) (own_round (started past u) old.proposer.last_round u h.proposer.last_round h.own) in
    rounds ∙ sym (not_proposing_then past reports u still ∙ ap (not_proposing_if past u false) is)

-- if a ballot may be started, no decision is known
pub undecided_free : (past : Chronicle Value) (reports : List Report) (u : ℕ) → not_proposing past reports u ≡ None → decision past u ≡ None
undecided_free past reports u e =
    (elim (decision past u) as (λ d. not_proposing_if past u (is_some d) (is_empty reports) ≡ None → d ≡ None) [
      | None ↦ λ q. refl
      | Some v ↦ λ q. absurd (cc q)
    ]) e

pub not_started : (members : List ℕ) (old : Part) (past : Chronicle Value) (reports : List Report) (u : ℕ) (why : Reason) → Some why ≡ not_proposing past reports u
    → StandsFor (length members) old past reports u → Proposes members (told.Idle why) old old (epoch_past past reports) u
not_started members old past reports u why is h = record {
  answer = sym is;
  stands = subst (λ w. StandsFor (length members) old (opened_as w members past u) reports u) is h;
}

pub started_so : (members : List ℕ) (mails : List TheMail) (old new : Part) (past : Chronicle Value) (reports : List Report) (u : ℕ) → None ≡ not_proposing past reports u
    → mails_seen mails ≡ of_epoch old.reports.epoch (to_each members (Prepare (next_ballot past u)))
    → (decision past u ≡ None → StandsFor (length members) new (opened members past u) reports u)
    → Proposes members (told.Sent mails) old new (epoch_past past reports) u
started_so members mails old new past reports u is sent goes = record {
  answer = (sym is, sent);
  stands = subst (λ w. StandsFor (length members) new (opened_as w members past u) reports u) is (goes (undecided_free past reports u (sym is)));
}

-- ---- the answers of the calls

pub ok_then : {E X : Type 0} (r : Result X E) {P Q : X → Type 0} → IfOk r P → ((x : X) → P x → Q x) → IfOk r Q
ok_then (Ok x) h f = f x h
ok_then (Err e) h f = tt

pub says_promise : (k : ℕ) (members : List ℕ) (said this : Tally Value) (old new : Tallying Value) (past : Chronicle Value) (u from : ℕ) (b : Ballot) (named : Option (Pair Value)) → k ≡ length members → said ≡ this
    → (tallying.StandsFor k old past u → SaysPromise said k old new past (promise_delivery u from b named)) → tallying.StandsFor (length members) old past u → SaysPromise this (length members) old new past (promise_delivery u from b named)
says_promise k members said this old new past u from b named same is f h =
    let g : tallying.StandsFor (length members) old past u → SaysPromise said (length members) old new past (promise_delivery u from b named) =
    subst (λ (n : ℕ). tallying.StandsFor n old past u → SaysPromise said n old new past (promise_delivery u from b named)) same f in
    subst (λ (t : Tally Value). SaysPromise t (length members) old new past (promise_delivery u from b named)) is (g h)

pub says_vote : (k : ℕ) (members : List ℕ) (said this : Tally (Unit {0})) (old new : Tallying Value) (past : Chronicle Value) (u from : ℕ) (b : Ballot) → k ≡ length members → said ≡ this
    → (tallying.StandsFor k old past u → SaysVote said k old new past (vote_delivery u from b)) → tallying.StandsFor (length members) old past u → SaysVote this (length members) old new past (vote_delivery u from b)
says_vote k members said this old new past u from b same is f h =
    let g : tallying.StandsFor (length members) old past u → SaysVote said (length members) old new past (vote_delivery u from b) =
    subst (λ (n : ℕ). tallying.StandsFor n old past u → SaysVote said n old new past (vote_delivery u from b)) same f in
    subst (λ (t : Tally (Unit {0})). SaysVote t (length members) old new past (vote_delivery u from b)) is (g h)

phase_after_promise : (t : Tally Value) (old : Tallying Value) (from : ℕ) (named : Option (Pair Value)) → (after_promise t old from named).phase ≡ old.phase
phase_after_promise tally.Counted old from named = refl
phase_after_promise (tally.Majority v) old from named = refl
phase_after_promise tally.Stale old from named = refl
phase_after_promise tally.Duplicate old from named = refl

pub same_phase : (t : Tally Value) (old new : Tallying Value) (from : ℕ) (named : Option (Pair Value)) → new ≡ after_promise t old from named → new.phase ≡ old.phase
same_phase t old new from named is = ap (λ (x : Tallying Value). x.phase) is ∙ phase_after_promise t old from named

phase_after_vote : (t : Tally (Unit {0})) (old : Tallying Value) (from : ℕ) → (after_vote t old from).phase ≡ old.phase
phase_after_vote tally.Counted old from = refl
phase_after_vote (tally.Majority v) old from = refl
phase_after_vote tally.Stale old from = refl
phase_after_vote tally.Duplicate old from = refl

pub vote_phase : (t : Tally (Unit {0})) (old new : Tallying Value) (from : ℕ) → new ≡ after_vote t old from → new.phase ≡ old.phase
vote_phase t old new from is = ap (λ (x : Tallying Value). x.phase) is ∙ phase_after_vote t old from

pub won_now : (t : Tally Value) (v : Option Value) (old new : Tallying Value) (from : ℕ) (named : Option (Pair Value)) → t ≡ tally.Majority v → new ≡ after_promise t old from named → new.won ≡ true
won_now t v old new from named is kept = ap (λ (x : Tallying Value). x.won) (kept ∙ ap (λ (s : Tally Value). after_promise s old from named) is)

-- a value that is announced, in the form in which it is sent
pub announces : (seen : List (ℕ × mail.Message)) (e d : ℕ) (nodes : List ℕ) (kept : Option Value) (v w : Value) → seen ≡ map (λ (to : ℕ). (to, Agrees d (Decision w))) nodes → d ≡ e → kept ≡ Some v → w ≡ v
    → seen ≡ of_epoch e (announce nodes kept)
announces seen e d nodes kept v w sent same is copied =
    each_sent seen e d nodes (Decision w) sent same ∙ ap (λ (x : Option Value). of_epoch e (announce nodes x)) (ap (λ (y : Value). Some y) copied ∙ sym is)

-- the round, as it is told
pub why_no_round : (n : ℕ) (old : Part) (past : Chronicle Value) (reports : List Report) (u last : ℕ) (p : Option Ballot) (said : Option Reason) → said ≡ no_round p (Some (record { round = last; node = u })) → p ≡ old.acceptor.promised → last ≡ old.proposer.last_round
    → is_some old.decision ≡ false → is_empty old.reports.reports ≡ false → StandsFor n old past reports u → said ≡ not_proposing past reports u
why_no_round n old past reports u last p said is promised_is last_is unknown some h =
    is ∙ (ap (λ q. no_round q (Some (record { round = last; node = u }))) promised_is
    ∙ (ap (λ (r : ℕ). no_round old.acceptor.promised (Some (record { round = r; node = u }))) last_is ∙ why_not_round n old past reports u unknown some h))
