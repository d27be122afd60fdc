-- What the agreement of an epoch reads of a node's acts.
use Rattle.std.proofs.Common.{ℕ, true, false, Bool, ◌≡◌, ◌==◌, ◌||◌, ◌<◌, ◌≤◌, refl, sym, ◌∙◌, ap, subst, arith, Option, Some, None, List, [], ◌∷◌, length, if◌then◌else◌}
use Rattle.std.specs.Prelude.{is_some}
use Rattle.std.proofs.lemmas.Bool.Decides.{nat_tests}
use Rattle.topology.specs.declared.ballots.Ballot.{Ballot}
use Rattle.topology.specs.declared.status.Reason.{Reason}
use Rattle.topology.specs.Lists.{has, ascending}
use Rattle.topology.specs.Net.{Net, IsValid}
use Rattle.topology.proofs.Ascending.{has-ascending, length-ascending}
use Rattle.paxos_core.specs.Facts as paxos
use Rattle.paxos_core.specs.Answers.{Refusal, refusal, ballot_setup, answers, to_each, next_ballot, received, opened}
use Rattle.paxos_core.specs.Answers as paxos_answers
use Rattle.incomplete_closure.specs.Reports.{Report}
use Rattle.incomplete_closure.specs.Collecting.{value_of}
use Rattle.incomplete_closure.specs.declared.values.Value.{Value}
use Rattle.consolidator.specs.declared.messages.Reply.{Reply}
use Rattle.consolidator.specs.declared.parts.Part.{Part}
use Rattle.consolidator.specs.Messages.{Message, Reports, Agrees, epoch_of}
use Rattle.consolidator.specs.Facts.{Chronicle, Start, Mail, Heard, agreement}
use Rattle.consolidator.specs.Readings.{put_report, nodes_of, reports_held, known}
use Rattle.consolidator.specs.Answers.{is_for_all, is_decision, reason_where, refuses_report, refused, of_epoch, replies, asks, posted, received_as, proposed_as}
use Rattle.consolidator.specs.Replies.{Says}
use Rattle.consolidator.specs.Parts as part
use Rattle.consolidator.specs.Standing.{IsPart, Hears}
use Rattle.consolidator.proofs.Parting.{stands_other}

same_number : (e : ℕ) → (e == e) ≡ true
same_number e = grind (arith, nat_tests)

-- ---- the epoch itself

-- what the node sends for the epoch is what the agreement sends
agreement_posted : (e u : ℕ) (ms : List (ℕ × paxos.Message Value)) (past : Chronicle) → agreement e (posted u (of_epoch e ms) past) ≡ paxos_answers.posted u ms (agreement e past)
agreement_posted e u [] past = refl
agreement_posted e u (m ∷ ms) past =
    agreement_posted e u ms (Mail u m.0 (Agrees e m.1) ∷ past)
    ∙ ap (λ t. paxos_answers.posted u ms ((if t then paxos.Mail u m.0 m.1 else paxos.Other) ∷ agreement e past)) (same_number e)

-- no report is among the messages sent
reports_posted : (e u w : ℕ) (ms : List (ℕ × Message)) (past : Chronicle) → reports_held u e (posted w ms past) ≡ reports_held u e past
reports_posted e u w [] past = refl
reports_posted e u w (m ∷ ms) past = reports_posted e u w ms (Mail w m.0 m.1 ∷ past)

agreement_heard : (e u from : ℕ) (m : paxos.Message Value) (past : Chronicle) → agreement e (Heard u from (Agrees e m) ∷ past) ≡ paxos.Heard u from m ∷ agreement e past
agreement_heard e u from m past = ap (λ t. (if t then paxos.Heard u from m else paxos.Other) ∷ agreement e past) (same_number e)

agreement_started : (e u : ℕ) (b : Ballot) (past : Chronicle) → agreement e (Start u e b ∷ past) ≡ paxos.Start u b ∷ agreement e past
agreement_started e u b past = ap (λ t. (if t then paxos.Start u b else paxos.Other) ∷ agreement e past) (same_number e)

either : {A : Type 0} (b : Bool) (x : A) → (if b then x else x) ≡ x
either true x = refl
either false x = refl

-- what the node sends after it heard the message
abbrev said : Net → Chronicle → ℕ → ℕ → ℕ → paxos.Message Value → List (ℕ × paxos.Message Value)
said net past u e from m = answers (ballot_setup (ascending net.consolidators) (ascending net.nodes) (value_of (reports_held u e past))) (agreement e past) u from m

replies_of : (net : Net) (past : Chronicle) (u e from : ℕ) (m : paxos.Message Value) → replies net past u from (Agrees e m) ≡ of_epoch e (said net past u e from m)
unfolding replies
replies_of net past u e from m = refl

agreement_received : (net : Net) (past : Chronicle) (u e from : ℕ) (m : paxos.Message Value)
    → agreement e (posted u (replies net past u from (Agrees e m)) (Heard u from (Agrees e m) ∷ past)) ≡ paxos_answers.posted u (said net past u e from m) (paxos.Heard u from m ∷ agreement e past)
agreement_received net past u e from m =
    ap (λ ms. agreement e (posted u ms (Heard u from (Agrees e m) ∷ past))) (replies_of net past u e from m)
    ∙ (agreement_posted e u (said net past u e from m) (Heard u from (Agrees e m) ∷ past)
    ∙ ap (paxos_answers.posted u (said net past u e from m)) (agreement_heard e u from m past))

reports_received : (net : Net) (past : Chronicle) (u e from : ℕ) (m : paxos.Message Value)
    → reports_held u e (posted u (replies net past u from (Agrees e m)) (Heard u from (Agrees e m) ∷ past)) ≡ reports_held u e past
reports_received net past u e from m = reports_posted e u u (replies net past u from (Agrees e m)) (Heard u from (Agrees e m) ∷ past) ∙ either (u == u) (reports_held u e past)

received_in : (net : Net) (new : Part) (past : Chronicle) (u e from : ℕ) (m : paxos.Message Value) (why : Option Refusal)
    → part.StandsFor (length (ascending net.consolidators)) new (paxos_answers.received_as why (ballot_setup (ascending net.consolidators) (ascending net.nodes) (value_of (reports_held u e past))) (agreement e past) u from m) (reports_held u e past) u
    → IsPart net new (received_as (reason_where why) net past u from (Agrees e m)) u e
received_in net new past u e from m (Some why) h = h
received_in net new past u e from m None h =
    subst (λ (c : paxos.Chronicle Value). part.StandsFor (length (ascending net.consolidators)) new c (reports_held u e (posted u (replies net past u from (Agrees e m)) (Heard u from (Agrees e m) ∷ past))) u)
    (sym (agreement_received net past u e from m))
    (subst (λ (rs : List Report). part.StandsFor (length (ascending net.consolidators)) new (paxos_answers.posted u (said net past u e from m) (paxos.Heard u from m ∷ agreement e past)) rs u)
    (sym (reports_received net past u e from m)) h)

said_is : (net : Net) (reply : Reply) (why : Option Reason) (past : Chronicle) (u e d from : ℕ) (m : paxos.Message Value) → e ≡ d
    → Says reply why (of_epoch d (answers (ballot_setup (ascending net.consolidators) (ascending net.nodes) (value_of (reports_held u e past))) (agreement e past) u from m))
    → Says reply why (replies net past u from (Agrees e m))
said_is net reply why past u e d from m same h =
    subst (λ ms. Says reply why ms) (sym (replies_of net past u e from m))
    (subst (λ x. Says reply why (of_epoch x (said net past u e from m))) (sym same) h)

received_is : (members nodes : List ℕ) (v : Value) (past : paxos.Chronicle Value) (u from : ℕ) (m : paxos.Message Value)
    → received (ballot_setup members nodes v) past u from m ≡ paxos_answers.received_as (refusal past u from m) (ballot_setup members nodes v) past u from m
unfolding received
received_is members nodes v past u from m = refl

-- a message of the agreement of the epoch
pub hears_agreement : (net : Net) (reply : Reply) (old new : Part) (past : Chronicle) (u e from : ℕ) (m : paxos.Message Value) → e ≡ old.reports.epoch
    → part.Hears (part.addressees (ascending net.consolidators) (ascending net.nodes)) reply old new (part.epoch_past (agreement e past) (reports_held u e past)) (paxos.delivery u from m)
    → Hears net reply new past (paxos.delivery u from (Agrees e m))
hears_agreement net reply old new past u e from m same h = record {
  answer = said_is net reply (reason_where (refusal (agreement e past) u from m)) past u e old.reports.epoch from m same h.answer;
  stands = received_in net new past u e from m (refusal (agreement e past) u from m)
      (subst (λ (c : paxos.Chronicle Value). part.StandsFor (length (ascending net.consolidators)) new c (reports_held u e past) u)
      (received_is (ascending net.consolidators) (ascending net.nodes) (value_of (reports_held u e past)) (agreement e past) u from m) h.stands);
}

no_replies : (net : Net) (past : Chronicle) (u from : ℕ) (r : Report) → replies net past u from (Reports r) ≡ []
unfolding replies
no_replies net past u from r = refl

report_held : (past : Chronicle) (u from : ℕ) (r : Report) → reports_held u r.epoch (Heard u from (Reports r) ∷ past) ≡ put_report r (reports_held u r.epoch past)
report_held past u from r =
    ap (λ t. if t then (if r.epoch == r.epoch then put_report r (reports_held u r.epoch past) else reports_held u r.epoch past) else reports_held u r.epoch past) (same_number u)
    ∙ ap (λ t. if t then put_report r (reports_held u r.epoch past) else reports_held u r.epoch past) (same_number r.epoch)

report_in : (net : Net) (new : Part) (past : Chronicle) (u from : ℕ) (r : Report) (why : Option Reason)
    → part.StandsFor (length (ascending net.consolidators)) new (agreement r.epoch past) (part.after_report why r (reports_held u r.epoch past)) u
    → IsPart net new (received_as why net past u from (Reports r)) u r.epoch
report_in net new past u from r (Some why) h = h
report_in net new past u from r None h =
    subst (λ (ms : List (ℕ × Message)). IsPart net new (posted u ms (Heard u from (Reports r) ∷ past)) u r.epoch) (sym (no_replies net past u from r))
    (subst (λ (rs : List Report). part.StandsFor (length (ascending net.consolidators)) new (paxos.Other ∷ agreement r.epoch past) rs u) (sym (report_held past u from r))
    (stands_other (length (ascending net.consolidators)) new (agreement r.epoch past) (put_report r (reports_held u r.epoch past)) u h))

-- a report of the epoch
pub hears_report : (net : Net) (reply : Reply) (new : Part) (past : Chronicle) (u from : ℕ) (r : Report)
    → part.Keeps (length (ascending net.consolidators)) reply new (part.epoch_past (agreement r.epoch past) (reports_held u r.epoch past)) u r
    → Hears net reply new past (paxos.delivery u from (Reports r))
hears_report net reply new past u from r h = record {
  answer = subst (λ ms. Says reply (refused past u from (Reports r)) ms) (sym (no_replies net past u from r)) h.answer;
  stands = report_in net new past u from r (refuses_report (is_some (known u r.epoch past)) (has (nodes_of (reports_held u r.epoch past)) r.node)) h.stands;
}

-- ---- a delivered message

or_left : (b : Bool) → (b || false) ≡ true → b ≡ true
or_left true h = refl
or_left false h = h

-- a node that hears a message for consolidators is one of them
pub member_of : (net : Net) (u : ℕ) (members : List ℕ) → members ≡ ascending net.consolidators → (has net.consolidators u || false) ≡ true → has members u ≡ true
member_of net u members is h = ap (λ ms. has ms u) is ∙ (has-ascending net.consolidators u ∙ or_left (has net.consolidators u) h)

-- there are not too many of them
pub few_members : (net : Net) (members : List ℕ) → IsValid net → members ≡ ascending net.consolidators → length members < 4294967296
few_members net members valid is =
    let few : length net.consolidators ≤ 7 = valid.few_consolidators in
    let same : length members ≡ length net.consolidators = ap (λ (ns : List ℕ). length ns) is ∙ length-ascending net.consolidators in
    omega (arith, few, same)

pub hears_so : (net : Net) (reply : Reply) (old new : Part) (past : Chronicle) (u from : ℕ) (members nodes : List ℕ) (m : Message) (e : ℕ) (x : paxos.Message Value)
    → m ≡ Agrees e x → members ≡ ascending net.consolidators → nodes ≡ ascending net.nodes
    → epoch_of m ≡ old.reports.epoch → (has net.consolidators u || is_for_all m) ≡ true → IsPart net old past u (epoch_of m)
    → ((has net.consolidators u || is_decision x) ≡ true → part.StandsFor (length members) old (agreement e past) (reports_held u e past) u
    → part.Hears (part.addressees members nodes) reply old new (part.epoch_past (agreement e past) (reports_held u e past)) (paxos.delivery u from x))
    → Hears net reply new past (paxos.delivery u from m)
hears_so net reply old new past u from members nodes m e x is are_members are_nodes epoch here h hears =
    let here_too : (has net.consolidators u || is_decision x) ≡ true = subst (λ z. (has net.consolidators u || is_for_all z) ≡ true) is here in
    let stands : part.StandsFor (length (ascending net.consolidators)) old (agreement e past) (reports_held u e past) u = subst (λ z. IsPart net old past u (epoch_of z)) is h in
    let said_so : part.Hears (part.addressees members nodes) reply old new (part.epoch_past (agreement e past) (reports_held u e past)) (paxos.delivery u from x) =
    hears here_too (subst (λ (ms : List ℕ). part.StandsFor (length ms) old (agreement e past) (reports_held u e past) u) (sym are_members) stands) in
    subst (λ z. Hears net reply new past (paxos.delivery u from z)) (sym is)
    (hears_agreement net reply old new past u e from x (subst (λ z. epoch_of z ≡ old.reports.epoch) is epoch)
    (subst (λ (ns : List ℕ). part.Hears (part.addressees (ascending net.consolidators) ns) reply old new (part.epoch_past (agreement e past) (reports_held u e past)) (paxos.delivery u from x)) are_nodes
    (subst (λ (ms : List ℕ). part.Hears (part.addressees ms nodes) reply old new (part.epoch_past (agreement e past) (reports_held u e past)) (paxos.delivery u from x)) are_members said_so)))

pub hears_report_so : (net : Net) (reply : Reply) (old new : Part) (past : Chronicle) (u from : ℕ) (m : Message) (r : Report) → m ≡ Reports r → IsPart net old past u (epoch_of m)
    → (part.StandsFor (length (ascending net.consolidators)) old (agreement r.epoch past) (reports_held u r.epoch past) u
    → part.Keeps (length (ascending net.consolidators)) reply new (part.epoch_past (agreement r.epoch past) (reports_held u r.epoch past)) u r)
    → Hears net reply new past (paxos.delivery u from m)
hears_report_so net reply old new past u from m r is h keeps =
    subst (λ z. Hears net reply new past (paxos.delivery u from z)) (sym is)
    (hears_report net reply new past u from r (keeps (subst (λ z. IsPart net old past u (epoch_of z)) is h)))

-- ---- other epochs

posted_other : (net : Net) (kept : Part) (u w e d : ℕ) (ms : List (ℕ × paxos.Message Value)) (past : Chronicle) → (e == d) ≡ false
    → IsPart net kept past u d → IsPart net kept (posted w (of_epoch e ms) past) u d
posted_other net kept u w e d [] past other h = h
posted_other net kept u w e d (m ∷ ms) past other h =
    posted_other net kept u w e d ms (Mail w m.0 (Agrees e m.1) ∷ past) other
    (subst (λ t. part.StandsFor (length (ascending net.consolidators)) kept ((if t then paxos.Mail w m.0 m.1 else paxos.Other) ∷ agreement d past) (reports_held u d past) u) (sym other)
    (stands_other (length (ascending net.consolidators)) kept (agreement d past) (reports_held u d past) u h))

heard_other : (net : Net) (kept : Part) (past : Chronicle) (u w from d : ℕ) (m : Message) → (epoch_of m == d) ≡ false → IsPart net kept past u d → IsPart net kept (Heard w from m ∷ past) u d
heard_other net kept past u w from d (Agrees e m) other h =
    subst (λ t. part.StandsFor (length (ascending net.consolidators)) kept ((if t then paxos.Heard w from m else paxos.Other) ∷ agreement d past) (if w == u then reports_held u d past else reports_held u d past) u) (sym other)
    (subst (λ (rs : List Report). part.StandsFor (length (ascending net.consolidators)) kept (paxos.Other ∷ agreement d past) rs u) (sym (either (w == u) (reports_held u d past)))
    (stands_other (length (ascending net.consolidators)) kept (agreement d past) (reports_held u d past) u h))
heard_other net kept past u w from d (Reports r) other h =
    subst (λ t. part.StandsFor (length (ascending net.consolidators)) kept (paxos.Other ∷ agreement d past) (if w == u then (if t then put_report r (reports_held u d past) else reports_held u d past) else reports_held u d past) u) (sym other)
    (subst (λ (rs : List Report). part.StandsFor (length (ascending net.consolidators)) kept (paxos.Other ∷ agreement d past) rs u) (sym (either (w == u) (reports_held u d past)))
    (stands_other (length (ascending net.consolidators)) kept (agreement d past) (reports_held u d past) u h))

-- a message of one epoch leaves the parts of other epochs
pub hears_other : (net : Net) (kept : Part) (past : Chronicle) (u from d : ℕ) (m : Message) (why : Option Reason) → (epoch_of m == d) ≡ false
    → IsPart net kept past u d → IsPart net kept (received_as why net past u from m) u d
hears_other net kept past u from d m (Some why) other h = h
hears_other net kept past u from d (Agrees e m) None other h =
    subst (λ (ms : List (ℕ × Message)). IsPart net kept (posted u ms (Heard u from (Agrees e m) ∷ past)) u d) (sym (replies_of net past u e from m))
    (posted_other net kept u u e d (said net past u e from m) (Heard u from (Agrees e m) ∷ past) other (heard_other net kept past u u from d (Agrees e m) other h))
hears_other net kept past u from d (Reports r) None other h =
    subst (λ (ms : List (ℕ × Message)). IsPart net kept (posted u ms (Heard u from (Reports r) ∷ past)) u d) (sym (no_replies net past u from r))
    (heard_other net kept past u u from d (Reports r) other h)

-- ---- ballots

asks_of : (net : Net) (past : Chronicle) (u e : ℕ) → asks net past u e ≡ of_epoch e (to_each (ascending net.consolidators) (paxos.Prepare (next_ballot (agreement e past) u)))
unfolding asks
asks_of net past u e = refl

opened_of : (members : List ℕ) (past : paxos.Chronicle Value) (u : ℕ) → opened members past u ≡ paxos_answers.posted u (to_each members (paxos.Prepare (next_ballot past u))) (paxos.Start u (next_ballot past u) ∷ past)
unfolding opened
opened_of members past u = refl

agreement_opened : (net : Net) (past : Chronicle) (u e : ℕ)
    → agreement e (posted u (asks net past u e) (Start u e (next_ballot (agreement e past) u) ∷ past)) ≡ opened (ascending net.consolidators) (agreement e past) u
agreement_opened net past u e =
    let b : Ballot = next_ballot (agreement e past) u in
    let out : List (ℕ × paxos.Message Value) = to_each (ascending net.consolidators) (paxos.Prepare b) in
    ap (λ ms. agreement e (posted u ms (Start u e b ∷ past))) (asks_of net past u e)
    ∙ (agreement_posted e u out (Start u e b ∷ past)
    ∙ (ap (paxos_answers.posted u out) (agreement_started e u b past) ∙ sym (opened_of (ascending net.consolidators) (agreement e past) u)))

pub proposes_in : (net : Net) (new : Part) (past : Chronicle) (u e : ℕ) (why : Option Reason)
    → part.StandsFor (length (ascending net.consolidators)) new (part.opened_as why (ascending net.consolidators) (agreement e past) u) (reports_held u e past) u
    → IsPart net new (proposed_as why net past u e) u e
proposes_in net new past u e (Some why) h = h
proposes_in net new past u e None h =
    subst (λ (c : paxos.Chronicle Value). part.StandsFor (length (ascending net.consolidators)) new c (reports_held u e (posted u (asks net past u e) (Start u e (next_ballot (agreement e past) u) ∷ past))) u)
    (sym (agreement_opened net past u e))
    (subst (λ (rs : List Report). part.StandsFor (length (ascending net.consolidators)) new (opened (ascending net.consolidators) (agreement e past) u) rs u)
    (sym (reports_posted e u u (asks net past u e) (Start u e (next_ballot (agreement e past) u) ∷ past))) h)

pub asks_so : (net : Net) (reply : Reply) (why : Option Reason) (past : Chronicle) (u e d : ℕ) → d ≡ e
    → Says reply why (of_epoch d (to_each (ascending net.consolidators) (paxos.Prepare (next_ballot (agreement e past) u)))) → Says reply why (asks net past u e)
asks_so net reply why past u e d same h =
    subst (λ ms. Says reply why ms) (sym (asks_of net past u e))
    (subst (λ x. Says reply why (of_epoch x (to_each (ascending net.consolidators) (paxos.Prepare (next_ballot (agreement e past) u))))) same h)

-- a ballot of one epoch leaves the parts of other epochs
pub proposes_other : (net : Net) (kept : Part) (past : Chronicle) (u e d : ℕ) (why : Option Reason) → (e == d) ≡ false
    → IsPart net kept past u d → IsPart net kept (proposed_as why net past u e) u d
proposes_other net kept past u e d (Some why) other h = h
proposes_other net kept past u e d None other h =
    let b : Ballot = next_ballot (agreement e past) u in
    subst (λ (ms : List (ℕ × Message)). IsPart net kept (posted u ms (Start u e b ∷ past)) u d) (sym (asks_of net past u e))
    (posted_other net kept u u e d (to_each (ascending net.consolidators) (paxos.Prepare b)) (Start u e b ∷ past) other
    (subst (λ t. part.StandsFor (length (ascending net.consolidators)) kept ((if t then paxos.Start u b else paxos.Other) ∷ agreement d past) (reports_held u d past) u) (sym other)
    (stands_other (length (ascending net.consolidators)) kept (agreement d past) (reports_held u d past) u h)))
