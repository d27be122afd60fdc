-- Parts of all epochs.
use Rattle.std.proofs.Common.{ℕ, suc, true, false, Bool, ◌≡◌, ◌==◌, ◌<◌, ◌++◌, ◌||◌, refl, sym, ◌∙◌, ap, subst, arith, Some, List, [], ◌∷◌, length, map, set, get_or, not, if◌then◌else◌, Result, Ok, Err}
use Rattle.std.specs.Result.{IfOk}
use Rattle.std.proofs.lemmas.Bool.Decides.{nat_tests}
use Rattle.topology.specs.declared.status.Reason.TheVariants as reason
use Rattle.topology.specs.Lists.{has, ascending}
use Rattle.topology.specs.Net.{Net}
use Rattle.paxos_core.specs.Facts.{delivery}
use Rattle.consolidator.specs.declared.messages.Reply.{Reply}
use Rattle.consolidator.specs.declared.messages.Reply.TheVariants as told
use Rattle.consolidator.specs.declared.parts.Part.{Part}
use Rattle.consolidator.specs.Messages.{Message, epoch_of}
use Rattle.consolidator.specs.Facts.{Chronicle, Crash, agreement}
use Rattle.consolidator.specs.Readings.{reports_held}
use Rattle.consolidator.specs.Answers.{refused, refusal_of, received_as, received, is_for_all, not_proposing, proposal_refusal, proposed_as, proposed, asks, replies}
use Rattle.consolidator.specs.Keeping.{Kept, part_in, place_in}
use Rattle.consolidator.specs.Parts.{no_part, gone}
use Rattle.consolidator.specs.Parts as part
use Rattle.consolidator.specs.Replies.{Says}
use Rattle.consolidator.specs.Standing.{IsPart, AreParts, StandsFor, Hears, HearsAll, ProposesAll, Handles, Proposes}
use Rattle.consolidator.proofs.Parting.{crashes, nothing_stands}
use Rattle.consolidator.proofs.Projecting.{hears_other, proposes_other, proposes_in, asks_so}

-- a fact of the value of a call, from two others
pub ok_from_two : {A E : Type 0} (r : Result A E) (P Q R : A → Type 0) → ((a : A) → P a → Q a → R a) → IfOk r P → IfOk r Q → IfOk r R
ok_from_two (Ok a) P Q R both p q = both a p q
ok_from_two (Err e) P Q R both p q = tt

same_number : (e : ℕ) → (e == e) ≡ true
same_number e = grind (arith, nat_tests)

number_of_true : (a b : ℕ) → (a == b) ≡ true → a ≡ b
number_of_true a b e = grind (arith, nat_tests)

-- the part of an epoch is of that epoch
pub part_epoch : (node e : ℕ) (ps : List Part) → (part_in node e ps).reports.epoch ≡ e
part_epoch node e [] = refl
part_epoch node e (p ∷ ps) =
    (elim (p.reports.epoch == e) as (λ t. (p.reports.epoch == e) ≡ t → (if t then p else part_in node e ps).reports.epoch ≡ e) [
      | true ↦ λ q. number_of_true p.reports.epoch e q
      | false ↦ λ q. part_epoch node e ps
    ]) refl

-- ---- a place for an epoch

place_new : (node e : ℕ) (ps : List Part) → place_in e ps ≡ length ps → place_in e (ps ++ no_part node e ∷ []) ≡ length ps
place_new node e [] h = ap (λ t. if t then 0 else 1) (same_number e)
place_new node e (p ∷ ps) h =
    (elim (p.reports.epoch == e) as (λ t. (if t then 0 else suc (place_in e ps)) ≡ suc (length ps) → (if t then 0 else suc (place_in e (ps ++ no_part node e ∷ []))) ≡ suc (length ps)) [
      | true ↦ λ q. absurd (omega (arith, q))
      | false ↦ λ q. ap suc (place_new node e ps (omega (arith, q)))
    ]) h

part_new : (node e d : ℕ) (ps : List Part) → part_in node d (ps ++ no_part node e ∷ []) ≡ part_in node d ps
part_new node e d [] =
    (elim (e == d) as (λ t. (e == d) ≡ t → (if t then no_part node e else no_part node d) ≡ no_part node d) [
      | true ↦ λ q. ap (no_part node) (number_of_true e d q)
      | false ↦ λ q. refl
    ]) refl
part_new node e d (p ∷ ps) = ap (λ z. if p.reports.epoch == d then p else z) (part_new node e d ps)

pub placed_new : (node e place : ℕ) (now ps : List Part) → place ≡ place_in e ps → place ≡ length ps → now ≡ ps ++ no_part node e ∷ [] → place ≡ place_in e now
placed_new node e place now ps is end made = end ∙ sym (ap (place_in e) made ∙ place_new node e ps (sym is ∙ end))

pub same_new : (node e : ℕ) (now ps : List Part) → now ≡ ps ++ no_part node e ∷ [] → (d : ℕ) → part_in node d now ≡ part_in node d ps
same_new node e now ps made d = ap (part_in node d) made ∙ part_new node e d ps

-- ---- the part at the place

pub at_place : (node e : ℕ) (ps : List Part) (x : Part) → place_in e ps < length ps → x ≡ get_or ps (place_in e ps) x → x ≡ part_in node e ps
at_place node e [] x inside is = absurd (omega (arith, inside))
at_place node e (p ∷ ps) x inside is =
    (elim (p.reports.epoch == e) as (λ t. (if t then 0 else suc (place_in e ps)) < suc (length ps) → x ≡ get_or (p ∷ ps) (if t then 0 else suc (place_in e ps)) x → x ≡ (if t then p else part_in node e ps)) [
      | true ↦ λ i q. q
      | false ↦ λ i q. at_place node e ps x (omega (arith, i)) q
    ]) inside is

skipped : (b c : Bool) (x p z : Part) → (b ≡ false → c ≡ false) → (if b then x else z) ≡ (if b then x else (if c then p else z))
skipped true c x p z h = refl
skipped false c x p z h = sym (ap (λ t. if t then p else z) (h refl))

crossed : (b c : Bool) (x p z : Part) → (b ≡ true → c ≡ true → ⊥) → (if c then p else (if b then x else z)) ≡ (if b then x else (if c then p else z))
crossed true true x p z h = absurd (h refl refl)
crossed true false x p z h = refl
crossed false true x p z h = refl
crossed false false x p z h = refl

not_both : (n e d : ℕ) → (n == e) ≡ false → (e == d) ≡ true → (n == d) ≡ true → ⊥
not_both n e d q a b = grind (arith, nat_tests)

-- another part of the epoch at that place
pub part_set : (node e d : ℕ) (ps : List Part) (x : Part) → place_in e ps < length ps → x.reports.epoch ≡ e → part_in node d (set ps (place_in e ps) x) ≡ (if e == d then x else part_in node d ps)
part_set node e d [] x inside is = absurd (omega (arith, inside))
part_set node e d (p ∷ ps) x inside is =
    (elim (p.reports.epoch == e) as (λ t. (p.reports.epoch == e) ≡ t → (if t then 0 else suc (place_in e ps)) < suc (length ps)
    → part_in node d (set (p ∷ ps) (if t then 0 else suc (place_in e ps)) x) ≡ (if e == d then x else (if p.reports.epoch == d then p else part_in node d ps))) [
      | true ↦ λ q i.
          let same = number_of_true p.reports.epoch e q in
          ap (λ n. if n == d then x else part_in node d ps) is ∙ skipped (e == d) (p.reports.epoch == d) x p (part_in node d ps) (λ other. ap (λ n. n == d) same ∙ other)
      | false ↦ λ q i.
          ap (λ z. if p.reports.epoch == d then p else z) (part_set node e d ps x (omega (arith, i)) is)
          ∙ crossed (e == d) (p.reports.epoch == d) x p (part_in node d ps) (λ a b. not_both p.reports.epoch e d q a b)
    ]) refl inside

-- ---- all parts, after one of them changed

pub parts_hear : (net : Net) (reply : Reply) (old now : List Part) (new : Part) (past : Chronicle) (u from : ℕ) (m : Message)
    → ((d : ℕ) → part_in u d now ≡ (if epoch_of m == d then new else part_in u d old)) → AreParts net old past u → Hears net reply new past (delivery u from m) → HearsAll net reply now past (delivery u from m)
parts_hear net reply old now new past u from m is h one = record {
  answer = one.answer;
  stands = λ d. subst (λ (p : Part). IsPart net p (received_as (refused past u from m) net past u from m) u d) (sym (is d))
      ((elim (epoch_of m == d) as (λ t. (epoch_of m == d) ≡ t → IsPart net (if t then new else part_in u d old) (received_as (refused past u from m) net past u from m) u d) [
        | true ↦ λ q. subst (IsPart net new (received_as (refused past u from m) net past u from m) u) (number_of_true (epoch_of m) d q) one.stands
        | false ↦ λ q. hears_other net (part_in u d old) past u from d m (refused past u from m) q (h d)
      ]) refl);
}

pub parts_propose : (net : Net) (reply : Reply) (old now : List Part) (part_old new : Part) (past : Chronicle) (u e : ℕ)
    → ((d : ℕ) → part_in u d now ≡ (if e == d then new else part_in u d old)) → part_old.reports.epoch ≡ e → AreParts net old past u
    → part.Proposes (ascending net.consolidators) reply part_old new (part.epoch_past (agreement e past) (reports_held u e past)) u → ProposesAll net reply now past u e
parts_propose net reply old now part_old new past u e is epoch h one =
    let why = not_proposing (agreement e past) (reports_held u e past) u in
    record {
      answer = asks_so net reply why past u e part_old.reports.epoch epoch one.answer;
      stands = λ d. subst (λ (p : Part). IsPart net p (proposed_as why net past u e) u d) (sym (is d))
          ((elim (e == d) as (λ t. (e == d) ≡ t → IsPart net (if t then new else part_in u d old) (proposed_as why net past u e) u d) [
            | true ↦ λ q. subst (IsPart net new (proposed_as why net past u e) u) (number_of_true e d q) (proposes_in net new past u e why one.stands)
            | false ↦ λ q. proposes_other net (part_in u d old) past u e d why q (h d)
          ]) refl);
    }

-- the part at the place of an epoch is of that epoch
pub place_epoch : (node e place : ℕ) (mid : List Part) (was : Part) → place ≡ place_in e mid → place < length mid → was ≡ get_or mid place was → was.reports.epoch ≡ e
place_epoch node e place mid was at within value =
    let placed : place_in e mid < length mid = subst (λ (k : ℕ). k < length mid) at within in
    let found : was ≡ part_in node e mid = at_place node e mid was placed (subst (λ (k : ℕ). was ≡ get_or mid k was) at value) in
    ap (λ (p : Part). p.reports.epoch) found ∙ part_epoch node e mid

-- the part at the place of its epoch heard a message
pub hears_at : (net : Net) (reply : Reply) (node e place : ℕ) (old mid : List Part) (was new : Part) (past : Chronicle) (from : ℕ) (m : Message)
    → e ≡ epoch_of m → place ≡ place_in e mid → place < length mid → ((d : ℕ) → part_in node d mid ≡ part_in node d old) → was ≡ get_or mid place was → new.reports.epoch ≡ was.reports.epoch
    → AreParts net old past node → (IsPart net was past node (epoch_of m) → Hears net reply new past (delivery node from m)) → HearsAll net reply (set mid place new) past (delivery node from m)
hears_at net reply node e place old mid was new past from m is at within same value epoch h hears =
    let placed : place_in e mid < length mid = subst (λ (k : ℕ). k < length mid) at within in
    let found : was ≡ part_in node e mid = at_place node e mid was placed (subst (λ (k : ℕ). was ≡ get_or mid k was) at value) in
    let own : new.reports.epoch ≡ e = epoch ∙ (ap (λ (p : Part). p.reports.epoch) found ∙ part_epoch node e mid) in
    let before : was ≡ part_in node (epoch_of m) old = found ∙ (same e ∙ ap (λ (x : ℕ). part_in node x old) is) in
    let parts : (d : ℕ) → part_in node d (set mid place new) ≡ (if epoch_of m == d then new else part_in node d old) =
    λ d. subst (λ (k : ℕ). part_in node d (set mid k new) ≡ (if epoch_of m == d then new else part_in node d old)) (sym at)
    (part_set node e d mid new placed own ∙ (ap (λ (z : Part). if e == d then new else z) (same d) ∙ ap (λ (x : ℕ). if x == d then new else part_in node d old) is)) in
    parts_hear net reply old (set mid place new) new past node from m parts h (hears (subst (λ (p : Part). IsPart net p past node (epoch_of m)) (sym before) (h (epoch_of m))))

-- the same of a ballot
pub proposes_at : (net : Net) (reply : Reply) (node e place : ℕ) (old mid : List Part) (was new : Part) (past : Chronicle)
    → place ≡ place_in e mid → place < length mid → ((d : ℕ) → part_in node d mid ≡ part_in node d old) → was ≡ get_or mid place was → new.reports.epoch ≡ was.reports.epoch
    → AreParts net old past node → (IsPart net was past node e → part.Proposes (ascending net.consolidators) reply was new (part.epoch_past (agreement e past) (reports_held node e past)) node)
    → ProposesAll net reply (set mid place new) past node e
proposes_at net reply node e place old mid was new past at within same value epoch h goes =
    let placed : place_in e mid < length mid = subst (λ (k : ℕ). k < length mid) at within in
    let found : was ≡ part_in node e mid = at_place node e mid was placed (subst (λ (k : ℕ). was ≡ get_or mid k was) at value) in
    let own_old : was.reports.epoch ≡ e = ap (λ (p : Part). p.reports.epoch) found ∙ part_epoch node e mid in
    let before : was ≡ part_in node e old = found ∙ same e in
    let parts : (d : ℕ) → part_in node d (set mid place new) ≡ (if e == d then new else part_in node d old) =
    λ d. subst (λ (k : ℕ). part_in node d (set mid k new) ≡ (if e == d then new else part_in node d old)) (sym at)
    (part_set node e d mid new placed (epoch ∙ own_old) ∙ ap (λ (z : Part). if e == d then new else z) (same d)) in
    parts_propose net reply old (set mid place new) was new past node e parts own_old h (goes (subst (λ (p : Part). IsPart net p past node e) (sym before) (h e)))

-- ---- the calls

pub not_is_false : (b : Bool) → not b ≡ false → b ≡ true
not_is_false true e = refl
not_is_false false e = absurd (cc e)

pub not_is_true : (b : Bool) → not b ≡ true → b ≡ false
not_is_true true e = absurd (cc e)
not_is_true false e = refl

-- a message for u
pub handled : (net : Net) (reply : Reply) (parts : List Part) (past : Chronicle) (u from : ℕ) (m : Message) → (has net.consolidators u || is_for_all m) ≡ true → HearsAll net reply parts past (delivery u from m)
    → Handles net reply (record { node = u; parts = parts }) past (delivery u from m)
unfolding refusal_of received
handled net reply parts past u from m here one = record {
  answer = subst (λ b. Says reply (if b then refused past u from m else Some reason.NotConsolidator) (replies net past u from m)) (sym here) one.answer;
  stands = record {
    number = refl;
    each = subst (λ b. AreParts net parts (received_as (if b then refused past u from m else Some reason.NotConsolidator) net past u from m) u) (sym here) one.stands;
  };
}

pub handled_by : (net : Net) (reply : Reply) (node : ℕ) (old now : List Part) (past : Chronicle) (u from : ℕ) (m : Message) → (has net.consolidators node || is_for_all m) ≡ true
    → StandsFor net (record { node = node; parts = old }) past u
    → ((before : Chronicle) → (has net.consolidators node || is_for_all m) ≡ true → AreParts net old before node → HearsAll net reply now before (delivery node from m))
    → Handles net reply (record { node = node; parts = now }) past (delivery u from m)
handled_by net reply node old now past u from m here h one =
    subst (λ (w : ℕ). Handles net reply (record { node = node; parts = now }) past (delivery w from m)) h.number
    (handled net reply now past node from m here (one past here (subst (λ (w : ℕ). AreParts net old past w) (sym h.number) h.each)))

-- a message that is not for u
pub not_handled : (net : Net) (kept : Kept) (past : Chronicle) (u from : ℕ) (m : Message) → (has net.consolidators kept.node || is_for_all m) ≡ false → StandsFor net kept past u
    → Handles net (told.Idle reason.NotConsolidator) kept past (delivery u from m)
unfolding refusal_of received
not_handled net kept past u from m test h =
    let here : (has net.consolidators u || is_for_all m) ≡ false = ap (λ w. has net.consolidators w || is_for_all m) (sym h.number) ∙ test in
    record {
      answer = ap (λ b. if b then refused past u from m else Some reason.NotConsolidator) here;
      stands = subst (λ b. StandsFor net kept (received_as (if b then refused past u from m else Some reason.NotConsolidator) net past u from m) u) (sym here) h;
    }

pub proposes : (net : Net) (reply : Reply) (parts : List Part) (past : Chronicle) (u e : ℕ) → has net.consolidators u ≡ true → ProposesAll net reply parts past u e
    → Proposes net reply (record { node = u; parts = parts }) past u e
unfolding proposal_refusal proposed
proposes net reply parts past u e here one = record {
  answer = subst (λ b. Says reply (if not b then Some reason.NotConsolidator else not_proposing (agreement e past) (reports_held u e past) u) (asks net past u e)) (sym here) one.answer;
  stands = record {
    number = refl;
    each = subst (λ b. AreParts net parts (proposed_as (if not b then Some reason.NotConsolidator else not_proposing (agreement e past) (reports_held u e past) u) net past u e) u) (sym here) one.stands;
  };
}

pub proposes_by : (net : Net) (reply : Reply) (node : ℕ) (old now : List Part) (past : Chronicle) (u e : ℕ) → has net.consolidators node ≡ true
    → StandsFor net (record { node = node; parts = old }) past u
    → ((before : Chronicle) → has net.consolidators node ≡ true → AreParts net old before node → ProposesAll net reply now before node e)
    → Proposes net reply (record { node = node; parts = now }) past u e
proposes_by net reply node old now past u e here h one =
    subst (λ (w : ℕ). Proposes net reply (record { node = node; parts = now }) past w e) h.number
    (proposes net reply now past node e here (one past here (subst (λ (w : ℕ). AreParts net old past w) (sym h.number) h.each)))

pub not_proposes : (net : Net) (kept : Kept) (past : Chronicle) (u e : ℕ) → has net.consolidators kept.node ≡ false → StandsFor net kept past u
    → Proposes net (told.Idle reason.NotConsolidator) kept past u e
unfolding proposal_refusal proposed
not_proposes net kept past u e test h =
    let here : has net.consolidators u ≡ false = ap (λ w. has net.consolidators w) (sym h.number) ∙ test in
    record {
      answer = ap (λ b. if not b then Some reason.NotConsolidator else not_proposing (agreement e past) (reports_held u e past) u) here;
      stands = subst (λ b. StandsFor net kept (proposed_as (if not b then Some reason.NotConsolidator else not_proposing (agreement e past) (reports_held u e past) u) net past u e) u) (sym here) h;
    }

-- ---- a crash

part_gone : (node e : ℕ) (ps : List Part) → part_in node e (map gone ps) ≡ gone (part_in node e ps)
part_gone node e [] = refl
part_gone node e (p ∷ ps) =
    elim (p.reports.epoch == e) as (λ t. (if t then gone p else part_in node e (map gone ps)) ≡ gone (if t then p else part_in node e ps)) [
      | true ↦ refl
      | false ↦ part_gone node e ps
    ]

none_left : (e u : ℕ) (past : Chronicle) → reports_held u e (Crash u ∷ past) ≡ []
none_left e u past = ap (λ t. if t then [] else reports_held u e past) (same_number u)

pub starts : (net : Net) (node : ℕ) → StandsFor net (record { node = node; parts = [] }) [] node
starts net node = record { number = refl; each = λ e. nothing_stands (length (ascending net.consolidators)) node e }

pub forgets : (net : Net) (old new : Kept) (past : Chronicle) (u : ℕ) → new.node ≡ old.node → new.parts ≡ map gone old.parts → StandsFor net old past u → StandsFor net new (Crash u ∷ past) u
forgets net old new past u node parts h = record {
  number = node ∙ h.number;
  each = λ e. subst (λ (p : Part). IsPart net p (Crash u ∷ past) u e) (sym (ap (part_in u e) parts ∙ part_gone u e old.parts))
      (subst (λ rs. part.StandsFor (length (ascending net.consolidators)) (gone (part_in u e old.parts)) (agreement e (Crash u ∷ past)) rs u) (sym (none_left e u past))
      (crashes (length (ascending net.consolidators)) (part_in u e old.parts) (agreement e past) (reports_held u e past) u (h.each e)));
}
