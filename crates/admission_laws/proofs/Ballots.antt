-- The ballots and values that a node reads from its own acts and from what it heard fit.
use Rattle.std.proofs.Common.{ℕ, ◌+◌, ◌<◌, ◌^◌, max, Bool, true, false, ◌&&◌, ◌==◌, nat_lt, nat_le, Option, Some, None, List, [], ◌∷◌, ◌≡◌, refl, arith, option_map, if◌then◌else◌, IfSome}
use Rattle.std.specs.Prelude.{is_some}
use Rattle.std.specs.List.{list_all}
use Rattle.std.specs.Option.{option_or}
use Rattle.std.proofs.lemmas.Bool.Decides.{nat_tests}
use Rattle.topology.specs.declared.ballots.Ballot.{Ballot}
use Rattle.topology.specs.declared.status.Reason.{Reason}
use Rattle.topology.specs.declared.status.Reason.TheVariants as reason
use Rattle.topology.specs.Ballots.{below, same_ballot}
use Rattle.topology.specs.Lists.{has}
use Rattle.topology.specs.Net.{Net}
use Rattle.topology.proofs.Tests.{and_left, and_right, and_both}
use Rattle.incomplete_closure.specs.Reports.{Report}
use Rattle.incomplete_closure.specs.declared.values.Value.{Value}
use Rattle.paxos_core.specs.Facts.{Message as Ballots, Prepare, Promise, Accept, Accepted, Decision, Fact, Start, Mail, Heard, Crash, Other, Chronicle}
use Rattle.paxos_core.specs.Readings.{greater, promised_by, promised, accepted_by, accepted, started, promises_by, promises}
use Rattle.paxos_core.specs.Rules.{round_of, next_round, higher, highest}
use Rattle.paxos_core.specs.Decisions.{first_of, decision_by, decision}
use Rattle.paxos_core.specs.Answers.{proposed_by, proposed, named_value, next_ballot}
use Rattle.consolidator.specs.Answers.{last_round, is_last, no_round, not_proposing}
use Rattle.consolidator.specs.Messages.{Message, Reports, Agrees}
use Rattle.consolidator.specs.Readings.{is_empty}
use Rattle.consolidator.specs.Facts as consolidator
use Rattle.consolidator.specs.Facts.{agreement, fact_in}
use Rattle.message_fitting.specs.ControlFits.{ballot_fits, ballots_fit, message_fits, epoch_fits, named_fits, sender_fits, value_fits}
use Rattle.message_fitting.specs.Names.{is_number}

-- ---- facts that fit

-- the ballot and the value of the message fit, whoever sends it
abbrev pub said_fits : Net → Ballots Value → Bool
said_fits net (Prepare b) = ballot_fits net b
said_fits net (Promise b named) = ballot_fits net b && named_fits net named
said_fits net (Accept b v) = ballot_fits net b && value_fits net v
said_fits net (Accepted b) = ballot_fits net b
said_fits net (Decision v) = value_fits net v

-- the ballot and the value of a fact of one agreement fit
abbrev pub ballot_fact_fits : Net → Fact Value → Bool
ballot_fact_fits net (Start w b) = ballot_fits net b
ballot_fact_fits net (Mail w to m) = said_fits net m
ballot_fact_fits net (Heard w from m) = said_fits net m
ballot_fact_fits net (Crash w) = true
ballot_fact_fits net Other = true

-- the message is no message of an agreement, or its ballot and value fit
abbrev pub mailed_fits : Net → Message → Bool
mailed_fits net (Reports r) = true
mailed_fits net (Agrees e m) = said_fits net m

-- a fact of all agreements fits
abbrev pub control_fits : Net → consolidator.Fact → Bool
control_fits net (consolidator.Start w e b) = ballot_fits net b
control_fits net (consolidator.Mail w to m) = mailed_fits net m
control_fits net (consolidator.Heard w from m) = message_fits net from m
control_fits net (consolidator.Crash w) = true
control_fits net consolidator.Other = true

module _ (net : Net) where
  -- what a sender may say fits
  pub said_of : (from : ℕ) (m : Ballots Value) → ballots_fit net from m ≡ true → said_fits net m ≡ true
  said_of from (Prepare b) fit = and_right (has net.consolidators from) (ballot_fits net b) fit
  said_of from (Promise b named) fit =
      and_both (ballot_fits net b) (named_fits net named)
      (and_right (has net.consolidators from) (ballot_fits net b) (and_left (sender_fits net from b) (named_fits net named) fit))
      (and_right (sender_fits net from b) (named_fits net named) fit)
  said_of from (Accept b v) fit =
      and_both (ballot_fits net b) (value_fits net v)
      (and_right (has net.consolidators from) (ballot_fits net b) (and_left (sender_fits net from b) (value_fits net v) fit))
      (and_right (sender_fits net from b) (value_fits net v) fit)
  said_of from (Accepted b) fit = and_right (has net.consolidators from) (ballot_fits net b) fit
  said_of from (Decision v) fit = fit

  -- a message of an agreement that fits has a ballot and a value that its sender may say
  pub ballots_of : (from e : ℕ) (m : Ballots Value) → message_fits net from (Agrees e m) ≡ true → ballots_fit net from m ≡ true
  ballots_of from e m fit = and_right (epoch_fits e) (ballots_fit net from m) (and_right (has net.nodes from) (epoch_fits e && ballots_fit net from m) fit)

  -- a fact that fits also fits as the agreement of an epoch reads it
  fact_of : (e : ℕ) (f : consolidator.Fact) → control_fits net f ≡ true → ballot_fact_fits net (fact_in e f) ≡ true
  fact_of e (consolidator.Start w d b) fit = elim (d == e) as (λ t. ballot_fact_fits net (if t then Start w b else Other) ≡ true) [ true ↦ fit | false ↦ refl ]
  fact_of e (consolidator.Mail w to (Reports r)) fit = refl
  fact_of e (consolidator.Mail w to (Agrees d m)) fit =
      elim (d == e) as (λ t. ballot_fact_fits net (if t then Mail w to m else Other) ≡ true) [ true ↦ fit | false ↦ refl ]
  fact_of e (consolidator.Heard w from (Reports r)) fit = refl
  fact_of e (consolidator.Heard w from (Agrees d m)) fit =
      elim (d == e) as (λ t. ballot_fact_fits net (if t then Heard w from m else Other) ≡ true) [ true ↦ said_of from m (ballots_of from d m fit) | false ↦ refl ]
  fact_of e (consolidator.Crash w) fit = refl
  fact_of e consolidator.Other fit = refl

  -- if all facts fit, those of one agreement do
  pub agreement_fits : (e : ℕ) (past : consolidator.Chronicle) → list_all (control_fits net) past ≡ true → list_all (ballot_fact_fits net) (agreement e past) ≡ true
  agreement_fits e [] all = refl
  agreement_fits e (f ∷ past) all =
      and_both (ballot_fact_fits net (fact_in e f)) (list_all (ballot_fact_fits net) (agreement e past))
      (fact_of e f (and_left (control_fits net f) (list_all (control_fits net) past) all))
      (agreement_fits e past (and_right (control_fits net f) (list_all (control_fits net) past) all))

  -- ---- readings of one agreement

  -- the ballot fits, where there is one
  abbrev pub HasBallot : Option Ballot → Type 0
  HasBallot o = IfSome o (λ b. ballot_fits net b ≡ true)

  -- the value fits, where there is one
  abbrev pub HasValue : Option Value → Type 0
  HasValue o = IfSome o (λ v. value_fits net v ≡ true)

  -- if all facts fit, those behind the newest do
  rest_of : (f : Fact Value) (past : Chronicle Value) → list_all (ballot_fact_fits net) (f ∷ past) ≡ true → list_all (ballot_fact_fits net) past ≡ true
  rest_of f past all = and_right (ballot_fact_fits net f) (list_all (ballot_fact_fits net) past) all

  -- if all facts fit, the newest does
  first_one : (f : Fact Value) (past : Chronicle Value) → list_all (ballot_fact_fits net) (f ∷ past) ≡ true → ballot_fact_fits net f ≡ true
  first_one f past all = and_left (ballot_fact_fits net f) (list_all (ballot_fact_fits net) past) all

  greater_fits : (b : Ballot) (o : Option Ballot) → ballot_fits net b ≡ true → HasBallot o → HasBallot (greater b o)
  greater_fits b None fit before = fit
  greater_fits b (Some c) fit before = elim (below c b) as (λ t. HasBallot (if t then Some b else Some c)) [ true ↦ fit | false ↦ before ]

  promised_more : (m : Ballots Value) (o : Option Ballot) → said_fits net m ≡ true → HasBallot o → HasBallot (promised_by m o)
  promised_more (Prepare b) o fit before = greater_fits b o fit before
  promised_more (Promise b named) o fit before = before
  promised_more (Accept b v) o fit before = greater_fits b o (and_left (ballot_fits net b) (value_fits net v) fit) before
  promised_more (Accepted b) o fit before = before
  promised_more (Decision v) o fit before = before

  -- the ballot that u promised fits
  pub promised_fits : (past : Chronicle Value) (u : ℕ) → list_all (ballot_fact_fits net) past ≡ true → HasBallot (promised past u)
  promised_fits [] u all = tt
  promised_fits (Heard w from m ∷ past) u all =
      let before = promised_fits past u (rest_of (Heard w from m) past all) in
      elim (w == u) as (λ t. HasBallot (if t then promised_by m (promised past u) else promised past u)) [
        | true ↦ promised_more m (promised past u) (first_one (Heard w from m) past all) before
        | false ↦ before
      ]
  promised_fits (f ∷ past) u all = promised_fits past u (rest_of f past all)

  -- the ballot that u started last fits
  pub started_fits : (past : Chronicle Value) (u : ℕ) → list_all (ballot_fact_fits net) past ≡ true → HasBallot (started past u)
  started_fits [] u all = tt
  started_fits (Start w b ∷ past) u all =
      elim (w == u) as (λ t. HasBallot (if t then Some b else started past u)) [
        | true ↦ first_one (Start w b) past all
        | false ↦ started_fits past u (rest_of (Start w b) past all)
      ]
  started_fits (f ∷ past) u all = started_fits past u (rest_of f past all)

  accepted_more : (m : Ballots Value) (o : Option (Ballot × Value)) → said_fits net m ≡ true → named_fits net o ≡ true → named_fits net (accepted_by m o) ≡ true
  accepted_more (Prepare b) o fit before = before
  accepted_more (Promise b named) o fit before = before
  accepted_more (Accept b v) o fit before = fit
  accepted_more (Accepted b) o fit before = before
  accepted_more (Decision v) o fit before = before

  -- the pair that u accepted fits
  pub accepted_fits : (past : Chronicle Value) (u : ℕ) → list_all (ballot_fact_fits net) past ≡ true → named_fits net (accepted past u) ≡ true
  accepted_fits [] u all = refl
  accepted_fits (Heard w from m ∷ past) u all =
      let before = accepted_fits past u (rest_of (Heard w from m) past all) in
      elim (w == u) as (λ t. named_fits net (if t then accepted_by m (accepted past u) else accepted past u) ≡ true) [
        | true ↦ accepted_more m (accepted past u) (first_one (Heard w from m) past all) before
        | false ↦ before
      ]
  accepted_fits (f ∷ past) u all = accepted_fits past u (rest_of f past all)

  -- what a promise that was counted names
  abbrev pub counted_fits : ℕ × Option (Ballot × Value) → Bool
  counted_fits p = named_fits net p.1

  promises_more : (from : ℕ) (m : Ballots Value) (b : Ballot) (before : List (ℕ × Option (Ballot × Value))) → said_fits net m ≡ true → list_all counted_fits before ≡ true
      → list_all counted_fits (promises_by from m b before) ≡ true
  promises_more from (Promise c named) b before fit all =
      elim (same_ballot c b) as (λ t. list_all counted_fits (if t then (from, named) ∷ before else before) ≡ true) [
        | true ↦ and_both (named_fits net named) (list_all counted_fits before) (and_right (ballot_fits net c) (named_fits net named) fit) all
        | false ↦ all
      ]
  promises_more from (Prepare c) b before fit all = all
  promises_more from (Accept c v) b before fit all = all
  promises_more from (Accepted c) b before fit all = all
  promises_more from (Decision v) b before fit all = all

  -- the promises that u counted name what fits
  pub promises_fit : (past : Chronicle Value) (u : ℕ) (b : Ballot) → list_all (ballot_fact_fits net) past ≡ true → list_all counted_fits (promises past u b) ≡ true
  promises_fit [] u b all = refl
  promises_fit (Heard w from m ∷ past) u b all =
      let before = promises_fit past u b (rest_of (Heard w from m) past all) in
      elim (w == u) as (λ t. list_all counted_fits (if t then promises_by from m b (promises past u b) else promises past u b) ≡ true) [
        | true ↦ promises_more from m b (promises past u b) (first_one (Heard w from m) past all) before
        | false ↦ before
      ]
  promises_fit (f ∷ past) u b all = promises_fit past u b (rest_of f past all)

  higher_fits : (o p : Option (Ballot × Value)) → named_fits net o ≡ true → named_fits net p ≡ true → named_fits net (higher o p) ≡ true
  higher_fits None p fit more = more
  higher_fits (Some x) None fit more = fit
  higher_fits (Some x) (Some y) fit more = elim (below y.0 x.0) as (λ t. named_fits net (if t then Some x else Some y) ≡ true) [ true ↦ fit | false ↦ more ]

  highest_fits : (counted : List (ℕ × Option (Ballot × Value))) → list_all counted_fits counted ≡ true → named_fits net (highest counted) ≡ true
  highest_fits [] all = refl
  highest_fits (p ∷ before) all =
      higher_fits p.1 (highest before) (and_left (counted_fits p) (list_all counted_fits before) all)
      (highest_fits before (and_right (counted_fits p) (list_all counted_fits before) all))

  value_named : (o : Option (Ballot × Value)) → named_fits net o ≡ true → HasValue (option_map (λ (p : Ballot × Value). p.1) o)
  value_named None fit = tt
  value_named (Some p) fit = and_right (ballot_fits net p.0) (value_fits net p.1) fit

  -- the value that fitting promises name fits
  pub named_value_fits : (counted : List (ℕ × Option (Ballot × Value))) → list_all counted_fits counted ≡ true → HasValue (named_value counted)
  named_value_fits counted all = value_named (highest counted) (highest_fits counted all)

  proposed_more : (m : Ballots Value) (b : Ballot) (o : Option Value) → said_fits net m ≡ true → HasValue o → HasValue (proposed_by m b o)
  proposed_more (Accept c v) b o fit before =
      elim (same_ballot c b) as (λ t. HasValue (if t then Some v else o)) [ true ↦ and_right (ballot_fits net c) (value_fits net v) fit | false ↦ before ]
  proposed_more (Prepare c) b o fit before = before
  proposed_more (Promise c named) b o fit before = before
  proposed_more (Accepted c) b o fit before = before
  proposed_more (Decision v) b o fit before = before

  -- the value that u proposed fits
  pub proposed_fits : (past : Chronicle Value) (u : ℕ) (b : Ballot) → list_all (ballot_fact_fits net) past ≡ true → HasValue (proposed past u b)
  proposed_fits [] u b all = tt
  proposed_fits (Mail w to m ∷ past) u b all =
      let before = proposed_fits past u b (rest_of (Mail w to m) past all) in
      elim (w == u) as (λ t. HasValue (if t then proposed_by m b (proposed past u b) else proposed past u b)) [
        | true ↦ proposed_more m b (proposed past u b) (first_one (Mail w to m) past all) before
        | false ↦ before
      ]
  proposed_fits (f ∷ past) u b all = proposed_fits past u b (rest_of f past all)

  first_fits : (v : Value) (o : Option Value) → value_fits net v ≡ true → HasValue o → HasValue (first_of v o)
  first_fits v None fit before = fit
  first_fits v (Some w) fit before = before

  decision_more : (m : Ballots Value) (o : Option Value) → said_fits net m ≡ true → HasValue o → HasValue (decision_by m o)
  decision_more (Decision v) o fit before = first_fits v o fit before
  decision_more (Prepare c) o fit before = before
  decision_more (Promise c named) o fit before = before
  decision_more (Accept c v) o fit before = before
  decision_more (Accepted c) o fit before = before

  -- the decision that u knows fits
  pub decision_fits : (past : Chronicle Value) (u : ℕ) → list_all (ballot_fact_fits net) past ≡ true → HasValue (decision past u)
  decision_fits [] u all = tt
  decision_fits (Heard w from m ∷ past) u all =
      let before = decision_fits past u (rest_of (Heard w from m) past all) in
      elim (w == u) as (λ t. HasValue (if t then decision_by m (decision past u) else decision past u)) [
        | true ↦ decision_more m (decision past u) (first_one (Heard w from m) past all) before
        | false ↦ before
      ]
  decision_fits (f ∷ past) u all = decision_fits past u (rest_of f past all)

  -- ---- the ballot that comes next

  -- a round that is not the last one is below it
  round_below : (o : Option Ballot) → HasBallot o → is_last o ≡ None → round_of o < 4294967295
  round_below None fit not_last = omega arith
  round_below (Some b) fit not_last =
      let numbered : is_number b.round ≡ true = and_left (is_number b.round) (has net.nodes b.node) fit in
      let small : nat_lt b.round (2 ^ 32) ≡ true = and_right (nat_le 1 b.round) (nat_lt b.round (2 ^ 32)) numbered in
      (elim (b.round == last_round) as (λ t. (b.round == last_round) ≡ t → (if t then Some (reason.NoRound b) else None) ≡ None → b.round < 4294967295) [
        | true ↦ λ e q. absurd (cc q)
        | false ↦ λ e q. grind (arith, nat_tests)
      ]) refl not_last

  -- if the first of two reasons is none, both are none
  neither : (o p : Option Reason) → option_or o p ≡ None → (o ≡ None) × (p ≡ None)
  neither None p e = (refl, e)
  neither (Some x) p e = absurd (cc e)

  next_number : (m n : ℕ) → m < 4294967295 → n < 4294967295 → is_number (1 + max m n) ≡ true
  next_number m n low below = grind (arith, nat_tests)

  -- the ballot that u starts next fits, if u has a round left
  pub next_fits : (past : Chronicle Value) (u : ℕ) → list_all (ballot_fact_fits net) past ≡ true → has net.nodes u ≡ true → no_round (promised past u) (started past u) ≡ None
      → ballot_fits net (next_ballot past u) ≡ true
  next_fits past u all here free =
      let none = neither (is_last (promised past u)) (is_last (started past u)) free in
      and_both (is_number (next_round past u)) (has net.nodes u)
      (next_number (round_of (started past u)) (round_of (promised past u))
      (round_below (started past u) (started_fits past u all) none.1)
      (round_below (promised past u) (promised_fits past u all) none.0))
      here

-- a node that proposes has a round left
pub has_round : (past : Chronicle Value) (reports : List Report) (u : ℕ) → not_proposing past reports u ≡ None → no_round (promised past u) (started past u) ≡ None
has_round past reports u free =
    (elim (is_some (decision past u)) as (λ t.
    (if t then Some reason.Decided else if is_empty reports then Some reason.NoReport else no_round (promised past u) (started past u)) ≡ None
    → no_round (promised past u) (started past u) ≡ None) [
      | true ↦ λ e. absurd (cc e)
      | false ↦ λ e.
          (elim (is_empty reports) as (λ t. (if t then Some reason.NoReport else no_round (promised past u) (started past u)) ≡ None → no_round (promised past u) (started past u) ≡ None) [
            | true ↦ λ g. absurd (cc g)
            | false ↦ λ g. g
          ]) e
    ]) free
