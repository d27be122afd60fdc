-- What a node sends for an agreement is admitted.
use Rattle.std.proofs.Common.{ℕ, Bool, true, false, ◌&&◌, ◌||◌, ◌==◌, not, nat_lt, nat_le, Option, Some, None, List, [], ◌∷◌, length, ◌≡◌, refl, sym, ◌∙◌, subst, arith, if◌then◌else◌}
use Rattle.std.specs.List.{list_all, AllByRecursion}
use Rattle.std.proofs.lemmas.Bool.Decides.{nat_tests}
use Rattle.topology.specs.declared.ballots.Ballot.{Ballot}
use Rattle.topology.specs.declared.status.Reason.{Reason}
use Rattle.topology.specs.declared.status.Reason.TheVariants as reason
use Rattle.topology.specs.Lists.{has, ascending}
use Rattle.topology.specs.Net.{Net, IsValid}
use Rattle.topology.proofs.Ascending.{has-ascending}
use Rattle.topology.proofs.Tests.{and_left, and_right, and_both, same_is}
use Rattle.incomplete_closure.specs.declared.values.Value.{Value}
use Rattle.paxos_core.specs.Facts.{Message as Ballots, Prepare, Promise, Accept, Accepted, Decision}
use Rattle.paxos_core.specs.Facts as paxos
use Rattle.paxos_core.specs.Readings.{accepted, promises, voters}
use Rattle.paxos_core.specs.Answers.{just_majority, to_each, or_fresh, named_value, announce, ballot_setup, answers, proposed}
use Rattle.consolidator.specs.Answers.{is_decision, refused, refusal_of, of_epoch, replies, not_proposing, proposal_refusal, ballot_of, asks}
use Rattle.consolidator.specs.Facts.{Chronicle, agreement}
use Rattle.consolidator.specs.Messages.{Message, Reports, Agrees}
use Rattle.consolidator.specs.Readings.{reports_held, fresh}
use Rattle.message_fitting.specs.ControlFits.{ballot_fits, ballots_fit, epoch_fits, message_fits, named_fits, sender_fits, value_fits}
use Rattle.node_core.specs.NodeLimits.{proposes_more, is_large}
use Rattle.topology.specs.declared.limits.TheConstants.{MOST_TRIGGERS}
use Rattle.admission_laws.specs.Handing.{is_short}
use Rattle.admission_laws.proofs.Values.{all_of, value_of_fits}
use Rattle.admission_laws.proofs.Each.{among_has}
use Rattle.admission_laws.proofs.Ballots.{control_fits, ballot_fact_fits, ballots_of, agreement_fits, accepted_fits, promises_fit, counted_fits, named_value_fits, proposed_fits, next_fits, has_round, HasValue}
use Rattle.admission_laws.proofs.Holding.{HeldAscend, held_fit}

-- ---- members

-- if one of two tests passes, and the second does not, the first does
or_off : (b : Bool) → (b || false) ≡ true → b ≡ true
or_off true h = refl
or_off false h = h

-- if P holds of all numbers of a list, it holds of each
has_each : (P : ℕ → Type 0) (xs : List ℕ) (n : ℕ) → AllByRecursion P xs → has xs n ≡ true → P n
has_each P [] n all h = absurd (cc h)
has_each P (x ∷ xs) n all h =
    (elim (x == n) as (λ t. (x == n) ≡ t → (t || has xs n) ≡ true → P n) [
      | true ↦ λ q g. subst P (same_is x n q) all.0
      | false ↦ λ q g. has_each P xs n all.1 g
    ]) refl h

-- the consolidators are nodes
pub consolidators_known : (net : Net) → IsValid net → list_all (has net.nodes) (ascending net.consolidators) ≡ true
consolidators_known net valid =
    all_of (has net.nodes) (ascending net.consolidators)
    (λ n a. has_each (λ m. has net.nodes m ≡ true) net.consolidators n valid.consolidators_are_nodes
    (sym (has-ascending net.consolidators n) ∙ among_has (ascending net.consolidators) n a))

-- the nodes of the network are nodes
pub nodes_known : (net : Net) → list_all (has net.nodes) (ascending net.nodes) ≡ true
nodes_known net = all_of (has net.nodes) (ascending net.nodes) (λ n a. sym (has-ascending net.nodes n) ∙ among_has (ascending net.nodes) n a)

-- ---- messages of one agreement

-- the message goes to a node, and is one that u may say
abbrev pub going_fits : Net → ℕ → ℕ × Ballots Value → Bool
going_fits net u p = has net.nodes p.0 && ballots_fit net u p.1

-- the message proposes no value with more triggers than a value may have
abbrev pub is_small : ℕ × Ballots Value → Bool
is_small p = not (proposes_more p.1)

module _ (net : Net) (u : ℕ) where
  -- a message that u may say fits for each of some nodes
  to_each_fits : (nodes : List ℕ) (m : Ballots Value) → list_all (has net.nodes) nodes ≡ true → ballots_fit net u m ≡ true → list_all (going_fits net u) (to_each nodes m) ≡ true
  to_each_fits [] m known fit = refl
  to_each_fits (n ∷ ns) m known fit =
      and_both (has net.nodes n && ballots_fit net u m) (list_all (going_fits net u) (to_each ns m))
      (and_both (has net.nodes n) (ballots_fit net u m) (and_left (has net.nodes n) (list_all (has net.nodes) ns) known) fit)
      (to_each_fits ns m (and_right (has net.nodes n) (list_all (has net.nodes) ns) known) fit)

  -- a message that u may say fits for one node
  to_one_fits : (n : ℕ) (m : Ballots Value) → has net.nodes n ≡ true → ballots_fit net u m ≡ true → list_all (going_fits net u) ((n, m) ∷ []) ≡ true
  to_one_fits n m known fit = and_both (has net.nodes n && ballots_fit net u m) true (and_both (has net.nodes n) (ballots_fit net u m) known fit) refl

  no_more : (n : ℕ) → not (nat_lt MOST_TRIGGERS n) ≡ true → nat_le n MOST_TRIGGERS ≡ true
  no_more n small = grind (arith, nat_tests)

  -- a value that is proposed to each of some nodes fits, if it is small
  accept_fits : (nodes : List ℕ) (b : Ballot) (v : Value) → list_all (has net.nodes) nodes ≡ true → sender_fits net u b ≡ true
      → (nat_le (length v.incomplete) MOST_TRIGGERS ≡ true → value_fits net v ≡ true) → list_all is_small (to_each nodes (Accept b v)) ≡ true
      → list_all (going_fits net u) (to_each nodes (Accept b v)) ≡ true
  accept_fits [] b v known may fit small = refl
  accept_fits (n ∷ ns) b v known may fit small =
      let one : not (nat_lt MOST_TRIGGERS (length v.incomplete)) ≡ true = and_left (not (nat_lt MOST_TRIGGERS (length v.incomplete))) (list_all is_small (to_each ns (Accept b v))) small in
      to_each_fits (n ∷ ns) (Accept b v) known (and_both (sender_fits net u b) (value_fits net v) may (fit (no_more (length v.incomplete) one)))

  announce_fits : (nodes : List ℕ) (o : Option Value) → list_all (has net.nodes) nodes ≡ true → HasValue net o → list_all (going_fits net u) (announce nodes o) ≡ true
  announce_fits nodes None known fit = refl
  announce_fits nodes (Some v) known fit = to_each_fits nodes (Decision v) known fit

  -- the value that is named fits, or else the fresh one
  or_fresh_fits : (o : Option Value) (v : Value) → HasValue net o → (nat_le (length v.incomplete) MOST_TRIGGERS ≡ true → value_fits net v ≡ true)
      → nat_le (length (or_fresh o v).incomplete) MOST_TRIGGERS ≡ true → value_fits net (or_fresh o v) ≡ true
  or_fresh_fits None v fit may few = may few
  or_fresh_fits (Some w) v fit may few = fit

  module _ (members nodes : List ℕ) (known_members : list_all (has net.nodes) members ≡ true) (known_nodes : list_all (has net.nodes) nodes ≡ true)
      (v : Value) (may : nat_le (length v.incomplete) MOST_TRIGGERS ≡ true → value_fits net v ≡ true)
      (past : paxos.Chronicle Value) (all : list_all (ballot_fact_fits net) past ≡ true) (from : ℕ) (near : has net.nodes from ≡ true) where
    -- u may send something of a ballot that it heard of
    may_send : (b : Ballot) → has net.consolidators u ≡ true → sender_fits net from b ≡ true → sender_fits net u b ≡ true
    may_send b here fit = and_both (has net.consolidators u) (ballot_fits net b) here (and_right (has net.consolidators from) (ballot_fits net b) fit)

    -- the answers of u to a message that fits are messages that u may say
    pub answers_fit : (m : Ballots Value) → (has net.consolidators u || is_decision m) ≡ true → ballots_fit net from m ≡ true
        → list_all is_small (answers (ballot_setup members nodes v) past u from m) ≡ true → list_all (going_fits net u) (answers (ballot_setup members nodes v) past u from m) ≡ true
    unfolding answers
    answers_fit (Prepare b) here fit small =
        let own = or_off (has net.consolidators u) here in
        to_one_fits from (Promise b (accepted past u)) near
        (and_both (sender_fits net u b) (named_fits net (accepted past u)) (may_send b own fit) (accepted_fits net past u all))
    answers_fit (Promise b named) here fit small =
        let own = or_off (has net.consolidators u) here in
        let counted : List (ℕ × Option (Ballot × Value)) = (from, named) ∷ promises past u b in
        let passes : list_all (counted_fits net) counted ≡ true =
        and_both (named_fits net named) (list_all (counted_fits net) (promises past u b)) (and_right (sender_fits net from b) (named_fits net named) fit) (promises_fit net past u b all) in
        let w = or_fresh (named_value counted) v in
        (elim (just_majority (length members) (length counted)) as (λ t.
        list_all is_small (if t then to_each members (Accept b w) else []) ≡ true → list_all (going_fits net u) (if t then to_each members (Accept b w) else []) ≡ true) [
          | true ↦
              accept_fits members b w known_members (may_send b own (and_left (sender_fits net from b) (named_fits net named) fit))
              (or_fresh_fits (named_value counted) v (named_value_fits net counted passes) may)
          | false ↦ λ s. refl
        ]) small
    answers_fit (Accept b w) here fit small =
        let own = or_off (has net.consolidators u) here in
        to_one_fits from (Accepted b) near (may_send b own (and_left (sender_fits net from b) (value_fits net w) fit))
    answers_fit (Accepted b) here fit small =
        elim (just_majority (length members) (length (from ∷ voters past u b))) as (λ t. list_all (going_fits net u) (if t then announce nodes (proposed past u b) else []) ≡ true) [
          | true ↦ announce_fits nodes (proposed past u b) known_nodes (proposed_fits net past u b all)
          | false ↦ refl
        ]
    answers_fit (Decision w) here fit small = refl

-- ---- messages of all agreements

-- the control message goes to a node, and is one that u may say
abbrev pub mail_fits : Net → ℕ → ℕ × Message → Bool
mail_fits net u m = has net.nodes m.0 && (message_fits net u m.1 && is_short m.1)

-- the control message proposes no value with more triggers than a value may have
abbrev pub mail_small : ℕ × Message → Bool
mail_small m = not (is_large m.1)

module _ (net : Net) (u e : ℕ) where
  -- what goes out in the agreement of an epoch fits as control messages
  pub of_epoch_fits : (ms : List (ℕ × Ballots Value)) → has net.nodes u ≡ true → epoch_fits e ≡ true → list_all (going_fits net u) ms ≡ true → list_all (mail_fits net u) (of_epoch e ms) ≡ true
  of_epoch_fits [] here at all = refl
  of_epoch_fits (m ∷ ms) here at all =
      let one : going_fits net u m ≡ true = and_left (going_fits net u m) (list_all (going_fits net u) ms) all in
      and_both (mail_fits net u (m.0, Agrees e m.1)) (list_all (mail_fits net u) (of_epoch e ms))
      (and_both (has net.nodes m.0) (message_fits net u (Agrees e m.1) && true) (and_left (has net.nodes m.0) (ballots_fit net u m.1) one)
      (and_both (message_fits net u (Agrees e m.1)) true
      (and_both (has net.nodes u) (epoch_fits e && ballots_fit net u m.1) here
      (and_both (epoch_fits e) (ballots_fit net u m.1) at (and_right (has net.nodes m.0) (ballots_fit net u m.1) one))) refl))
      (of_epoch_fits ms here at (and_right (going_fits net u m) (list_all (going_fits net u) ms) all))

  of_epoch_small : (ms : List (ℕ × Ballots Value)) → list_all mail_small (of_epoch e ms) ≡ true → list_all is_small ms ≡ true
  of_epoch_small [] small = refl
  of_epoch_small (m ∷ ms) small =
      and_both (is_small m) (list_all is_small ms) (and_left (is_small m) (list_all mail_small (of_epoch e ms)) small)
      (of_epoch_small ms (and_right (is_small m) (list_all mail_small (of_epoch e ms)) small))

-- a node that does not refuse a message is its addressee
addressed : (here : Bool) (why : Option Reason) → (if here then why else Some reason.NotConsolidator) ≡ None → here ≡ true
addressed true why free = refl
addressed false why free = absurd (cc free)

module _ (net : Net) (valid : IsValid net) (u : ℕ) (here : has net.nodes u ≡ true) (past : Chronicle) (all : list_all (control_fits net) past ≡ true) where
  -- the value that u proposes where none is named fits
  fresh_fits : (e : ℕ) → HeldAscend u past → nat_le (length (fresh u e past).incomplete) MOST_TRIGGERS ≡ true → value_fits net (fresh u e past) ≡ true
  fresh_fits e up few = value_of_fits net (reports_held u e past) (held_fit net u e past all) (up e) few

  -- the answers of u to a message that it does not refuse fit
  pub replies_fit : (from : ℕ) (m : Message) → HeldAscend u past → message_fits net from m ≡ true → refusal_of net past u from m ≡ None
      → list_all mail_small (replies net past u from m) ≡ true → list_all (mail_fits net u) (replies net past u from m) ≡ true
  unfolding replies refusal_of
  replies_fit from (Reports r) up fit free small = refl
  replies_fit from (Agrees e m) up fit free small =
      let out = answers (ballot_setup (ascending net.consolidators) (ascending net.nodes) (fresh u e past)) (agreement e past) u from m in
      of_epoch_fits net u e out here
      (and_left (epoch_fits e) (ballots_fit net from m) (and_right (has net.nodes from) (epoch_fits e && ballots_fit net from m) fit))
      (answers_fit net u (ascending net.consolidators) (ascending net.nodes) (consolidators_known net valid) (nodes_known net)
      (fresh u e past) (fresh_fits e up) (agreement e past) (agreement_fits net e past all) from (and_left (has net.nodes from) (epoch_fits e && ballots_fit net from m) fit)
      m (addressed (has net.consolidators u || is_decision m) (refused past u from (Agrees e m)) free) (ballots_of net from e m fit)
      (of_epoch_small net u e out small))

  -- a node that does not refuse to propose is a consolidator, and has no reason not to
  pub proposer : (e : ℕ) → proposal_refusal net past u e ≡ None → (has net.consolidators u ≡ true) × (not_proposing (agreement e past) (reports_held u e past) u ≡ None)
  unfolding proposal_refusal
  proposer e free = by (has net.consolidators u) free
    where
      by : (b : Bool) → (if not b then Some reason.NotConsolidator else not_proposing (agreement e past) (reports_held u e past) u) ≡ None
          → (b ≡ true) × (not_proposing (agreement e past) (reports_held u e past) u ≡ None)
      by true free = (refl, free)
      by false free = absurd (cc free)

  -- the ballot that u starts fits
  pub ballot_of_fits : (e : ℕ) → proposal_refusal net past u e ≡ None → ballot_fits net (ballot_of past u e) ≡ true
  ballot_of_fits e free =
      next_fits net (agreement e past) u (agreement_fits net e past all) here
      (has_round (agreement e past) (reports_held u e past) u (proposer e free).1)

  -- the requests of a ballot fit
  pub asks_fit : (e : ℕ) → epoch_fits e ≡ true → proposal_refusal net past u e ≡ None → list_all (mail_fits net u) (asks net past u e) ≡ true
  unfolding asks
  asks_fit e at free =
      of_epoch_fits net u e (to_each (ascending net.consolidators) (Prepare (ballot_of past u e))) here at
      (to_each_fits net u (ascending net.consolidators) (Prepare (ballot_of past u e)) (consolidators_known net valid)
      (and_both (has net.consolidators u) (ballot_fits net (ballot_of past u e)) (proposer e free).0 (ballot_of_fits e free)))
