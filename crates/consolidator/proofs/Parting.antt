-- What a part stands for after one more fact.
use Rattle.std.proofs.Common.{ℕ, ap₂, true, false, Bool, ◌≡◌, ◌==◌, refl, sym, ◌∙◌, ap, subst, Option, Some, None, List, [], ◌∷◌, if◌then◌else◌}
use Rattle.std.specs.Prelude.{is_some, IfSome}
use Rattle.std.specs.List.{AllByRecursion}
use Rattle.topology.specs.declared.ballots.Ballot.{Ballot}
use Rattle.topology.specs.Lists.{has}
use Rattle.paxos_core.specs.declared.proposer.Phase.{Phase}
use Rattle.paxos_core.specs.declared.proposer.Phase.TheVariants.{Idle, Preparing, Gathering}
use Rattle.paxos_core.specs.Facts.{Message, Prepare, Promise, Accept, Accepted, Decision, Start, Mail, Heard, Crash, Other, Chronicle}
use Rattle.paxos_core.specs.Readings.{started}
use Rattle.paxos_core.specs.Decisions.{decision, decision_by}
use Rattle.paxos_core.specs.Accepting.{Accepting, PassesBy}
use Rattle.paxos_core.specs.Accepting as accepting
use Rattle.paxos_core.specs.Tallying.{Tallying, Leaves}
use Rattle.paxos_core.specs.Tallying as tallying
use Rattle.paxos_core.specs.Answers.{decided, decided_by, posted, proposed, proposed_by, to_each, announce, opened, next_ballot}
use Rattle.paxos_core.specs.ProposerCalls.{forgotten, gathered}
use Rattle.paxos_core.proofs.History.{eq_self}
use Rattle.paxos_core.proofs.Posting.{posted_started, proposal}
use Rattle.paxos_core.proofs.Tallies.{crash_stands, decided_stands}
use Rattle.paxos_core.proofs.Unread.{eq_false, acceptor_unread, proposer_unread, acceptor_posted, proposer_posted}
use Rattle.incomplete_closure.specs.Reports.{Report}
use Rattle.incomplete_closure.specs.declared.values.Value.{Value}
use Rattle.consolidator.specs.declared.parts.Part.{Part}
use Rattle.consolidator.specs.Holding.{Holding}
use Rattle.consolidator.specs.Parts.{StandsFor, no_part, gone, of_use}

-- ---- other readings

known_by : {V : Type 0} (m : Message V) (d : Bool) (v : Option V) → d ≡ is_some v → decided_by m d ≡ is_some (decision_by m v)
known_by (Decision x) d None e = refl
known_by (Decision x) d (Some y) e = refl
known_by (Prepare b) d v e = e
known_by (Promise b named) d v e = e
known_by (Accept b x) d v e = e
known_by (Accepted b) d v e = e

-- a node knows a decision where there is one that it knows
pub decided_known : {V : Type 0} (past : Chronicle V) (u : ℕ) → decided past u ≡ is_some (decision past u)
decided_known [] u = refl
decided_known {V = V} (Heard w from m ∷ past) u =
    elim (w == u) as (λ t. (if t then decided_by m (decided past u) else decided past u) ≡ is_some (if t then decision_by m (decision past u) else decision past u)) [
      | true ↦ known_by m (decided past u) (decision past u) (decided_known past u)
      | false ↦ decided_known past u
    ]
decided_known (Start w b ∷ past) u = decided_known past u
decided_known (Mail w to m ∷ past) u = decided_known past u
decided_known (Crash w ∷ past) u = decided_known past u
decided_known (Other ∷ past) u = decided_known past u

-- the last ballot that u started, what it proposed and the decision that it knows stay the same
pub record Same (now past : Chronicle Value) (u : ℕ) : Type 0 where
  pub started : started now u ≡ started past u
  pub proposed : (b : Ballot) → proposed now u b ≡ proposed past u b
  pub decision : decision now u ≡ decision past u

pub same_self : (past : Chronicle Value) (u : ℕ) → Same past past u
same_self past u = record { started = refl; proposed = λ b. refl; decision = refl }

pub same_trans : (now mid past : Chronicle Value) (u : ℕ) → Same now mid u → Same mid past u → Same now past u
same_trans now mid past u s t = record {
  started = s.started ∙ t.started;
  proposed = λ b. s.proposed b ∙ t.proposed b;
  decision = s.decision ∙ t.decision;
}

same_value : (m : Message Value) (w u : ℕ) (b : Ballot) (p : Option Value) → Leaves u w m → (if w == u then proposed_by m b p else p) ≡ p
same_value (Accept c v) w u b p h = rw (eq_false w u h) refl
same_value (Prepare c) w u b p h = elim (w == u) as (λ t. (if t then p else p) ≡ p) [ true ↦ refl | false ↦ refl ]
same_value (Promise c named) w u b p h = elim (w == u) as (λ t. (if t then p else p) ≡ p) [ true ↦ refl | false ↦ refl ]
same_value (Accepted c) w u b p h = elim (w == u) as (λ t. (if t then p else p) ≡ p) [ true ↦ refl | false ↦ refl ]
same_value (Decision v) w u b p h = elim (w == u) as (λ t. (if t then p else p) ≡ p) [ true ↦ refl | false ↦ refl ]

same_mail : (past : Chronicle Value) (u w to : ℕ) (m : Message Value) → Leaves u w m → Same (Mail w to m ∷ past) past u
same_mail past u w to m h = record { started = refl; proposed = λ b. same_value m w u b (proposed past u b) h; decision = refl }

-- they also stay after messages were sent that are no Accept
pub same_posted : (past : Chronicle Value) (u w : ℕ) (ms : List (ℕ × Message Value)) → AllByRecursion (λ m. Leaves u w m.1) ms → Same (posted w ms past) past u
same_posted past u w [] all = same_self past u
same_posted past u w (m ∷ ms) all =
    same_trans (posted w ms (Mail w m.0 m.1 ∷ past)) (Mail w m.0 m.1 ∷ past) past u
    (same_posted (Mail w m.0 m.1 ∷ past) u w ms all.1) (same_mail past u w m.0 m.1 all.0)

-- the message is no decision
abbrev pub TellsNone : Message Value → Type 0
TellsNone m = (d : Option Value) → decision_by m d ≡ d

pub same_heard : (past : Chronicle Value) (u w from : ℕ) (m : Message Value) → TellsNone m → Same (Heard w from m ∷ past) past u
same_heard past u w from m none = record {
  started = refl;
  proposed = λ b. refl;
  decision = elim (w == u) as (λ t. (if t then decision_by m (decision past u) else decision past u) ≡ decision past u) [
    | true ↦ none (decision past u)
    | false ↦ refl
  ];
}

-- ---- the stored state goes on

pub goes_on : (n : ℕ) (old : Part) (a : Accepting Value) (t : Tallying Value) (now past : Chronicle Value) (reports : List Report) (u : ℕ)
    → accepting.StandsFor a now u → tallying.StandsFor n t now u → Same now past u → t.phase ≡ old.proposer.phase
    → StandsFor n old past reports u → StandsFor n (record old { acceptor = a; proposer = t }) now reports u
goes_on n old a t now past reports u accepts tallies same phase h = record {
  acceptor = accepts;
  proposer = tallies;
  own = subst (λ (z : Option Ballot). IfSome z (λ b. b.node ≡ u)) (sym same.started) h.own;
  value = λ b e. h.value b (sym phase ∙ e) ∙ sym (same.proposed b);
  held = h.held ∙ ap (λ d. of_use d reports) (sym same.decision);
  known = h.known ∙ sym same.decision;
  over = λ e. phase ∙ h.over (ap (λ (d : Option Value). is_some d) (sym same.decision) ∙ e);
}

-- a fact that the agreement does not read
pub stands_other : (n : ℕ) (old : Part) (past : Chronicle Value) (reports : List Report) (u : ℕ) → StandsFor n old past reports u → StandsFor n old (Other ∷ past) reports u
stands_other n old past reports u h =
    goes_on n old old.acceptor old.proposer (Other ∷ past) past reports u
    (acceptor_unread old.acceptor past u Other tt h.acceptor)
    (proposer_unread n old.proposer past u Other tt h.proposer)
    (record { started = refl; proposed = λ b. refl; decision = refl }) refl h

-- the acceptor took the message, and these messages answer it
pub answered : (n : ℕ) (old : Part) (a : Accepting Value) (past : Chronicle Value) (reports : List Report) (u from : ℕ) (m : Message Value) (out : List (ℕ × Message Value))
    → TellsNone m → tallying.PassesBy u u m → AllByRecursion (λ o. Leaves u u o.1) out
    → accepting.StandsFor a (Heard u from m ∷ past) u → StandsFor n old past reports u
    → StandsFor n (record old { acceptor = a }) (posted u out (Heard u from m ∷ past)) reports u
answered n old a past reports u from m out none passes leaves takes h =
    let now = Heard u from m ∷ past in
    goes_on n old a old.proposer (posted u out now) past reports u
    (acceptor_posted a now u u out takes)
    (proposer_posted n old.proposer now u u out leaves (proposer_unread n old.proposer past u (Heard u from m) passes h.proposer))
    (same_trans (posted u out now) now past u (same_posted now u u out leaves) (same_heard past u u from m none)) refl h

-- the proposer took the message, and these messages answer it; none of them is an Accept
pub tallied : (n : ℕ) (old : Part) (t : Tallying Value) (past : Chronicle Value) (reports : List Report) (u from : ℕ) (m : Message Value) (out : List (ℕ × Message Value))
    → TellsNone m → PassesBy u u m → AllByRecursion (λ o. Leaves u u o.1) out
    → tallying.StandsFor n t (Heard u from m ∷ past) u → t.phase ≡ old.proposer.phase → StandsFor n old past reports u
    → StandsFor n (record old { proposer = t }) (posted u out (Heard u from m ∷ past)) reports u
tallied n old t past reports u from m out none passes leaves takes phase h =
    let now = Heard u from m ∷ past in
    goes_on n old old.acceptor t (posted u out now) past reports u
    (acceptor_posted old.acceptor now u u out (acceptor_unread old.acceptor past u (Heard u from m) passes h.acceptor))
    (proposer_posted n t now u u out leaves takes)
    (same_trans (posted u out now) now past u (same_posted now u u out leaves) (same_heard past u u from m none)) phase h

-- one message to each, not an Accept
pub leaves_each : (u w : ℕ) (nodes : List ℕ) (m : Message Value) → Leaves u w m → AllByRecursion (λ (o : ℕ × Message Value). Leaves u w o.1) (to_each nodes m)
leaves_each u w [] m h = tt
leaves_each u w (x ∷ xs) m h = (h, leaves_each u w xs m h)

pub leaves_announce : (u w : ℕ) (nodes : List ℕ) (v : Option Value) → AllByRecursion (λ (o : ℕ × Message Value). Leaves u w o.1) (announce nodes v)
leaves_announce u w nodes None = tt
leaves_announce u w nodes (Some v) = leaves_each u w nodes (Decision v) tt

-- ---- a value is proposed

posted_decision : (w u : ℕ) (ms : List (ℕ × Message Value)) (past : Chronicle Value) → decision (posted w ms past) u ≡ decision past u
posted_decision w u [] past = refl
posted_decision w u (m ∷ ms) past = posted_decision w u ms (Mail w m.0 m.1 ∷ past)

none_some : (d : Option Value) → d ≡ None → is_some d ≡ true → ⊥
none_some None e q = absurd (cc q)
none_some (Some v) e q = absurd (cc e)

gathers_one : (b c : Ballot) (phase : Phase) → phase ≡ Gathering b → phase ≡ Gathering c → b ≡ c
gathers_one b c phase p q = cc (p, q)

pub accepts_all : (n : ℕ) (old : Part) (t : Tallying Value) (v : Value) (past : Chronicle Value) (reports : List Report) (u : ℕ) (b : Ballot) (members : List ℕ)
    → has members u ≡ true → decision past u ≡ None → t.phase ≡ Gathering b
    → ((to : ℕ) (tos : List ℕ) → tallying.StandsFor n t (posted u (to_each (to ∷ tos) (Accept b v)) past) u)
    → StandsFor n old past reports u
    → StandsFor n (record old { proposer = t; proposed = Some v }) (posted u (to_each members (Accept b v)) past) reports u
accepts_all n old t v past reports u b [] member still phase takes h = absurd (cc member)
accepts_all n old t v past reports u b (to ∷ tos) member still phase takes h =
    let out = to_each (to ∷ tos) (Accept b v) in
    let same = posted_decision u u out past in
    record {
      acceptor = acceptor_posted old.acceptor past u u out h.acceptor;
      proposer = takes to tos;
      own = subst (λ (z : Option Ballot). IfSome z (λ c. c.node ≡ u)) (sym (posted_started u u out past)) h.own;
      value = λ c e. sym (subst (λ (z : Ballot). proposed (posted u out past) u z ≡ Some v) (gathers_one b c t.phase phase e) (proposal u b v to tos past));
      held = h.held ∙ ap (λ d. of_use d reports) (sym same);
      known = h.known ∙ sym same;
      over = λ e. absurd (none_some (decision (posted u out past) u) (same ∙ still) e);
    }

-- the value went out, and an equal one is stored
pub accepts_copy : (n : ℕ) (old : Part) (t : Tallying Value) (v kept : Value) (past : Chronicle Value) (reports : List Report) (u : ℕ) (b : Ballot) (members : List ℕ)
    → kept ≡ v → has members u ≡ true → decision past u ≡ None → t.phase ≡ Gathering b
    → ((to : ℕ) (tos : List ℕ) → tallying.StandsFor n t (posted u (to_each (to ∷ tos) (Accept b v)) past) u)
    → StandsFor n old past reports u
    → StandsFor n (record old { proposer = t; proposed = Some kept }) (posted u (to_each members (Accept b v)) past) reports u
accepts_copy n old t v kept past reports u b members same member still phase takes h =
    subst (λ (x : Value). StandsFor n (record old { proposer = t; proposed = Some x }) (posted u (to_each members (Accept b v)) past) reports u) (sym same)
    (accepts_all n old t v past reports u b members member still phase takes h)

pub gathers_now : (new old : Tallying Value) (b : Ballot) → new ≡ record old { phase = gathered old.phase; counted = []; best = None } → old.phase ≡ Preparing b → new.phase ≡ Gathering b
gathers_now new old b is preparing = ap (λ (t : Tallying Value). t.phase) is ∙ ap gathered preparing

-- ---- a ballot is started

preparing_gathers : (b c : Ballot) (phase : Phase) → phase ≡ Preparing b → phase ≡ Gathering c → ⊥
preparing_gathers b c phase p q = absurd (cc (sym p ∙ q))

started_now : (past : Chronicle Value) (u : ℕ) (b : Ballot) → started (Start u b ∷ past) u ≡ Some b
started_now past u b = rw (eq_self u) refl

begins : (n : ℕ) (old : Part) (t : Tallying Value) (past : Chronicle Value) (reports : List Report) (u : ℕ) (b : Ballot)
    → decision past u ≡ None → tallying.StandsFor n t (Start u b ∷ past) u → t.phase ≡ Preparing b → b.node ≡ u → StandsFor n old past reports u
    → StandsFor n (record old { proposer = t }) (Start u b ∷ past) reports u
begins n old t past reports u b still tallies phase mine h = record {
  acceptor = acceptor_unread old.acceptor past u (Start u b) tt h.acceptor;
  proposer = tallies;
  own = subst (λ (z : Option Ballot). IfSome z (λ c. c.node ≡ u)) (sym (started_now past u b)) mine;
  value = λ c e. absurd (preparing_gathers b c t.phase phase e);
  held = h.held;
  known = h.known;
  over = λ e. absurd (none_some (decision past u) still e);
}

sends : (n : ℕ) (old : Part) (past : Chronicle Value) (reports : List Report) (u : ℕ) (out : List (ℕ × Message Value)) → AllByRecursion (λ o. Leaves u u o.1) out
    → StandsFor n old past reports u → StandsFor n old (posted u out past) reports u
sends n old past reports u out leaves h =
    goes_on n old old.acceptor old.proposer (posted u out past) past reports u
    (acceptor_posted old.acceptor past u u out h.acceptor)
    (proposer_posted n old.proposer past u u out leaves h.proposer)
    (same_posted past u u out leaves) refl h

pub asks_all : (n : ℕ) (old : Part) (t : Tallying Value) (past : Chronicle Value) (reports : List Report) (u : ℕ) (b : Ballot) (members : List ℕ)
    → decision past u ≡ None → tallying.StandsFor n t (Start u b ∷ past) u → t.phase ≡ Preparing b → b ≡ next_ballot past u → StandsFor n old past reports u
    → StandsFor n (record old { proposer = t }) (opened members past u) reports u
unfolding opened
asks_all n old t past reports u b members still tallies phase next h =
    let part : Part = record old { proposer = t } in
    subst (λ (c : Ballot). StandsFor n part (posted u (to_each members (Prepare c)) (Start u c ∷ past)) reports u) next
    (sends n part (Start u b ∷ past) reports u (to_each members (Prepare b)) (leaves_each u u members (Prepare b) tt)
    (begins n old t past reports u b still tallies phase (ap (λ (c : Ballot). c.node) next) h))

-- ---- a decision, and a crash

decision_now : (past : Chronicle Value) (u from : ℕ) (v : Value) → decision past u ≡ None → decision (Heard u from (Decision v) ∷ past) u ≡ Some v
decision_now past u from v still = rw (eq_self u, still) refl

pub decides : (n : ℕ) (old : Part) (v : Value) (past : Chronicle Value) (reports : List Report) (u from : ℕ)
    → decision past u ≡ None → StandsFor n old past reports u
    → StandsFor n (gone (record old { decision = Some v })) (Heard u from (Decision v) ∷ past) reports u
decides n old v past reports u from still h =
    let now = decision_now past u from v still in
    record {
      acceptor = acceptor_unread old.acceptor past u (Heard u from (Decision v)) tt h.acceptor;
      proposer = decided_stands past u from n v old.proposer h.proposer;
      own = h.own;
      value = λ b e. absurd (cc e);
      held = ap (λ d. of_use d reports) (sym now);
      known = sym now;
      over = λ e. refl;
    }

of_use_none : (d : Option Value) → of_use d [] ≡ []
of_use_none None = refl
of_use_none (Some v) = refl

pub crashes : (n : ℕ) (old : Part) (past : Chronicle Value) (reports : List Report) (u : ℕ) → StandsFor n old past reports u → StandsFor n (gone old) (Crash u ∷ past) [] u
crashes n old past reports u h = record {
  acceptor = acceptor_unread old.acceptor past u (Crash u) tt h.acceptor;
  proposer = crash_stands past u n old.proposer h.proposer;
  own = h.own;
  value = λ b e. absurd (cc e);
  held = sym (of_use_none (decision past u));
  known = h.known;
  over = λ e. refl;
}

-- ---- nothing has happened yet

pub nothing_made : (a : Accepting Value) (t : Tallying Value) (h : Holding) (node epoch : ℕ) → (a.promised ≡ None) × (a.accepted ≡ None) → t.node ≡ node → (t.last_round ≡ 0) × (t ≡ forgotten t)
    → h.epoch ≡ epoch → h.reports ≡ [] → ◌≡◌ {A = Part} (record { acceptor = a; proposer = t; proposed = None; reports = h; decision = None }) (no_part node epoch)
nothing_made a t h node epoch nothing own idle is none =
    let accepting_of : Option Ballot → Option (Ballot × Value) → Accepting Value = λ p q. record { promised = p; accepted = q } in
    let tallying_of : ℕ → ℕ → Tallying Value = λ n r. record { node = n; last_round = r; phase = Idle; counted = []; best = None; won = false } in
    let holding_of : ℕ → List Report → Holding = λ e rs. record { epoch = e; reports = rs } in
    let part_of : Accepting Value → Tallying Value → Holding → Part = λ x y z. record { acceptor = x; proposer = y; proposed = None; reports = z; decision = None } in
    let one : a ≡ accepting_of None None = ap₂ accepting_of nothing.0 nothing.1 in
    let two : t ≡ tallying_of node 0 = idle.1 ∙ ap₂ tallying_of own idle.0 in
    let three : h ≡ holding_of epoch [] = ap₂ holding_of is none in
    ap (λ x. part_of x t h) one ∙ (ap (λ y. part_of (accepting_of None None) y h) two ∙ ap (λ z. part_of (accepting_of None None) (tallying_of node 0) z) three)

pub nothing_stands : (n u epoch : ℕ) → StandsFor n (no_part u epoch) [] [] u
nothing_stands n u epoch = record {
  acceptor = record { promised = refl; accepted = refl };
  proposer = record {
    node = refl;
    last_round = refl;
    phase = refl;
    later = λ b k. record { promises = refl; voters = refl; proposed = λ v p. p.1 };
  };
  own = tt;
  value = λ b e. absurd (cc e);
  held = refl;
  known = refl;
  over = λ e. absurd (cc e);
}
