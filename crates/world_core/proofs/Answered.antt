-- A node of a network is given an input.
use Rattle.std.proofs.Common.{ℕ, suc, Bool, true, false, ◌==◌, ◌+◌, ◌-◌, ◌≤◌, Some, List, [], ◌++◌, ◌≡◌, refl, sym, ◌∙◌, ap, subst, arith, map, set, slice_get, length}
use Rattle.std.proofs.lemmas.List.{append-nil}
use Rattle.topology.specs.Lists.{has, ascending}
use Rattle.topology.specs.Net.{Net, IsValid}
use Rattle.topology.specs.declared.status.Reason.{Reason}
use Rattle.path_vector.specs.Rules.{Rules}
use Rattle.trigger_log.specs.Entries.{locals}
use Rattle.link_model.specs.declared.links.Links.{Links}
use Rattle.consolidator.specs.Answers.{ballot_of}
use Rattle.chronicle.specs.Control.{control, mailed}
use Rattle.chronicle.specs.Crashes.{crashed}
use Rattle.chronicle.specs.Facts.{Fact, Chronicle, Took, Start, Heard, happen}
use Rattle.chronicle.specs.Inputs.{Input}
use Rattle.chronicle.specs.Inputs as input
use Rattle.chronicle.specs.Logs.{log_of}
use Rattle.chronicle.specs.Run.{carried_by, chronicle_of, given}
use Rattle.chronicle.specs.Giving.{give}
use Rattle.chronicle.specs.Steps.{Step, Idle, Goes, Carried}
use Rattle.chronicle.specs.Walks.{packets}
use Rattle.chronicle.proofs.Visiting.{SameWalks, same_now, same_more}
use Rattle.cut_laws.specs.Own.{SameNode}
use Rattle.cut_laws.proofs.Beside.{give_same}
use Rattle.node_core.specs.Coming.{MayCome}
use Rattle.node_core.specs.Inputs.{input_of}
use Rattle.node_core.specs.Outputs.{Answers, Hands, output_of, outputs}
use Rattle.node_core.specs.Standing.{StandsFor}
use Rattle.node_core.specs.declared.inputs.Input.{Input as Given}
use Rattle.node_core.specs.declared.node.Node.{Node}
use Rattle.node_core.specs.declared.outputs.Output.{Output}
use Rattle.node_core.specs.declared.outputs.OutputList.{OutputList}
use Rattle.node_core.specs.declared.outputs.Outputs.{Outputs}
use Rattle.node_core.specs.declared.outputs.Outputs.TheVariants.{Did, Idle as Declines}
use Rattle.control_mail.specs.Seen.{Office}
use Rattle.world_core.specs.declared.network.Network.{Network}
use Rattle.run_record.specs.declared.account.Wanted.{Wanted}
use Rattle.run_record.specs.declared.outcomes.Effect.{Effect}
use Rattle.run_record.specs.declared.outcomes.Outcome.TheVariants as outcome
use Rattle.run_record.specs.Accounts.{AccountView}
use Rattle.run_record.specs.Effects.{effects, Tells}
use Rattle.world_core.specs.Happening.{AreSending, GoesWhere, KeepsNodes, Since, away_with, handed}
use Rattle.run_record.specs.Publications.{PublicationView, all_published}
use Rattle.world_core.specs.Limits.{triggers_of, has_more_marks, makes_local}
use Rattle.world_core.specs.Matching.{AreCrashed, AreLinks, AreMails, AreNodes, Counts, IsCounted, Stands}
use Rattle.topology.specs.declared.limits.TheConstants.{MOST_TRIGGERS, MOST_CONTROL, MOST_PACKETS}
use Rattle.world_core.specs.Telling.{AreTold}
use Rattle.world_core.specs.Turning.{Handles}
use Rattle.run_record.specs.Walks.{AreWalks, AreWalksBut, JourneyView, still_after}
use Rattle.world_core.proofs.Counts.{LogsBy, give_logs, not_fewer, total_now}
use Rattle.world_core.proofs.Nodes.{nodes_at}
use Rattle.world_core.proofs.Mailing.{same_mails}
use Rattle.world_core.proofs.Telling.{AddsBy, begun}
use Rattle.world_core.proofs.Returning.{ComesBack}
use Rattle.run_record.proofs.Walking.{all_back, walks_stay}

-- ---- what the node handed out

-- the beginning of an input shows nothing
outputs_begun : (u : ℕ) (i : Input) (past : Chronicle) → outputs (begun u i past) ≡ outputs past
outputs_begun u (input.Arrive v s x) past = append-nil (outputs past)
outputs_begun u (input.Propose e) past = append-nil (outputs past)
outputs_begun u (input.Control from m) past = append-nil (outputs past)
outputs_begun u (input.Originate p) past = refl
outputs_begun u (input.Withdraw p) past = refl
outputs_begun u (input.Prefer v value) past = refl
outputs_begun u (input.Notice v) past = refl
outputs_begun u (input.OpenSession v s) past = refl
outputs_begun u (input.Flush v) past = refl
outputs_begun u input.Snap past = refl
outputs_begun u (input.Inject id p) past = refl
outputs_begun u (input.Hop packet up) past = refl

-- nor to a user
effects_begun : (u : ℕ) (i : Input) (past : Chronicle) → effects (begun u i past) ≡ effects past
effects_begun u (input.Arrive v s x) past = append-nil (effects past)
effects_begun u (input.Propose e) past = append-nil (effects past)
effects_begun u (input.Control from m) past = append-nil (effects past)
effects_begun u (input.Originate p) past = refl
effects_begun u (input.Withdraw p) past = refl
effects_begun u (input.Prefer v value) past = refl
effects_begun u (input.Notice v) past = refl
effects_begun u (input.OpenSession v s) past = refl
effects_begun u (input.Flush v) past = refl
effects_begun u input.Snap past = refl
effects_begun u (input.Inject id p) past = refl
effects_begun u (input.Hop packet up) past = refl

-- it changes no link but by the item that is taken
links_begun : (net : Net) (u : ℕ) (i : Input) (past : Chronicle) (links : Links) → AreLinks net (handed u i past) links → AreLinks net (begun u i past) links
links_begun net u (input.Arrive v s x) past links was = was
links_begun net u (input.Propose e) past links was = record { acts = was.acts; stands = was.stands; states = was.states; items = was.items }
links_begun net u (input.Control from m) past links was = record { acts = was.acts; stands = was.stands; states = was.states; items = was.items }
links_begun net u (input.Originate p) past links was = was
links_begun net u (input.Withdraw p) past links was = was
links_begun net u (input.Prefer v value) past links was = was
links_begun net u (input.Notice v) past links was = was
links_begun net u (input.OpenSession v s) past links was = was
links_begun net u (input.Flush v) past links was = was
links_begun net u input.Snap past links was = was
links_begun net u (input.Inject id p) past links was = was
links_begun net u (input.Hop packet up) past links was = was

-- it sends no control message, stops no node and publishes nothing
quiet_begun : (u : ℕ) (i : Input) (past : Chronicle) → (mailed (begun u i past) ≡ mailed past) × ((v : ℕ) → crashed v (begun u i past) ≡ crashed v past) × (all_published (begun u i past) ≡ all_published past)
quiet_begun u (input.Arrive v s x) past = (refl, λ w. refl, refl)
quiet_begun u (input.Propose e) past = (refl, λ w. refl, refl)
quiet_begun u (input.Control from m) past = (refl, λ w. refl, refl)
quiet_begun u (input.Originate p) past = (refl, λ w. refl, refl)
quiet_begun u (input.Withdraw p) past = (refl, λ w. refl, refl)
quiet_begun u (input.Prefer v value) past = (refl, λ w. refl, refl)
quiet_begun u (input.Notice v) past = (refl, λ w. refl, refl)
quiet_begun u (input.OpenSession v s) past = (refl, λ w. refl, refl)
quiet_begun u (input.Flush v) past = (refl, λ w. refl, refl)
quiet_begun u input.Snap past = (refl, λ w. refl, refl)
quiet_begun u (input.Inject id p) past = (refl, λ w. refl, refl)
quiet_begun u (input.Hop packet up) past = (refl, λ w. refl, refl)

-- it tells of no packet
packets_begun : (u : ℕ) (i : Input) (past : Chronicle) → SameWalks past (begun u i past)
packets_begun u (input.Arrive v s x) past = same_more (Took v u s x) past past (λ t. t) (same_now past)
packets_begun u (input.Propose e) past = same_more (Start u e (ballot_of (control past) u e)) past past (λ t. t) (same_now past)
packets_begun u (input.Control from m) past = same_more (Heard u from m) past past (λ t. t) (same_now past)
packets_begun u (input.Originate p) past = same_now past
packets_begun u (input.Withdraw p) past = same_now past
packets_begun u (input.Prefer v value) past = same_now past
packets_begun u (input.Notice v) past = same_now past
packets_begun u (input.OpenSession v s) past = same_now past
packets_begun u (input.Flush v) past = same_now past
packets_begun u input.Snap past = same_now past
packets_begun u (input.Inject id p) past = same_now past
packets_begun u (input.Hop packet up) past = same_now past

-- so nothing was handed on yet
pub sending_begun : {P : Type 0} (past : Chronicle) (counts : Counts) (u : ℕ) (i : Input) (network : Network P) (wanted : Wanted) → AreLinks network.topology.value (handed u i past) network.links
    → AreMails network.topology.value past counts network.mails → network.publications.items ≡ all_published past → AreWalksBut (away_with i) network.topology.value past network.walks
    → AreSending (away_with i) (begun u i past) (begun u i past) counts network (record { wanted = wanted; list = [] })
sending_begun past counts u i network wanted links mails published walks =
    let net = network.topology.value in
    let quiet = quiet_begun u i past in
    record {
      are_links = links_begun net u i past network.links links;
      are_mails = same_mails net past (begun u i past) counts network.mails quiet.0 quiet.1 mails;
      are_published = published ∙ sym quiet.2;
      are_walks = walks_stay net past (begun u i past) network.walks (packets_begun u i past) walks;
      since = λ is. append-nil (effects (begun u i past));
    }

-- where all packets are back, none is away
sent_back : {P : Type 0} (away : ℕ → Bool) (first now : Chronicle) (counts : Counts) (network : Network P) (account : AccountView) → ((k : ℕ) → away k ≡ false) → AreSending away first now counts network account
    → AreSending (λ k. false) first now counts network account
sent_back away first now counts network account back was = record {
  are_links = was.are_links;
  are_mails = was.are_mails;
  are_published = was.are_published;
  are_walks = all_back away network.topology.value now network.walks back was.are_walks;
  since = was.since;
}

-- all that the node handed out was handed on
pub given_sent : {P : Type 0} (net : Net) (past : Chronicle) (counts : Counts) (u : ℕ) (i : Input) (s : Step) (list : OutputList) (items : List Output) (old new : Network P) (none told : AccountView) → list ≡ items
    → AddsBy net u (begun u i past) s → ComesBack i (begun u i past) s → Answers past s (Did list) → AreSending (away_with i) (begun u i past) (begun u i past) counts old none
    → ((away : ℕ → Bool) (first mid : Chronicle) (facts : List Fact) → AreTold net u mid facts → Hands mid items (happen mid facts) → AreSending away first mid counts old none
    → AreSending (still_after facts away) first (happen mid facts) counts new told)
    → AreSending (λ k. false) (begun u i past) (chronicle_of past s) counts new told
given_sent net past counts u i (Idle why) list items old new none told is adds back answers sending hand = absurd answers
given_sent net past counts u i (Goes now) list items old new none told is adds back answers sending hand =
    let first = begun u i past in
    let hands : Hands first items (happen first adds.facts) =
    ap (λ o. o ++ map output_of items) (outputs_begun u i past) ∙ (subst (λ l. Hands past l now) is answers ∙ ap outputs adds.same) in
    subst (λ c. AreSending (λ k. false) first c counts new told) (sym adds.same)
    (sent_back (still_after adds.facts (away_with i)) first (happen first adds.facts) counts new told (back adds.facts adds.same) (hand (away_with i) first first adds.facts adds.told hands sending))

-- where all was handed on, the network is as the run has it
pub sent_stands : {P : Type 0} (rules : Rules) (past : Chronicle) (s : Step) (counts : Counts) (old new : Network P) (told : AccountView) (first : Chronicle) → KeepsNodes old new
    → AreNodes old.policy rules old.topology.value (chronicle_of past s) old.nodes.items → AreCrashed old.topology.value (chronicle_of past s) old.crashed.items
    → old.triggers ≡ triggers_of old.topology.value (chronicle_of past s) → old.triggers ≤ MOST_TRIGGERS → length (mailed (chronicle_of past s)) ≤ MOST_CONTROL
    → packets (chronicle_of past s) ≤ MOST_PACKETS → has_more_marks rules old.topology.value (chronicle_of past s) ≡ false
    → AreSending (λ k. false) first (chronicle_of past s) counts new told → Stands rules (chronicle_of past s) counts new
sent_stands rules past s counts old new told first kept nodes flags total few few_mails few_packets few_marks sent = record {
  are_nodes = rw (kept.policy, kept.topology, kept.nodes) nodes;
  are_crashed = rw (kept.topology, kept.crashed) flags;
  are_links = sent.are_links;
  are_mails = sent.are_mails;
  are_published = sent.are_published;
  are_walks = sent.are_walks;
  counted = rw (kept.topology, kept.triggers) (record { total = total; few = few; few_mails = few_mails; few_packets = few_packets; few_marks = few_marks });
}

-- the effects are those of the step
pub given_tells : (past : Chronicle) (u : ℕ) (i : Input) (s : Step) (list : OutputList) (told : List Effect) → Answers past s (Did list) → Since (begun u i past) told (chronicle_of past s)
    → Tells past s (outcome.Did told)
given_tells past u i (Idle why) list told answers since = absurd answers
given_tells past u i (Goes now) list told answers since = ap (λ l. l ++ told) (sym (effects_begun u i past)) ∙ since

-- a node that declined did nothing
pub declined : (past : Chronicle) (s : Step) (why : Reason) → Answers past s (Declines why) → s ≡ Idle why
declined past (Idle reason) why answers = ap Idle (sym answers)
declined past (Goes now) why answers = absurd answers

-- so no item was taken
links_declined : (net : Net) (past : Chronicle) (u : ℕ) (i : Input) (why : Reason) (links : Links) → GoesWhere i (Idle why) → AreLinks net (handed u i past) links → AreLinks net past links
links_declined net past u (input.Arrive v s x) why links goes was = absurd goes
links_declined net past u (input.Originate p) why links goes was = was
links_declined net past u (input.Withdraw p) why links goes was = was
links_declined net past u (input.Prefer v value) why links goes was = was
links_declined net past u (input.Notice v) why links goes was = was
links_declined net past u (input.OpenSession v s) why links goes was = was
links_declined net past u (input.Flush v) why links goes was = was
links_declined net past u input.Snap why links goes was = was
links_declined net past u (input.Propose e) why links goes was = was
links_declined net past u (input.Control from m) why links goes was = was
links_declined net past u (input.Inject id p) why links goes was = was
links_declined net past u (input.Hop packet up) why links goes was = was

-- so the links are as the run has them
pub idle_links : (net : Net) (past : Chronicle) (u : ℕ) (i : Input) (s : Step) (why : Reason) (links : Links) → Answers past s (Declines why) → GoesWhere i s → AreLinks net (handed u i past) links
    → AreLinks net (chronicle_of past s) links
idle_links net past u i s why links answers goes was =
    let is = declined past s why answers in
    subst (λ c. AreLinks net c links) (sym (ap (chronicle_of past) is)) (links_declined net past u i why links (subst (GoesWhere i) is goes) was)

-- so is the count of triggers
pub idle_counted : (rules : Rules) (net : Net) (past : Chronicle) (s : Step) (why : Reason) (triggers : ℕ) → Answers past s (Declines why) → IsCounted rules net past triggers → IsCounted rules net (chronicle_of past s) triggers
idle_counted rules net past s why triggers answers was = subst (λ c. IsCounted rules net c triggers) (sym (ap (chronicle_of past) (declined past s why answers))) was

-- of the control messages
pub idle_mails : (net : Net) (past : Chronicle) (counts : Counts) (s : Step) (why : Reason) (mails : Office) → Answers past s (Declines why) → AreMails net past counts mails → AreMails net (chronicle_of past s) counts mails
idle_mails net past counts s why mails answers was = subst (λ c. AreMails net c counts mails) (sym (ap (chronicle_of past) (declined past s why answers))) was

-- no packet was away
walks_declined : (net : Net) (past : Chronicle) (i : Input) (why : Reason) (walks : List JourneyView) → GoesWhere i (Idle why) → AreWalksBut (away_with i) net past walks → AreWalks net past walks
walks_declined net past (input.Hop packet up) why walks goes was = absurd goes
walks_declined net past (input.Arrive v s x) why walks goes was = was
walks_declined net past (input.Originate p) why walks goes was = was
walks_declined net past (input.Withdraw p) why walks goes was = was
walks_declined net past (input.Prefer v value) why walks goes was = was
walks_declined net past (input.Notice v) why walks goes was = was
walks_declined net past (input.OpenSession v s) why walks goes was = was
walks_declined net past (input.Flush v) why walks goes was = was
walks_declined net past input.Snap why walks goes was = was
walks_declined net past (input.Propose e) why walks goes was = was
walks_declined net past (input.Control from m) why walks goes was = was
walks_declined net past (input.Inject id p) why walks goes was = was

-- so the packets are as the run has them
pub idle_walks : (net : Net) (past : Chronicle) (i : Input) (s : Step) (why : Reason) (walks : List JourneyView) → Answers past s (Declines why) → GoesWhere i s → AreWalksBut (away_with i) net past walks
    → AreWalks net (chronicle_of past s) walks
idle_walks net past i s why walks answers goes was =
    let is = declined past s why answers in
    subst (λ c. AreWalks net c walks) (sym (ap (chronicle_of past) is)) (walks_declined net past i why walks (subst (GoesWhere i) is goes) was)

-- and of what was published
pub idle_published : (past : Chronicle) (s : Step) (why : Reason) (list : List PublicationView) → Answers past s (Declines why) → list ≡ all_published past → list ≡ all_published (chronicle_of past s)
idle_published past s why list answers was = subst (λ c. list ≡ all_published c) (sym (ap (chronicle_of past) (declined past s why answers))) was

-- the reason is that of the step
pub idle_tells : (past : Chronicle) (s : Step) (why : Reason) → Answers past s (Declines why) → Tells past s (outcome.Idle why)
idle_tells past s why answers = subst (λ s. Tells past s (outcome.Idle why)) (sym (declined past s why answers)) refl

-- ---- the nodes, and their triggers

module _ {P : Type 0} (policy : P) (rules : P → Rules) (net : Net) (past : Chronicle) (u : ℕ) (i : Given) where
  -- what u does with the input, over the links of the run
  abbrev pub what : Step
  what = given (rules policy) net past u (input_of i)

  -- the others are as they were
  pub others_same : (v : ℕ) → (u == v) ≡ false → SameNode v past (chronicle_of past what)
  others_same v off = give_same (rules policy) net v u off past (carried_by u past) (input_of i)

  -- they keep what they stand for, where the law says so
  pub stay : ((policy : P) (net : Net) (u v : ℕ) (node : Node P) (carried : Carried) (past : Chronicle) (input : Input) → (v == u) ≡ false
      → StandsFor policy (rules policy) net u node past → StandsFor policy (rules policy) net u node (chronicle_of past (give (rules policy) net carried v past input)))
      → (v : ℕ) (node : Node P) → (u == v) ≡ false → StandsFor policy (rules policy) net v node past → StandsFor policy (rules policy) net v node (chronicle_of past what)
  stay law v node off stands = law policy net v u node (carried_by u past) past (input_of i) off stands

  -- what the node does to its log
  pub logs : LogsBy u (makes_local (input_of i)) past what
  logs = give_logs (rules policy) net (carried_by u past) u past (input_of i)

  module _ (nodes after : List (Node P)) (rank : ℕ) (old new : Node P) (outputs : Outputs) (was : AreNodes policy (rules policy) net past nodes)
      (at : slice_get (ascending net.nodes) rank ≡ Some u) (may : MayCome net u (input_of i)) (here : slice_get nodes rank ≡ Some old) (handles : Handles rules old i new outputs) where
    -- the node itself
    pub new_stands : StandsFor policy (rules policy) net u new (chronicle_of past what)
    new_stands = handles.stands policy net u (carried_by u past) past (was.each rank u old at here) may

    -- its answer
    pub new_answers : Answers past what outputs
    new_answers = handles.answers policy net u (carried_by u past) past (was.each rank u old at here) may

    -- all nodes
    pub nodes_given : ((v : ℕ) (node : Node P) → (u == v) ≡ false → StandsFor policy (rules policy) net v node past → StandsFor policy (rules policy) net v node (chronicle_of past what))
        → after ≡ set nodes rank new → AreNodes policy (rules policy) net (chronicle_of past what) after
    nodes_given stay is =
        subst (AreNodes policy (rules policy) net (chronicle_of past what)) (sym is)
        (nodes_at policy (rules policy) net past nodes was (chronicle_of past what) rank u new at new_stands stay)

-- the local entries are never fewer, whatever the step
not_fewer_by : (u : ℕ) (own : Bool) (past : Chronicle) (s : Step) → LogsBy u own past s → locals (log_of u past) ≤ locals (log_of u (chronicle_of past s))
not_fewer_by u own past (Idle why) logs = omega arith
not_fewer_by u own past (Goes now) logs = not_fewer u own past now logs

-- the triggers of all, by what the node counted before and after
pub total_given : (net : Net) (past : Chronicle) (u : ℕ) (own : Bool) (s : Step) (triggers before after : ℕ) → IsValid net → has net.nodes u ≡ true
    → ((v : ℕ) → (u == v) ≡ false → SameNode v past (chronicle_of past s)) → LogsBy u own past s
    → triggers ≡ triggers_of net past → before ≡ suc (locals (log_of u past)) → after ≡ suc (locals (log_of u (chronicle_of past s)))
    → triggers + (after - before) ≡ triggers_of net (chronicle_of past s)
total_given net past u own s triggers before after valid node others logs total was is =
    let sum = total_now net past (chronicle_of past s) u valid node others (not_fewer_by u own past s logs) in
    let more = not_fewer_by u own past s logs in
    omega (arith, sum, more, total, was, is)
