-- Where a run stops: where one of its nodes does, or at the triggers of all.
use Rattle.std.proofs.Common.{ℕ, suc, Bool, true, false, ◌&&◌, ◌||◌, ◌==◌, ◌+◌, ◌-◌, nat_lt, Option, Some, None, List, ◌≡◌, ◌≤◌, ◌<◌, Result, Err, IfErr, refl, sym, ◌∙◌, ap, subst, arith, length}
use Rattle.std.specs.Prelude.{not, nat_le, if◌then◌else◌}
use Rattle.std.proofs.lemmas.Bool.Decides.{nat_tests}
use Rattle.topology.specs.declared.status.LimitKind.{LimitKind}
use Rattle.topology.specs.declared.status.LimitKind.TheVariants.{Bytes, Events, Epochs, Triggers, Entries, Updates, Control, Packets, Frames, Marks, Journal}
use Rattle.topology.specs.Lists.{has}
use Rattle.topology.specs.Net.{Net, IsValid}
use Rattle.path_vector.specs.Rules.{Rules}
use Rattle.trigger_log.specs.Entries.{locals}
use Rattle.trigger_log.specs.Sending.{sent_of}
use Rattle.chronicle.specs.Control.{mailed}
use Rattle.chronicle.specs.Epochs.{epoch}
use Rattle.chronicle.specs.Facts.{Chronicle}
use Rattle.chronicle.specs.Logs.{log_of}
use Rattle.chronicle.specs.declared.events.Event.{Event}
use Rattle.chronicle.specs.Run.{chronicle_of, run, step}
use Rattle.chronicle.specs.Steps.{Step, Idle, Goes}
use Rattle.chronicle.specs.Walks.{packets}
use Rattle.cut_laws.specs.Own.{SameNode}
use Rattle.topology.specs.declared.limits.TheConstants.{MOST_CONTROL, MOST_ENTRIES, MOST_EPOCHS, MOST_EVENTS, MOST_MARKS, MOST_PACKETS, MOST_TRIGGERS, MOST_UPDATES}
use Rattle.node_core.specs.NodeLimits.{Reached, has_large_value, has_long_list, node_above, limit_before_marks, first_of_node}
use Rattle.node_core.specs.NodeLimits.{StopsAt}
use Rattle.node_core.specs.Outputs.{Answers}
use Rattle.node_core.specs.declared.node.Node.{Node}
use Rattle.node_core.specs.declared.outputs.OutputList.{OutputList}
use Rattle.node_core.specs.declared.outputs.Outputs.TheVariants.{Did}
use Rattle.node_core.specs.declared.outputs.Stop.{Stop}
use Rattle.node_core.specs.declared.outputs.Stop.TheVariants as stop
use Rattle.world_core.specs.declared.network.Network.{Network}
use Rattle.world_core.specs.Happening.{ListsAreShort}
use Rattle.world_core.specs.Matching.{AreNodes, Counts, Stands}
use Rattle.world_core.specs.Limits.{limit_of, triggers_of, has_more_control, has_more_packets, has_more_marks, first_above, above, above_by, is_epochs, run_stop}
use Rattle.world_core.proofs.Places.{same_some}
use Rattle.world_core.proofs.Counts.{Logs, LogsBy, by_own, not_fewer, one_entry, total_now, within_counts, none_of_node, above_none, above_control, above_packets, above_marks, above_own}
use Rattle.world_core.proofs.Nodes.{all_within}
use Rattle.world_core.proofs.Proposing.{too_many_triggers}

-- an error that is handed on
pub handed_on : {T E : Type 0} (r : Result T E) (Q : E → Type 0) (why : E) → r ≡ Err why → Q why → IfErr r Q
handed_on r Q why is q = rw is q

-- ---- which limit it is

-- equal limits are of equal kinds
kinds_are : (a b : LimitKind) (m n : ℕ) → ◌≡◌ {A = Option Reached} (Some (record { kind = a; number = m })) (Some (record { kind = b; number = n })) → a ≡ b
kinds_are a b m n e =
    let one : Reached = record { kind = a; number = m } in
    let other : Reached = record { kind = b; number = n } in
    ap (λ (r : Reached). r.kind) (same_some one other e)

not_epochs : (entries updates : Bool) (number : ℕ) → first_of_node false false entries updates ≡ Some (record { kind = Epochs; number = number }) → ⊥
not_epochs true updates number e = absurd (cc (kinds_are Entries Epochs MOST_ENTRIES number e))
not_epochs false true number e = absurd (cc (kinds_are Updates Epochs MOST_UPDATES number e))
not_epochs false false number e = absurd (cc e)

-- the triggers, of one value or of all
at_triggers : (full : Bool) (kind : LimitKind) (number : ℕ) → ◌≡◌ {A = Option Reached} (Some (record { kind = Triggers; number = MOST_TRIGGERS })) (Some (record { kind = kind; number = number }))
    → StopsAt (Some (record { kind = Triggers; number = MOST_TRIGGERS })) (if full then stop.Limit Triggers MOST_TRIGGERS else stop.Limit kind number)
at_triggers true kind number e = refl
at_triggers false kind number e = e

-- the triggers come before what is reached else
triggers_first : (triggers full : Bool) → full ≡ triggers → (rest : Option Reached) (kind : LimitKind) (number : ℕ) → rest ≡ Some (record { kind = kind; number = number })
    → StopsAt (if triggers then Some (record { kind = Triggers; number = MOST_TRIGGERS }) else rest) (if full then stop.Limit Triggers MOST_TRIGGERS else stop.Limit kind number)
triggers_first true true same rest kind number is = refl
triggers_first true false same rest kind number is = absurd (cc same)
triggers_first false true same rest kind number is = absurd (cc same)
triggers_first false false same rest kind number is = is

-- what comes behind the triggers
abbrev behind_triggers : (entries updates control packets marks : Bool) → Option Reached
behind_triggers entries updates control packets marks =
    if entries then Some (record { kind = Entries; number = MOST_ENTRIES })
    else if updates then Some (record { kind = Updates; number = MOST_UPDATES })
    else if control then Some (record { kind = Control; number = MOST_CONTROL })
    else if packets then Some (record { kind = Packets; number = MOST_PACKETS })
    else if marks then Some (record { kind = Marks; number = MOST_MARKS })
    else None

-- what a node reaches comes before the control messages and the packets
before_control : (entries updates control packets marks : Bool) (kind : LimitKind) (number : ℕ) → first_of_node false false entries updates ≡ Some (record { kind = kind; number = number })
    → behind_triggers entries updates control packets marks ≡ Some (record { kind = kind; number = number })
before_control true updates control packets marks kind number e = e
before_control false true control packets marks kind number e = e
before_control false false control packets marks kind number e = absurd (cc e)

-- the limit of the run, by that of the node; a value that is too large comes of too many triggers of all
limit_is : (epochs large triggers entries updates control packets marks full : Bool) (kind : LimitKind) (number : ℕ) → first_of_node epochs large entries updates ≡ Some (record { kind = kind; number = number })
    → (large ≡ true → triggers ≡ true) → (epochs ≡ false → large ≡ false → full ≡ triggers)
    → StopsAt (first_above (record { epochs = epochs; triggers = triggers; entries = entries; updates = updates; control = control; packets = packets; marks = marks })) (if not (is_epochs kind) && full then stop.Limit Triggers MOST_TRIGGERS else stop.Limit kind number)
limit_is true large triggers entries updates control packets marks full Epochs number e more same = e
limit_is true large triggers entries updates control packets marks full Bytes number e more same = absurd (cc (kinds_are Epochs Bytes MOST_EPOCHS number e))
limit_is true large triggers entries updates control packets marks full Events number e more same = absurd (cc (kinds_are Epochs Events MOST_EPOCHS number e))
limit_is true large triggers entries updates control packets marks full Triggers number e more same = absurd (cc (kinds_are Epochs Triggers MOST_EPOCHS number e))
limit_is true large triggers entries updates control packets marks full Entries number e more same = absurd (cc (kinds_are Epochs Entries MOST_EPOCHS number e))
limit_is true large triggers entries updates control packets marks full Updates number e more same = absurd (cc (kinds_are Epochs Updates MOST_EPOCHS number e))
limit_is true large triggers entries updates control packets marks full Control number e more same = absurd (cc (kinds_are Epochs Control MOST_EPOCHS number e))
limit_is true large triggers entries updates control packets marks full Packets number e more same = absurd (cc (kinds_are Epochs Packets MOST_EPOCHS number e))
limit_is true large triggers entries updates control packets marks full Frames number e more same = absurd (cc (kinds_are Epochs Frames MOST_EPOCHS number e))
limit_is true large triggers entries updates control packets marks full Marks number e more same = absurd (cc (kinds_are Epochs Marks MOST_EPOCHS number e))
limit_is true large triggers entries updates control packets marks full Journal number e more same = absurd (cc (kinds_are Epochs Journal MOST_EPOCHS number e))
limit_is false true triggers entries updates control packets marks full kind number e more same =
    subst (λ t. StopsAt (first_above (record { epochs = false; triggers = t; entries = entries; updates = updates; control = control; packets = packets; marks = marks })) (if not (is_epochs kind) && full then stop.Limit Triggers MOST_TRIGGERS else stop.Limit kind number)) (sym (more refl))
    (at_triggers (not (is_epochs kind) && full) kind number e)
limit_is false false triggers entries updates control packets marks full Epochs number e more same = absurd (not_epochs entries updates number e)
limit_is false false triggers entries updates control packets marks full Bytes number e more same = triggers_first triggers full (same refl refl) (behind_triggers entries updates control packets marks) Bytes number (before_control entries updates control packets marks Bytes number e)
limit_is false false triggers entries updates control packets marks full Events number e more same = triggers_first triggers full (same refl refl) (behind_triggers entries updates control packets marks) Events number (before_control entries updates control packets marks Events number e)
limit_is false false triggers entries updates control packets marks full Triggers number e more same = triggers_first triggers full (same refl refl) (behind_triggers entries updates control packets marks) Triggers number (before_control entries updates control packets marks Triggers number e)
limit_is false false triggers entries updates control packets marks full Entries number e more same = triggers_first triggers full (same refl refl) (behind_triggers entries updates control packets marks) Entries number (before_control entries updates control packets marks Entries number e)
limit_is false false triggers entries updates control packets marks full Updates number e more same = triggers_first triggers full (same refl refl) (behind_triggers entries updates control packets marks) Updates number (before_control entries updates control packets marks Updates number e)
limit_is false false triggers entries updates control packets marks full Control number e more same = triggers_first triggers full (same refl refl) (behind_triggers entries updates control packets marks) Control number (before_control entries updates control packets marks Control number e)
limit_is false false triggers entries updates control packets marks full Packets number e more same = triggers_first triggers full (same refl refl) (behind_triggers entries updates control packets marks) Packets number (before_control entries updates control packets marks Packets number e)
limit_is false false triggers entries updates control packets marks full Frames number e more same = triggers_first triggers full (same refl refl) (behind_triggers entries updates control packets marks) Frames number (before_control entries updates control packets marks Frames number e)
limit_is false false triggers entries updates control packets marks full Marks number e more same = triggers_first triggers full (same refl refl) (behind_triggers entries updates control packets marks) Marks number (before_control entries updates control packets marks Marks number e)
limit_is false false triggers entries updates control packets marks full Journal number e more same = triggers_first triggers full (same refl refl) (behind_triggers entries updates control packets marks) Journal number (before_control entries updates control packets marks Journal number e)

-- ---- the triggers

-- where an entry is made, the triggers are too many where it is local and they were as many as may be
enough : (own : Bool) (triggers old new before after : ℕ) → triggers ≡ old → new ≡ old + (after - before) → after ≡ before + by_own own → triggers ≤ MOST_TRIGGERS
    → (own && nat_le MOST_TRIGGERS triggers) ≡ nat_lt MOST_TRIGGERS new
enough true triggers old new before after is sum more few =
    let next : new ≡ suc triggers = omega arith in
    rw next (grind (arith, nat_tests))
enough false triggers old new before after is sum more few =
    let same : new ≡ triggers = omega arith in
    let low : nat_lt MOST_TRIGGERS triggers ≡ false = grind (arith, nat_tests, few) in
    rw same (sym low)

module _ (rules : Rules) (net : Net) (past now : Chronicle) (u : ℕ) (own : Bool) (triggers : ℕ) (valid : IsValid net) (node : has net.nodes u ≡ true)
    (within : (v : ℕ) → has net.nodes v ≡ true → node_above rules net v past ≡ None) (others : (v : ℕ) → (u == v) ≡ false → SameNode v past now)
    (total : triggers ≡ triggers_of net past) (few : triggers ≤ MOST_TRIGGERS) where
  -- an entry is one too many only where one was made
  was_made : (kind : LimitKind) (number : ℕ) → nat_lt MOST_EPOCHS (epoch u now) ≡ false → (has_large_value u now || has_long_list rules net u now) ≡ false
      → first_of_node (nat_lt MOST_EPOCHS (epoch u now)) (has_large_value u now || has_long_list rules net u now) (nat_lt MOST_ENTRIES (length (log_of u now))) (nat_lt MOST_UPDATES (length (sent_of rules net u (log_of u now)))) ≡ Some (record { kind = kind; number = number })
      → log_of u now ≡ log_of u past → ⊥
  was_made kind number low small is same =
      let counts = within_counts rules net u past (within u node) in
      let entries : nat_lt MOST_ENTRIES (length (log_of u now)) ≡ false = ap (λ h. nat_lt MOST_ENTRIES (length h)) same ∙ counts.2 in
      let updates : nat_lt MOST_UPDATES (length (sent_of rules net u (log_of u now))) ≡ false = ap (λ h. nat_lt MOST_UPDATES (length (sent_of rules net u h))) same ∙ counts.3 in
      let none : first_of_node false false false false ≡ Some (record { kind = kind; number = number }) = rw (low, small, entries, updates) at is in
      absurd (cc none)

  pub at_limit : ListsAreShort rules net now → (kind : LimitKind) (number : ℕ) → Logs u own past now → node_above rules net u now ≡ Some (record { kind = kind; number = number })
      → StopsAt (above rules net now) (run_stop triggers own (stop.Limit kind number))
  unfolding node_above
  at_limit lists kind number logs is =
      let epochs = nat_lt MOST_EPOCHS (epoch u now) in
      let entries = nat_lt MOST_ENTRIES (length (log_of u now)) in
      let updates = nat_lt MOST_UPDATES (length (sent_of rules net u (log_of u now))) in
      subst (λ limit. StopsAt limit (run_stop triggers own (stop.Limit kind number))) (sym (above_own rules net past within now u node others))
      (limit_is epochs (has_large_value u now || has_long_list rules net u now) (nat_lt MOST_TRIGGERS (triggers_of net now)) entries updates (has_more_control now) (has_more_packets now) (has_more_marks rules net now) (own && nat_le MOST_TRIGGERS triggers) kind number is
      (λ large. let many = too_many_triggers rules net u now node lists large in grind (arith, nat_tests, many))
      (λ low small. enough own triggers (triggers_of net past) (triggers_of net now) (locals (log_of u past)) (locals (log_of u now)) total
      (total_now net past now u valid node others (not_fewer u own past now logs))
      (one_entry u own past now logs (was_made kind number low small is)) few))

  -- the triggers are too many, and the node is within its own counts
  pub too_many : MOST_TRIGGERS < triggers_of net now → node_above rules net u now ≡ None → above rules net now ≡ Some (record { kind = Triggers; number = MOST_TRIGGERS })
  unfolding node_above
  too_many many is =
      let none = none_of_node (nat_lt MOST_EPOCHS (epoch u now)) (has_large_value u now || has_long_list rules net u now) (nat_lt MOST_ENTRIES (length (log_of u now))) (nat_lt MOST_UPDATES (length (sent_of rules net u (log_of u now)))) is in
      let high : nat_lt MOST_TRIGGERS (triggers_of net now) ≡ true = grind (arith, nat_tests, many) in
      above_own rules net past within now u node others ∙ rw (none.0, high) refl

-- where a node stops, the run does
pub stops_with : (rules : Rules) (net : Net) (past : Chronicle) (u : ℕ) (own : Bool) (triggers : ℕ) (s : Step) (why : Stop) → IsValid net → has net.nodes u ≡ true
    → ((v : ℕ) → has net.nodes v ≡ true → node_above rules net v past ≡ None) → ((v : ℕ) → (u == v) ≡ false → SameNode v past (chronicle_of past s))
    → triggers ≡ triggers_of net past → triggers ≤ MOST_TRIGGERS → LogsBy u own past s → ListsAreShort rules net (chronicle_of past s)
    → StopsAt (limit_before_marks rules net u s) why → StopsAt (above_by rules net s) (run_stop triggers own why)
stops_with rules net past u own triggers s stop.NoMemory valid node within others total few logs lists stops = tt
stops_with rules net past u own triggers (Idle reason) (stop.Limit kind number) valid node within others total few logs lists stops = absurd (cc stops)
stops_with rules net past u own triggers (Goes now) (stop.Limit kind number) valid node within others total few logs lists stops =
    at_limit rules net past now u own triggers valid node within others total few lists kind number logs stops

-- where the triggers of all are too many, the run stops at them
pub stops_at_triggers : (rules : Rules) (net : Net) (past : Chronicle) (u : ℕ) (own : Bool) (triggers sum : ℕ) (s : Step) (outputs : OutputList) → IsValid net → has net.nodes u ≡ true
    → ((v : ℕ) → has net.nodes v ≡ true → node_above rules net v past ≡ None) → ((v : ℕ) → (u == v) ≡ false → SameNode v past (chronicle_of past s))
    → triggers ≡ triggers_of net past → triggers ≤ MOST_TRIGGERS → Answers past s (Did outputs) → sum ≡ triggers_of net (chronicle_of past s)
    → MOST_TRIGGERS < sum → node_above rules net u (chronicle_of past s) ≡ None → StopsAt (above_by rules net s) (stop.Limit Triggers MOST_TRIGGERS)
stops_at_triggers rules net past u own triggers sum (Idle reason) outputs valid node within others total few answers is many low = absurd answers
stops_at_triggers rules net past u own triggers sum (Goes now) outputs valid node within others total few answers is many low =
    too_many rules net past now u own triggers valid node within others total few (rw is at many) low

-- where the control messages are too many, and nothing before them is, the run stops at them
pub stops_at_control : {P : Type 0} (policy : P) (rules : Rules) (net : Net) (past : Chronicle) (nodes : List (Node P)) (s : Step) (outputs : OutputList) → AreNodes policy rules net (chronicle_of past s) nodes
    → triggers_of net (chronicle_of past s) ≤ MOST_TRIGGERS → Answers past s (Did outputs) → MOST_CONTROL < length (mailed (chronicle_of past s))
    → StopsAt (above_by rules net s) (stop.Limit Control MOST_CONTROL)
stops_at_control policy rules net past nodes (Idle reason) outputs are few answers many = absurd answers
stops_at_control policy rules net past nodes (Goes now) outputs are few answers many =
    above_control rules net now (all_within policy rules net now nodes are) few many

-- where the packets are too many, and nothing before them is, it stops at them
pub stops_at_packets : {P : Type 0} (policy : P) (rules : Rules) (net : Net) (past : Chronicle) (nodes : List (Node P)) (s : Step) (outputs : OutputList) → AreNodes policy rules net (chronicle_of past s) nodes
    → triggers_of net (chronicle_of past s) ≤ MOST_TRIGGERS → length (mailed (chronicle_of past s)) ≤ MOST_CONTROL → Answers past s (Did outputs) → MOST_PACKETS < packets (chronicle_of past s)
    → StopsAt (above_by rules net s) (stop.Limit Packets MOST_PACKETS)
stops_at_packets policy rules net past nodes (Idle reason) outputs are few few_mails answers many = absurd answers
stops_at_packets policy rules net past nodes (Goes now) outputs are few few_mails answers many =
    above_packets rules net now (all_within policy rules net now nodes are) few few_mails many

-- where a node has more marks than it may, and nothing before them is above its number, it stops at them
pub stops_at_marks : {P : Type 0} (policy : P) (rules : Rules) (net : Net) (past : Chronicle) (nodes : List (Node P)) (s : Step) (outputs : OutputList) → AreNodes policy rules net (chronicle_of past s) nodes
    → triggers_of net (chronicle_of past s) ≤ MOST_TRIGGERS → length (mailed (chronicle_of past s)) ≤ MOST_CONTROL → packets (chronicle_of past s) ≤ MOST_PACKETS → Answers past s (Did outputs)
    → has_more_marks rules net (chronicle_of past s) ≡ true → StopsAt (above_by rules net s) (stop.Limit Marks MOST_MARKS)
stops_at_marks policy rules net past nodes (Idle reason) outputs are few few_mails few_packets answers many = absurd answers
stops_at_marks policy rules net past nodes (Goes now) outputs are few few_mails few_packets answers many =
    above_marks rules net now (all_within policy rules net now nodes are) few few_mails few_packets many

-- ---- the limit of a step

-- where nodes, links and the count are as the run has them, nothing is above its number
pub stands_within : {P : Type 0} (rules : Rules) (past : Chronicle) (counts : Counts) (s : Step) (network : Network P) → Stands rules (chronicle_of past s) counts network → above_by rules network.topology.value s ≡ None
stands_within rules past counts (Idle why) network stands = refl
stands_within rules past counts (Goes now) network stands =
    let net = network.topology.value in
    above_none rules net now (all_within network.policy rules net now network.nodes.items stands.are_nodes) (subst (λ n. n ≤ MOST_TRIGGERS) stands.counted.total stands.counted.few) stands.counted.few_mails stands.counted.few_packets stands.counted.few_marks

module _ (rules : Rules) (net : Net) (events : List Event) (event : Event) where
  pub limit_events : MOST_EVENTS ≤ length events → limit_of rules net events event ≡ Some (record { kind = Events; number = MOST_EVENTS })
  unfolding limit_of
  limit_events l = let e : nat_le MOST_EVENTS (length events) ≡ true = grind (arith, nat_tests) in rw e refl

  pub limit_later : length events < MOST_EVENTS → limit_of rules net events event ≡ above_by rules net (step rules net (run rules net events) event)
  unfolding limit_of
  limit_later l = let e : nat_le MOST_EVENTS (length events) ≡ false = grind (arith, nat_tests) in rw e refl

  pub stops_later : (why : Stop) → length events < MOST_EVENTS → StopsAt (above_by rules net (step rules net (run rules net events) event)) why → StopsAt (limit_of rules net events event) why
  stops_later why l stops = subst (λ limit. StopsAt limit why) (sym (limit_later l)) stops

  -- a stop at the limit of events
  pub stops_full : (why : Stop) → (why ≡ stop.Limit Events MOST_EVENTS) × (MOST_EVENTS ≤ length events) → StopsAt (limit_of rules net events event) why
  stops_full why full = subst (StopsAt (limit_of rules net events event)) (sym full.0) (limit_events full.1)
