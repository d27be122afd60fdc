-- The network after an event, and the outcome of the event.
use Rattle.std.specs.Prelude.{ℕ, ◌≡◌, ◌<◌, ◌≤◌, ◌-◌, ◌^◌, ◌==◌, Bool, true, false, is_some, Some, Result, IfErr, IfOk, OnOk, List, ◌∷◌, ◌++◌, length, if◌then◌else◌}
use Rattle.topology.specs.declared.ballots.Ballot.{Ballot}
use Rattle.topology.specs.declared.items.Pending.{Pending}
use Rattle.topology.specs.declared.items.Sent.{Sent}
use Rattle.topology.specs.declared.links.LinkState.TheVariants.{Up}
use Rattle.topology.specs.LinkStates.{number_of}
use Rattle.topology.specs.Lists.{has, Among}
use Rattle.topology.specs.Net.{Net}
use Rattle.path_vector.specs.Rules.{Rules}
use Rattle.trigger_log.specs.Going.{Item}
use Rattle.trigger_log.specs.Pending.{pending_rows}
use Rattle.trigger_log.specs.Sending.{sent_of}
use Rattle.incomplete_closure.specs.declared.values.Value.{Value}
use Rattle.paxos_core.specs.Facts.{Accept}
use Rattle.consolidator.specs.Messages.{Agrees}
use Rattle.chronicle.specs.declared.events.Event.{Event}
use Rattle.chronicle.specs.Facts.{Chronicle, Took, Mail}
use Rattle.chronicle.specs.Links.{link}
use Rattle.chronicle.specs.Logs.{log_of}
use Rattle.chronicle.specs.Channels.{channel}
use Rattle.chronicle.specs.Crashes.{crashed}
use Rattle.chronicle.specs.Inputs.{Input}
use Rattle.chronicle.specs.Inputs as input
use Rattle.chronicle.specs.Run.{given, chronicle_of, does, held_with}
use Rattle.chronicle.specs.Run.{step as step_of}
use Rattle.chronicle.specs.Steps.{Step}
use Rattle.chronicle.specs.Walks.{standing}
use Rattle.cut_laws.specs.Delivered.{Did}
use Rattle.cut_laws.specs.Joined.{Joined, FrontFits}
use Rattle.cut_laws.specs.Own.{MayHear}
use Rattle.node_core.specs.Coming.{MayCome}
use Rattle.run_record.specs.declared.account.Wanted.TheVariants.{Effects}
use Rattle.run_record.specs.declared.outcomes.Effect.{Effect}
use Rattle.world_core.specs.declared.network.Network.{Network}
use Rattle.run_record.specs.declared.outcomes.Outcome.{Outcome}
use Rattle.node_core.specs.declared.outputs.Stop.{Stop}
use Rattle.run_record.specs.Accounts.{AccountView}
use Rattle.world_core.specs.Counting.{AreFew, counts_after}
use Rattle.run_record.specs.Effects.{effects, Tells}
use Rattle.node_core.specs.NodeLimits.{StopsAt}
use Rattle.world_core.specs.Limits.{triggers_of, above_by}
use Rattle.world_core.specs.Matching.{AreCrashed, AreLinks, AreMails, AreNodes, Counts, IsCounted, Stands}
use Rattle.run_record.specs.Publications.{all_published}
use Rattle.run_record.specs.Walks.{AreWalksBut}

-- facts that hold after every list of events: each node may enter and hear the first item of each way to it; each way
-- is joined; no link has used up the numbers of its sessions
pub record IsRegular (net : Net) (past : Chronicle) : Type 0 where
  pub fronts : (v u : ℕ) → FrontFits net past v u
  pub heard : (v u s : ℕ) (x : Item) (rest : List Item) → link v u past ≡ Up s → channel v u past ≡ x ∷ rest → MayHear net v x
  pub joined : (v u : ℕ) → Joined past v u
  pub few : (a b : ℕ) → number_of (link a b past) < 2 ^ 32 - 1

-- no value that was proposed has more incomplete triggers than all nodes gave together
abbrev pub ValuesAreSmall : Net → Chronicle → Type 0
ValuesAreSmall net now =
    (from to e : ℕ) (b : Ballot) (value : Value) → Among (Mail from to (Agrees e (Accept b value))) now
    → length value.incomplete ≤ triggers_of net now

-- so it is with the values, with each item that a node of the network sent, and with each update that it holds back
pub record ListsAreShort (rules : Rules) (net : Net) (now : Chronicle) : Type 0 where
  pub values : ValuesAreSmall net now
  pub sent : (u : ℕ) (item : Sent) → has net.nodes u ≡ true → Among item (sent_of rules net u (log_of u now)) → length item.triggers ≤ triggers_of net now
  pub waiting : (u : ℕ) (row : Pending) → has net.nodes u ≡ true → Among row (pending_rows rules net u (log_of u now)) → length row.triggers ≤ triggers_of net now

-- the stop is at the limit that the step reaches, where lists are short after the step
abbrev pub Stops : Rules → Net → Chronicle → Step → Stop → Type 0
Stops rules net past step stop = ListsAreShort rules net (chronicle_of past step) → StopsAt (above_by rules net step) stop

-- an item stands first on the way from v to u, and would arrive in session s
pub record MayArrive (past : Chronicle) (v u s : ℕ) : Type 0 where
  pub up : link v u past ≡ Up s
  pub held : held_with u v past ≡ Some s
  pub front : (x : Item) × (rest : List Item) × (channel v u past ≡ x ∷ rest)

-- the list has the effects between the two chronicles
abbrev pub Since : Chronicle → List Effect → Chronicle → Type 0
Since first list now = effects first ++ list ≡ effects now

-- in the midst of an event: links, control messages, publications and packets are as the run has them now, but for the
-- packets that are away; and where the caller wants effects, the account lists those since the first chronicle
pub record AreSending {P : Type 0} (away : ℕ → Bool) (first now : Chronicle) (counts : Counts) (network : Network P) (account : AccountView) : Type 0 where
  pub are_links : AreLinks network.topology.value now network.links
  pub are_mails : AreMails network.topology.value now counts network.mails
  pub are_published : network.publications.items ≡ all_published now
  pub are_walks : AreWalksBut away network.topology.value now network.walks
  pub since : account.wanted ≡ Effects → Since first account.list now

-- the chronicle when a node gets its input: the item of an arrival is taken from its way already
abbrev pub handed : ℕ → Input → Chronicle → Chronicle
handed u (input.Arrive v s item) past = Took v u s item ∷ past
handed u (input.Originate p) past = past
handed u (input.Withdraw p) past = past
handed u (input.Prefer v value) past = past
handed u (input.Notice v) past = past
handed u (input.OpenSession v s) past = past
handed u (input.Flush v) past = past
handed u input.Snap past = past
handed u (input.Propose e) past = past
handed u (input.Control from m) past = past
handed u (input.Inject id p) past = past
handed u (input.Hop packet up) past = past

-- the sender of a control message is a node of the network
abbrev pub SenderIsIn : Net → Input → Type 0
SenderIsIn net (input.Control from m) = has net.nodes from ≡ true
SenderIsIn net other = Unit {0}

-- a packet that goes on entered the network before, and the links that are up lead to nodes of the network
abbrev pub PacketIsIn : Net → Chronicle → Input → Type 0
PacketIsIn net past (input.Hop packet up) =
    (is_some (standing packet.id past) ≡ true) × ((w : ℕ) → has up w ≡ true → has net.nodes w ≡ true)
PacketIsIn net past other = Unit {0}

-- the packet that goes on is away
abbrev pub away_with : Input → ℕ → Bool
away_with (input.Hop packet up) k = packet.id == k
away_with other k = false

-- the node does not decline an item that was taken from its way, or a packet that was taken from its place
abbrev pub GoesWhere : Input → Step → Type 0
GoesWhere (input.Arrive v s item) step = Did step
GoesWhere (input.Hop packet up) step = Did step
GoesWhere other step = Unit {0}

-- the network may give node u the input: it is as the run has it, but for the item of an arrival and the packet that
-- goes on, which are taken; the input's names are those of the network; and u does not decline what was taken
pub record MayHand {P : Type 0} (rules : Rules) (past : Chronicle) (counts : Counts) (u : ℕ) (input : Input) (network : Network P) : Type 0 where
  pub are_nodes : AreNodes network.policy rules network.topology.value past network.nodes.items
  pub are_crashed : AreCrashed network.topology.value past network.crashed.items
  pub are_links : AreLinks network.topology.value (handed u input past) network.links
  pub are_mails : AreMails network.topology.value past counts network.mails
  pub are_published : network.publications.items ≡ all_published past
  pub are_walks : AreWalksBut (away_with input) network.topology.value past network.walks
  pub counted : IsCounted rules network.topology.value past network.triggers
  pub may_come : MayCome network.topology.value u input
  pub sender : SenderIsIn network.topology.value input
  pub passing : PacketIsIn network.topology.value past input
  pub goes : GoesWhere input (given rules network.topology.value past u input)

-- the policy and the topology are as they were
pub record IsAsWas {P : Type 0} (old new : Network P) : Type 0 where
  pub policy : new.policy ≡ old.policy
  pub topology : new.topology ≡ old.topology

-- the network is as the run has it after the step, and the outcome tells of the step
pub record IsAfterStep {P : Type 0} (rules : Rules) (past : Chronicle) (counts : Counts) (step : Step) (network : Network P) (outcome : Outcome) : Type 0 where
  pub stands : Stands rules (chronicle_of past step) counts network
  pub tells : Tells past step outcome

-- it holds of each run that the network stands for
abbrev pub InEachRun : {P : Type 0} → Rules → Network P → (Chronicle → Type 0) → Type 0
InEachRun rules network is = (past : Chronicle) (counts : Counts) → Stands rules past counts network → is past

-- the event was done: of each run that the network stood for, it is as that run has it after the event, and the outcome
-- tells of the event there
abbrev pub Does : {P : Type 0} → Rules → (old : Network P) → Event → (new : Network P) → Outcome → Type 0
Does rules old event new outcome =
    (past : Chronicle) (counts : Counts) → Stands rules past counts old → IsRegular old.topology.value past
    → IsAfterStep rules past counts (does rules old.topology.value past event) new outcome

-- any run
abbrev pub InAny : Chronicle → Type 0
InAny past = Unit {0}

-- the result of the event. Where it is an outcome, policy and topology are as they were; and of each run that the network
-- stood for and in which `is` holds, it is as that run has it after the event, and the outcome tells of the event there.
-- Where it is a stop, it is at the limit that the event reaches in each such run
pub record HappensWhere {P : Type 0} (is : Chronicle → Type 0) (rules : Rules) (old : Network P) (event : Event) (new : Network P) (result : Result Outcome Stop) : Type 0 where
  pub others : OnOk result (IsAsWas old new)
  pub comes : IfOk result (λ outcome. (past : Chronicle) (counts : Counts) → Stands rules past counts old → is past
      → IsAfterStep rules past counts (does rules old.topology.value past event) new outcome)
  pub stopped : IfErr result (λ stop. (past : Chronicle) (counts : Counts) → Stands rules past counts old → is past
      → Stops rules old.topology.value past (does rules old.topology.value past event) stop)

-- the result of the event, in regular runs
abbrev pub Happens : {P : Type 0} → Rules → Network P → Event → Network P → Result Outcome Stop → Type 0
Happens rules old event new result = HappensWhere (IsRegular old.topology.value) rules old event new result

-- the result of the event as the next one of a regular run in which `is` holds. The event of a crashed node does nothing,
-- and a delivery of a control message is counted, for which the counts have room
pub record HappensNext {P : Type 0} (is : Chronicle → Type 0) (rules : Rules) (old : Network P) (event : Event) (new : Network P) (result : Result Outcome Stop) : Type 0 where
  pub others : OnOk result (IsAsWas old new)
  pub comes : IfOk result (λ outcome. (past : Chronicle) (counts : Counts) → Stands rules past counts old → IsRegular old.topology.value past → AreFew counts → is past
      → IsAfterStep rules past (counts_after past event counts) (step_of rules old.topology.value past event) new outcome)
  pub stopped : IfErr result (λ stop. (past : Chronicle) (counts : Counts) → Stands rules past counts old → IsRegular old.topology.value past → AreFew counts → is past
      → Stops rules old.topology.value past (step_of rules old.topology.value past event) stop)

-- links, packets, publications and the count of triggers are as they were
pub record KeepsWorld {P : Type 0} (old new : Network P) : Type 0 where
  pub links : new.links ≡ old.links
  pub walks : new.walks ≡ old.walks
  pub publications : new.publications ≡ old.publications
  pub triggers : new.triggers ≡ old.triggers

-- all but the flags of crashed nodes is as it was
pub record KeepsAllButFlags {P : Type 0} (old new : Network P) : Type 0 where
  pub world : KeepsWorld old new
  pub nodes : new.nodes ≡ old.nodes
  pub mails : new.mails ≡ old.mails

-- all but the nodes is as it was
pub record KeepsAllButNodes {P : Type 0} (old new : Network P) : Type 0 where
  pub world : KeepsWorld old new
  pub crashed : new.crashed ≡ old.crashed
  pub mails : new.mails ≡ old.mails

-- all but the control messages is as it was
pub record KeepsAllButMails {P : Type 0} (old new : Network P) : Type 0 where
  pub world : KeepsWorld old new
  pub nodes : new.nodes ≡ old.nodes
  pub crashed : new.crashed ≡ old.crashed

-- all but links, control messages, publications and packets is as it was
pub record KeepsNodes {P : Type 0} (old new : Network P) : Type 0 where
  pub policy : new.policy ≡ old.policy
  pub topology : new.topology ≡ old.topology
  pub nodes : new.nodes ≡ old.nodes
  pub crashed : new.crashed ≡ old.crashed
  pub triggers : new.triggers ≡ old.triggers

-- from the one chronicle to the other, u becomes crashed, or running; each other node stays as it was
abbrev pub Turns : ℕ → Bool → Chronicle → Chronicle → Type 0
Turns u is past now = (v : ℕ) → crashed v now ≡ (if u == v then is else crashed v past)
