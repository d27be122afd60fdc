-- What a crashed node does, and nodes that crash or come back.
use Rattle.std.proofs.Common.{ℕ, true, false, ◌&&◌, nat_lt, Option, Some, None, is_some, ◌∷◌, ◌≡◌, IsTrue, refl, sym, ap, subst, length, option_map}
use Rattle.std.specs.Prelude.{nat_le, if◌then◌else◌}
use Rattle.std.proofs.lemmas.Option.{same_Some}
use Rattle.topology.specs.declared.status.Reason.TheVariants.{Crashed}
use Rattle.topology.specs.Lists.{has}
use Rattle.topology.specs.Net.{Net, IsValid, linked}
use Rattle.topology.proofs.Neighbours.{linked_nodes}
use Rattle.path_vector.specs.Rules.{Rules}
use Rattle.chronicle.specs.declared.events.Event.{Event}
use Rattle.chronicle.specs.declared.events.Event.TheVariants.{Originate, Withdraw, Prefer, Deliver, Fail, Restore, Notice, OpenSession, Flush, Snap, Propose, Control, Crash, Restart, Inject, Hop}
use Rattle.chronicle.specs.Control.{mail_with}
use Rattle.chronicle.specs.Facts.{Fact, Chronicle}
use Rattle.chronicle.specs.Facts as fact
use Rattle.chronicle.specs.Run.{actor, does, is_stopped, stands_at, step}
use Rattle.chronicle.specs.Walks.{Standing, standing, ending}
use Rattle.chronicle.proofs.Visiting.{same_more, same_now}
use Rattle.chronicle.specs.Steps.{Idle}
use Rattle.epoch_packet.specs.declared.walks.End.{End as Ending}
use Rattle.control_mail.specs.Acts.{MailActs, Crashes, Restarts}
use Rattle.control_mail.specs.Readings.{Letter}
use Rattle.control_mail.specs.Seen.{Office}
use Rattle.control_mail.specs.Standing.{StandsFor as MailsStandFor}
use Rattle.node_core.specs.declared.node.Node.{Node}
use Rattle.node_core.specs.Beside.{IsBeside}
use Rattle.node_core.specs.Standing.{StandsFor}
use Rattle.world_core.specs.declared.network.Network.{Network}
use Rattle.world_core.specs.Fits.{fits}
use Rattle.world_core.specs.Happening.{KeepsAllButFlags, KeepsAllButNodes, IsAsWas}
use Rattle.world_core.specs.Matching.{AreCrashed, AreMails, AreNodes, Counts, Stands}
use Rattle.world_core.proofs.AfterSteps.{crash_counted, crash_links, restart_counted, restart_links}
use Rattle.world_core.proofs.Handed.{both_of}
use Rattle.world_core.proofs.Mailing.{stopped_mails, started_mails}
use Rattle.world_core.proofs.Nodes.{same_nodes}
use Rattle.run_record.proofs.Walking.{walks_stay}

-- each control message goes to a node of the network
abbrev pub LettersStay : Net → Chronicle → Type 0
LettersStay net past = (number : ℕ) (m : Letter) → mail_with number past ≡ Some m → has net.nodes m.to ≡ true

-- each packet stands at a node of the network
abbrev pub PacketsStay : Net → Chronicle → Type 0
PacketsStay net past = (k : ℕ) (at : Standing) → standing k past ≡ Some at → has net.nodes at.node ≡ true

-- the node of an event that fits is one of the network
pub actor_is_node : (net : Net) (past : Chronicle) (event : Event) (u : ℕ) → IsValid net → LettersStay net past → PacketsStay net past → IsTrue (fits net event) → actor net past event ≡ Some u → has net.nodes u ≡ true
actor_is_node net past (Originate n p) u valid stay packets fit is = subst (λ y. has net.nodes y ≡ true) (same_Some n u is) (both_of (has net.nodes n) (nat_lt p (length net.prefixes)) fit).0
actor_is_node net past (Withdraw n p) u valid stay packets fit is = subst (λ y. has net.nodes y ≡ true) (same_Some n u is) (both_of (has net.nodes n) (nat_lt p (length net.prefixes)) fit).0
actor_is_node net past (Prefer n v value) u valid stay packets fit is = subst (λ y. has net.nodes y ≡ true) (same_Some n u is) (linked_nodes net n v valid (both_of (linked net n v) (nat_le value 1000000) fit).0).0
actor_is_node net past (Deliver v n) u valid stay packets fit is = subst (λ y. has net.nodes y ≡ true) (same_Some n u is) (linked_nodes net v n valid fit).1
actor_is_node net past (Fail a b) u valid stay packets fit is = absurd (cc is)
actor_is_node net past (Restore a b) u valid stay packets fit is = absurd (cc is)
actor_is_node net past (Notice n v) u valid stay packets fit is = subst (λ y. has net.nodes y ≡ true) (same_Some n u is) (linked_nodes net n v valid fit).0
actor_is_node net past (OpenSession n v) u valid stay packets fit is = subst (λ y. has net.nodes y ≡ true) (same_Some n u is) (linked_nodes net n v valid fit).0
actor_is_node net past (Flush n v) u valid stay packets fit is = subst (λ y. has net.nodes y ≡ true) (same_Some n u is) (linked_nodes net n v valid fit).0
actor_is_node net past (Snap n) u valid stay packets fit is = subst (λ y. has net.nodes y ≡ true) (same_Some n u is) fit
actor_is_node net past (Propose n e) u valid stay packets fit is =
    (elim (has net.consolidators n) as (λ t. (if t then Some n else None) ≡ Some u → has net.nodes u ≡ true) [
      | true ↦ λ same. subst (λ y. has net.nodes y ≡ true) (same_Some n u same) (both_of (has net.nodes n) (nat_le 1 e && nat_le e 32) fit).0
      | false ↦ λ same. absurd (cc same)
    ]) is
actor_is_node net past (Control number) u valid stay packets fit is = addressed (mail_with number past) refl is
  where
    addressed : (o : Option Letter) → mail_with number past ≡ o → option_map (λ (m : Letter). m.to) o ≡ Some u → has net.nodes u ≡ true
    addressed None here there = absurd (cc there)
    addressed (Some m) here there = subst (λ y. has net.nodes y ≡ true) (same_Some m.to u there) (stay number m here)
actor_is_node net past (Crash n) u valid stay packets fit is = subst (λ y. has net.nodes y ≡ true) (same_Some n u is) fit
actor_is_node net past (Restart n) u valid stay packets fit is = absurd (cc is)
actor_is_node net past (Inject k n p) u valid stay packets fit is =
    (elim (is_some (standing k past)) as (λ t. (if t then None else Some n) ≡ Some u → has net.nodes u ≡ true) [
      | true ↦ λ same. absurd (cc same)
      | false ↦ λ same.
          let named = (both_of (nat_le 1 k) (has net.nodes n && nat_lt p (length net.prefixes)) fit).1 in
          subst (λ y. has net.nodes y ≡ true) (same_Some n u same) (both_of (has net.nodes n) (nat_lt p (length net.prefixes)) named).0
    ]) is
actor_is_node net past (Hop k) u valid stay packets fit is = stood (standing k past) (ending k past) refl is
  where
    stood : (o : Option Standing) (end : Option Ending) → standing k past ≡ o → stands_at o end ≡ Some u → has net.nodes u ≡ true
    stood None end here there = absurd (cc there)
    stood (Some at) (Some end) here there = absurd (cc there)
    stood (Some at) None here there = subst (λ y. has net.nodes y ≡ true) (same_Some at.node u there) (packets k at here)

module _ (rules : Rules) (net : Net) (past : Chronicle) (event : Event) where
  -- an event of a crashed node does nothing
  pub step_stopped : is_stopped past (actor net past event) ≡ true → step rules net past event ≡ Idle Crashed
  unfolding step
  step_stopped is = ap (λ t. if t then Idle Crashed else does rules net past event) is

  -- one of a node that runs does what it asks for
  pub step_runs : is_stopped past (actor net past event) ≡ false → step rules net past event ≡ does rules net past event
  unfolding step
  step_runs is = ap (λ t. if t then Idle Crashed else does rules net past event) is

-- what others do leaves what a node stands for
abbrev pub Stays : (P : Type 0) → (P → Rules) → Type 0
Stays P rules = (policy : P) (net : Net) (v : ℕ) (node : Node P) (before : Chronicle) (f : Fact) → IsBeside v f
    → StandsFor policy (rules policy) net v node before → StandsFor policy (rules policy) net v node (f ∷ before)

-- after a crash the network is as the run has it: the node is crashed, it has forgotten, and the control messages know
pub crash_stands : {P : Type 0} (rules : P → Rules) (past : Chronicle) (counts : Counts) (u : ℕ) (old set forgot : Network P) (mails : Office)
    → IsAsWas old set → KeepsAllButFlags old set → IsAsWas set forgot → KeepsAllButNodes set forgot → has old.topology.value.nodes u ≡ true
    → Stands (rules old.policy) past counts old → AreCrashed old.topology.value (fact.Crash u ∷ past) set.crashed.items
    → (AreNodes set.policy (rules set.policy) set.topology.value past set.nodes.items → AreNodes set.policy (rules set.policy) set.topology.value (fact.Crash u ∷ past) forgot.nodes.items)
    → ((net : Net) (acts : MailActs) → MailsStandFor net forgot.mails acts → has net.nodes u ≡ true → MailsStandFor net mails (Crashes u ∷ acts))
    → Stands (rules old.policy) (fact.Crash u ∷ past) counts (record forgot { mails = mails })
crash_stands rules past counts u old set forgot mails same kept as_set rest node was flags nodes told =
    let now : Chronicle = fact.Crash u ∷ past in
    let net = old.topology.value in
    let in_set : AreNodes set.policy (rules set.policy) set.topology.value past set.nodes.items = rw (same.policy, same.topology, kept.nodes) was.are_nodes in
    let in_forgot = nodes in_set in
    record {
      are_nodes = subst (λ t. AreNodes forgot.policy (rules old.policy) t.value now forgot.nodes.items) (sym as_set.topology)
          (subst (λ p. AreNodes p (rules old.policy) set.topology.value now forgot.nodes.items) (sym as_set.policy)
          (subst (λ p. AreNodes set.policy (rules p) set.topology.value now forgot.nodes.items) same.policy in_forgot));
      are_crashed = rw (as_set.topology, same.topology, rest.crashed) flags;
      are_links = rw (as_set.topology, same.topology, rest.world.links, kept.world.links) (crash_links net past u old.links was.are_links);
      are_mails =
          let here : AreMails net past counts forgot.mails = rw (rest.mails, kept.mails) was.are_mails in
          rw (as_set.topology, same.topology) (stopped_mails net past counts forgot.mails mails here u (told net here.acts here.stands node));
      are_published = rw (rest.world.publications, kept.world.publications) was.are_published;
      are_walks = rw (as_set.topology, same.topology, rest.world.walks, kept.world.walks) (walks_stay net past now old.walks (same_more (fact.Crash u) past past (λ t. t) (same_now past)) was.are_walks);
      counted = rw (as_set.topology, same.topology, rest.world.triggers, kept.world.triggers) (crash_counted (rules old.policy) net past u old.triggers was.counted);
    }

-- so it is after a node came back
pub restart_stands : {P : Type 0} (rules : P → Rules) (past : Chronicle) (counts : Counts) (u : ℕ) (old set : Network P) (mails : Office)
    → Stays P rules → IsAsWas old set → KeepsAllButFlags old set → has old.topology.value.nodes u ≡ true
    → Stands (rules old.policy) past counts old → AreCrashed old.topology.value (fact.Restart u ∷ past) set.crashed.items
    → ((net : Net) (acts : MailActs) → MailsStandFor net set.mails acts → has net.nodes u ≡ true → MailsStandFor net mails (Restarts u ∷ acts))
    → Stands (rules old.policy) (fact.Restart u ∷ past) counts (record set { mails = mails })
restart_stands rules past counts u old set mails stays same kept node was flags told =
    let now : Chronicle = fact.Restart u ∷ past in
    let net = old.topology.value in
    record {
      are_nodes = rw (same.policy, same.topology, kept.nodes)
          (same_nodes old.policy (rules old.policy) net past old.nodes.items was.are_nodes now (λ v one stands. stays old.policy net v one past (fact.Restart u) tt stands));
      are_crashed = rw same.topology flags;
      are_links = rw (same.topology, kept.world.links) (restart_links net past u old.links was.are_links);
      are_mails =
          let here : AreMails net past counts set.mails = rw kept.mails was.are_mails in
          rw same.topology (started_mails net past counts set.mails mails here u (told net here.acts here.stands node));
      are_published = rw kept.world.publications was.are_published;
      are_walks = rw (same.topology, kept.world.walks) (walks_stay net past now old.walks (same_more (fact.Restart u) past past (λ t. t) (same_now past)) was.are_walks);
      counted = rw (same.topology, kept.world.triggers) (restart_counted (rules old.policy) net past u old.triggers was.counted);
    }
