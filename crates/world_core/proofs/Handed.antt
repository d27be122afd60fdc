-- Which input an event hands to a node.
use Rattle.std.proofs.Common.{ℕ, Bool, true, false, cond, ◌==◌, ◌&&◌, nat_lt, is_some, Option, Some, None, List, [], ◌∷◌, ◌≡◌, ◌<◌, IsTrue, refl, sym, ◌∙◌, ap, ap₂, subst, arith, filter, find, length}
use Rattle.std.specs.Prelude.{Result, IfErr, IfOk, OnOk}
use Rattle.std.proofs.lemmas.Bool.Decides.{nat_tests}
use Rattle.std.proofs.lemmas.Result.{IfOk-weaker, IfErr-weaker, on_ok_weaker}
use Rattle.topology.specs.declared.links.LinkState.TheVariants.{Up}
use Rattle.topology.specs.Lists.{has}
use Rattle.topology.specs.Net.{Net, IsValid, linked, neighbours}
use Rattle.topology.specs.LinkStates.{is_up}
use Rattle.topology.proofs.Neighbours.{has-neighbours, linked_sym, neighbours_linked}
use Rattle.path_vector.specs.Rules.{Rules}
use Rattle.trigger_log.specs.Going.{Item}
use Rattle.chronicle.specs.declared.events.Event.{Event}
use Rattle.chronicle.specs.declared.events.Event.TheVariants as event
use Rattle.chronicle.specs.Channels.{channel}
use Rattle.chronicle.specs.Facts.{Chronicle, Took}
use Rattle.chronicle.specs.Giving.{answer, give}
use Rattle.chronicle.specs.Inputs.{Input, Originate, Withdraw, Prefer, Arrive, Notice, OpenSession, Flush, Snap, Propose, Control, Inject, Hop}
use Rattle.chronicle.specs.Links.{link}
use Rattle.chronicle.specs.Run.{chronicle_of, does, given, handed, held_with, hopped, injected, is_carried, up_links}
use Rattle.chronicle.specs.Walks.{Standing, standing}
use Rattle.chronicle.specs.Steps.{Idle}
use Rattle.chronicle.specs.Control.{mail_with}
use Rattle.control_mail.specs.Readings.{Letter}
use Rattle.consolidator.specs.Messages.{Message}
use Rattle.epoch_packet.specs.declared.packets.Packet.{Packet}
use Rattle.cut_laws.specs.Delivered.{Did}
use Rattle.topology.specs.declared.status.Reason.TheVariants.{NoSuchMessage, PacketKnown}
use Rattle.node_core.specs.Coming.{MayCome}
use Rattle.world_core.specs.declared.network.Network.{Network}
use Rattle.run_record.specs.declared.account.Wanted.TheVariants.{Effects}
use Rattle.run_record.specs.declared.outcomes.Outcome.{Outcome}
use Rattle.node_core.specs.declared.outputs.Stop.{Stop}
use Rattle.world_core.specs.Fits.{fits}
use Rattle.world_core.specs.Happening.{GoesWhere, HappensWhere, IsAfterStep, IsAsWas, IsRegular, MayArrive, MayHand, PacketIsIn, SenderIsIn, Stops, away_with}
use Rattle.world_core.specs.Happening.{handed as handing}
use Rattle.world_core.specs.Matching.{AreCrashed, AreLinks, AreMails, AreNodes, Counts, IsCounted, Stands}
use Rattle.run_record.specs.Publications.{all_published}
use Rattle.run_record.specs.Walks.{AreWalks, AreWalksBut, JourneyView, Takes, is_of}
use Rattle.world_core.proofs.Mailing.{letter_inside}
use Rattle.run_record.proofs.Walking.{stands_by, stands_nowhere}
use Rattle.world_core.proofs.AfterSteps.{arrival_goes, comes_so, stands_so, deliver_front, front_placed, notice_over, open_step}

-- u may be handed the input, and what it then does is what the event does
pub record Hands {P : Type 0} (rules : Rules) (past : Chronicle) (counts : Counts) (event : Event) (u : ℕ) (i : Input) (network : Network P) : Type 0 where
  pub may : MayHand rules past counts u i network
  pub same : does rules network.topology.value past event ≡ given rules network.topology.value past u i

-- the network after the input, and the outcome that tells of it, are those of the event
pub comes_by : {P : Type 0} (rules : Rules) (past : Chronicle) (counts : Counts) (event : Event) (u : ℕ) (i : Input) (network new : Network P) (outcome : Outcome) → Hands rules past counts event u i network
    → (MayHand rules past counts u i network → IsAfterStep rules past counts (given rules network.topology.value past u i) new outcome) → IsAfterStep rules past counts (does rules network.topology.value past event) new outcome
comes_by rules past counts event u i network new outcome hands comes =
    comes_so rules past counts (does rules network.topology.value past event) (given rules network.topology.value past u i) new outcome hands.same (comes hands.may)

-- what the network stands for after the input, it stands for after the event
pub left_by : {P : Type 0} (rules : Rules) (past : Chronicle) (counts : Counts) (event : Event) (u : ℕ) (i : Input) (network new : Network P) → Hands rules past counts event u i network
    → (MayHand rules past counts u i network → Stands rules (chronicle_of past (given rules network.topology.value past u i)) counts new) → Stands rules (chronicle_of past (does rules network.topology.value past event)) counts new
left_by rules past counts event u i network new hands stands =
    stands_so rules past counts (does rules network.topology.value past event) (given rules network.topology.value past u i) new hands.same (stands hands.may)

-- a stop of the input is at the limit that the event reaches
pub stops_by : {P : Type 0} (rules : Rules) (past : Chronicle) (counts : Counts) (event : Event) (u : ℕ) (i : Input) (network : Network P) (why : Stop) → Hands rules past counts event u i network
    → (MayHand rules past counts u i network → Stops rules network.topology.value past (given rules network.topology.value past u i) why)
    → Stops rules network.topology.value past (does rules network.topology.value past event) why
stops_by rules past counts event u i network why hands stops =
    subst (λ s. Stops rules network.topology.value past s why) (sym hands.same) (stops hands.may)

-- an event hands an input to a node, and does nothing else: so its result is that of the input. The old network stands for
-- the runs before the event; `mid` is the network that gives the node the input
pub passes_on : {P : Type 0} {is : Chronicle → Type 0} (rules : Rules) (event : Event) (u : ℕ) (i : Input) (old mid new : Network P) (result : Result Outcome Stop) → mid.policy ≡ old.policy → mid.topology ≡ old.topology
    → OnOk result (IsAsWas mid new)
    → IfOk result (λ outcome. Effects ≡ Effects → (past : Chronicle) (counts : Counts) → MayHand rules past counts u i mid → IsAfterStep rules past counts (given rules mid.topology.value past u i) new outcome)
    → IfErr result (λ stop. (past : Chronicle) (counts : Counts) → MayHand rules past counts u i mid → Stops rules mid.topology.value past (given rules mid.topology.value past u i) stop)
    → ((past : Chronicle) (counts : Counts) → Stands rules past counts old → is past → Hands rules past counts event u i mid)
    → HappensWhere is rules old event new result
passes_on rules event u i old mid new result same_policy same_topology others comes stopped hands =
    let same = ap (λ t. t.value) same_topology in
    record {
      others = on_ok_weaker result (λ h. record { policy = h.policy ∙ same_policy; topology = h.topology ∙ same_topology }) others;
      comes = IfOk-weaker result _ _
          (λ r h past counts was holds. subst (λ t. IsAfterStep rules past counts (does rules t past event) new r) same (comes_by rules past counts event u i mid new r (hands past counts was holds) (h refl past counts)))
          comes;
      stopped = IfErr-weaker result _ _
          (λ why h past counts was holds. subst (λ t. Stops rules t past (does rules t past event) why) same (stops_by rules past counts event u i mid why (hands past counts was holds) (h past counts)))
          stopped;
    }

-- if two tests hold together, each holds
pub both_of : (a b : Bool) → (a && b) ≡ true → (a ≡ true) × (b ≡ true)
both_of a b e = (grind (arith, nat_tests), grind (arith, nat_tests))

-- if the test for below passes, a is below b
pub is_below : (a b : ℕ) → nat_lt a b ≡ true → a < b
is_below a b e = grind (arith, nat_tests)

-- a number of a filtered list is in the list
kept_in : (p : ℕ → Bool) (xs : List ℕ) (n : ℕ) → has (filter p xs) n ≡ true → has xs n ≡ true
kept_in p [] n e = absurd (cc e)
kept_in p (x ∷ xs) n e =
    (elim (x == n) as (λ t. (x == n) ≡ t → has (x ∷ xs) n ≡ true) [
      | true ↦ λ here. grind (arith, nat_tests)
      | false ↦ λ off.
          let later : has (filter p xs) n ≡ true = (elim (p x) as (λ t. has (cond t (x ∷ filter p xs) (filter p xs)) n ≡ true → has (filter p xs) n ≡ true) [
            | true ↦ λ h. grind (arith, nat_tests)
            | false ↦ λ h. h
          ]) e in
          let rest = kept_in p xs n later in
          grind (arith, nat_tests)
    ]) refl

-- an end of a link has the other as a neighbour
pub near_of : (net : Net) (u v : ℕ) → IsValid net → linked net u v ≡ true → has (neighbours net u) v ≡ true
near_of net u v valid e = neighbours_linked net u v valid ∙ e

-- a packet that goes on is not declined
hop_goes : (rules : Rules) (net : Net) (past : Chronicle) (u : ℕ) (packet : Packet) (up : List ℕ) → Did (given rules net past u (Hop packet up))
unfolding give answer
hop_goes rules net past u packet up = tt

module _ {P : Type 0} (rules : Rules) (past : Chronicle) (counts : Counts) (network : Network P) (was : Stands rules past counts network) where
  -- the network may give u the input, where links, packets and names are as the input asks
  may_of : (u : ℕ) (i : Input) → AreLinks network.topology.value (handing u i past) network.links → AreWalksBut (away_with i) network.topology.value past network.walks → MayCome network.topology.value u i
      → SenderIsIn network.topology.value i → PacketIsIn network.topology.value past i → GoesWhere i (given rules network.topology.value past u i) → MayHand rules past counts u i network
  may_of u i links walks may_come sender passing goes = record {
    are_nodes = was.are_nodes;
    are_crashed = was.are_crashed;
    are_links = links;
    are_mails = was.are_mails;
    are_published = was.are_published;
    are_walks = walks;
    counted = was.counted;
    may_come = may_come;
    sender = sender;
    passing = passing;
    goes = goes;
  }

  -- a prefix that fits is one of the network
  named : (u p : ℕ) → (has network.topology.value.nodes u && nat_lt p (length network.topology.value.prefixes)) ≡ true → p < length network.topology.value.prefixes
  named u p fit = is_below p (length network.topology.value.prefixes) (both_of (has network.topology.value.nodes u) (nat_lt p (length network.topology.value.prefixes)) fit).1

  -- an origination hands the node its input
  pub originates : (u p : ℕ) → IsTrue (fits network.topology.value (event.Originate u p)) → Hands rules past counts (event.Originate u p) u (Originate p) network
  unfolding does
  originates u p fit = record { may = may_of u (Originate p) was.are_links was.are_walks (named u p fit) tt tt tt; same = refl }

  -- a withdrawal hands the node its input
  pub withdraws : (u p : ℕ) → IsTrue (fits network.topology.value (event.Withdraw u p)) → Hands rules past counts (event.Withdraw u p) u (Withdraw p) network
  unfolding does
  withdraws u p fit = record { may = may_of u (Withdraw p) was.are_links was.are_walks (named u p fit) tt tt tt; same = refl }

  -- a preference hands the node its input
  pub prefers : (u v value : ℕ) → linked network.topology.value u v ≡ true → Hands rules past counts (event.Prefer u v value) u (Prefer v value) network
  unfolding does
  prefers u v value near = record { may = may_of u (Prefer v value) was.are_links was.are_walks (near_of network.topology.value u v was.are_nodes.valid near) tt tt tt; same = refl }

  -- a snapshot hands the node its input
  pub snaps : (u : ℕ) → Hands rules past counts (event.Snap u) u Snap network
  unfolding does
  snaps u = record { may = may_of u Snap was.are_links was.are_walks tt tt tt tt; same = refl }

  -- a notice hands the node its input, if the link does not carry the session
  pub notices : (u v : ℕ) → linked network.topology.value u v ≡ true → is_carried (link u v past) (held_with u v past) ≡ false → Hands rules past counts (event.Notice u v) u (Notice v) network
  notices u v near over = record {
    may = may_of u (Notice v) was.are_links was.are_walks (near_of network.topology.value u v was.are_nodes.valid near) tt tt tt;
    same = notice_over rules network.topology.value past u v over;
  }

  -- an opening hands the node its input, if the node holds no session and the link carries this one
  pub opens : (u v s : ℕ) → linked network.topology.value u v ≡ true → held_with u v past ≡ None → link u v past ≡ Up s → Hands rules past counts (event.OpenSession u v) u (OpenSession v s) network
  opens u v s near none is = record {
    may = may_of u (OpenSession v s) was.are_links was.are_walks (near_of network.topology.value u v was.are_nodes.valid near) tt tt tt;
    same = open_step rules network.topology.value past u v None (Up s) none is;
  }

  -- a flush hands the node its input
  pub flushes : (u v : ℕ) → linked network.topology.value u v ≡ true → Hands rules past counts (event.Flush u v) u (Flush v) network
  unfolding does
  flushes u v near = record { may = may_of u (Flush v) was.are_links was.are_walks (near_of network.topology.value u v was.are_nodes.valid near) tt tt tt; same = refl }

  -- a proposal hands the node its input
  pub proposes : (u e : ℕ) → Hands rules past counts (event.Propose u e) u (Propose e) network
  unfolding does
  proposes u e = record { may = may_of u (Propose e) was.are_links was.are_walks tt tt tt tt; same = refl }

  -- the delivery of a control message that is there hands it to its addressee
  hears : (number : ℕ) (m : Letter) → mail_with number past ≡ Some m → Hands rules past counts (event.Control number) m.to (Control m.from m.message) network
  unfolding does
  hears number m is = record {
    may = may_of m.to (Control m.from m.message) was.are_links was.are_walks tt (letter_inside network.topology.value past counts network.mails was.are_mails number m is).0 tt tt;
    same = ap (handed rules network.topology.value past) is;
  }

  -- the delivery of a control message that is there hands a copy of it to its addressee
  pub hears_copy : (number : ℕ) (m : Letter) (copy : Message) → mail_with number past ≡ Some m → copy ≡ m.message → Hands rules past counts (event.Control number) m.to (Control m.from copy) network
  hears_copy number m copy is same = subst (λ x. Hands rules past counts (event.Control number) m.to (Control m.from x) network) (sym same) (hears number m is)

  -- the injection of a packet that is not known hands it to the node
  pub enters : (k u p : ℕ) → p < length network.topology.value.prefixes → standing k past ≡ None → Hands rules past counts (event.Inject k u p) u (Inject k p) network
  unfolding does
  enters k u p known new = record {
    may = may_of u (Inject k p) was.are_links was.are_walks known tt tt tt;
    same = ap (injected (given rules network.topology.value past u) k p) new;
  }

  -- the links that are up lead to nodes of the network
  up_inside : (u w : ℕ) → has (up_links network.topology.value u past) w ≡ true → has network.topology.value.nodes w ≡ true
  unfolding up_links
  up_inside u w there =
      let net = network.topology.value in
      let near = kept_in (λ w. is_up (link u w past)) (neighbours net u) w there in
      (both_of (linked net u w) (has net.nodes w) (sym (has-neighbours net u w) ∙ near)).1

  -- a hop hands the packet, which is taken from its place, to the node where it stood
  pub goes_on : (k node : ℕ) (packet : Packet) (walks : List JourneyView) (up : List ℕ) → Takes network.topology.value past k node packet walks → up ≡ up_links network.topology.value node past
      → Hands rules past counts (event.Hop k) node (Hop packet up) (record network { walks = walks })
  unfolding does
  goes_on k node packet walks up takes links =
      let net = network.topology.value in
      let at : Standing = record { node = node; packet = packet } in
      let number : packet.id ≡ k = stands_by k past at takes.stands in
      record {
        may = record {
          are_nodes = was.are_nodes;
          are_crashed = was.are_crashed;
          are_links = was.are_links;
          are_mails = was.are_mails;
          are_published = was.are_published;
          are_walks = subst (λ n. AreWalksBut (λ m. n == m) net past walks) (sym number) takes.are_walks;
          counted = was.counted;
          may_come = (takes.are_walks.inside k at takes.stands).prefix_is_in;
          sender = tt;
          passing = (ap (λ n. is_some (standing n past)) number ∙ ap is_some takes.stands, λ w there. up_inside node w (subst (λ l. has l w ≡ true) links there));
          goes = hop_goes rules net past node packet up;
        };
        same = ap₂ (hopped rules net past) takes.stands takes.goes_on ∙ ap (λ l. given rules net past node (Hop packet l)) (sym links);
      }

  -- a packet that is known does not enter
  pub known_stays : (k u p : ℕ) → is_some (find (is_of k) network.walks) ≡ true → does rules network.topology.value past (event.Inject k u p) ≡ Idle PacketKnown
  unfolding does
  known_stays k u p found = by_standing (standing k past) refl
    where
      by_standing : (o : Option Standing) → standing k past ≡ o → injected (given rules network.topology.value past u) k p (standing k past) ≡ Idle PacketKnown
      by_standing None is = absurd (cc (sym (ap is_some (stands_nowhere network.topology.value past network.walks was.are_walks k is)) ∙ found))
      by_standing (Some at) is = ap (injected (given rules network.topology.value past u) k p) is

-- a delivery of a control message that is not there does nothing
pub no_letter : (rules : Rules) (net : Net) (past : Chronicle) (number : ℕ) → mail_with number past ≡ None → does rules net past (event.Control number) ≡ Idle NoSuchMessage
unfolding does
no_letter rules net past number none = ap (handed rules net past) none

-- a delivery hands the item, which is taken from its way, to the receiver
pub delivers : {P : Type 0} (rules : Rules) (past : Chronicle) (counts : Counts) (network : Network P) (v u s : ℕ) (x : Item) (rest : List Item) → AreNodes network.policy rules network.topology.value past network.nodes.items
    → AreCrashed network.topology.value past network.crashed.items → AreMails network.topology.value past counts network.mails → network.publications.items ≡ all_published past → AreWalks network.topology.value past network.walks → IsCounted rules network.topology.value past network.triggers → IsRegular network.topology.value past → linked network.topology.value v u ≡ true → MayArrive past v u s → channel v u past ≡ x ∷ rest
    → AreLinks network.topology.value (Took v u s x ∷ past) network.links → Hands rules past counts (event.Deliver v u) u (Arrive v s x) network
delivers rules past counts network v u s x rest nodes flags mails published walks counted regular near arrives front links =
    let net = network.topology.value in
    record {
      may = record {
        are_nodes = nodes;
        are_crashed = flags;
        are_links = links;
        are_mails = mails;
        are_published = published;
        are_walks = walks;
        counted = counted;
        sender = tt;
        passing = tt;
        may_come = (near_of net u v nodes.valid (linked_sym net u v ∙ near), front_placed net past v u x rest (regular.fronts v u) front, regular.heard v u s x rest arrives.up front);
        goes = arrival_goes rules net past v u s x rest (regular.fronts v u) arrives.up front arrives.held;
      };
      same = deliver_front rules net past v u s x rest arrives.up front;
    }
