-- What comes of a packet at a node: one fact, which tells of the packet, and nothing that the node keeps is read of it.
use Rattle.std.proofs.Common.{ℕ, Bool, false, Option, None, List, [], ◌∷◌, ◌++◌, ◌≡◌, refl, ◌∙◌, sym, ap, ap₂, subst, arith}
use Rattle.std.proofs.Common.{Box, Global, Vec}
use Rattle.topology.specs.Net.{Net}
use Rattle.path_vector.specs.Rules.{Rules}
use Rattle.path_vector.specs.History.{owns}
use Rattle.path_vector.specs.Ranking.{order as tried}
use Rattle.trigger_log.specs.Entries.{reads}
use Rattle.chronicle.specs.Logs.{log_of}
use Rattle.consolidator.specs.Facts as consolidator
use Rattle.consolidator.proofs.Beside.{stands_beside}
use Rattle.epoch_packet.specs.declared.packets.Packet.{Packet}
use Rattle.epoch_packet.specs.declared.walks.Mode.{Mode}
use Rattle.epoch_packet.specs.Packets.{stamped}
use Rattle.transient_mode.specs.declared.moves.Move.{Move}
use Rattle.transient_mode.specs.Sights.{Sight}
use Rattle.transient_mode.specs.TransientHops.{Hop, Next, Ended as Over, answered, asks_for_order, transient_hop}
use Rattle.transient_mode.proofs.Ordering.{same_hop}
use Rattle.chronicle.specs.Facts.{Fact, Chronicle, Visit, End}
use Rattle.chronicle.specs.Control.{control}
use Rattle.chronicle.specs.Publications.{newest_epoch, has_both}
use Rattle.chronicle.specs.Steps.{Carried}
use Rattle.chronicle.specs.Giving.{answer, hops_on_tables, hops_off_tables, by_mode, injects, forwards, off_tables, sight}
use Rattle.chronicle.specs.Run.{chronicle_of}
use Rattle.chronicle.proofs.Quieting.{IsOfPacket}
use Rattle.chronicle.proofs.Forwarding.{injects_keep, forwards_keep}
use Rattle.node_core.specs.declared.answers.Answer.TheVariants.{Did}
use Rattle.node_core.specs.declared.duties.Passing.{Passing}
use Rattle.node_core.specs.declared.duties.Passing.TheVariants.{Enter, GoOn}
use Rattle.node_core.specs.declared.node.Node.{Node}
use Rattle.node_core.specs.declared.outputs.Output.{Output as Given}
use Rattle.node_core.specs.Answering.{Says}
use Rattle.node_core.specs.Deciding.{passing_of}
use Rattle.node_core.specs.Outputs.{Forward, Hands, outputs, output_by, output_of, shown_of}
use Rattle.node_core.specs.Standing.{Follows}
use Rattle.node_core.proofs.Agreements.{agrees_on}
use Rattle.node_core.proofs.Entering.{same_keeps}

-- ---- what is handed out

-- one output, which shows the new fact
pub one_shown : (past : Chronicle) (f : Fact) (o : Given) → output_of o ∷ [] ≡ output_by f past → Hands past (o ∷ []) (f ∷ past)
one_shown past f o is = ap (λ l. outputs past ++ l) is

-- a packet for a node
pub visit_shown : (past : Chronicle) (w v : ℕ) (packet made : Packet) (o : Given) → output_of o ≡ Forward v made → v ≡ w → made ≡ packet → Hands past (o ∷ []) (Visit w packet ∷ past)
visit_shown past w v packet made o shown to is = one_shown past (Visit w packet) o (ap (λ x. x ∷ []) (shown ∙ ap₂ (λ n k. Forward n k) to is))

-- the packet that enters
pub injection_shown : (net topo : Net) (u me id p : ℕ) (past : Chronicle) (newest : Option ℕ) (packet : Packet) (o : Given) → topo ≡ net → me ≡ u → newest ≡ newest_epoch u past
    → packet ≡ stamped topo id p me newest → output_of o ≡ Forward me packet → Hands past (o ∷ []) (injects net u past id p)
unfolding injects
injection_shown net topo u me id p past newest packet o same at is stamp shown =
    visit_shown past u me (stamped net id p u (newest_epoch u past)) packet o shown at (stamp ∙ rw (same, at, is) refl)

-- a packet off the tables, by what the hop is
pub hop_shown : (past : Chronicle) (packet made : Packet) (gone : Move) (h : Hop) (o : Given) → (made, gone) ≡ answered packet h → output_of o ≡ shown_of made gone → Hands past (o ∷ []) (off_tables past packet h)
hop_shown past packet made gone (Next w moved) o is shown =
    one_shown past (Visit w moved) o (ap (λ x. x ∷ []) (shown ∙ ap (λ (pair : Packet × Move). shown_of pair.0 pair.1) is))
hop_shown past packet made gone (Over ending) o is shown =
    one_shown past (End packet.id ending) o (ap (λ x. x ∷ []) (shown ∙ ap (λ (pair : Packet × Move). shown_of pair.0 pair.1) is))

module _ (rules : Rules) (net : Net) (u : ℕ) (past : Chronicle) (packet : Packet) (up order : List ℕ) where
  -- where this is the order of the node's neighbours, it is what the hop asks for
  pub in_order : order ≡ tried rules net u (reads (log_of u past)) packet.prefix
      → transient_hop net packet (record (sight rules net u past packet.prefix up) { order = order }) ≡ transient_hop net packet (sight rules net u past packet.prefix up)
  in_order is = ap (λ l. transient_hop net packet (record (sight rules net u past packet.prefix up) { order = l })) is

  -- where the hop does not ask for one, any will do
  pub any_order : (topo : Net) (me : ℕ) (mine asks : Bool) → topo ≡ net → me ≡ u → mine ≡ owns (reads (log_of u past)) packet.prefix
      → ((view : Sight) → view.at ≡ me → view.owns ≡ mine → asks ≡ asks_for_order topo packet view) → asks ≡ false
      → transient_hop net packet (record (sight rules net u past packet.prefix up) { order = order }) ≡ transient_hop net packet (sight rules net u past packet.prefix up)
  any_order topo me mine asks same at own says off =
      let view = sight rules net u past packet.prefix up in
      same_hop net packet view order (sym (ap (λ n. asks_for_order n packet view) same) ∙ (sym (says view (sym at) (sym own)) ∙ off))

  -- so the hop is that of the node
  pub seen_shown : (topo : Net) (view : Sight) (made : Packet) (gone : Move) (o : Given) → topo ≡ net → view ≡ record (sight rules net u past packet.prefix up) { order = order }
      → transient_hop net packet (record (sight rules net u past packet.prefix up) { order = order }) ≡ transient_hop net packet (sight rules net u past packet.prefix up)
      → (made, gone) ≡ answered packet (transient_hop topo packet view) → output_of o ≡ shown_of made gone → Hands past (o ∷ []) (hops_off_tables rules net u past packet up)
  seen_shown topo view made gone o same seen ordered is shown =
      hop_shown past packet made gone (transient_hop net packet (sight rules net u past packet.prefix up)) o
      (is ∙ ap (answered packet) (ap₂ (λ (n : Net) (v : Sight). transient_hop n packet v) same seen ∙ ordered)) shown

module _ (rules : Rules) (net : Net) (u : ℕ) (past : Chronicle) (list : List Given) where
  -- in the mode of the packet
  pub mode_shown : (packet : Packet) (up : List ℕ) (m : Mode) → packet.mode ≡ m → Hands past list (by_mode m (hops_on_tables net u past packet up) (hops_off_tables rules net u past packet up)) → Hands past list (forwards rules net u past packet up)
  unfolding forwards
  mode_shown packet up m is hands = subst (λ k. Hands past list (by_mode k (hops_on_tables net u past packet up) (hops_off_tables rules net u past packet up))) (sym is) hands

  module _ (carried : Carried) (passing : Passing) where
    -- where it enters
    pub enter_shown : (id p : ℕ) → passing ≡ Enter id p → Hands past list (injects net u past id p) → Hands past list (chronicle_of past (answer rules net carried u past (passing_of passing)))
    unfolding answer
    enter_shown id p is hands = subst (λ x. Hands past list (chronicle_of past (answer rules net carried u past (passing_of x)))) (sym is) hands

    -- where it goes on
    pub on_shown : (box : Box Packet Global) (up : Vec ℕ Global) (links : List ℕ) → passing ≡ GoOn box up → links ≡ up.items → Hands past list (forwards rules net u past box.value links)
        → Hands past list (chronicle_of past (answer rules net carried u past (passing_of passing)))
    unfolding answer
    on_shown box up links is same hands =
        subst (λ x. Hands past list (chronicle_of past (answer rules net carried u past (passing_of x)))) (sym is)
        (subst (λ l. Hands past list (forwards rules net u past box.value l)) same hands)

-- ---- what the node keeps, and what it may complete

-- no epoch is complete by it
packet_completes : (u : ℕ) (past : Chronicle) (f : Fact) → IsOfPacket f → (e : ℕ) → has_both u e (f ∷ past) ≡ has_both u e past
packet_completes u past (Visit w packet) of = λ e. refl
packet_completes u past (End k ending) of = λ e. refl
packet_completes u past other of = absurd of

module _ {P : Type 0} (policy : P) (rules : Rules) (net : Net) (u : ℕ) (past : Chronicle) (node : Node P) (was : Follows policy rules net u node past) where
  -- the node keeps what it kept
  packet_follows : (f : Fact) → IsOfPacket f → Follows policy rules net u node (f ∷ past)
  packet_follows (Visit w packet) of = record {
    keeps = same_keeps policy rules net u node past (Visit w packet ∷ past) refl refl (λ e. refl) (λ v s. refl) (record { same_count = refl; same_reported = λ d. refl }) was.keeps;
    agrees = agrees_on rules net u past (Visit w packet ∷ past) node.parts.value.agreement node.parts.value.agreement refl
        (stands_beside net node.parts.value.agreement.consolidator (control past) u consolidator.Other tt was.agrees.part) refl (omega arith) (λ e low. refl) was.agrees;
    small = was.small;
  }
  packet_follows (End k ending) of = record {
    keeps = same_keeps policy rules net u node past (End k ending ∷ past) refl refl (λ e. refl) (λ v s. refl) (record { same_count = refl; same_reported = λ d. refl }) was.keeps;
    agrees = agrees_on rules net u past (End k ending ∷ past) node.parts.value.agreement node.parts.value.agreement refl
        (stands_beside net node.parts.value.agreement.consolidator (control past) u consolidator.Other tt was.agrees.part) refl (omega arith) (λ e low. refl) was.agrees;
    small = was.small;
  }
  packet_follows other of = absurd of

  -- whatever is to be done with a packet
  pub passed_follows : (carried : Carried) (passing : Passing) → Follows policy rules net u node (chronicle_of past (answer rules net carried u past (passing_of passing)))
  unfolding answer
  passed_follows carried (Enter id p) = injects_keep rules net u past (λ now. Follows policy rules net u node now) packet_follows id p
  passed_follows carried (GoOn packet up) = forwards_keep rules net u past (λ now. Follows policy rules net u node now) packet_follows packet.value up.items

-- what is handed out is what the node says
pub passed_says : (rules : Rules) (net : Net) (u : ℕ) (past : Chronicle) (carried : Carried) (passing : Passing) (list : List Given) → Hands past list (chronicle_of past (answer rules net carried u past (passing_of passing)))
    → Says u past (answer rules net carried u past (passing_of passing)) (Did None) list
unfolding answer
passed_says rules net u past carried (Enter id p) list hands =
    (hands, injects_keep rules net u past (λ now. (e : ℕ) → has_both u e now ≡ has_both u e past) (packet_completes u past) id p)
passed_says rules net u past carried (GoOn packet up) list hands =
    (hands, forwards_keep rules net u past (λ now. (e : ℕ) → has_both u e now ≡ has_both u e past) (packet_completes u past) packet.value up.items)
