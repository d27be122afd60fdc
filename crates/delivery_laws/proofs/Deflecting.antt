-- A deflected packet in a run, hop by hop.
use Rattle.std.proofs.Common.{ℕ, ◌+◌, ◌≤◌, ◌*◌, ◌-◌, Bool, true, false, not, ◌&&◌, ◌==◌, Option, Some, None, List, [], ◌∷◌, length, ◌≡◌, ◌⊎◌, inl, inr, ⊎_elim, refl, sym, ◌∙◌, ap, subst, arith}
use Rattle.std.specs.Prelude.{if◌then◌else◌}
use Rattle.std.proofs.lemmas.Bool.Decides.{nat_tests}
use Rattle.topology.specs.Lists.{has}
use Rattle.topology.specs.LinkStates.{is_up}
use Rattle.topology.specs.Net.{Net, IsValid, linked, neighbours}
use Rattle.topology.specs.declared.names.Scheme.{Scheme}
use Rattle.topology.specs.declared.names.Scheme.TheVariants as scheme
use Rattle.topology.proofs.Neighbours.{linked_nodes, linked_sym, neighbours_linked}
use Rattle.topology.proofs.Tests.{and_left}
use Rattle.path_vector.specs.Rules.{Rules}
use Rattle.path_vector.specs.History.{owns}
use Rattle.trigger_log.specs.Entries.{reads}
use Rattle.epoch_packet.specs.declared.packets.Packet.{Packet}
use Rattle.epoch_packet.specs.declared.walks.End.{End as Ending}
use Rattle.epoch_packet.specs.declared.walks.End.TheVariants.{Delivered, Expired, Stuck}
use Rattle.epoch_packet.specs.declared.walks.Mode.TheVariants.{Stable, Transient}
use Rattle.epoch_packet.specs.Packets.{stamped, turned}
use Rattle.epoch_packet.specs.Visited.{bit}
use Rattle.transient_mode.specs.Sights.{Sight}
use Rattle.transient_mode.specs.TransientHops.{Hop, Next, Ended, by_scheme, unless_ended, hop_under}
use Rattle.transient_mode.proofs.EachHop.{is_move}
use Rattle.chronicle.specs.Facts.{Chronicle}
use Rattle.chronicle.specs.Links.{link}
use Rattle.chronicle.specs.Logs.{log_of}
use Rattle.chronicle.specs.Giving.{sight}
use Rattle.chronicle.specs.Run.{up_links}
use Rattle.chronicle.specs.Walks.{Standing, standing, ending}
use Rattle.chronicle.proofs.Ends.{both_ends}
use Rattle.walk_laws.proofs.Carried.{up_is_near, up_are_nodes}
use Rattle.deflect_delivery.specs.Terrain.{Terrain, Connects, IsTerrain, Shows}
use Rattle.deflect_delivery.specs.Touring.{IsTour}
use Rattle.deflect_delivery.proofs.Standing.{has_left}
use Rattle.deflect_delivery.proofs.Tours.{trip, few_moves}
use Rattle.deflect_delivery.proofs.Touring.{begins, goes_on, ends_well, is_delivered}
use Rattle.delivery_laws.specs.Unchanged.{terrain_now}
use Rattle.delivery_laws.proofs.Times.{order_is_whole}

-- ---- links and owners of a run

-- an end of a link is among the neighbours with an up link exactly if the link is up
up_is : (net : Net) (u : ℕ) (past : Chronicle) (w : ℕ) → has (neighbours net u) w ≡ true → has (up_links net u past) w ≡ is_up (link u w past)
unfolding up_links
up_is net u past w near = has_left (λ x. is_up (link u x past)) (neighbours net u) w near

module _ (net : Net) (valid : IsValid net) where
  -- the end of an up link is a neighbour
  up_near : (u : ℕ) (past : Chronicle) (w : ℕ) → has (up_links net u past) w ≡ true → has (neighbours net u) w ≡ true
  up_near u past w up = neighbours_linked net u w valid ∙ and_left (linked net u w) (has net.nodes w) (up_is_near net u past w up)

  -- a link is up in both directions
  up_back : (u w : ℕ) (past : Chronicle) → has (up_links net u past) w ≡ true → has (up_links net w past) u ≡ true
  up_back u w past up =
      let near = up_near u past w up in
      let back : has (neighbours net w) u ≡ true = neighbours_linked net w u valid ∙ (linked_sym net w u ∙ (sym (neighbours_linked net u w valid) ∙ near)) in
      up_is net w past u back ∙ (ap is_up (both_ends w u past) ∙ (sym (up_is net u past w near) ∙ up))

  -- the links that are up are links between nodes of the network, in both directions
  pub is_terrain : (p : ℕ) (past : Chronicle) → IsTerrain net (terrain_now net p past)
  is_terrain p past = record { both_ways = λ u w up. up_back u w past up; of_nodes = λ u w up. up_are_nodes net u past w up }

  -- what a node sees
  pub shows : (rules : Rules) (u p : ℕ) (past : Chronicle) → Shows (terrain_now net p past) (sight rules net u past p (up_links net u past))
  shows rules u p past = record {
    owns = refl;
    up = λ w. refl;
    order = λ w up. (order_is_whole net u (reads (log_of u past)) p rules valid).all w ∙ up_near u past w up;
  }

  -- a node outside the network has no link
  no_link : (u : ℕ) (past : Chronicle) (w : ℕ) → has net.nodes u ≡ false → has (up_links net u past) w ≡ true → ⊥
  no_link u past w outside up =
      let node = (linked_nodes net u w valid (and_left (linked net u w) (has net.nodes w) (up_is_near net u past w up))).0 in
      absurd (cc (sym node ∙ outside))

-- ---- a packet that is deflected

-- the packet is on a tour
pub record OnTour (net : Net) (on : Terrain) (at : Standing) : Type 0 where
  pub from : ℕ
  pub tour : IsTour net on net.hops (trip from at.node at.packet)

-- the packet stands where it entered, outside the network, and has the whole hop limit left
pub record Outside (net : Net) (at : Standing) : Type 0 where
  pub outside : has net.nodes at.node ≡ false
  pub whole : at.packet.budget ≡ net.hops

-- the packet is on a tour, or stands outside the network
abbrev pub IsDeflected : Net → Terrain → Standing → Type 0
IsDeflected net on at = OnTour net on at ⊎ Outside net at

-- if an owner can be reached and there are enough moves, the end is a delivery
abbrev pub EndsSo : Net → Terrain → Standing → Ending → Type 0
EndsSo net on at end = 2 * (length net.nodes - 1) ≤ net.hops → Connects on at.node → end ≡ Delivered

-- the standing of a packet at a node
abbrev pub stand : ℕ → Packet → Standing
stand u packet = record { node = u; packet = packet }

-- a packet that has been at just one node, and has the whole hop limit, is deflected
pub begins_at : (net : Net) (on : Terrain) (u : ℕ) (packet : Packet) → packet.budget ≡ net.hops → packet.visited ≡ bit net u → packet.trail ≡ [] → IsDeflected net on (stand u packet)
begins_at net on u packet whole alone none =
    (elim (has net.nodes u) as (λ t. has net.nodes u ≡ t → IsDeflected net on (stand u packet)) [
      | true ↦ λ e. inl (record { from = u; tour = begins net on net.hops u packet e whole alone none })
      | false ↦ λ e. inr (record { outside = e; whole = whole })
    ]) refl

module _ (rules : Rules) (net : Net) (valid : IsValid net) (past : Chronicle) (at : Standing) where
  -- what the node of the packet sees
  abbrev view : Sight
  view = sight rules net at.node past at.packet.prefix (up_links net at.node past)

  -- the links that are up now, and the owners
  abbrev here : Terrain
  here = terrain_now net at.packet.prefix past

  -- a packet that is deflected still is, after a move
  pub moves_on : IsDeflected net here at → (w : ℕ) (moved : Packet) → hop_under scheme.Deflect net at.packet view ≡ Next w moved → IsDeflected net here (stand w moved)
  moves_on (inl on) w moved is =
      inl (record {
        from = on.from;
        tour = goes_on net here net.hops on.from at.packet view (is_terrain net valid at.packet.prefix past) (shows net valid rules at.node at.packet.prefix past) valid.few_nodes on.tour w moved is;
      })
  moves_on (inr off) w moved is =
      absurd (no_link net valid at.node past w off.outside (is_move scheme.Deflect net at.packet moved view w is).link_is_up)

  -- a node outside the network is connected to an owner only if it is one
  owner_here : Outside net at → Connects here at.node → view.owns ≡ true
  owner_here off (owner, owns_it, ([], same)) = subst (λ x. here.owns x ≡ true) (sym same) owns_it
  owner_here off (owner, owns_it, (w ∷ nodes, lead)) = absurd (no_link net valid at.node past w off.outside lead.0)

  -- at an owner, a hop delivers the packet
  owner_delivers : view.owns ≡ true → hop_under scheme.Deflect net at.packet view ≡ Ended Delivered
  unfolding hop_under
  owner_delivers own = ap (λ o. unless_ended (if o then Some Delivered else if at.packet.budget == 0 then Some Expired else None) (by_scheme scheme.Deflect net at.packet view)) own

  -- an end of a deflected packet is a delivery, where an owner can be reached and there are enough moves
  pub ends_so : IsDeflected net here at → (end : Ending) → hop_under scheme.Deflect net at.packet view ≡ Ended end → EndsSo net here at end
  ends_so (inl on) end is enough way =
      (ends_well net here net.hops on.from at.packet view (is_terrain net valid at.packet.prefix past) (shows net valid rules at.node at.packet.prefix past) valid.few_nodes on.tour end is).delivered enough way
  ends_so (inr off) end is enough way = let delivered = owner_delivers (owner_here off way) in same_end end Delivered (sym is ∙ delivered)
    where
      same_end : (a b : Ending) → Ended a ≡ Ended b → a ≡ b
      same_end a b same = cc

  -- after two moves for each other node, if the node is connected to an owner, the next hop delivers the packet
  pub delivers : IsDeflected net here at → 2 * (length net.nodes - 1) + at.packet.budget ≤ net.hops → Connects here at.node → hop_under scheme.Deflect net at.packet view ≡ Ended Delivered
  delivers (inl on) many way =
      let spent = on.tour.spent in
      is_delivered net here net.hops on.from at.packet view (is_terrain net valid at.packet.prefix past) (shows net valid rules at.node at.packet.prefix past) valid.few_nodes on.tour (omega (arith, spent, many)) way
  delivers (inr off) many way = owner_delivers (owner_here off way)

  -- a deflected packet has at least the moves left that remain after two for each other node
  pub few_spent : IsDeflected net here at → net.hops ≤ at.packet.budget + 2 * (length net.nodes - 1)
  few_spent (inl on) =
      let few = few_moves net here net.hops (trip on.from at.node at.packet) on.tour in
      let spent = on.tour.spent in
      omega (arith, few, spent)
  few_spent (inr off) = let whole = off.whole in omega (arith, whole)
