-- A walk over a network that does not change, from its first node to its end.
use Rattle.std.proofs.Common.{ℕ, zero, suc, ◌+◌, ◌*◌, ◌-◌, ◌≤◌, ◌<◌, true, Some, None, List, [], ◌∷◌, length, reverse, ◌≡◌, ◌⊎◌, inl, inr, refl, sym, ◌∙◌, ap, subst, arith}
use Rattle.std.proofs.lemmas.List.{length-reverse, reverse-reverse}
use Rattle.topology.specs.Lists.{has}
use Rattle.topology.specs.Net.{Net, IsValid}
use Rattle.topology.specs.declared.names.Scheme.TheVariants as scheme
use Rattle.epoch_packet.specs.declared.packets.Packet.{Packet}
use Rattle.epoch_packet.specs.declared.walks.End.{End as Ending}
use Rattle.epoch_packet.specs.declared.walks.End.TheVariants.{Delivered, Expired, Stuck}
use Rattle.epoch_packet.specs.Packets.{stamped}
use Rattle.transient_mode.specs.TransientHops.{Hop, Next, Ended, hop_under}
use Rattle.transient_mode.proofs.EachHop.{is_move}
use Rattle.deflect_delivery.specs.Terrain.{Connects}
use Rattle.deflect_delivery.specs.Touring.{Trip, IsTour, EndsWell}
use Rattle.deflect_delivery.specs.declared.stills.Still.{Still}
use Rattle.deflect_delivery.specs.Stills.{sight, terrain, IsStill}
use Rattle.deflect_delivery.specs.Progress.{Progress, At, Over, so_far, come_to, one_more, after_hops, moves_given, set_out, whole_walk, IsOver}
use Rattle.deflect_delivery.specs.Delivering.{Delivers, WalkDelivers}
use Rattle.deflect_delivery.proofs.Tours.{trip, few_moves}
use Rattle.deflect_delivery.proofs.Touring.{begins, goes_on, ends_well}
use Rattle.deflect_delivery.proofs.Standing.{is_terrain, shows}

-- a node is there, so there is at least one
pub some_nodes : (nodes : List ℕ) (u : ℕ) → has nodes u ≡ true → 0 < length nodes
some_nodes [] u is = cc
some_nodes (x ∷ nodes) u is = omega arith

-- after this many hops the packet stands at a node, on its tour
pub record IsOn (net : Net) (still : Still) (from hops : ℕ) (before : List ℕ) (trip : Trip) : Type 0 where
  pub tour : IsTour net (terrain still) (moves_given net) trip
  pub moves : tour.moves ≡ hops
  pub visits : length before ≡ hops

module _ (net : Net) (still : Still) (from : ℕ) where
  -- the invariant of a walk after this many hops
  abbrev pub Runs : ℕ → Progress → Type 0
  Runs hops (At before u packet) = IsOn net still from hops before (trip from u packet)
  Runs hops (Over visits ending) = Delivers net still from (reverse visits) ending

-- the end is right
ends_by : (net : Net) (still : Still) (from u : ℕ) (before : List ℕ) (packet : Packet) (ending : Ending) → length before ≤ 2 * (length net.nodes - 1)
    → EndsWell net (terrain still) (moves_given net) (trip from u packet) ending → Delivers net still from (reverse (u ∷ before)) ending
ends_by net still from u before packet ending few well = record {
  either = by_ending ending well;
  connected = well.connected;
  cut_off = well.cut_off;
  few =
      let long : length (reverse (u ∷ before)) ≡ suc (length before) = length-reverse (u ∷ before) in
      omega (arith, few, long);
}
  where
    -- the walk did not end for want of moves
    by_ending : (e : Ending) → EndsWell net (terrain still) (moves_given net) (trip from u packet) e → (e ≡ Delivered) ⊎ (e ≡ Stuck)
    by_ending Delivered w = inl refl
    by_ending Stuck w = inr refl
    by_ending Expired w = absurd (w.in_time (omega arith) refl)

module _ (net : Net) (still : Still) (from : ℕ) (valid : IsValid net) (fits : IsStill net still) where
  -- one more hop
  runs_on : (hops : ℕ) (before : List ℕ) (u : ℕ) (packet : Packet) (h : Hop) → IsOn net still from hops before (trip from u packet)
      → hop_under scheme.Deflect net packet (sight net still u) ≡ h → Runs net still from (suc hops) (come_to before u h)
  runs_on hops before u packet (Next w moved) on is =
      let tour = goes_on net (terrain still) (moves_given net) from packet (sight net still u) (is_terrain net still valid fits) (shows net still valid fits u) valid.few_nodes on.tour w moved is in
      record {
        tour = tour;
        moves = let old = on.tour.spent in let new = tour.spent in let made = on.moves in
            let spends = (is_move scheme.Deflect net packet moved (sight net still u) w is).spends_one in
            omega (arith, old, new, made, spends);
        visits = ap suc on.visits;
      }
  runs_on hops before u packet (Ended ending) on is =
      let few = few_moves net (terrain still) (moves_given net) (trip from u packet) on.tour in
      let made = on.moves in
      let long = on.visits in
      ends_by net still from u before packet ending (omega (arith, few, made, long))
      (ends_well net (terrain still) (moves_given net) from packet (sight net still u) (is_terrain net still valid fits) (shows net still valid fits u) valid.few_nodes on.tour ending is)

  -- from any point of the walk
  runs_more : (hops : ℕ) (c : Progress) → Runs net still from hops c → Runs net still from (suc hops) (one_more net still c)
  unfolding one_more
  runs_more hops (At before u packet) on = runs_on hops before u packet (hop_under scheme.Deflect net packet (sight net still u)) on refl
  runs_more hops (Over visits ending) well = well

  module _ (p : ℕ) (node : has net.nodes from ≡ true) where
    -- where it begins
    abbrev pub start : Progress
    start = At [] from (set_out net p from)

    -- it begins a tour
    starts : Runs net still from 0 start
    unfolding set_out stamped
    starts =
        let tour = begins net (terrain still) (moves_given net) from (set_out net p from) node refl refl refl in
        record {
          tour = tour;
          moves = let made = tour.spent in omega (arith, made);
          visits = refl;
        }

    -- after so many hops
    pub runs : (hops : ℕ) → Runs net still from hops (after_hops net still start hops)
    runs zero = starts
    runs (suc hops) = runs_more hops (after_hops net still start hops) (runs hops)

    -- the walk is over after twice as many hops as there are nodes
    over_by : (c : Progress) → Runs net still from (2 * length net.nodes) c → (visits : List ℕ) × ((ending : Ending) × (c ≡ Over visits ending))
    over_by (At before u packet) on =
        let some = some_nodes net.nodes from node in
        let made = on.moves in
        let spent = on.tour.spent in
        absurd (omega (arith, some, made, spent))
    over_by (Over visits ending) well = (visits, (ending, refl))

    -- what holds of it
    delivers_by : (hops : ℕ) (c : Progress) (visits : List ℕ) (ending : Ending) → Runs net still from hops c → c ≡ Over (reverse visits) ending → Delivers net still from visits ending
    delivers_by hops c visits ending runs is =
        let well : Delivers net still from (reverse (reverse visits)) ending = subst (Runs net still from hops) is runs in
        subst (λ v. Delivers net still from v ending) (reverse-reverse visits) well

    pub ended_delivers : (visits : List ℕ) (ending : Ending) → IsOver (whole_walk net still p from) visits ending → Delivers net still from visits ending
    unfolding whole_walk
    ended_delivers visits ending is =
        delivers_by (2 * length net.nodes) (after_hops net still start (2 * length net.nodes)) visits ending (runs (2 * length net.nodes)) is

    -- a walk that is over, with its properties
    with_end : (visits : List ℕ) (ending : Ending) → whole_walk net still p from ≡ Over visits ending → WalkDelivers net still p from
    with_end visits ending is =
        let over : IsOver (whole_walk net still p from) (reverse visits) ending = is ∙ ap (λ v. Over v ending) (sym (reverse-reverse visits)) in
        record { visits = reverse visits; ending = ending; over = over; delivers = ended_delivers (reverse visits) ending over }

    -- the whole walk is like this
    by_end : (visits : List ℕ) × ((ending : Ending) × (whole_walk net still p from ≡ Over visits ending)) → WalkDelivers net still p from
    by_end (visits, (ending, is)) = with_end visits ending is

    pub walk_delivers : WalkDelivers net still p from
    unfolding whole_walk
    walk_delivers = by_end (over_by (after_hops net still start (2 * length net.nodes)) (runs (2 * length net.nodes)))

    -- a walk that is over stays over
    stays_over : (visits : List ℕ) (ending : Ending) (hops more : ℕ) → after_hops net still start hops ≡ Over visits ending → after_hops net still start (more + hops) ≡ Over visits ending
    unfolding one_more
    stays_over visits ending hops zero is =
        let none : hops ≡ 0 + hops = omega arith in
        subst (λ n. after_hops net still start n ≡ Over visits ending) none is
    stays_over visits ending hops (suc more) is =
        let one : suc (more + hops) ≡ suc more + hops = omega arith in
        subst (λ n. after_hops net still start n ≡ Over visits ending) one (ap (one_more net still) (stays_over visits ending hops more is))

    -- a walk that is not over has a hop left
    left_by : (hops : ℕ) (c : Progress) (before : List ℕ) (u : ℕ) (packet : Packet) → Runs net still from hops c → At before u packet ≡ c → suc hops ≤ 2 * length net.nodes
    left_by hops c before u packet runs is =
        let on : IsOn net still from hops before (trip from u packet) = subst (Runs net still from hops) (sym is) runs in
        let some = some_nodes net.nodes from node in
        let made = on.moves in
        let spent = on.tour.spent in
        omega (arith, some, made, spent)

    -- a walk that is over after the next hop is the whole walk
    pub is_whole : (visits now : List ℕ) (hops u : ℕ) (packet : Packet) (ending : Ending) → so_far visits u packet None ≡ after_hops net still start hops
        → so_far now u packet (Some ending) ≡ one_more net still (so_far visits u packet None) → IsOver (whole_walk net still p from) now ending
    unfolding whole_walk
    is_whole visits now hops u packet ending is over =
        let left = left_by hops (after_hops net still start hops) (reverse visits) u packet (runs hops) is in
        let next : after_hops net still start (suc hops) ≡ Over (reverse now) ending = ap (one_more net still) (sym is) ∙ sym over in
        let all : 2 * length net.nodes - suc hops + suc hops ≡ 2 * length net.nodes = omega (arith, left) in
        ap (after_hops net still start) (sym all) ∙ stays_over (reverse now) ending (suc hops) (2 * length net.nodes - suc hops) next
