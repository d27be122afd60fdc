-- A packet that fits still fits after each move.
use Rattle.std.proofs.Common.{ℕ, suc, ◌-◌, ◌^◌, ◌<◌, ◌≤◌, true, false, cond, ◌&&◌, ◌||◌, ◌==◌, Option, Some, None, List, [], ◌∷◌, ◌++◌, ◌≡◌, refl, ◌∙◌, arith, length, find, IfSome}
use Rattle.std.specs.Prelude.{nat_lt, nat_le, not, if◌then◌else◌}
use Rattle.std.specs.List.{list_all}
use Rattle.std.proofs.lemmas.List.{length-append}
use Rattle.std.proofs.lemmas.Nat.{or_lt}
use Rattle.std.proofs.Math.Pow.{pow-lt}
use Rattle.topology.specs.Lists.{has, ascending}
use Rattle.topology.specs.Net.{Net, IsValid}
use Rattle.topology.specs.declared.names.Scheme.{Scheme}
use Rattle.topology.specs.declared.names.Scheme.TheVariants as scheme
use Rattle.topology.proofs.Ascending.{has-ascending, length-ascending}
use Rattle.topology.proofs.Tests.{and_left, and_right, and_both}
use Rattle.epoch_packet.specs.declared.packets.Packet.{Packet}
use Rattle.epoch_packet.specs.declared.walks.End.{End as Ending}
use Rattle.epoch_packet.specs.NodeLists.{after_first, last_of, but_last}
use Rattle.epoch_packet.specs.Packets.{stamp_of, stamped, visited_at_turn, turned, moved_to}
use Rattle.epoch_packet.specs.Visited.{place, rank, visits, bit, with_visit}
use Rattle.backup_routes.specs.Backups.{qualifies, backup_for}
use Rattle.transient_mode.specs.Sights.{Sight}
use Rattle.transient_mode.specs.TransientHops.{Hop, Next, Ended, spent, is_new, if_up, back, deflect_by, deflected, next_up, along, follow, route_of, set_out, detoured, take_backup, new_backup, backup_by, by_scheme, end_at, unless_ended, hop_under}
use Rattle.transient_mode.proofs.Hopping.{found}
use Rattle.message_fitting.specs.Names.{are_nodes, is_number}
use Rattle.message_fitting.specs.PacketFits.{carried_fits, packet_fits}
use Rattle.topology.specs.declared.limits.TheConstants.{MOST_EPOCHS, MOST_TRAIL}
use Rattle.admission_laws.proofs.Values.{one_of}
use Rattle.admission_laws.proofs.Bounds.{below_is, below_from, most_is, most_from}

-- ---- what a packet carries

-- what each of the tests of a packet that fits says
pub record Parts (net : Net) (packet : Packet) : Type 0 where
  pub number : is_number packet.id ≡ true
  pub placed : nat_lt packet.prefix (length net.prefixes) ≡ true
  pub stamp : nat_le packet.epoch MOST_EPOCHS ≡ true
  pub moves : nat_lt packet.budget (2 ^ 16) ≡ true
  pub nodes : nat_lt packet.visited (2 ^ 64) ≡ true
  pub way_back : carried_fits net packet.trail ≡ true
  pub way_on : carried_fits net packet.route ≡ true

-- a packet fits, if all that the tests say holds
fits_by : (net : Net) (packet : Packet) → Parts net packet → packet_fits net packet ≡ true
fits_by net packet parts =
    let lists = carried_fits net packet.trail && carried_fits net packet.route in
    let sets = nat_lt packet.visited (2 ^ 64) && lists in
    let counts = nat_lt packet.budget (2 ^ 16) && sets in
    let stamps = nat_le packet.epoch MOST_EPOCHS && counts in
    and_both (is_number packet.id) (nat_lt packet.prefix (length net.prefixes) && stamps) parts.number
    (and_both (nat_lt packet.prefix (length net.prefixes)) stamps parts.placed
    (and_both (nat_le packet.epoch MOST_EPOCHS) counts parts.stamp
    (and_both (nat_lt packet.budget (2 ^ 16)) sets parts.moves
    (and_both (nat_lt packet.visited (2 ^ 64)) lists parts.nodes
    (and_both (carried_fits net packet.trail) (carried_fits net packet.route) parts.way_back parts.way_on)))))

-- if a packet fits, all that the tests say holds
pub parts_of : (net : Net) (packet : Packet) → packet_fits net packet ≡ true → Parts net packet
parts_of net packet fits =
    let lists = carried_fits net packet.trail && carried_fits net packet.route in
    let sets = nat_lt packet.visited (2 ^ 64) && lists in
    let counts = nat_lt packet.budget (2 ^ 16) && sets in
    let stamps = nat_le packet.epoch MOST_EPOCHS && counts in
    let a = and_right (is_number packet.id) (nat_lt packet.prefix (length net.prefixes) && stamps) fits in
    let b = and_right (nat_lt packet.prefix (length net.prefixes)) stamps a in
    let c = and_right (nat_le packet.epoch MOST_EPOCHS) counts b in
    let d = and_right (nat_lt packet.budget (2 ^ 16)) sets c in
    let e = and_right (nat_lt packet.visited (2 ^ 64)) lists d in
    record {
      number = and_left (is_number packet.id) (nat_lt packet.prefix (length net.prefixes) && stamps) fits;
      placed = and_left (nat_lt packet.prefix (length net.prefixes)) stamps a;
      stamp = and_left (nat_le packet.epoch MOST_EPOCHS) counts b;
      moves = and_left (nat_lt packet.budget (2 ^ 16)) sets c;
      nodes = and_left (nat_lt packet.visited (2 ^ 64)) lists d;
      way_back = and_left (carried_fits net packet.trail) (carried_fits net packet.route) e;
      way_on = and_right (carried_fits net packet.trail) (carried_fits net packet.route) e;
    }

-- ---- lists of nodes

-- a list that can be carried is short
short : (net : Net) (ns : List ℕ) → carried_fits net ns ≡ true → length ns ≤ MOST_TRAIL
short net ns fits = most_from (length ns) MOST_TRAIL (and_left (nat_le (length ns) MOST_TRAIL) (are_nodes net ns) fits)

-- the nodes of a list that can be carried are of the network
nodes : (net : Net) (ns : List ℕ) → carried_fits net ns ≡ true → are_nodes net ns ≡ true
nodes net ns fits = and_right (nat_le (length ns) MOST_TRAIL) (are_nodes net ns) fits

-- a short list of nodes can be carried
carried : (net : Net) (ns : List ℕ) → length ns ≤ MOST_TRAIL → are_nodes net ns ≡ true → carried_fits net ns ≡ true
carried net ns few all = and_both (nat_le (length ns) MOST_TRAIL) (are_nodes net ns) (most_is (length ns) MOST_TRAIL few) all

-- a list that can be carried still can without its first node
rest_carried : (net : Net) (x : ℕ) (rest : List ℕ) → carried_fits net (x ∷ rest) ≡ true → carried_fits net rest ≡ true
rest_carried net x rest fits =
    carried net rest (let few = short net (x ∷ rest) fits in omega arith) (and_right (has net.nodes x) (are_nodes net rest) (nodes net (x ∷ rest) fits))

-- a list that can be carried still can without its first node, also where it is empty
after_carried : (net : Net) (ns : List ℕ) → carried_fits net ns ≡ true → carried_fits net (after_first ns) ≡ true
after_carried net [] fits = fits
after_carried net (x ∷ rest) fits = rest_carried net x rest fits

-- if all of a list are nodes of the network, all but its last are
but_last_nodes : (net : Net) (ns : List ℕ) → are_nodes net ns ≡ true → are_nodes net (but_last ns) ≡ true
but_last_nodes net [] all = refl
but_last_nodes net (x ∷ []) all = refl
but_last_nodes net (x ∷ y ∷ rest) all =
    and_both (has net.nodes x) (are_nodes net (but_last (y ∷ rest))) (and_left (has net.nodes x) (are_nodes net (y ∷ rest)) all)
    (but_last_nodes net (y ∷ rest) (and_right (has net.nodes x) (are_nodes net (y ∷ rest)) all))

-- a list without its last node is no longer
but_last_short : (ns : List ℕ) → length (but_last ns) ≤ length ns
but_last_short [] = omega arith
but_last_short (x ∷ []) = omega arith
but_last_short (x ∷ y ∷ rest) = let less = but_last_short (y ∷ rest) in omega arith

-- a list that can be carried still can without its last node
but_last_carried : (net : Net) (ns : List ℕ) → carried_fits net ns ≡ true → carried_fits net (but_last ns) ≡ true
but_last_carried net ns fits =
    carried net (but_last ns) (let few = short net ns fits in let less = but_last_short ns in omega arith) (but_last_nodes net ns (nodes net ns fits))

-- if all of a list are nodes of the network, they are with one more node at the end
nodes_last : (net : Net) (ns : List ℕ) (u : ℕ) → are_nodes net ns ≡ true → has net.nodes u ≡ true → are_nodes net (ns ++ u ∷ []) ≡ true
nodes_last net [] u all own = and_both (has net.nodes u) true own refl
nodes_last net (x ∷ ns) u all own =
    and_both (has net.nodes x) (are_nodes net (ns ++ u ∷ [])) (and_left (has net.nodes x) (are_nodes net ns) all) (nodes_last net ns u (and_right (has net.nodes x) (are_nodes net ns) all) own)

-- a list with room that can be carried still can with one more node at the end
last_carried : (net : Net) (ns : List ℕ) (u : ℕ) → carried_fits net ns ≡ true → length ns < MOST_TRAIL → has net.nodes u ≡ true → carried_fits net (ns ++ u ∷ []) ≡ true
last_carried net ns u fits room own =
    carried net (ns ++ u ∷ []) (let both = length-append ns (u ∷ []) in omega arith) (nodes_last net ns u (nodes net ns fits) own)

-- ---- bits

-- a number that is in a list has a place in it
place_below : (xs : List ℕ) (n : ℕ) → has xs n ≡ true → place xs n < length xs
place_below [] n there = absurd (cc there)
place_below (x ∷ xs) n there =
    (elim (x == n) as (λ t. (t || has xs n) ≡ true → (if t then 0 else suc (place xs n)) < suc (length xs)) [
      | true ↦ λ e. omega arith
      | false ↦ λ e. let later = place_below xs n e in omega arith
    ]) there

-- the bit of a node has room in eight bytes
bit_few : (net : Net) (u : ℕ) → IsValid net → bit net u < 2 ^ 64
bit_few net u valid =
    (elim (has net.nodes u) as (λ t. has net.nodes u ≡ t → (if t then 2 ^ rank net u else 0) < 2 ^ 64) [
      | true ↦ λ e.
          let there = place_below (ascending net.nodes) u (has-ascending net.nodes u ∙ e) in
          let as_many = length-ascending net.nodes in
          let few = valid.few_nodes in
          let low : rank net u < 64 = omega arith in
          pow-lt low
      | false ↦ λ e. omega arith
    ]) refl

-- a set of bits with that of a node has room in eight bytes, if the set has
visit_few : (net : Net) (visited w : ℕ) → IsValid net → visited < 2 ^ 64 → with_visit net visited w < 2 ^ 64
visit_few net visited w valid few = or_lt 64 visited (bit net w) few (bit_few net w valid)

-- the set of visited nodes fits after a move
visits_fit : (net : Net) (packet : Packet) (w : ℕ) → IsValid net → Parts net packet → nat_lt (with_visit net packet.visited w) (2 ^ 64) ≡ true
visits_fit net packet w valid parts =
    below_is (with_visit net packet.visited w) (2 ^ 64) (visit_few net packet.visited w valid (below_from packet.visited (2 ^ 64) parts.nodes))

-- ---- on the tables

-- the empty list can be carried
nothing_carried : (net : Net) → carried_fits net [] ≡ true
nothing_carried net = refl

-- the hop limit of the network has room in two bytes
hops_fit : (net : Net) → IsValid net → nat_lt net.hops (2 ^ 16) ≡ true
hops_fit net valid = below_is net.hops (2 ^ 16) valid.few_hops

-- a packet that enters the network fits
pub stamped_fits : (net : Net) (id p u : ℕ) (newest : Option ℕ) → IsValid net → is_number id ≡ true → nat_lt p (length net.prefixes) ≡ true → IfSome newest (λ e. e ≤ MOST_EPOCHS)
    → packet_fits net (stamped net id p u newest) ≡ true
unfolding stamped
stamped_fits net id p u newest valid number placed few =
    fits_by net (stamped net id p u newest) (record {
      number = number;
      placed = placed;
      stamp = stamp_few newest few;
      moves = hops_fit net valid;
      nodes = below_is (bit net u) (2 ^ 64) (bit_few net u valid);
      way_back = nothing_carried net;
      way_on = nothing_carried net;
    })
  where
    -- the stamp of a packet is not above the highest epoch, whether there is a table or not
    stamp_few : (o : Option ℕ) → IfSome o (λ e. e ≤ MOST_EPOCHS) → nat_le (stamp_of o) MOST_EPOCHS ≡ true
    stamp_few None low = refl
    stamp_few (Some e) low = most_is e MOST_EPOCHS low

-- a packet that fits still does after it goes on along a table
pub moved_fits : (net : Net) (packet : Packet) (w : ℕ) → IsValid net → packet_fits net packet ≡ true → packet_fits net (moved_to net w packet) ≡ true
moved_fits net packet w valid fits =
    let parts = parts_of net packet fits in
    fits_by net (moved_to net w packet) (record {
      number = parts.number;
      placed = parts.placed;
      stamp = parts.stamp;
      moves = parts.moves;
      nodes = visits_fit net packet w valid parts;
      way_back = parts.way_back;
      way_on = parts.way_on;
    })

-- a packet that fits still does after it leaves the tables
pub turned_fits : (net : Net) (packet : Packet) (u : ℕ) → IsValid net → packet_fits net packet ≡ true → packet_fits net (turned net u packet) ≡ true
unfolding turned
turned_fits net packet u valid fits =
    let parts = parts_of net packet fits in
    fits_by net (turned net u packet) (record {
      number = parts.number;
      placed = parts.placed;
      stamp = parts.stamp;
      moves = hops_fit net valid;
      nodes = below_is (visited_at_turn net.scheme net u packet) (2 ^ 64) (visited_few net.scheme (below_from packet.visited (2 ^ 64) parts.nodes));
      way_back = nothing_carried net;
      way_on = nothing_carried net;
    })
  where
    -- under each scheme the set has room in eight bytes
    visited_few : (s : Scheme) → packet.visited < 2 ^ 64 → visited_at_turn s net u packet < 2 ^ 64
    visited_few scheme.Deflect few = bit_few net u valid
    visited_few (scheme.Detour n) few = bit_few net u valid
    visited_few scheme.Backup few = few

-- ---- off the tables

-- a packet that goes on goes over a link that is up, and fits
abbrev pub MoveFits : Net → List ℕ → Hop → Type 0
MoveFits net up (Next w moved) = (has up w ≡ true) × (packet_fits net moved ≡ true)
MoveFits net up (Ended end) = Unit {0}

module _ (net : Net) (valid : IsValid net) (view : Sight) (own : has net.nodes view.at ≡ true) where
  -- the node, where one is given, is one whose link is up
  IsUp : Option ℕ → Type 0
  IsUp to = IfSome to (λ w. has view.up w ≡ true)

  -- a node that is given only if its link is up is one whose link is up
  up_given : (to : Option ℕ) → IsUp (if_up view to)
  unfolding IsUp
  up_given None = tt
  up_given (Some w) =
      (elim (has view.up w) as (λ t. has view.up w ≡ t → IfSome (cond t (Some w) None) (λ x. has view.up x ≡ true)) [ true ↦ λ e. e | false ↦ λ e. tt ]) refl

  module _ (packet : Packet) (parts : Parts net packet) where
    -- a packet that fits still does after a move, with lists that can be carried
    spent_fits : (w : ℕ) (trail route : List ℕ) → carried_fits net trail ≡ true → carried_fits net route ≡ true → packet_fits net (record (spent net w packet) { trail = trail; route = route }) ≡ true
    spent_fits w trail route t r =
        fits_by net (record (spent net w packet) { trail = trail; route = route }) (record {
          number = parts.number;
          placed = parts.placed;
          stamp = parts.stamp;
          moves = let few = below_from packet.budget (2 ^ 16) parts.moves in below_is (packet.budget - 1) (2 ^ 16) (omega arith);
          nodes = visits_fit net packet w valid parts;
          way_back = t;
          way_on = r;
        })

    -- the move back along the trail fits
    back_goes : (to : Option ℕ) → IsUp to → MoveFits net view.up (back net packet to)
    unfolding IsUp
    back_goes None up = tt
    back_goes (Some w) up = (up, spent_fits w (but_last packet.trail) packet.route (but_last_carried net packet.trail parts.way_back) parts.way_on)

    -- the move along a route that can be carried fits
    follow_goes : (route : List ℕ) → carried_fits net route ≡ true → MoveFits net view.up (follow net packet view route)
    follow_goes [] fits = tt
    follow_goes (w ∷ rest) fits =
        (elim (has view.up w) as (λ t. has view.up w ≡ t → MoveFits net view.up (along net packet (w ∷ rest) (cond t (Some w) None))) [
          | true ↦ λ e. (e, spent_fits w packet.trail rest parts.way_back (rest_carried net w rest fits))
          | false ↦ λ e. tt
        ]) refl

    -- the move forward fits, where a way forward was found
    forward_goes : (to : Option ℕ) → find (is_new net packet.visited view.up) view.order ≡ to → length packet.trail < 64 → MoveFits net view.up (deflect_by net packet view to)
    forward_goes None is room = back_goes (if_up view (last_of packet.trail)) (up_given (last_of packet.trail))
    forward_goes (Some w) is room =
        let new = (found (is_new net packet.visited view.up) view.order w is).1 in (
          and_left (has view.up w) (not (visits net packet.visited w)) new,
          spent_fits w (packet.trail ++ view.at ∷ []) packet.route (last_carried net packet.trail view.at parts.way_back room own) parts.way_on,
        )

    -- the move of a deflection fits
    deflected_goes : MoveFits net view.up (deflected net packet view)
    unfolding deflected
    deflected_goes =
        (elim (nat_lt (length packet.trail) 64) as (λ t. nat_lt (length packet.trail) 64 ≡ t
        → MoveFits net view.up (deflect_by net packet view (cond t (find (is_new net packet.visited view.up) view.order) None))) [
          | true ↦ λ e. forward_goes (find (is_new net packet.visited view.up) view.order) refl (below_from (length packet.trail) 64 e)
          | false ↦ λ e. back_goes (if_up view (last_of packet.trail)) (up_given (last_of packet.trail))
        ]) refl

    -- the move along a backup fits, where one qualifies
    backup_goes : (path : Option (List ℕ)) → IfSome path (λ l. carried_fits net l ≡ true) → MoveFits net view.up (take_backup net packet view path)
    backup_goes None fits = tt
    backup_goes (Some path) fits = follow_goes (after_first path) (after_carried net path fits)

    module _ (kept : list_all (carried_fits net) view.backups ≡ true) where
      -- a backup that is found can be carried
      found_fits : (path : Option (List ℕ)) → backup_for net view.backups packet.visited view.up ≡ path → IfSome path (λ l. carried_fits net l ≡ true)
      found_fits None is = tt
      found_fits (Some path) is = one_of (carried_fits net) view.backups path kept (found (qualifies net packet.visited view.up) view.backups path is).0

      -- the move along the first backup that qualifies fits
      new_goes : MoveFits net view.up (new_backup net packet view)
      new_goes = let path = backup_for net view.backups packet.visited view.up in backup_goes path (found_fits path refl)

      -- the move under backups fits, along the route or along a new backup
      by_route : (route : List ℕ) → packet.route ≡ route → MoveFits net view.up (backup_by net packet view (next_up view route))
      by_route [] is = new_goes
      by_route (w ∷ rest) is =
          (elim (has view.up w) as (λ t. has view.up w ≡ t → MoveFits net view.up (backup_by net packet view (cond t (Some w) None))) [
            | true ↦ λ e. (e, spent_fits w packet.trail (after_first packet.route) parts.way_back (after_carried net packet.route parts.way_on))
            | false ↦ λ e. new_goes
          ]) refl

  -- the move of a detour fits
  detour_goes : (packet : Packet) (n : ℕ) → Parts net packet → IfSome view.stable (λ l. carried_fits net l ≡ true) → MoveFits net view.up (detoured net n packet view)
  detour_goes packet n parts path =
      elim packet.reached as (λ a. MoveFits net view.up (cond a (follow net packet view packet.route) (cond (view.at == n) (set_out net packet view) (deflected net packet view)))) [
        | true ↦ follow_goes packet parts packet.route parts.way_on
        | false ↦ elim (view.at == n) as (λ b. MoveFits net view.up (cond b (set_out net packet view) (deflected net packet view))) [
          | true ↦ follow_goes (record packet { reached = true }) (record {
            number = parts.number;
            placed = parts.placed;
            stamp = parts.stamp;
            moves = parts.moves;
            nodes = parts.nodes;
            way_back = parts.way_back;
            way_on = parts.way_on;
          }) (route_of view.stable) (route_carried view.stable path)
          | false ↦ deflected_goes packet parts
        ]
      ]
    where
      -- the route that is made of a path can be carried
      route_carried : (o : Option (List ℕ)) → IfSome o (λ l. carried_fits net l ≡ true) → carried_fits net (route_of o) ≡ true
      route_carried None fits = nothing_carried net
      route_carried (Some l) fits = after_carried net l fits

  module _ (packet : Packet) (fits : packet_fits net packet ≡ true) (path : IfSome view.stable (λ l. carried_fits net l ≡ true)) (kept : list_all (carried_fits net) view.backups ≡ true) where
    -- the move that the scheme asks for fits
    scheme_goes : (s : Scheme) → MoveFits net view.up (by_scheme s net packet view)
    scheme_goes scheme.Deflect = deflected_goes packet (parts_of net packet fits)
    scheme_goes (scheme.Detour n) = detour_goes packet n (parts_of net packet fits) path
    scheme_goes scheme.Backup = by_route packet (parts_of net packet fits) kept packet.route refl

    -- a hop off the tables fits
    pub hop_goes : (s : Scheme) → MoveFits net view.up (hop_under s net packet view)
    unfolding hop_under
    hop_goes s = ended (end_at packet view)
      where
        -- a hop fits, whether the walk ends here or goes on
        ended : (o : Option Ending) → MoveFits net view.up (unless_ended o (by_scheme s net packet view))
        ended None = scheme_goes s
        ended (Some end) = tt
