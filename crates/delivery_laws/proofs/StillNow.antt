-- The properties of the network that a run's present state gives.
use Rattle.std.proofs.Common.{ℕ, Bool, true, false, not, ◌&&◌, ◌||◌, ◌==◌, Option, None, List, [], ◌∷◌, map, filter, ◌≡◌, ◌⊎◌, inl, inr, refl, sym, ◌∙◌, ap, subst}
use Rattle.std.specs.Prelude.{if◌then◌else◌}
use Rattle.std.specs.List.{list_any, AllByRecursion}
use Rattle.topology.specs.declared.links.Link.{Link}
use Rattle.topology.specs.declared.names.Scheme.TheVariants as scheme
use Rattle.topology.specs.Lists.{has, Among, ascending}
use Rattle.topology.specs.LinkStates.{are_ends, is_up}
use Rattle.topology.specs.Net.{Net, IsValid, joins, linked, neighbours}
use Rattle.topology.proofs.Ascending.{has-ascending}
use Rattle.topology.proofs.Neighbours.{neighbours_linked}
use Rattle.topology.proofs.Tests.{and_left, and_right, and_both, and_no, or_first, or_second, or_cases, same_is, same_refl}
use Rattle.path_vector.specs.Rules.{Rules}
use Rattle.path_vector.specs.History.{owns}
use Rattle.path_vector.specs.Ranking.{order}
use Rattle.trigger_log.specs.Entries.{reads}
use Rattle.epoch_packet.specs.declared.packets.Packet.{Packet}
use Rattle.transient_mode.specs.Sights.{Sight}
use Rattle.transient_mode.specs.TransientHops.{Hop, deflected, hop_under}
use Rattle.chronicle.specs.Facts.{Chronicle}
use Rattle.chronicle.specs.Giving.{sight as live_sight}
use Rattle.chronicle.specs.Links.{link}
use Rattle.chronicle.specs.Logs.{log_of}
use Rattle.chronicle.specs.Run.{up_links}
use Rattle.chronicle.proofs.Ends.{both_ends}
use Rattle.deflect_delivery.specs.declared.stills.Still.{Still}
use Rattle.deflect_delivery.specs.Stills.{order_beside, order_of, up_near, sight, AreOrders, IsStill}
use Rattle.deflect_delivery.specs.Stills as stills
use Rattle.deflect_delivery.proofs.Standing.{has_left}
use Rattle.delivery_laws.specs.Now.{links_up, owners_of, orders_of, still_now}
use Rattle.delivery_laws.proofs.Times.{order_is_whole}

-- the ends of a link
abbrev ends : Link → ℕ × ℕ
ends l = (l.a, l.b)

-- a member of a list that passes a test
any_among : (test : Link → Bool) (ls : List Link) (l : Link) → Among l ls → test l ≡ true → list_any test ls ≡ true
any_among test [] l among is = absurd among
any_among test (m ∷ ls) l (inl same) is = or_first (test m) (list_any test ls) (ap test same ∙ is)
any_among test (m ∷ ls) l (inr later) is = or_second (test m) (list_any test ls) (any_among test ls l later is)

-- a link joins its ends
joins_ends : (l : Link) → joins l.a l.b l ≡ true
joins_ends l = or_first (l.a == l.a && l.b == l.b) (l.a == l.b && l.b == l.a) (and_both (l.a == l.a) (l.b == l.b) (same_refl l.a) (same_refl l.b))

-- filtered links of the network are links of it
all_linked : (net : Net) (test : Link → Bool) (ls : List Link) → ((l : Link) → Among l ls → Among l net.links) → AllByRecursion (λ (k : ℕ × ℕ). linked net k.0 k.1 ≡ true) (map ends (filter test ls))
all_linked net test [] inside = tt
all_linked net test (l ∷ ls) inside =
    let rest = all_linked net test ls (λ m among. inside m (inr among)) in
    elim (test l) as (λ t. AllByRecursion (λ (k : ℕ × ℕ). linked net k.0 k.1 ≡ true) (map ends (if t then l ∷ filter test ls else filter test ls))) [
      | true ↦ (any_among (joins l.a l.b) net.links l (inside l (inl refl)) (joins_ends l), rest)
      | false ↦ rest
    ]

-- a filtered list of nodes has only nodes
all_nodes : (net : Net) (test : ℕ → Bool) (ns : List ℕ) → ((u : ℕ) → has ns u ≡ true → has net.nodes u ≡ true) → AllByRecursion (λ n. has net.nodes n ≡ true) (filter test ns)
all_nodes net test [] inside = tt
all_nodes net test (u ∷ ns) inside =
    let rest = all_nodes net test ns (λ w there. inside w (or_second (u == w) (has ns w) there)) in
    elim (test u) as (λ t. AllByRecursion (λ n. has net.nodes n ≡ true) (if t then u ∷ filter test ns else filter test ns)) [
      | true ↦ (inside u (or_first (u == u) (has ns u) (same_refl u)), rest)
      | false ↦ rest
    ]

module _ (rules : Rules) (net : Net) (valid : IsValid net) (past : Chronicle) (p : ℕ) where
  -- the order of each node has its neighbours once
  all_orders : (ns : List ℕ) → AreOrders net ns (map (λ u. order rules net u (reads (log_of u past)) p) ns)
  all_orders [] = tt
  all_orders (u ∷ ns) = (order_is_whole net u (reads (log_of u past)) p rules valid, all_orders ns)

  -- the network of the present state is one that does not change
  pub is_still : IsStill net (still_now rules net past p)
  unfolding still_now
  is_still = record {
    links = all_linked net (λ (l : Link). is_up (link l.a l.b past)) net.links (λ l among. among);
    owners = all_nodes net (λ u. owns (reads (log_of u past)) p) (ascending net.nodes) (λ u there. sym (has-ascending net.nodes u) ∙ there);
    orders = all_orders (ascending net.nodes);
  }

  -- the state of a link, named by its ends in either order
  same_state : (u w : ℕ) (l : Link) → joins u w l ≡ true → is_up (link l.a l.b past) ≡ is_up (link u w past)
  same_state u w l is =
      elim (or_cases (l.a == u && l.b == w) (l.a == w && l.b == u) is) [
        | inl k ↦
            ap (λ x. is_up (link x l.b past)) (same_is l.a u (and_left (l.a == u) (l.b == w) k))
            ∙ ap (λ y. is_up (link u y past)) (same_is l.b w (and_right (l.a == u) (l.b == w) k))
        | inr k ↦
            ap (λ x. is_up (link x l.b past)) (same_is l.a w (and_left (l.a == w) (l.b == u) k))
            ∙ (ap (λ y. is_up (link w y past)) (same_is l.b u (and_right (l.a == w) (l.b == u) k)) ∙ ap is_up (both_ends w u past))
      ]

  -- two are joined where they have a link, and it is up
  joined_is : (ls : List Link) (u w : ℕ)
      → list_any (λ (k : ℕ × ℕ). are_ends u w k.0 k.1) (map ends (filter (λ (l : Link). is_up (link l.a l.b past)) ls)) ≡ (list_any (joins u w) ls && is_up (link u w past))
  joined_is [] u w = refl
  joined_is (l ∷ ls) u w =
      let rest = joined_is ls u w in
      (elim (joins u w l) as (λ t. joins u w l ≡ t
      → list_any (λ (k : ℕ × ℕ). are_ends u w k.0 k.1) (map ends (filter (λ (m : Link). is_up (link m.a m.b past)) (l ∷ ls))) ≡ ((t || list_any (joins u w) ls) && is_up (link u w past))) [
        | true ↦ λ e. there (is_up (link u w past)) refl e (same_state u w l e) rest
        | false ↦ λ e. elsewhere e rest
      ]) refl
    where
      -- the ends of the links that are up, with those of this link in front if t is true
      front : Bool → List (ℕ × ℕ)
      front t = map ends (if t then l ∷ filter (λ (m : Link). is_up (link m.a m.b past)) ls else filter (λ (m : Link). is_up (link m.a m.b past)) ls)

      there : (b : Bool) → is_up (link u w past) ≡ b → joins u w l ≡ true → is_up (link l.a l.b past) ≡ is_up (link u w past)
          → list_any (λ (k : ℕ × ℕ). are_ends u w k.0 k.1) (front false) ≡ (list_any (joins u w) ls && is_up (link u w past))
          → list_any (λ (k : ℕ × ℕ). are_ends u w k.0 k.1) (front (is_up (link l.a l.b past))) ≡ is_up (link u w past)
      there true is e state rest =
          ap (λ t. list_any (λ (k : ℕ × ℕ). are_ends u w k.0 k.1) (front t)) (state ∙ is) ∙ (or_first (joins u w l) (list_any (λ (k : ℕ × ℕ). are_ends u w k.0 k.1) (front false)) e ∙ sym is)
      there false is e state rest =
          ap (λ t. list_any (λ (k : ℕ × ℕ). are_ends u w k.0 k.1) (front t)) (state ∙ is) ∙ (rest ∙ (ap (λ t. list_any (joins u w) ls && t) is ∙ (and_no (list_any (joins u w) ls) ∙ sym is)))

      elsewhere : joins u w l ≡ false
          → list_any (λ (k : ℕ × ℕ). are_ends u w k.0 k.1) (front false) ≡ (list_any (joins u w) ls && is_up (link u w past))
          → list_any (λ (k : ℕ × ℕ). are_ends u w k.0 k.1) (front (is_up (link l.a l.b past))) ≡ (list_any (joins u w) ls && is_up (link u w past))
      elsewhere e rest =
          elim (is_up (link l.a l.b past)) as (λ t. list_any (λ (k : ℕ × ℕ). are_ends u w k.0 k.1) (front t) ≡ (list_any (joins u w) ls && is_up (link u w past))) [
            | true ↦ ap (λ t. t || list_any (λ (k : ℕ × ℕ). are_ends u w k.0 k.1) (front false)) e ∙ rest
            | false ↦ rest
          ]

  -- a node and its neighbour are joined exactly if the link between them is up
  pub joined_near : (u w : ℕ) → has (neighbours net u) w ≡ true → stills.joins (still_now rules net past p) u w ≡ is_up (link u w past)
  unfolding still_now
  joined_near u w near = joined_is net.links u w ∙ ap (λ t. t && is_up (link u w past)) (sym (neighbours_linked net u w valid) ∙ near)

  -- ---- what a node sees

  -- tests that agree filter alike
  alike : (f g : ℕ → Bool) (xs : List ℕ) → ((x : ℕ) → has xs x ≡ true → f x ≡ g x) → filter f xs ≡ filter g xs
  alike f g [] same = refl
  alike f g (x ∷ xs) same =
      let rest = alike f g xs (λ y there. same y (or_second (x == y) (has xs y) there)) in
      ap (λ t. if t then x ∷ filter f xs else filter f xs) (same x (or_first (x == x) (has xs x) (same_refl x)))
      ∙ ap (λ l. if g x then x ∷ l else l) rest

  -- the list beside a node is the one that is made of the node
  beside_made : (f : ℕ → List ℕ) (ns : List ℕ) (u : ℕ) → has ns u ≡ true → order_beside ns (map f ns) u ≡ f u
  beside_made f [] u there = cc
  beside_made f (x ∷ ns) u there =
      (elim (x == u) as (λ t. (x == u) ≡ t → (t || has ns u) ≡ true → (if t then f x else order_beside ns (map f ns) u) ≡ f u) [
        | true ↦ λ e more. ap f (same_is x u e)
        | false ↦ λ e more. beside_made f ns u more
      ]) refl there

  -- the sight with these parts
  abbrev seen : ℕ → Bool → List ℕ → List ℕ → Option (List ℕ) → List (List ℕ) → Sight
  seen u own tried up stable backups = record { at = u; owns = own; order = tried; up = up; stable = stable; backups = backups }

  -- a deflection does not use the table
  no_table : (packet : Packet) (u : ℕ) (own : Bool) (tried up : List ℕ) (stable : Option (List ℕ)) (backups : List (List ℕ))
      → hop_under scheme.Deflect net packet (seen u own tried up None []) ≡ hop_under scheme.Deflect net packet (seen u own tried up stable backups)
  unfolding hop_under deflected
  no_table packet u own tried up stable backups = refl

  -- a node deflects a packet of p there as it would now in the run
  pub same_hop : (packet : Packet) (u : ℕ) → has net.nodes u ≡ true
      → hop_under scheme.Deflect net packet (sight net (still_now rules net past p) u) ≡ hop_under scheme.Deflect net packet (live_sight rules net u past p (up_links net u past))
  unfolding still_now up_links
  same_hop packet u node =
      let rank : has (ascending net.nodes) u ≡ true = has-ascending net.nodes u ∙ node in
      let live = live_sight rules net u past p (up_links net u past) in
      let still = still_now rules net past p in
      let own : has (owners_of net past p) u ≡ live.owns = has_left (λ w. owns (reads (log_of w past)) p) (ascending net.nodes) u rank in
      let tried : order_of net still u ≡ live.order = beside_made (λ w. order rules net w (reads (log_of w past)) p) (ascending net.nodes) u rank in
      let up : up_near net still u ≡ live.up = alike (stills.joins still u) (λ w. is_up (link u w past)) (neighbours net u) (λ w near. joined_near u w near) in
      ap (λ o. hop_under scheme.Deflect net packet (seen u o (order_of net still u) (up_near net still u) None [])) own
      ∙ (ap (λ l. hop_under scheme.Deflect net packet (seen u live.owns l (up_near net still u) None [])) tried
      ∙ (ap (λ l. hop_under scheme.Deflect net packet (seen u live.owns live.order l None [])) up
      ∙ no_table packet u live.owns live.order live.up live.stable live.backups))
