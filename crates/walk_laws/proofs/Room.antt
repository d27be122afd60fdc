-- The way back never needs more room than there are nodes.
use Rattle.std.proofs.Common.{ℕ, ◌≤◌, ◌<◌, true, false, not, ◌&&◌, ◌||◌, ◌==◌, Some, List, [], ◌∷◌, ◌++◌, ◌≡◌, refl, sym, ◌∙◌, ap, subst, arith}
use Rattle.std.specs.Prelude.{length}
use Rattle.topology.specs.Lists.{has}
use Rattle.topology.specs.Paths.{differ}
use Rattle.topology.specs.Net.{Net}
use Rattle.topology.specs.declared.names.Scheme.{Scheme}
use Rattle.topology.specs.declared.names.Scheme.TheVariants as scheme
use Rattle.topology.proofs.Few.{no_more}
use Rattle.topology.proofs.Sets.{has-append, differ-append}
use Rattle.topology.proofs.Tests.{and_left, and_right, and_both, or_left, or_right, or_none, not_true, not_false, same_sym, same_is}
use Rattle.epoch_packet.specs.declared.packets.Packet.{Packet}
use Rattle.epoch_packet.specs.declared.walks.Mode.TheVariants.{Transient}
use Rattle.epoch_packet.specs.declared.walks.Visit.{Visit}
use Rattle.epoch_packet.specs.NodeLists.{last_of, but_last}
use Rattle.epoch_packet.specs.Visited.{visits}
use Rattle.epoch_packet.proofs.LastNodes.{last_at_end}
use Rattle.transient_mode.specs.Sights.{Sight}
use Rattle.transient_mode.specs.TransientHops.{Next, spent, deflects, transient_hop}
use Rattle.transient_mode.proofs.Hopping.{hopped}
use Rattle.chronicle.specs.Walks.{visit_of}
use Rattle.walk_laws.specs.Readings.{off_tables, nodes_of, reached, trail}
use Rattle.walk_laws.proofs.OnTables.{Read}
use Rattle.walk_laws.proofs.OffTables.{counts_since, read_hop}
use Rattle.walk_laws.proofs.Trails.{but_last_is_there, trail_is_old}

-- different numbers still differ with the last one in front of the others
differ_turned : (xs : List ℕ) (n : ℕ) → differ (xs ++ n ∷ []) ≡ true → differ (n ∷ xs) ≡ true
differ_turned [] n apart = refl
differ_turned (x ∷ xs) n apart =
    let rest = differ_turned xs n (and_right (not (has (xs ++ n ∷ []) x)) (differ (xs ++ n ∷ [])) apart) in
    let off : (has xs x || n == x) ≡ false = sym (has-append xs n x) ∙ not_true (has (xs ++ n ∷ []) x) (and_left (not (has (xs ++ n ∷ []) x)) (differ (xs ++ n ∷ [])) apart) in
    and_both (not (x == n || has xs n)) (not (has xs x) && differ xs)
    (not_false (x == n || has xs n) (or_none (x == n) (has xs n) (same_sym x n ∙ or_right (has xs x) (n == x) off) (not_true (has xs n) (and_left (not (has xs n)) (differ xs) rest))))
    (and_both (not (has xs x)) (differ xs) (not_false (has xs x) (or_left (has xs x) (n == x) off)) (and_right (not (has xs n)) (differ xs) rest))

-- a list without its last element is no longer
but_last_is_short : (xs : List ℕ) → length (but_last xs) ≤ length xs
but_last_is_short [] = omega arith
but_last_is_short (x ∷ []) = omega arith
but_last_is_short (x ∷ y ∷ rest) = let less = but_last_is_short (y ∷ rest) in omega (arith, less)

-- the way back of a packet at u is shorter than 64; until the packet was at the node of the detour, its nodes are in
-- the network, and they and u differ
pub record Roomy (net : Net) (before : List Visit) (u : ℕ) (packet : Packet) : Type 0 where
  pub read : Read net before u packet
  pub short : length packet.trail < 64
  pub nodes : (x : ℕ) → has packet.trail x ≡ true → has net.nodes x ≡ true
  pub apart : packet.reached ≡ false → differ (u ∷ packet.trail) ≡ true

-- a packet that is deflected has not reached the node of the detour
not_reached : (s : Scheme) (packet : Packet) (view : Sight) (walk : List Visit) → deflects s packet view ≡ true → packet.reached ≡ reached s walk → packet.reached ≡ false
not_reached scheme.Deflect packet view walk does is = is
not_reached (scheme.Detour n) packet view walk does is = not_true packet.reached (and_left (not packet.reached) (not (view.at == n)) does)
not_reached scheme.Backup packet view walk does is = is

module _ (net : Net) (packet : Packet) (view : Sight) (before : List Visit) (off : packet.mode ≡ Transient) (nodes : (x : ℕ) → has view.up x ≡ true → has net.nodes x ≡ true)
    (own : (x : ℕ) → has view.up x ≡ true → has net.nodes view.at ≡ true) (few : length net.nodes ≤ 64) (old : Roomy net before view.at packet) where
  -- what has to hold of the packet after a move to w: its way back is short, and leads over different nodes of the
  -- network
  abbrev HasRoom : ℕ → Packet → Type 0
  HasRoom w q = (length q.trail < 64) × ((x : ℕ) → has q.trail x ≡ true → has net.nodes x ≡ true) × (q.reached ≡ false → differ (w ∷ q.trail) ≡ true)

  -- a packet has room after a move forward
  forth : (w : ℕ) → deflects net.scheme packet view ≡ true → has view.up w ≡ true → visits net packet.visited w ≡ false
      → HasRoom w (record (spent net w packet) { trail = packet.trail ++ view.at ∷ [] })
  forth w does up new =
      let u = view.at in
      let fresh : has (u ∷ nodes_of (off_tables before)) w ≡ false =
      sym (ap (λ l. has (nodes_of l) w) (counts_since net packet view before off nodes old.read net.scheme does)) ∙ (sym (old.read.read.visited w (nodes w up)) ∙ new) in
      let stack = old.apart (not_reached net.scheme packet view (visit_of u packet ∷ before) does old.read.read.reached) in
      let longer : differ (packet.trail ++ u ∷ []) ≡ true =
      differ-append packet.trail u (and_right (not (has packet.trail u)) (differ packet.trail) stack) (not_true (has packet.trail u) (and_left (not (has packet.trail u)) (differ packet.trail) stack)) in
      let off_it : has (packet.trail ++ u ∷ []) w ≡ false = has-append packet.trail u w ∙ or_none (has packet.trail w) (u == w) (not_back w does fresh) (or_left (u == w) (has (nodes_of (off_tables before)) w) fresh) in
      let all : differ (w ∷ (packet.trail ++ u ∷ [])) ≡ true = and_both (not (has (packet.trail ++ u ∷ []) w)) (differ (packet.trail ++ u ∷ [])) (not_false (has (packet.trail ++ u ∷ []) w) off_it) longer in
      let fits = no_more (w ∷ (packet.trail ++ u ∷ [])) net.nodes all (λ x there. (elim (w == x) as (λ t. (w == x) ≡ t → (t || has (packet.trail ++ u ∷ []) x) ≡ true → has net.nodes x ≡ true) [
        | true ↦ λ e d. subst (λ n. has net.nodes n ≡ true) (same_is w x e) (nodes w up)
        | false ↦ λ e d. on_it w x up d
      ]) refl there) in
      (omega (arith, fits, few), λ x there. on_it w x up there, λ none. all)
    where
      -- a new node is not on the way back
      not_back : (w : ℕ) → deflects net.scheme packet view ≡ true → has (view.at ∷ nodes_of (off_tables before)) w ≡ false → has packet.trail w ≡ false
      not_back w does fresh =
          (elim (has packet.trail w) as (λ t. has packet.trail w ≡ t → t ≡ false) [
            | true ↦ λ e. let known = trail_is_old net.scheme packet view (visit_of view.at packet) before w off does old.read.read.reached old.read.read.trail e in cc
            | false ↦ λ e. refl
          ]) refl

      -- the longer way back has only nodes
      on_it : (w x : ℕ) → has view.up w ≡ true → has (packet.trail ++ view.at ∷ []) x ≡ true → has net.nodes x ≡ true
      on_it w x up there =
          (elim (has packet.trail x) as (λ t. has packet.trail x ≡ t → (t || view.at == x) ≡ true → has net.nodes x ≡ true) [
            | true ↦ λ e d. old.nodes x e
            | false ↦ λ e d. subst (λ n. has net.nodes n ≡ true) (same_is view.at x d) (own w up)
          ]) refl (sym (has-append packet.trail view.at x) ∙ there)

  -- a packet has room after a move back
  back_to : (w : ℕ) → deflects net.scheme packet view ≡ true → last_of packet.trail ≡ Some w → HasRoom w (record (spent net w packet) { trail = but_last packet.trail })
  back_to w does end =
      let less = but_last_is_short packet.trail in
      let short = old.short in
      let stack = old.apart (not_reached net.scheme packet view (visit_of view.at packet ∷ before) does old.read.read.reached) in
      let whole : differ (but_last packet.trail ++ w ∷ []) ≡ true = ap differ (last_at_end packet.trail w end) ∙ and_right (not (has packet.trail view.at)) (differ packet.trail) stack in
      (omega (arith, less, short), λ x there. old.nodes x (but_last_is_there packet.trail x there), λ none. differ_turned (but_last packet.trail) w whole)

  -- a packet has room after a move that leaves its way back as it was
  same_way : (w : ℕ) (q : Packet) → q.trail ≡ packet.trail → (q.reached ≡ false → packet.trail ≡ []) → HasRoom w q
  same_way w q same none =
      (subst (λ (l : List ℕ). length l < 64) (sym same) old.short, λ x there. old.nodes x (ap (λ l. has l x) (sym same) ∙ there), λ off. ap (λ l. differ (w ∷ l)) (same ∙ none off))

  -- under backups there is no way back
  no_way : net.scheme ≡ scheme.Backup → packet.trail ≡ []
  no_way s = old.read.read.trail ∙ ap (λ t. trail t (visit_of view.at packet ∷ before)) s

  -- a hop off the tables keeps the room
  pub room_hop : (w : ℕ) (moved : Packet) → transient_hop net packet view ≡ Next w moved → Roomy net (visit_of view.at packet ∷ before) w moved
  room_hop w moved is =
      let made = hopped net.scheme net packet view HasRoom w moved (record {
        forwards = λ x does left up new. forth x does up new;
        backs = λ x does left up end. back_to x does end;
        arrives = λ n x rest s left was here up way. same_way x (record (spent net x (record packet { reached = true })) { route = rest }) refl (λ none. cc);
        detours = λ n x rest s left was up way. same_way x (record (spent net x packet) { route = rest }) refl (λ none. cc);
        follows = λ x rest s left up way. same_way x (record (spent net x packet) { route = rest }) refl (λ none. no_way s);
        starts = λ x path rest s left up chosen way. same_way x (record (spent net x packet) { route = rest }) refl (λ none. no_way s);
      }) is in
      record { read = read_hop net packet view before off nodes old.read w moved is; short = made.0; nodes = made.1; apart = made.2 }
