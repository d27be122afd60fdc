-- What a node hands out has a spelling.
use Rattle.std.proofs.Common.{ℕ, ◌^◌, ◌≡◌, ◌≤◌, ◌<◌, Bool, true, false, not, ◌&&◌, ◌||◌, ◌==◌, Option, Some, None, List, [], ◌∷◌, ◌++◌, map, length, refl, sym, ap, ◌∙◌, subst, arith}
use Rattle.std.specs.Prelude.{nat_lt, nat_le, option_map}
use Rattle.std.specs.Int.{is_in_range}
use Rattle.std.specs.List.{list_all, AllByRecursion}
use Rattle.std.proofs.lemmas.Bool.Decides.{nat_tests}
use Rattle.topology.specs.declared.ballots.Ballot.{Ballot}
use Rattle.topology.specs.declared.names.Trigger.{Trigger}
use Rattle.topology.specs.Lists.{has}
use Rattle.topology.specs.Paths.{differ}
use Rattle.topology.specs.Triggers.{earlier}
use Rattle.topology.specs.Net.{Net, IsValid}
use Rattle.topology.proofs.Tests.{and_left, and_right, and_both, or_right, not_true, not_false, same_is}
use Rattle.topology.proofs.Sets.{has-append}
use Rattle.incomplete_closure.specs.Reports.{SessionRow}
use Rattle.incomplete_closure.specs.declared.values.Value.{Value}
use Rattle.epoch_packet.specs.declared.packets.Packet.{Packet}
use Rattle.epoch_packet.specs.declared.walks.Mode.{Mode}
use Rattle.epoch_packet.specs.declared.walks.Mode.TheVariants.{Stable, Transient}
use Rattle.message_fitting.specs.ControlFits.{epoch_fits, in_order, leads, nodes_fit, all_fit, incomplete_fits, value_fits, ballot_fits, named_fits, down_fits, session_fits, sooner}
use Rattle.node_core.specs.Fits.{begins_with, path_fits}
use Rattle.message_fitting.specs.Names.{are_nodes, is_number, trigger_fits, triggers_fit}
use Rattle.message_fitting.specs.PacketFits.{carried_fits, packet_fits}
use Rattle.wire_frames.specs.Formats.{many_fit, optional}
use Rattle.wire_frames.specs.Fields.{node, prefix, positive, epoch, epoch_or_none, any16, any32, any64, few, many, trigger, ballot, in_any_order, rising, different, nodes, path, paths, paths_in_order, rising_triggers, no_trigger, value, named, above, session_row, session_rows, packet, flag, mode}
use Rattle.topology.proofs.Few.{no_more}
use Rattle.route_node.specs.Frames.{first_of, session_told}

-- ---- numbers

pub number_fits : (low high n : ℕ) → low ≤ n → n ≤ high → is_in_range low high n ≡ true
number_fits low high n above below = grind (arith, nat_tests, above, below)

node_number : (ns : List ℕ) (n : ℕ) → AllByRecursion (λ m. (0 < m) × (m < 2 ^ 16)) ns → has ns n ≡ true → (0 < n) × (n < 2 ^ 16)
node_number [] n all e = absurd (cc e)
node_number (m ∷ ns) n all e =
    (elim (m == n) as (λ t. (m == n) ≡ t → (t || has ns n) ≡ true → (0 < n) × (n < 2 ^ 16)) [
      | true ↦ λ same d. subst (λ k. (0 < k) × (k < 2 ^ 16)) (same_is m n same) all.0
      | false ↦ λ other d. node_number ns n all.1 d
    ]) refl e

pub node_fits : (net : Net) (n : ℕ) → IsValid net → has net.nodes n ≡ true → node.fits n ≡ true
unfolding node
node_fits net n valid e = let two = node_number net.nodes n valid.numbers e in let low = two.0 in let high = two.1 in number_fits 1 65535 n (omega (arith, low)) (omega (arith, high))

one_to : (n : ℕ) → is_number n ≡ true → (1 ≤ n) × (n < 2 ^ 32)
one_to n e = let first = and_left (nat_le 1 n) (nat_lt n (2 ^ 32)) e in let second = and_right (nat_le 1 n) (nat_lt n (2 ^ 32)) e in (grind (arith, nat_tests, first), grind (arith, nat_tests, second))

pub positive_fits : (n : ℕ) → is_number n ≡ true → positive.fits n ≡ true
unfolding positive
positive_fits n e = let two = one_to n e in let low = two.0 in let high = two.1 in number_fits 1 4294967295 n low (omega (arith, high))

pub below_as : (m n : ℕ) → nat_lt m n ≡ true → m < n
below_as m n e = grind (arith, nat_tests, e)

pub at_most : (m n : ℕ) → nat_le m n ≡ true → m ≤ n
at_most m n e = grind (arith, nat_tests, e)

pub prefix_fits : (net : Net) (p : ℕ) → IsValid net → nat_lt p (length net.prefixes) ≡ true → prefix.fits p ≡ true
unfolding prefix
prefix_fits net p valid e = let most = valid.few_prefixes in let below = below_as p (length net.prefixes) e in number_fits 0 255 p (omega arith) (omega (arith, below, most))

pub epoch_as : (e : ℕ) → epoch_fits e ≡ true → epoch.fits e ≡ true
unfolding epoch
epoch_as e is = is

pub epoch_or_none_as : (e : ℕ) → nat_le e 32 ≡ true → epoch_or_none.fits e ≡ true
unfolding epoch_or_none
epoch_or_none_as e is = let most = at_most e 32 is in number_fits 0 32 e (omega arith) most

pub any32_fits : (n : ℕ) → nat_lt n (2 ^ 32) ≡ true → any32.fits n ≡ true
unfolding any32
any32_fits n e = let below = below_as n (2 ^ 32) e in number_fits 0 4294967295 n (omega arith) (omega (arith, below))

pub trigger_as : (net : Net) (t : Trigger) → IsValid net → trigger_fits net t ≡ true → trigger.fits t ≡ true
unfolding trigger
trigger_as net t valid e =
    and_both (node.fits t.node) (positive.fits t.count) (node_fits net t.node valid (and_left (has net.nodes t.node) (is_number t.count) e))
    (positive_fits t.count (and_right (has net.nodes t.node) (is_number t.count) e))

pub ballot_as : (net : Net) (b : Ballot) → IsValid net → ballot_fits net b ≡ true → ballot.fits b ≡ true
unfolding ballot
ballot_as net b valid e =
    and_both (positive.fits b.round) (node.fits b.node) (positive_fits b.round (and_left (is_number b.round) (has net.nodes b.node) e))
    (node_fits net b.node valid (and_right (is_number b.round) (has net.nodes b.node) e))

-- ---- lists of nodes

inside : (net : Net) (ns : List ℕ) → are_nodes net ns ≡ true → (x : ℕ) → has ns x ≡ true → has net.nodes x ≡ true
inside net [] e x there = absurd (cc there)
inside net (n ∷ ns) e x there =
    (elim (n == x) as (λ t. (n == x) ≡ t → (t || has ns x) ≡ true → has net.nodes x ≡ true) [
      | true ↦ λ same d. subst (λ k. has net.nodes k ≡ true) (same_is n x same) (and_left (has net.nodes n) (are_nodes net ns) e)
      | false ↦ λ other d. inside net ns (and_right (has net.nodes n) (are_nodes net ns) e) x d
    ]) refl there

few_nodes : (net : Net) (ns : List ℕ) → IsValid net → differ ns ≡ true → are_nodes net ns ≡ true → length ns ≤ 64
few_nodes net ns valid apart all = let most = valid.few_nodes in let less = no_more ns net.nodes apart (inside net ns all) in omega (arith, most, less)

few_fits : (n most : ℕ) → n ≤ most → (few most).fits n ≡ true
unfolding few
few_fits n most small = number_fits 0 most n (omega arith) small

pub many_fits : (n most : ℕ) → n ≤ most → (many most).fits n ≡ true
unfolding many
many_fits n most small = number_fits 0 most n (omega arith) small

-- the nodes seen so far and those after them differ
apart_behind : (seen : List ℕ) (n : ℕ) (ns : List ℕ) → ((x : ℕ) → has seen x ≡ true → has (n ∷ ns) x ≡ false) → differ (n ∷ ns) ≡ true → (x : ℕ) → has (seen ++ n ∷ []) x ≡ true → has ns x ≡ false
apart_behind seen n ns old apart x e =
    (elim (has seen x) as (λ t. has seen x ≡ t → (t || n == x) ≡ true → has ns x ≡ false) [
      | true ↦ λ there d. or_right (n == x) (has ns x) (old x there)
      | false ↦ λ other d. subst (λ k. has ns k ≡ false) (same_is n x d) (not_true (has ns n) (and_left (not (has ns n)) (differ ns) apart))
    ]) refl (sym (has-append seen n x) ∙ e)

has_first : (n : ℕ) (ns : List ℕ) → has (n ∷ ns) n ≡ true
has_first n ns = grind (arith, nat_tests)

different_fit : (net : Net) (seen ns : List ℕ) → IsValid net → are_nodes net ns ≡ true → differ ns ≡ true → ((x : ℕ) → has seen x ≡ true → has ns x ≡ false) → many_fit different seen ns ≡ true
different_fit net seen [] valid all apart old = refl
different_fit net seen (n ∷ ns) valid all apart old =
    let is_new : has seen n ≡ false =
    (elim (has seen n) as (λ t. has seen n ≡ t → has seen n ≡ false) [
      | true ↦ λ there. absurd (cc (old n there, has_first n ns))
      | false ↦ λ other. other
    ]) refl in
    and_both (node.fits n && not (has seen n)) (many_fit different (seen ++ n ∷ []) ns)
    (and_both (node.fits n) (not (has seen n)) (node_fits net n valid (and_left (has net.nodes n) (are_nodes net ns) all)) (not_false (has seen n) is_new))
    (different_fit net (seen ++ n ∷ []) ns valid (and_right (has net.nodes n) (are_nodes net ns) all) (and_right (not (has ns n)) (differ ns) apart) (apart_behind seen n ns old apart))

pub path_as : (net : Net) (v : ℕ) (p : Option (List ℕ)) → IsValid net → path_fits net v p ≡ true → path.fits p ≡ true
unfolding path
path_as net v None valid e = and_both ((few 64).fits 0) true (few_fits 0 64 (omega arith)) refl
path_as net v (Some []) valid e = absurd (cc e)
path_as net v (Some (n ∷ ns)) valid e =
    let rest = and_right (begins_with v (n ∷ ns)) (differ (n ∷ ns) && are_nodes net (n ∷ ns)) e in
    let apart = and_left (differ (n ∷ ns)) (are_nodes net (n ∷ ns)) rest in
    let all = and_right (differ (n ∷ ns)) (are_nodes net (n ∷ ns)) rest in
    and_both ((few 64).fits (length (n ∷ ns))) (many_fit different [] (n ∷ ns)) (few_fits (length (n ∷ ns)) 64 (few_nodes net (n ∷ ns) valid apart all))
    (different_fit net [] (n ∷ ns) valid all apart (λ x none. absurd (cc none)))

paths_fit : (net : Net) (u : ℕ) (ps : List (Option (List ℕ))) → IsValid net → list_all (path_fits net u) ps ≡ true → many_fit (paths_in_order {S = ℕ}) 0 ps ≡ true
paths_fit net u [] valid e = refl
paths_fit net u (p ∷ ps) valid e =
    and_both (path.fits p) (many_fit (paths_in_order {S = ℕ}) 0 ps) (path_as net u p valid (and_left (path_fits net u p) (list_all (path_fits net u) ps) e))
    (paths_fit net u ps valid (and_right (path_fits net u p) (list_all (path_fits net u) ps) e))

pub paths_as : (net : Net) (u : ℕ) (ps : List (Option (List ℕ))) → IsValid net → length ps ≤ 256 → list_all (path_fits net u) ps ≡ true → paths.fits ps ≡ true
unfolding paths
paths_as net u ps valid small e = and_both ((many 256).fits (length ps)) (many_fit (paths_in_order {S = ℕ}) 0 ps) (many_fits (length ps) 256 small) (paths_fit net u ps valid e)

-- ---- ascending lists

rising_fit : (net : Net) (last : ℕ) (ns : List ℕ) → IsValid net → are_nodes net ns ≡ true → in_order nat_lt ns ≡ true → leads nat_lt last ns ≡ true → many_fit rising last ns ≡ true
rising_fit net last [] valid all order leading = refl
rising_fit net last (n ∷ ns) valid all order leading =
    and_both (node.fits n && nat_lt last n) (many_fit rising n ns)
    (and_both (node.fits n) (nat_lt last n) (node_fits net n valid (and_left (has net.nodes n) (are_nodes net ns) all)) leading)
    (rising_fit net n ns valid (and_right (has net.nodes n) (are_nodes net ns) all) (and_right (leads nat_lt n ns) (in_order nat_lt ns) order) (and_left (leads nat_lt n ns) (in_order nat_lt ns) order))

-- a number below all of an ascending list is not in it
not_above : (n : ℕ) (ns : List ℕ) (m : ℕ) → in_order nat_lt (m ∷ ns) ≡ true → n < m → has (m ∷ ns) n ≡ false
not_above n [] m order below = grind (arith, nat_tests, below)
not_above n (k ∷ ns) m order below =
    let first : m < k = below_as m k (and_left (nat_lt m k) (in_order nat_lt (k ∷ ns)) order) in
    let rest = not_above n ns k (and_right (nat_lt m k) (in_order nat_lt (k ∷ ns)) order) (omega (arith, first, below)) in
    let here : (m == n) ≡ false = grind (arith, nat_tests, below) in
    ap (λ b. b || has (k ∷ ns) n) here ∙ rest

order_differs : (ns : List ℕ) → in_order nat_lt ns ≡ true → differ ns ≡ true
order_differs [] e = refl
order_differs (n ∷ []) e = refl
order_differs (n ∷ m ∷ ns) e =
    let below = below_as n m (and_left (nat_lt n m) (in_order nat_lt (m ∷ ns)) e) in
    let rest = and_right (nat_lt n m) (in_order nat_lt (m ∷ ns)) e in
    and_both (not (has (m ∷ ns) n)) (differ (m ∷ ns)) (not_false (has (m ∷ ns) n) (not_above n ns m rest below)) (order_differs (m ∷ ns) rest)

first_leads : (net : Net) (ns : List ℕ) → IsValid net → are_nodes net ns ≡ true → leads nat_lt 0 ns ≡ true
first_leads net [] valid all = refl
first_leads net (n ∷ ns) valid all = let two = node_number net.nodes n valid.numbers (and_left (has net.nodes n) (are_nodes net ns) all) in let low = two.0 in grind (arith, nat_tests, low)

pub triggers_rise : (net : Net) (last : Trigger) (ts : List Trigger) → IsValid net → list_all (trigger_fits net) ts ≡ true → in_order earlier ts ≡ true → leads earlier last ts ≡ true → many_fit rising_triggers last ts ≡ true
triggers_rise net last [] valid all order leading = refl
triggers_rise net last (t ∷ ts) valid all order leading =
    and_both (trigger.fits t && earlier last t) (many_fit rising_triggers t ts)
    (and_both (trigger.fits t) (earlier last t) (trigger_as net t valid (and_left (trigger_fits net t) (list_all (trigger_fits net) ts) all)) leading)
    (triggers_rise net t ts valid (and_right (trigger_fits net t) (list_all (trigger_fits net) ts) all) (and_right (leads earlier t ts) (in_order earlier ts) order) (and_left (leads earlier t ts) (in_order earlier ts) order))

pub first_trigger : (net : Net) (ts : List Trigger) → IsValid net → list_all (trigger_fits net) ts ≡ true → leads earlier no_trigger ts ≡ true
first_trigger net [] valid all = refl
first_trigger net (t ∷ ts) valid all =
    let is = and_left (trigger_fits net t) (list_all (trigger_fits net) ts) all in
    let two = node_number net.nodes t.node valid.numbers (and_left (has net.nodes t.node) (is_number t.count) is) in
    let low = two.0 in grind (arith, nat_tests, low)

pub value_as : (net : Net) (v : Value) → IsValid net → value_fits net v ≡ true → value.fits v ≡ true
unfolding value
value_as net v valid e =
    let left = and_left (nodes_fit net v.responding) (incomplete_fits net v.incomplete) e in
    let right = and_right (nodes_fit net v.responding) (incomplete_fits net v.incomplete) e in
    let all = and_left (are_nodes net v.responding) (in_order nat_lt v.responding) left in
    let order = and_right (are_nodes net v.responding) (in_order nat_lt v.responding) left in
    let each = and_left (all_fit net v.incomplete) (nat_le (length v.incomplete) 8192) right in
    let small = at_most (length v.incomplete) 8192 (and_right (all_fit net v.incomplete) (nat_le (length v.incomplete) 8192) right) in
    let ones = and_left (list_all (trigger_fits net) v.incomplete) (in_order earlier v.incomplete) each in
    let rise = and_right (list_all (trigger_fits net) v.incomplete) (in_order earlier v.incomplete) each in
    and_both ((few 64).fits (length v.responding) && many_fit rising 0 v.responding) ((many 8192).fits (length v.incomplete) && many_fit rising_triggers no_trigger v.incomplete)
    (and_both ((few 64).fits (length v.responding)) (many_fit rising 0 v.responding) (few_fits (length v.responding) 64 (few_nodes net v.responding valid (order_differs v.responding order) all))
    (rising_fit net 0 v.responding valid all order (first_leads net v.responding valid all)))
    (and_both ((many 8192).fits (length v.incomplete)) (many_fit rising_triggers no_trigger v.incomplete) (many_fits (length v.incomplete) 8192 small)
    (triggers_rise net no_trigger v.incomplete valid ones rise (first_trigger net v.incomplete valid ones)))

pub named_as : (net : Net) (n : Option (Ballot × Value)) → IsValid net → named_fits net n ≡ true → named.fits n ≡ true
unfolding named
named_as net None valid e = refl
named_as net (Some n) valid e =
    and_both (ballot.fits n.0) (value.fits n.1) (ballot_as net n.0 valid (and_left (ballot_fits net n.0) (value_fits net n.1) e)) (value_as net n.1 valid (and_right (ballot_fits net n.0) (value_fits net n.1) e))

-- ---- packets

any_order : (net : Net) (ns : List ℕ) → IsValid net → are_nodes net ns ≡ true → many_fit (in_any_order {S = ℕ}) 0 ns ≡ true
any_order net [] valid all = refl
any_order net (n ∷ ns) valid all =
    and_both (node.fits n) (many_fit (in_any_order {S = ℕ}) 0 ns) (node_fits net n valid (and_left (has net.nodes n) (are_nodes net ns) all)) (any_order net ns valid (and_right (has net.nodes n) (are_nodes net ns) all))

carried_as : (net : Net) (ns : List ℕ) → IsValid net → carried_fits net ns ≡ true → nodes.fits ns ≡ true
unfolding nodes
carried_as net ns valid e =
    and_both ((few 64).fits (length ns)) (many_fit (in_any_order {S = ℕ}) 0 ns) (few_fits (length ns) 64 (at_most (length ns) 64 (and_left (nat_le (length ns) 64) (are_nodes net ns) e)))
    (any_order net ns valid (and_right (nat_le (length ns) 64) (are_nodes net ns) e))

flag_fits : (b : Bool) → flag.fits b ≡ true
unfolding flag
flag_fits true = refl
flag_fits false = refl

any16_fits : (n : ℕ) → nat_lt n (2 ^ 16) ≡ true → any16.fits n ≡ true
unfolding any16
any16_fits n e = let below = below_as n (2 ^ 16) e in number_fits 0 65535 n (omega arith) (omega (arith, below))

any64_fits : (n : ℕ) → nat_lt n (2 ^ 64) ≡ true → any64.fits n ≡ true
unfolding any64
any64_fits n e = let below = below_as n (2 ^ 64) e in number_fits 0 18446744073709551615 n (omega arith) (omega (arith, below))

mode_fits : (m : Mode) → mode.fits m ≡ true
unfolding mode
mode_fits Stable = refl
mode_fits Transient = refl

pub packet_as : (net : Net) (q : Packet) → IsValid net → packet_fits net q ≡ true → packet.fits q ≡ true
unfolding packet
packet_as net q valid e =
    let lists = carried_fits net q.trail && carried_fits net q.route in
    let visited = nat_lt q.visited (2 ^ 64) && lists in
    let budget = nat_lt q.budget (2 ^ 16) && visited in
    let stamp = nat_le q.epoch 32 && budget in
    let behind = nat_lt q.prefix (length net.prefixes) && stamp in
    let second = and_right (is_number q.id) behind e in
    let third = and_right (nat_lt q.prefix (length net.prefixes)) stamp second in
    let fourth = and_right (nat_le q.epoch 32) budget third in
    let fifth = and_right (nat_lt q.budget (2 ^ 16)) visited fourth in
    let sixth = and_right (nat_lt q.visited (2 ^ 64)) lists fifth in
    parts (positive.fits q.id) (prefix.fits q.prefix) (epoch_or_none.fits q.epoch) (any16.fits q.budget) (flag.fits q.reached) (any64.fits q.visited) (nodes.fits q.trail) (nodes.fits q.route)
    (positive_fits q.id (and_left (is_number q.id) behind e)) (prefix_fits net q.prefix valid (and_left (nat_lt q.prefix (length net.prefixes)) stamp second))
    (epoch_or_none_as q.epoch (and_left (nat_le q.epoch 32) budget third)) (any16_fits q.budget (and_left (nat_lt q.budget (2 ^ 16)) visited fourth)) (flag_fits q.reached)
    (any64_fits q.visited (and_left (nat_lt q.visited (2 ^ 64)) lists fifth)) (carried_as net q.trail valid (and_left (carried_fits net q.trail) (carried_fits net q.route) sixth))
    (carried_as net q.route valid (and_right (carried_fits net q.trail) (carried_fits net q.route) sixth)) (mode_fits q.mode)
  where
    parts : (a b c d f g h i : Bool) → a ≡ true → b ≡ true → c ≡ true → d ≡ true → f ≡ true → g ≡ true → h ≡ true → i ≡ true → mode.fits q.mode ≡ true
        → (a && (b && (c && (mode.fits q.mode && (d && (f && (g && (h && i)))))))) ≡ true
    parts a b c d f g h i pa pb pc pd pf pg ph pi pm = rw (pa, pb, pc, pd, pf, pg, ph, pi, pm) refl

-- ---- session rows

pub triggers_first : (net : Net) (ts : List Trigger) → triggers_fit net ts ≡ true → trigger_fits net (first_of ts) ≡ true
triggers_first net [] e = absurd (cc e)
triggers_first net (t ∷ []) e = e
triggers_first net (t ∷ s ∷ ts) e = and_left (trigger_fits net t) (triggers_fit net (s ∷ ts)) e

down_as : (net : Net) (d : Option (List Trigger)) → IsValid net → down_fits net d ≡ true → (optional trigger).fits (option_map first_of d) ≡ true
down_as net None valid e = refl
down_as net (Some ts) valid e = trigger_as net (first_of ts) valid (triggers_first net ts e)

session_as : (net : Net) (last : ℕ × ℕ) (k : SessionRow) → IsValid net → above last (k.nbr, k.session) ≡ true → session_fits net k ≡ true → (session_row last).fits (session_told k) ≡ true
unfolding session_row
session_as net last k valid behind e =
    let rest = and_right (has net.nodes k.nbr) (is_number k.session && (nat_lt k.received (2 ^ 32) && down_fits net k.down)) e in
    let last_two = and_right (is_number k.session) (nat_lt k.received (2 ^ 32) && down_fits net k.down) rest in
    and_both ((node.fits k.nbr && positive.fits k.session) && above last (k.nbr, k.session)) (any32.fits k.received && (optional trigger).fits (option_map first_of k.down))
    (and_both (node.fits k.nbr && positive.fits k.session) (above last (k.nbr, k.session))
    (and_both (node.fits k.nbr) (positive.fits k.session) (node_fits net k.nbr valid (and_left (has net.nodes k.nbr) (is_number k.session && (nat_lt k.received (2 ^ 32) && down_fits net k.down)) e))
    (positive_fits k.session (and_left (is_number k.session) (nat_lt k.received (2 ^ 32) && down_fits net k.down) rest))) behind)
    (and_both (any32.fits k.received) ((optional trigger).fits (option_map first_of k.down)) (any32_fits k.received (and_left (nat_lt k.received (2 ^ 32)) (down_fits net k.down) last_two))
    (down_as net k.down valid (and_right (nat_lt k.received (2 ^ 32)) (down_fits net k.down) last_two)))

-- the first of them stands above a session
abbrev pub comes_above : (ℕ × ℕ) → List SessionRow → Bool
comes_above last [] = true
comes_above last (k ∷ ks) = above last (k.nbr, k.session)

pub sessions_as : (net : Net) (last : ℕ × ℕ) (ks : List SessionRow) → IsValid net → list_all (session_fits net) ks ≡ true → in_order sooner ks ≡ true → comes_above last ks ≡ true → many_fit session_rows last (map session_told ks) ≡ true
sessions_as net last [] valid e order behind = refl
sessions_as net last (k ∷ ks) valid e order behind =
    and_both ((session_row last).fits (session_told k)) (many_fit session_rows (k.nbr, k.session) (map session_told ks))
    (session_as net last k valid behind (and_left (session_fits net k) (list_all (session_fits net) ks) e))
    (sessions_as net (k.nbr, k.session) ks valid (and_right (session_fits net k) (list_all (session_fits net) ks) e) (and_right (leads sooner k ks) (in_order sooner ks) order)
    (next_above k ks (and_left (leads sooner k ks) (in_order sooner ks) order)))
  where
    next_above : (k : SessionRow) (ks : List SessionRow) → leads sooner k ks ≡ true → comes_above (k.nbr, k.session) ks ≡ true
    next_above k [] e = refl
    next_above k (j ∷ js) e = e

pub node_above_none : (net : Net) → IsValid net → (n k : ℕ) → has net.nodes n ≡ true → above (0, 0) (n, k) ≡ true
node_above_none net valid n k e =
    let two = node_number net.nodes n valid.numbers e in
    let low = two.0 in let above_zero : nat_lt 0 n ≡ true = grind (arith, nat_tests, low) in ap (λ b. b || (0 == n && nat_lt 0 k)) above_zero

pub first_above : (net : Net) (ks : List SessionRow) → IsValid net → list_all (session_fits net) ks ≡ true → comes_above (0, 0) ks ≡ true
first_above net [] valid e = refl
first_above net (k ∷ ks) valid e =
    let here = and_left (session_fits net k) (list_all (session_fits net) ks) e in
    let two = node_number net.nodes k.nbr valid.numbers (and_left (has net.nodes k.nbr) (is_number k.session && (nat_lt k.received (2 ^ 32) && down_fits net k.down)) here) in
    let low = two.0 in let above_zero : nat_lt 0 k.nbr ≡ true = grind (arith, nat_tests, low) in ap (λ b. b || (0 == k.nbr && nat_lt 0 k.session)) above_zero
