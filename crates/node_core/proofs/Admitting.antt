-- What a node admits may come to it.
use Rattle.std.proofs.Common.{ℕ, ◌^◌, ◌<◌, Bool, true, false, ◌&&◌, nat_lt, nat_le, Option, Some, None, List, [], ◌∷◌, ◌≡◌, ◌≢◌, refl, sym, ◌∙◌, ap, subst, arith, length}
use Rattle.std.proofs.Common.{Box, Global, Vec}
use Rattle.std.specs.Prelude.{IfSome}
use Rattle.std.proofs.lemmas.Bool.Decides.{nat_tests}
use Rattle.topology.specs.declared.names.Trigger.{Trigger}
use Rattle.topology.specs.Lists.{has}
use Rattle.topology.specs.Paths.{differ}
use Rattle.topology.specs.Net.{Net, neighbours}
use Rattle.topology.proofs.Tests.{and_left, and_right}
use Rattle.path_vector.specs.Simple.{AreIn}
use Rattle.trigger_log.specs.Going.{Item, News, Marker, Hello}
use Rattle.cut_laws.specs.Received.{IsRouteFrom}
use Rattle.chronicle.specs.Inputs.{Input, Originate, Withdraw, Prefer, Arrive, Notice, OpenSession, Flush, Snap, Propose, Control, Inject, Hop}
use Rattle.topology.specs.declared.items.Item.{Item as Message}
use Rattle.consolidator.specs.declared.messages.Message.{Message as Posted}
use Rattle.consolidator.specs.Seen.{message_seen}
use Rattle.epoch_packet.specs.declared.packets.Packet.{Packet}
use Rattle.trigger_log.specs.Going.{item_of}
use Rattle.node_core.specs.declared.inputs.Input.{Input as Given}
use Rattle.node_core.specs.declared.inputs.Input.TheVariants as given
use Rattle.topology.specs.declared.limits.TheConstants.{MOST_TRIGGERS}
use Rattle.node_core.specs.Inputs.{input_of}
use Rattle.node_core.specs.Coming.{MayCome}
use Rattle.message_fitting.specs.ControlFits.{epoch_fits, message_fits}
use Rattle.message_fitting.specs.Names.{are_nodes, is_number, list_fits, triggers_fit}
use Rattle.message_fitting.specs.PacketFits.{carried_fits, packet_fits, are_links}
use Rattle.node_core.specs.Fits.{begins_with, path_fits, item_fits, fits}

below : (m n : ℕ) → nat_lt m n ≡ true → m < n
below m n e = grind (arith, nat_tests)

inside : (net : Net) (ns : List ℕ) → are_nodes net ns ≡ true → AreIn net ns
inside net [] e = tt
inside net (n ∷ ns) e = (and_left (has net.nodes n) (are_nodes net ns) e, inside net ns (and_right (has net.nodes n) (are_nodes net ns) e))

begins : (v : ℕ) (ns : List ℕ) → begins_with v ns ≡ true → (rest : List ℕ) × (ns ≡ v ∷ rest)
begins v [] e = absurd (cc e)
begins v (n ∷ ns) e = let same : n ≡ v = grind (arith, nat_tests) in (ns, ap (λ m. m ∷ ns) same)

some_of : (v : ℕ) (ns : List ℕ) → begins_with v ns ≡ true → 0 < length ns
some_of v [] e = absurd (cc e)
some_of v (n ∷ ns) e = omega arith

route : (net : Net) (v : ℕ) (path : Option (List ℕ)) → path_fits net v path ≡ true → IfSome path (IsRouteFrom net v)
route net v None e = tt
route net v (Some path) e =
    let first = and_left (begins_with v path) (differ path && are_nodes net path) e in
    let rest = and_right (begins_with v path) (differ path && are_nodes net path) e in
    record {
      simple = record {
        own = begins v path first;
        simple = record { some = some_of v path first; different = and_left (differ path) (are_nodes net path) rest };
      };
      inside = inside net path (and_right (differ path) (are_nodes net path) rest);
    }

some_listed : (net : Net) (ts : List Trigger) → triggers_fit net ts ≡ true → ts ≢ []
some_listed net [] e = absurd (cc e)
some_listed net (t ∷ ts) e = λ same. absurd (cc same)

lists : (net : Net) (ts : List Trigger) → list_fits net ts ≡ true → ts ≢ []
lists net ts e = some_listed net ts (and_right (nat_le (length ts) MOST_TRIGGERS) (triggers_fit net ts) e)

-- an item that is admitted
item : (net : Net) (u v s : ℕ) (x : Item) → has (neighbours net u) v ≡ true → item_fits net v x ≡ true → MayCome net u (Arrive v s x)
item net u v s (Marker e) near ok = (near, tt, tt)
item net u v s (Hello e) near ok = (near, tt, tt)
item net u v s (News n x) near ok =
    let after = and_right (is_number n) (nat_lt x.prefix (length net.prefixes) && (list_fits net x.triggers && path_fits net v x.path)) ok in
    let last = and_right (nat_lt x.prefix (length net.prefixes)) (list_fits net x.triggers && path_fits net v x.path) after in (
      near,
      below x.prefix (length net.prefixes) (and_left (nat_lt x.prefix (length net.prefixes)) (list_fits net x.triggers && path_fits net v x.path) after),
      (
        route net v x.path (and_right (list_fits net x.triggers) (path_fits net v x.path) last),
        lists net x.triggers (and_left (list_fits net x.triggers) (path_fits net v x.path) last),
      ),
    )

-- the prefix of a packet that is admitted
placed : (net : Net) (packet : Packet) → packet_fits net packet ≡ true → packet.prefix < length net.prefixes
placed net packet e =
    let lists = carried_fits net packet.trail && carried_fits net packet.route in
    let rest = nat_le packet.epoch 32 && (nat_lt packet.budget (2 ^ 16) && (nat_lt packet.visited (2 ^ 64) && lists)) in
    below packet.prefix (length net.prefixes)
    (and_left (nat_lt packet.prefix (length net.prefixes)) rest (and_right (is_number packet.id) (nat_lt packet.prefix (length net.prefixes) && rest) e))

pub may_come : (net : Net) (u : ℕ) (input : Input) → fits net u input ≡ true → MayCome net u input
unfolding fits
may_come net u (Originate p) e = below p (length net.prefixes) e
may_come net u (Withdraw p) e = below p (length net.prefixes) e
may_come net u (Prefer v value) e = and_left (has (neighbours net u) v) (nat_le value 1000000) e
may_come net u (Arrive v s x) e =
    item net u v s x (and_left (has (neighbours net u) v) (is_number s && item_fits net v x) e)
    (and_right (is_number s) (item_fits net v x) (and_right (has (neighbours net u) v) (is_number s && item_fits net v x) e))
may_come net u (Notice v) e = e
may_come net u (OpenSession v s) e = and_left (has (neighbours net u) v) (is_number s) e
may_come net u (Flush v) e = e
may_come net u Snap e = tt
may_come net u (Propose d) e = tt
may_come net u (Control from m) e = tt
may_come net u (Inject id p) e = below p (length net.prefixes) (and_right (is_number id) (nat_lt p (length net.prefixes)) e)
may_come net u (Hop packet up) e = placed net packet (and_left (packet_fits net packet) (are_links net u up) e)

-- ---- the tests of a node

both_yes : (h r : Bool) → h ≡ true → r ≡ (h && r)
both_yes h r so = rw so refl

both_no : (h r x : Bool) → h ≡ false → x ≡ false → x ≡ (h && r)
both_no h r x off is = rw off is

second_no : (h one r x : Bool) → h ≡ true → one ≡ false → x ≡ false → x ≡ (h && (one && r))
second_no h one r x so off is = rw (so, off) is

module _ (net : Net) (u : ℕ) (input : Given) where
  -- the test of an input is that of what it is
  fits_as : (r : Bool) (i : Given) → input ≡ i → r ≡ fits net u (input_of i) → r ≡ fits net u (input_of input)
  fits_as r i is e = subst (λ x. r ≡ fits net u (input_of x)) (sym is) e

  -- a prefix stands below their number
  below_as : (p place count : ℕ) (n : Net) → place ≡ p → count ≡ length n.prefixes → n ≡ net → nat_lt place count ≡ nat_lt p (length net.prefixes)
  below_as p place count n at is same = rw (at, is, same) refl

  pub fits_originate : (p place count : ℕ) (n : Net) → input ≡ given.Originate p → place ≡ p → count ≡ length n.prefixes → n ≡ net → nat_lt place count ≡ fits net u (input_of input)
  unfolding fits
  fits_originate p place count n is at many same = fits_as (nat_lt place count) (given.Originate p) is (below_as p place count n at many same)

  pub fits_withdraw : (p place count : ℕ) (n : Net) → input ≡ given.Withdraw p → place ≡ p → count ≡ length n.prefixes → n ≡ net → nat_lt place count ≡ fits net u (input_of input)
  unfolding fits
  fits_withdraw p place count n is at many same = fits_as (nat_lt place count) (given.Withdraw p) is (below_as p place count n at many same)

  pub fits_prefer : (v value : ℕ) (near : Bool) → input ≡ given.Prefer v value → near ≡ has (neighbours net u) v → near ≡ true → nat_le value 1000000 ≡ fits net u (input_of input)
  unfolding fits
  fits_prefer v value near is of so = fits_as (nat_le value 1000000) (given.Prefer v value) is (both_yes (has (neighbours net u) v) (nat_le value 1000000) (sym of ∙ so))

  pub fits_prefer_far : (v value : ℕ) (near : Bool) → input ≡ given.Prefer v value → near ≡ has (neighbours net u) v → near ≡ false → near ≡ fits net u (input_of input)
  unfolding fits
  fits_prefer_far v value near is of off = fits_as near (given.Prefer v value) is (both_no (has (neighbours net u) v) (nat_le value 1000000) near (sym of ∙ off) off)

  pub fits_notice : (v : ℕ) (near : Bool) → input ≡ given.Notice v → near ≡ has (neighbours net u) v → near ≡ fits net u (input_of input)
  unfolding fits
  fits_notice v near is of = fits_as near (given.Notice v) is of

  pub fits_flush : (v : ℕ) (near : Bool) → input ≡ given.Flush v → near ≡ has (neighbours net u) v → near ≡ fits net u (input_of input)
  unfolding fits
  fits_flush v near is of = fits_as near (given.Flush v) is of

  pub fits_opening : (v s n : ℕ) (near : Bool) → input ≡ given.OpenSession v s → near ≡ has (neighbours net u) v → n ≡ s → near ≡ true → is_number n ≡ fits net u (input_of input)
  unfolding fits
  fits_opening v s n near is of same so =
      fits_as (is_number n) (given.OpenSession v s) is (ap is_number same ∙ both_yes (has (neighbours net u) v) (is_number s) (sym of ∙ so))

  pub fits_opening_far : (v s : ℕ) (near : Bool) → input ≡ given.OpenSession v s → near ≡ has (neighbours net u) v → near ≡ false → near ≡ fits net u (input_of input)
  unfolding fits
  fits_opening_far v s near is of off = fits_as near (given.OpenSession v s) is (both_no (has (neighbours net u) v) (is_number s) near (sym of ∙ off) off)

  pub fits_snap : input ≡ given.Snap → true ≡ fits net u (input_of input)
  unfolding fits
  fits_snap is = fits_as true given.Snap is refl

  pub fits_propose : (e : ℕ) (r : Bool) → input ≡ given.Propose e → r ≡ epoch_fits e → r ≡ fits net u (input_of input)
  unfolding fits
  fits_propose e r is so = fits_as r (given.Propose e) is so

  pub fits_control : (from : ℕ) (m : Posted) (r : Bool) (n : Net) → input ≡ given.Control from m → r ≡ message_fits n from (message_seen m) → n ≡ net → r ≡ fits net u (input_of input)
  unfolding fits
  fits_control from m r n is so same = fits_as r (given.Control from m) is (so ∙ ap (λ k. message_fits k from (message_seen m)) same)

  pub fits_inject : (id p place count : ℕ) (n : Net) → input ≡ given.Inject id p → place ≡ p → count ≡ length n.prefixes → n ≡ net → is_number id ≡ true → nat_lt place count ≡ fits net u (input_of input)
  unfolding fits
  fits_inject id p place count n is at many same one =
      fits_as (nat_lt place count) (given.Inject id p) is (below_as p place count n at many same ∙ both_yes (is_number id) (nat_lt p (length net.prefixes)) one)

  pub fits_inject_zero : (id p : ℕ) (test : Bool) → input ≡ given.Inject id p → test ≡ is_number id → test ≡ false → test ≡ fits net u (input_of input)
  unfolding fits
  fits_inject_zero id p test is of off =
      fits_as test (given.Inject id p) is (both_no (is_number id) (nat_lt p (length net.prefixes)) test (sym of ∙ off) off)

  module _ (packet : Box Packet Global) (up : Vec ℕ Global) (is : input ≡ given.Hop packet up) (k : Packet) (inner : k ≡ packet.value) where
    pub fits_hop : (r test : Bool) (n m : Net) (me : ℕ) (links : List ℕ) → test ≡ packet_fits n k → n ≡ net → test ≡ true → r ≡ are_links m me links → m ≡ net → me ≡ u → links ≡ up.items → r ≡ fits net u (input_of input)
    unfolding fits
    fits_hop r test n m me links of here so on there at same =
        fits_as r (given.Hop packet up) is
        ((on ∙ rw (there, at, same) refl)
        ∙ both_yes (packet_fits net packet.value) (are_links net u up.items) (subst (λ j. packet_fits net j ≡ true) inner (subst (λ j. packet_fits j k ≡ true) here (sym of ∙ so))))

    pub fits_hop_not : (test : Bool) (n : Net) → test ≡ packet_fits n k → n ≡ net → test ≡ false → test ≡ fits net u (input_of input)
    unfolding fits
    fits_hop_not test n of here off =
        fits_as test (given.Hop packet up) is
        (both_no (packet_fits net packet.value) (are_links net u up.items) test (subst (λ j. packet_fits net j ≡ false) inner (subst (λ j. packet_fits j k ≡ false) here (sym of ∙ off))) off)

  module _ (v s : ℕ) (x : Message) (near : Bool) (is : input ≡ given.Arrive v s x) (of : near ≡ has (neighbours net u) v) where
    pub fits_arrive : (n : ℕ) (r : Bool) (m : Net) → n ≡ s → near ≡ true → is_number n ≡ true → r ≡ item_fits m v (item_of x) → m ≡ net → r ≡ fits net u (input_of input)
    unfolding fits
    fits_arrive n r m same so one e here =
        fits_as r (given.Arrive v s x) is
        ((e ∙ ap (λ k. item_fits k v (item_of x)) here)
        ∙ (both_yes (is_number s) (item_fits net v (item_of x)) (ap is_number (sym same) ∙ one)
        ∙ both_yes (has (neighbours net u) v) (is_number s && item_fits net v (item_of x)) (sym of ∙ so)))

    pub fits_arrive_zero : (n : ℕ) (r : Bool) → n ≡ s → near ≡ true → is_number n ≡ false → r ≡ false → r ≡ fits net u (input_of input)
    unfolding fits
    fits_arrive_zero n r same so zero off =
        fits_as r (given.Arrive v s x) is
        (second_no (has (neighbours net u) v) (is_number s) (item_fits net v (item_of x)) r (sym of ∙ so) (ap is_number (sym same) ∙ zero) off)

    pub fits_arrive_far : (r : Bool) → near ≡ false → r ≡ false → r ≡ fits net u (input_of input)
    unfolding fits
    fits_arrive_far r far off =
        fits_as r (given.Arrive v s x) is (both_no (has (neighbours net u) v) (is_number s && item_fits net v (item_of x)) r (sym of ∙ far) off)
