-- The items that an entry sends fit.
use Rattle.std.proofs.Common.{ℕ, suc, ◌+◌, ◌^◌, ◌<◌, ◌≤◌, Bool, true, false, ◌&&◌, ◌||◌, Option, Some, None, List, [], ◌∷◌, ◌≡◌, refl, sym, ◌∙◌, ap, subst, arith, length, filter, map, IfSome}
use Rattle.std.specs.Prelude.{nat_le, nat_lt, if◌then◌else◌}
use Rattle.std.specs.List.{list_all, list_any, range_with_len}
use Rattle.topology.specs.declared.names.Trigger.{Trigger}
use Rattle.topology.specs.Lists.{has, Among}
use Rattle.topology.specs.Paths.{differ, IsPath}
use Rattle.topology.specs.Net.{Net, IsValid, holds_back, neighbours, places}
use Rattle.topology.proofs.Tests.{and_left, and_right, and_both, or_left, or_right}
use Rattle.path_vector.specs.declared.causes.Cause.{Cause}
use Rattle.path_vector.specs.declared.causes.Cause.TheVariants.{Originate, Withdraw, Recv, Down, Up, Ready, Prefer, Flush}
use Rattle.path_vector.specs.Rules.{Rules}
use Rattle.path_vector.specs.History.{held, ready}
use Rattle.path_vector.specs.Offers.{offer, changed}
use Rattle.path_vector.specs.Simple.{Brings, BringsPaths, BringsPathsIn, AreIn}
use Rattle.path_vector.proofs.Simple.{offer_path, offer_in}
use Rattle.trigger_log.specs.Entries.{Entry, Update, flushes, reads}
use Rattle.trigger_log.specs.Fits.{Fits}
use Rattle.trigger_log.specs.Going.{Item, News, Going, numbered, going_to, going_in, spread, told, going_by}
use Rattle.trigger_log.specs.Making.{making}
use Rattle.trigger_log.specs.Pending.{is_pending, pending}
use Rattle.trigger_log.specs.Sending.{close_sent, held_update, news, next_number, sent_by, sent_from, sent_to, update_of, updates_sent}
use Rattle.node_core.specs.Fits.{begins_with, path_fits, item_fits}
use Rattle.message_fitting.specs.Names.{are_nodes, is_number, list_fits, triggers_fit}
use Rattle.node_core.specs.Counted.{is_long, is_long_item}
use Rattle.topology.specs.declared.limits.TheConstants.{MOST_TRIGGERS}
use Rattle.admission_laws.proofs.Facts.{cause_fits}
use Rattle.admission_laws.proofs.Each.{each_map, each_flat, among_filter, among_has, among_range, has_among, none_first, none_flat, passing_filter}
use Rattle.admission_laws.proofs.Tables.{path_of_fits}
use Rattle.admission_laws.proofs.Values.{one_of}
use Rattle.admission_laws.proofs.Bounds.{number_is, below_is, not_long, short_items, Within, said_few}
use Rattle.admission_laws.proofs.Listing.{changed_known, pending_known}
use Rattle.admission_laws.proofs.Sessions.{AllFit, first_fits, rest_fits, cause_of, held_number}

-- ---- paths

-- each of a list of nodes is in the network
nodes_inside : (net : Net) (ns : List ℕ) → are_nodes net ns ≡ true → AreIn net ns
nodes_inside net [] e = tt
nodes_inside net (n ∷ ns) e = (and_left (has net.nodes n) (are_nodes net ns) e, nodes_inside net ns (and_right (has net.nodes n) (are_nodes net ns) e))

-- a list that begins with something is not empty
begun : (v : ℕ) (path : List ℕ) → begins_with v path ≡ true → 0 < length path
begun v [] is = absurd (cc is)
begun v (n ∷ ns) is = omega arith

-- a path that fits repeats no node
path_simple : (net : Net) (v : ℕ) (path : Option (List ℕ)) → path_fits net v path ≡ true → IfSome path IsPath
path_simple net v None fits = tt
path_simple net v (Some path) fits =
    let rest = and_right (begins_with v path) (differ path && are_nodes net path) fits in
    record { some = begun v path (and_left (begins_with v path) (differ path && are_nodes net path) fits); different = and_left (differ path) (are_nodes net path) rest }

-- a path that fits stays in the network
path_inside : (net : Net) (v : ℕ) (path : Option (List ℕ)) → path_fits net v path ≡ true → IfSome path (AreIn net)
path_inside net v None fits = tt
path_inside net v (Some path) fits =
    nodes_inside net path (and_right (differ path) (are_nodes net path) (and_right (begins_with v path) (differ path && are_nodes net path) fits))

module _ (net : Net) (u : ℕ) where
  -- the path of an update that was received fits
  received_fits : (v s : ℕ) (path : Option (List ℕ)) → (has (neighbours net u) v && (is_number s && path_fits net v path)) ≡ true → path_fits net v path ≡ true
  received_fits v s path fits =
      and_right (is_number s) (path_fits net v path) (and_right (has (neighbours net u) v) (is_number s && path_fits net v path) fits)

  -- a fitting cause brings no path that repeats a node
  cause_simple : (cause : Cause) → cause_fits net u cause ≡ true → Brings IsPath cause
  cause_simple (Recv v s seq path) fits = path_simple net v path (received_fits v s path fits)
  cause_simple Originate fits = tt
  cause_simple Withdraw fits = tt
  cause_simple (Down v s) fits = tt
  cause_simple (Up v s) fits = tt
  cause_simple (Ready v s) fits = tt
  cause_simple (Prefer v x) fits = tt
  cause_simple (Flush v) fits = tt

  -- a fitting cause brings no path that leaves the network
  cause_inside : (cause : Cause) → cause_fits net u cause ≡ true → Brings (AreIn net) cause
  cause_inside (Recv v s seq path) fits = path_inside net v path (received_fits v s path fits)
  cause_inside Originate fits = tt
  cause_inside Withdraw fits = tt
  cause_inside (Down v s) fits = tt
  cause_inside (Up v s) fits = tt
  cause_inside (Ready v s) fits = tt
  cause_inside (Prefer v x) fits = tt
  cause_inside (Flush v) fits = tt

  -- no path that a log received repeats a node
  log_simple : (h : List Entry) → AllFit net u h → BringsPaths (reads h)
  log_simple [] all = tt
  log_simple (k ∷ h) all = (cause_simple k.read.cause (cause_of net u k (first_fits net u k h all)), log_simple h (rest_fits net u k h all))

  -- all paths that a log received stay in the network
  log_inside : (h : List Entry) → AllFit net u h → BringsPathsIn net (reads h)
  log_inside [] all = tt
  log_inside (k ∷ h) all = (cause_inside k.read.cause (cause_of net u k (first_fits net u k h all)), log_inside h (rest_fits net u k h all))

-- ---- updates

-- the update fits, but for its number
abbrev pub update_fits : Net → ℕ → Update → Bool
update_fits net v x = nat_lt x.prefix (length net.prefixes) && (list_fits net x.triggers && path_fits net v x.path)

-- the update fits, but for its number and for the length of its list
abbrev update_known : Net → ℕ → Update → Bool
update_known net v x = nat_lt x.prefix (length net.prefixes) && (triggers_fit net x.triggers && path_fits net v x.path)

-- the update lists more triggers than it may
abbrev is_long_update : Update → Bool
is_long_update x = is_long x.triggers

-- updates that fit but for the length of their lists fit, if no list is too long
all_short : (net : Net) (v : ℕ) (xs : List Update) → list_all (update_known net v) xs ≡ true → list_any is_long_update xs ≡ false → list_all (update_fits net v) xs ≡ true
all_short net v [] all short = refl
all_short net v (x ∷ xs) all short =
    let one = and_left (update_known net v x) (list_all (update_known net v) xs) all in
    let rest = and_right (nat_lt x.prefix (length net.prefixes)) (triggers_fit net x.triggers && path_fits net v x.path) one in
    and_both (update_fits net v x) (list_all (update_fits net v) xs)
    (and_both (nat_lt x.prefix (length net.prefixes)) (list_fits net x.triggers && path_fits net v x.path) (and_left (nat_lt x.prefix (length net.prefixes)) (triggers_fit net x.triggers && path_fits net v x.path) one)
    (and_both (list_fits net x.triggers) (path_fits net v x.path)
    (and_both (nat_le (length x.triggers) MOST_TRIGGERS) (triggers_fit net x.triggers) (not_long x.triggers (or_left (is_long x.triggers) (list_any is_long_update xs) short))
    (and_left (triggers_fit net x.triggers) (path_fits net v x.path) rest))
    (and_right (triggers_fit net x.triggers) (path_fits net v x.path) rest)))
    (all_short net v xs (and_right (update_known net v x) (list_all (update_known net v) xs) all) (or_right (is_long x.triggers) (list_any is_long_update xs) short))

-- the items of updates list what the updates list
short_from : (w s n : ℕ) (xs : List Update) → list_any is_long_item (sent_from w s n xs) ≡ list_any is_long_update xs
short_from w s n [] = refl
short_from w s n (x ∷ xs) = ap (λ b. is_long x.triggers || b) (short_from w s (suc n) xs)

-- updates that fit also fit as items, once they are numbered on
numbered_fit : (net : Net) (v n : ℕ) (xs : List Update) → 1 ≤ n → n + length xs ≤ 2 ^ 32 → list_all (update_fits net v) xs ≡ true → list_all (item_fits net v) (numbered n xs) ≡ true
numbered_fit net v n [] one few all = refl
numbered_fit net v n (x ∷ xs) one few all =
    and_both (item_fits net v (News n x)) (list_all (item_fits net v) (numbered (suc n) xs))
    (and_both (is_number n) (update_fits net v x) (number_is n one (omega arith)) (and_left (update_fits net v x) (list_all (update_fits net v) xs) all))
    (numbered_fit net v (suc n) xs (omega arith) (omega arith) (and_right (update_fits net v x) (list_all (update_fits net v) xs) all))

-- ---- what goes out

-- an item of u for a neighbour fits
abbrev pub going_fits : Net → ℕ → Going → Bool
going_fits net u g = has (neighbours net u) g.to && (is_number g.session && item_fits net u g.item)

-- fitting items go out to one neighbour as items that fit
to_fits : (net : Net) (u w s : ℕ) (items : List Item) → has (neighbours net u) w ≡ true → is_number s ≡ true → list_all (item_fits net u) items ≡ true
    → list_all (going_fits net u) (going_to w s items) ≡ true
to_fits net u w s items near number all =
    each_map (going_fits net u) (λ item. record { to = w; session = s; item = item }) items
    (λ x there. and_both (has (neighbours net u) w) (is_number s && item_fits net u x) near
    (and_both (is_number s) (item_fits net u x) number (one_of (item_fits net u) items x all there)))

-- fitting items go out to all neighbours, in the sessions that are held, as items that fit
pub spread_fits : (net : Net) (u : ℕ) (session : ℕ → Option ℕ) (items : ℕ → ℕ → List Item)
    → ((w s : ℕ) → has (neighbours net u) w ≡ true → session w ≡ Some s → (is_number s ≡ true) × (list_all (item_fits net u) (items w s) ≡ true))
    → list_all (going_fits net u) (spread net u session items) ≡ true
unfolding spread
spread_fits net u session items all =
    each_flat (going_fits net u) (λ w. going_in w (items w) (session w)) (neighbours net u) (λ w there. in_it w (session w) refl (among_has (neighbours net u) w there))
  where
    -- fitting items go out to one neighbour as items that fit, whether a session is held with it or not
    in_it : (w : ℕ) (s : Option ℕ) → session w ≡ s → has (neighbours net u) w ≡ true → list_all (going_fits net u) (going_in w (items w) s) ≡ true
    in_it w None is near = refl
    in_it w (Some s) is near = let both = all w s near is in to_fits net u w s (items w s) near both.0 both.1

module _ (rules : Rules) (net : Net) (u : ℕ) (valid : IsValid net) (own : has net.nodes u ≡ true) where
  -- an update of a prefix that lists triggers of the network fits, but for its number and the length of its list
  update_of_prefix : (h : List Entry) (w p : ℕ) (ts : List Trigger) → AllFit net u h → p < length net.prefixes → triggers_fit net ts ≡ true
      → update_known net u (record { prefix = p; triggers = ts; path = offer rules net u (reads h) p w }) ≡ true
  update_of_prefix h w p ts all placed known =
      let path = offer rules net u (reads h) p w in
      and_both (nat_lt p (length net.prefixes)) (triggers_fit net ts && path_fits net u path) (below_is p (length net.prefixes) placed)
      (and_both (triggers_fit net ts) (path_fits net u path) known
      (path_of_fits net u path (offer_path rules net u (reads h) p w (log_simple net u h all)) (offer_in rules net u (reads h) p w own (log_inside net u h all))))

  placed_at : (test : ℕ → Bool) (p : ℕ) → Among p (filter test (range_with_len 0 (length net.prefixes))) → p < length net.prefixes
  placed_at test p there = let low = among_range 0 (length net.prefixes) p (among_filter test (range_with_len 0 (length net.prefixes)) p there) in omega arith

  -- all updates of an entry for w fit, but for their numbers and the lengths of their lists
  pub news_known : (k : Entry) (h : List Entry) (w : ℕ) → AllFit net u (k ∷ h) → Fits (k ∷ h) → list_all (update_known net u) (news rules net u h k w) ≡ true
  unfolding news places
  news_known k h w all fits =
      let m = making rules net u h k in
      let some = range_with_len 0 (length net.prefixes) in
      let waits = is_pending rules net u h w in
      let moves = changed rules net u (k.read ∷ reads h) w in
      elim (holds_back net u w) as (λ c. list_all (update_known net u) (if c then (if flushes k.read.cause w then map (held_update m w) (filter waits some) else []) else map (update_of m w) (filter moves some)) ≡ true) [
        | true ↦ elim (flushes k.read.cause w) as (λ c. list_all (update_known net u) (if c then map (held_update m w) (filter waits some) else []) ≡ true) [
          | true ↦
              each_map (update_known net u) (held_update m w) (filter waits some)
              (λ p there. update_of_prefix h w p (pending rules net u h w p) (rest_fits net u k h all) (placed_at waits p there)
              (pending_known rules net u h w p (rest_fits net u k h all) fits.1 (passing_filter waits some p there)))
          | false ↦ refl
        ]
        | false ↦
            each_map (update_known net u) (update_of m w) (filter moves some)
            (λ p there. update_of_prefix (k ∷ h) w p k.triggers all (placed_at moves p there) (changed_known rules net u k h w p all fits (passing_filter moves some p there)))
      ]

  -- in the session that is held, no update of an entry lists more than it may
  news_short : (k : Entry) (h : List Entry) (w s : ℕ) → has (neighbours net u) w ≡ true → held (k.read ∷ reads h) w ≡ Some s → list_any is_long_item (sent_by rules net u h k) ≡ false
      → list_any is_long_update (news rules net u h k w) ≡ false
  unfolding sent_by
  news_short k h w s near holds short =
      let here = none_flat is_long_item (sent_to rules net u h k) (neighbours net u) w short (has_among (neighbours net u) w near) in
      let updates = none_first is_long_item (updates_sent (making rules net u h k) w (held (k.read ∷ reads h) w)) (close_sent (making rules net u h k) w (ready (reads h) w)) here in
      sym (short_from w s (next_number rules net u h w s) (news rules net u h k w)) ∙ subst (λ o. list_any is_long_item (updates_sent (making rules net u h k) w o) ≡ false) holds updates

  -- all updates of an entry for w fit, in the session that is held
  pub news_fit : (k : Entry) (h : List Entry) (w s : ℕ) → AllFit net u (k ∷ h) → Fits (k ∷ h) → Within rules net u (k ∷ h) → has (neighbours net u) w ≡ true → held (k.read ∷ reads h) w ≡ Some s
      → list_all (update_fits net u) (news rules net u h k w) ≡ true
  news_fit k h w s all fits few near holds =
      all_short net u (news rules net u h k w) (news_known k h w all fits) (news_short k h w s near holds (short_items rules net u k h few.short))

  -- all items that go out with an entry fit
  pub entry_goes : (k : Entry) (h : List Entry) → AllFit net u (k ∷ h) → Fits (k ∷ h) → Within rules net u (k ∷ h) → list_all (going_fits net u) (going_by rules net u h k) ≡ true
  unfolding going_by
  entry_goes k h all fits few =
      spread_fits net u (held (k.read ∷ reads h)) (told (making rules net u h k))
      (λ w s near holds. (
        held_number net u (k ∷ h) w s all holds,
        numbered_fit net u (next_number rules net u h w s) (news rules net u h k w) (omega arith)
            (let most = said_few rules net u valid k h w s fits near holds in let limit = few.updates in omega arith) (news_fit k h w s all fits few near holds),
      ))
