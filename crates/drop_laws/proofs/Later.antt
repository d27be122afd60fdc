-- What entries after an older part of a log send and hold back, for a trigger that only the part lists.
use Rattle.std.proofs.Common.{ℕ, suc, ◌==◌, true, false, Option, Some, None, List, [], ◌∷◌, map, filter, ◌≡◌, ◌⊎◌, inl, inr, ⊎_elim, refl, sym, ◌∙◌, ap, subst, arith}
use Rattle.std.specs.Prelude.{if◌then◌else◌}
use Rattle.topology.specs.declared.names.Trigger.{Trigger}
use Rattle.topology.specs.declared.items.Sent.{Sent}
use Rattle.topology.specs.declared.items.Pending.{Pending}
use Rattle.topology.specs.Lists.{has, Among}
use Rattle.topology.specs.Net.{Net, neighbours, places, holds_back}
use Rattle.topology.proofs.Tests.{same_refl}
use Rattle.topology.proofs.Unions.{of_union}
use Rattle.path_vector.specs.Rules.{Rules}
use Rattle.path_vector.specs.History.{held, ready}
use Rattle.path_vector.specs.Offers.{changed}
use Rattle.path_vector.proofs.Readiness.{ready_is_held}
use Rattle.trigger_log.specs.Entries.{Entry, Update, reads, closes, flushes}
use Rattle.trigger_log.specs.Making.{making}
use Rattle.trigger_log.specs.Pending.{is_some_trigger, pending, is_pending, all_pending, pending_row, pending_to, pending_rows}
use Rattle.trigger_log.specs.Sending.{news, sent_from, updates_sent, close_item, close_list, close_sent, sent_to, sent_by, next_number, update_of, held_update, held_updates}
use Rattle.trigger_log.specs.Fits.{Fits}
use Rattle.trigger_log.proofs.Gathering.{flush_held}
use Rattle.trigger_log.proofs.InOrder.{all_to}
use Rattle.trigger_log.proofs.Listed.{of_all}
use Rattle.incomplete_closure.specs.Reports.{Carrier, Report, missing, of_item, of_pending, items_of, open_to}
use Rattle.incomplete_closure.proofs.Listing.{passes, in_either, of_flat, of_map, each_at}
use Rattle.epoch_report.specs.Reporting.{report_of}
use Rattle.cut_laws.specs.Older.{Older, whole, less}
use Rattle.cut_laws.specs.Newer.{NewerLists}
use Rattle.cut_laws.proofs.Olden.{older_fits}
use Rattle.cut_laws.proofs.Waiting.{WaitsFor, was_waiting}
use Rattle.rest_laws.proofs.SentRows.{held_rows}
use Rattle.rest_laws.proofs.ValueClosed.{missing_open, pending_open, of_filter}
use Rattle.drop_laws.proofs.Part.{older_on, older_split, older_short}

-- ---- two parts of one log

-- one part is a part of the other
older_either : (log a b : List Entry) → Older log a → Older log b → Older a b ⊎ Older b a
older_either log _ b whole o = inl o
older_either log a b (less {k = k} p) o = by (older_either log (k ∷ a) b p o)
  where
    split : (k ∷ a ≡ b) ⊎ Older a b → Older a b ⊎ Older b a
    split (inl e) = inr (subst (λ z. Older z a) e (less {k = k} {h = a} whole))
    split (inr q) = inl q

    by : Older (k ∷ a) b ⊎ Older b (k ∷ a) → Older a b ⊎ Older b a
    by (inl q) = split (older_split k a b q)
    by (inr q) = inr (less {k = k} {h = a} q)

-- a newer entry that lists a trigger
newer_lister : (log part : List Entry) (o : Older log part) (t : Trigger) → NewerLists log part o t → (k : Entry) × (h : List Entry) × Older log (k ∷ h) × Older h part × Among t k.triggers
newer_lister log _ whole t n = absurd n
newer_lister log part (less {k = k} o) t (inl a) = (k, part, o, whole, a)
newer_lister log part (less {k = k} o) t (inr n) =
    let m = newer_lister log (k ∷ part) o t n in
    (m.0, m.1, m.2, older_on m.1 (k ∷ part) part m.3 (less {k = k} {h = part} whole), m.4)

-- the entries of the log that list t are in the part
abbrev pub HasAll : List Entry → List Entry → Trigger → Type 0
HasAll part log t = (h : List Entry) (k : Entry) → Older log (k ∷ h) → Among t k.triggers → Older part (k ∷ h)

-- so no entry after the part does
pub none_newer : (log part h : List Entry) (t : Trigger) → HasAll part log t → Older log h → (o : Older h part) → NewerLists h part o t → ⊥
none_newer log part h t all stands o n =
    let m = newer_lister h part o t n in
    let there = older_on log h (m.0 ∷ m.1) stands m.2 in
    let long = older_short part (m.0 ∷ m.1) (all m.1 m.0 there m.4) in
    let short = older_short m.1 part m.3 in
    omega (arith, long, short)

-- ---- members

-- a list with a member has one at least
some_member : (ts : List Trigger) (t : Trigger) → Among t ts → is_some_trigger ts ≡ true
some_member [] t a = absurd a
some_member (s ∷ ts) t a = refl

-- a place of the network is known
known_place : (net : Net) (p : ℕ) → Among p (places net) → has (places net) p ≡ true
known_place net p a = passes (λ x. x == p) (places net) p a (same_refl p)

module _ (rules : Rules) (net : Net) (u w : ℕ) where
  -- t is one of the triggers for which an update of some prefix of the network is held back from w in session s
  pub record Waits (h : List Entry) (s : ℕ) (t : Trigger) : Type 0 where
    pub prefix : ℕ
    pub known : has (places net) prefix ≡ true
    pub waits : WaitsFor rules net u w s h prefix t

  -- what waits for t in a log waited in its older part, if no newer entry lists t
  pub were_waiting : (log part : List Entry) (o : Older log part) (s : ℕ) (t : Trigger) → Fits log → (NewerLists log part o t → ⊥) → Waits log s t → Waits part s t
  were_waiting log part o s t f new x = record { prefix = x.prefix; known = x.known; waits = was_waiting rules net u w s log part o x.prefix t f new x.waits }

  -- ---- what one entry sends

  -- an update that lists t is of an entry that does, or was held back for it
  news_waits : (h : List Entry) (k : Entry) (s : ℕ) (x : Update) (t : Trigger) → Fits (k ∷ h) → held (k.read ∷ reads h) w ≡ Some s → Among x (news rules net u h k w) → Among t x.triggers → Among t k.triggers ⊎ Waits h s t
  unfolding news
  news_waits h k s x t f now a b =
      (elim (holds_back net u w) as (λ c. Among x (if c then (if flushes k.read.cause w then held_updates (making rules net u h k) w else []) else map (update_of (making rules net u h k) w) (filter (changed rules net u (k.read ∷ reads h) w) (places net))) → Among t k.triggers ⊎ Waits h s t) [
        | true ↦ (elim (flushes k.read.cause w) as (λ d. flushes k.read.cause w ≡ d → Among x (if d then held_updates (making rules net u h k) w else []) → Among t k.triggers ⊎ Waits h s t) [
          | true ↦ λ e m. inr (flushed e (of_map (held_update (making rules net u h k) w) (filter (is_pending rules net u h w) (places net)) x m))
          | false ↦ λ e m. absurd m
        ]) refl
        | false ↦ λ m. inl (at_once (of_map (update_of (making rules net u h k) w) (filter (changed rules net u (k.read ∷ reads h) w) (places net)) x m))
      ]) a
    where
      flushed : flushes k.read.cause w ≡ true → (p : ℕ) × Among p (filter (is_pending rules net u h w) (places net)) × (held_update (making rules net u h k) w p ≡ x) → Waits h s t
      flushed e found = record {
        prefix = found.0;
        known = known_place net found.0 (of_filter (is_pending rules net u h w) (places net) found.0 found.1).0;
        waits = record {
          listed = subst (λ (y : Update). Among t y.triggers) (sym found.2) b;
          holds = sym (flush_held k h w w f e) ∙ now;
        };
      }

      at_once : (p : ℕ) × Among p (filter (changed rules net u (k.read ∷ reads h) w) (places net)) × (update_of (making rules net u h k) w p ≡ x) → Among t k.triggers
      at_once found = subst (λ (y : Update). Among t y.triggers) (sym found.2) b

  -- an item made from updates has the triggers of one of them, and their session
  pub from_sent : (s n : ℕ) (xs : List Update) (i : Sent) → Among i (sent_from w s n xs) → (x : Update) × Among x xs × (x.triggers ≡ i.triggers) × (s ≡ i.session)
  from_sent s n [] i a = absurd a
  from_sent s n (x ∷ xs) i (inl e) = (x, inl refl, ap (λ (j : Sent). j.triggers) e, ap (λ (j : Sent). j.session) e)
  from_sent s n (x ∷ xs) i (inr a) = let more = from_sent s (suc n) xs i a in (more.0, inr more.1, more.2, more.3)

  updates_wait : (h : List Entry) (k : Entry) (session : Option ℕ) (i : Sent) (t : Trigger) → Fits (k ∷ h) → held (k.read ∷ reads h) w ≡ session → Among i (updates_sent (making rules net u h k) w session) → Among t i.triggers
      → Among t k.triggers ⊎ Waits h i.session t
  updates_wait h k None i t f now a b = absurd a
  updates_wait h k (Some s) i t f now a b =
      let one = from_sent s (next_number rules net u h w s) (news rules net u h k w) i a in
      subst (λ z. Among t k.triggers ⊎ Waits h z t) one.3 (news_waits h k s one.0 t f now one.1 (subst (λ (z : List Trigger). Among t z) (sym one.2) b))

  close_waits : (h : List Entry) (k : Entry) (session : Option ℕ) (i : Sent) (t : Trigger) → ready (reads h) w ≡ session → Among i (close_sent (making rules net u h k) w session) → Among t i.triggers
      → Among t k.triggers ⊎ Waits h i.session t
  unfolding all_pending
  close_waits h k None i t now a b = absurd a
  close_waits h k (Some s) i t now a b =
      (elim (closes k.read.cause w s) as (λ c. Among i (if c then close_item (making rules net u h k) w s ∷ [] else []) → Among t k.triggers ⊎ Waits h i.session t) [
        | true ↦ λ m. ⊎_elim (λ (e : close_item (making rules net u h k) w s ≡ i). is e) (λ none. absurd none) m
        | false ↦ λ m. absurd m
      ]) a
    where
      waiting : (p : ℕ) × Among p (places net) × Among t (pending rules net u h w p) → Waits h s t
      waiting found = record {
        prefix = found.0;
        known = known_place net found.0 found.1;
        waits = record { listed = found.2; holds = ready_is_held (reads h) w s now };
      }

      all : Among t (close_list rules net u h k w) → Among t k.triggers ⊎ Waits h s t
      all m =
          ⊎_elim (λ (own : Among t k.triggers). inl own) (λ (old : Among t (all_pending rules net u h w)). inr (waiting (of_all (pending rules net u h w) (places net) t old)))
          (of_union t k.triggers (all_pending rules net u h w) m)

      is : close_item (making rules net u h k) w s ≡ i → Among t k.triggers ⊎ Waits h i.session t
      is e =
          subst (λ z. Among t k.triggers ⊎ Waits h z t) (ap (λ (j : Sent). j.session) e)
          (all (subst (λ (j : Sent). Among t j.triggers) (sym e) b))

  sent_waits : (h : List Entry) (k : Entry) (i : Sent) (t : Trigger) → Fits (k ∷ h) → Among i (sent_to rules net u h k w) → Among t i.triggers → Among t k.triggers ⊎ Waits h i.session t
  sent_waits h k i t f a b =
      ⊎_elim
      (λ (x : Among i (updates_sent (making rules net u h k) w (held (k.read ∷ reads h) w))). updates_wait h k (held (k.read ∷ reads h) w) i t f refl x b)
      (λ (x : Among i (close_sent (making rules net u h k) w (ready (reads h) w))). close_waits h k (ready (reads h) w) i t refl x b)
      (in_either i (updates_sent (making rules net u h k) w (held (k.read ∷ reads h) w)) (close_sent (making rules net u h k) w (ready (reads h) w)) a)

  -- ---- after a part

  -- an item that lists t is of an entry in the part that has all entries listing it, or was held back in that part
  pub item_back : (log part : List Entry) (o : Older log part) (t : Trigger) → Fits log → HasAll part log t → (h : List Entry) (k : Entry) → Older log (k ∷ h) → (i : Sent) → Among i (sent_to rules net u h k w) → Among t i.triggers
      → Older part (k ∷ h) ⊎ Waits part i.session t
  item_back log part o t f all h k stands i a b = by (older_either log part (k ∷ h) o stands)
    where
      fits : Fits (k ∷ h)
      fits = older_fits log (k ∷ h) stands f

      split : (k ∷ h ≡ part) ⊎ Older h part → Older part (k ∷ h) ⊎ Waits part i.session t
      split (inl e) = inl (subst (λ z. Older z (k ∷ h)) e whole)
      split (inr p) =
          ⊎_elim (λ (own : Among t k.triggers). inl (all h k stands own))
          (λ (one : Waits h i.session t). inr (were_waiting h part p i.session t fits.1 (none_newer log part h t all (less {k = k} {h = h} stands) p) one))
          (sent_waits h k i t fits a b)

      by : Older part (k ∷ h) ⊎ Older (k ∷ h) part → Older part (k ∷ h) ⊎ Waits part i.session t
      by (inl q) = inl q
      by (inr q) = split (older_split k h part q)

  -- ---- rows of what is held back

  -- a row of what is held back that lists t is one that waits for t
  row_waits : (h : List Entry) (session : Option ℕ) (row : Pending) (t : Trigger) → held (reads h) w ≡ session → Among row (pending_to rules net u h w session) → Among t row.triggers → (w ≡ row.to) × Waits h row.session t
  row_waits h None row t now a b = absurd a
  row_waits h (Some s) row t now a b =
      let one = of_map (pending_row (pending rules net u h w) w s) (filter (is_pending rules net u h w) (places net)) row a in (
        ap (λ (r : Pending). r.to) one.2,
        record {
          prefix = one.0;
          known = known_place net one.0 (of_filter (is_pending rules net u h w) (places net) one.0 one.1).0;
          waits = record {
            listed = subst (λ (r : Pending). Among t r.triggers) (sym one.2) b;
            holds = subst (λ (r : Pending). held (reads h) w ≡ Some r.session) one.2 now;
          };
        },
      )

  -- what waits for t has a row of what is held back
  waiting_row : (h : List Entry) (s : ℕ) (t : Trigger) → has (neighbours net u) w ≡ true → (x : Waits h s t) → Among (pending_row (pending rules net u h w) w s x.prefix) (pending_rows rules net u h)
  waiting_row h s t near x = held_rows rules net u h w s x.prefix near x.known x.waits.holds (some_member (pending rules net u h w x.prefix) t x.waits.listed)

module _ (rules : Rules) (net : Net) (u : ℕ) where
  -- an item of an entry goes to a neighbour, and is what the entry sends to it
  pub goes_to : (h : List Entry) (k : Entry) (i : Sent) → Among i (sent_by rules net u h k) → (has (neighbours net u) i.to ≡ true) × Among i (sent_to rules net u h k i.to)
  unfolding sent_by
  goes_to h k i a =
      let to = of_flat (sent_to rules net u h k) (neighbours net u) i a in
      let same = each_at (λ (z : Sent). z.to ≡ to.0) (sent_to rules net u h k to.0) i (all_to rules net u h k to.0) to.2 in (
        subst (λ w. has (neighbours net u) w ≡ true) (sym same) (passes (λ x. x == to.0) (neighbours net u) to.0 to.1 (same_refl to.0)),
        subst (λ w. Among i (sent_to rules net u h k w)) (sym same) to.2,
      )

  -- a row that lists t is of a neighbour from which an update is held back for t
  pub of_pending_rows : (h : List Entry) (row : Pending) (t : Trigger) → Among row (pending_rows rules net u h) → Among t row.triggers → (has (neighbours net u) row.to ≡ true) × Waits rules net u row.to h row.session t
  unfolding pending_rows
  of_pending_rows h row t a b =
      let one = of_flat (λ w. pending_to rules net u h w (held (reads h) w)) (neighbours net u) row a in
      let is = row_waits rules net u one.0 h (held (reads h) one.0) row t refl one.2 b in (
        subst (λ w. has (neighbours net u) w ≡ true) is.0 (passes (λ x. x == one.0) (neighbours net u) one.0 one.1 (same_refl one.0)),
        subst (λ w. Waits rules net u w h row.session t) is.0 is.1,
      )

-- ---- what is open between two reports

-- something in session s that lists t
pub record Opens (from to : Report) (s : ℕ) (t : Trigger) : Type 0 where
  pub carrier : Carrier
  pub is_open : Among carrier (open_to from to)
  pub same : carrier.session ≡ s
  pub lists : Among t carrier.triggers

-- a missing item that lists t opens something for t
pub item_opens : (from to : Report) (i : Sent) (t : Trigger) → Among i (items_of from) → missing from to i ≡ true → Among t i.triggers → Opens from to i.session t
item_opens from to i t a lacks b = record { carrier = of_item i; is_open = missing_open from to i a lacks; same = refl; lists = b }

-- an update that is held back for t opens something for t
pub waits_opens : (rules : Rules) (net : Net) (v u e : ℕ) (b a : List Entry) (s : ℕ) (t : Trigger) → has (neighbours net v) u ≡ true → Waits rules net v u b s t → Opens (report_of rules net v e b) (report_of rules net u e a) s t
unfolding report_of
waits_opens rules net v u e b a s t near x = record {
  carrier = of_pending (pending_row (pending rules net v b u) u s x.prefix);
  is_open = pending_open (report_of rules net v e b) (report_of rules net u e a) (pending_row (pending rules net v b u) u s x.prefix) (waiting_row rules net v u b s t near x) (same_refl u);
  same = refl;
  lists = x.waits.listed;
}
