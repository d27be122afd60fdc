-- No step leaves the set of incomplete triggers in the value of a family's reports.
use Rattle.std.proofs.Common.{ℕ, suc, ◌<◌, ◌≤◌, Bool, true, false, Some, List, [], ◌∷◌, length, map, filter, ◌≡◌, inl, inr, ⊎_elim, cond, refl, sym, ◌∙◌, subst, arith}
use Rattle.std.proofs.lemmas.Bool.Decides.{nat_tests}
use Rattle.std.proofs.lemmas.List.{length-append}
use Rattle.topology.specs.declared.names.Trigger.{Trigger}
use Rattle.topology.specs.declared.items.Sent.{Sent}
use Rattle.topology.specs.declared.items.Pending.{Pending}
use Rattle.topology.specs.Lists.{has, Among, Begins}
use Rattle.topology.specs.Triggers.{lists}
use Rattle.topology.specs.Net.{Net, IsValid, neighbours, places}
use Rattle.topology.proofs.Neighbours.{neighbours_mutual}
use Rattle.topology.proofs.Tests.{same_refl}
use Rattle.path_vector.specs.Rules.{Rules}
use Rattle.trigger_log.specs.Entries.{Entry, Update, reads, inbox}
use Rattle.path_vector.specs.History.{held}
use Rattle.trigger_log.specs.Pending.{is_some_trigger, pending, is_pending, pending_row, pending_rows}
use Rattle.trigger_log.specs.Sending.{outbox, next_number}
use Rattle.trigger_log.specs.Fits.{Fits}
use Rattle.incomplete_closure.specs.Reports.{Carrier, Row, Report, missing, waits_for, of_item, of_pending, items_of, open_to}
use Rattle.incomplete_closure.specs.Blocked.{Open, shares}
use Rattle.incomplete_closure.specs.declared.values.Value.{Value}
use Rattle.incomplete_closure.specs.Values.{IsValue, IsClosed}
use Rattle.incomplete_closure.proofs.Listing.{some_passes, all_from_each, in_front, at_end, in_either, in_map, of_map, in_flat}
use Rattle.incomplete_closure.proofs.Least.{value_closed}
use Rattle.epoch_report.specs.Reporting.{entry_row, entry_rows, report_of}
use Rattle.cut_laws.specs.Older.{Older}
use Rattle.rest_laws.specs.Families.{Family, Closed, StillHolds, Never, Blocked, AllIn, AllInFrom, some_in}
use Rattle.rest_laws.proofs.SessionRows.{received_is, down_is}
use Rattle.rest_laws.proofs.SentRows.{SendsRow, AllSent, item, in_filtered, outbox_rows, close_rows, held_rows, rows_stand, row_stands}

-- ---- what is open between two reports

-- the carrier of a missing item is open
pub missing_open : (from to : Report) (item : Sent) → Among item (items_of from) → missing from to item ≡ true → Among (of_item item) (open_to from to)
unfolding open_to
missing_open from to item a e =
    in_front (of_item item) (map of_item (filter (missing from to) (items_of from))) (map of_pending (filter (waits_for to) from.pending))
    (in_map of_item (filter (missing from to) (items_of from)) item (in_filtered (missing from to) (items_of from) item a e))

-- the carrier of an update that is held back is open
pub pending_open : (from to : Report) (row : Pending) → Among row from.pending → waits_for to row ≡ true → Among (of_pending row) (open_to from to)
unfolding open_to
pending_open from to row a e =
    at_end (of_pending row) (map of_item (filter (missing from to) (items_of from))) (map of_pending (filter (waits_for to) from.pending))
    (in_map of_pending (filter (waits_for to) from.pending) row (in_filtered (waits_for to) from.pending row a e))

-- an element that passes is among those that were tried
pub of_filter : {A : Type 0} (test : A → Bool) (xs : List A) (x : A) → Among x (filter test xs) → Among x xs × (test x ≡ true)
of_filter test [] x a = absurd a
of_filter test (y ∷ ys) x a =
    (elim (test y) as (λ b. test y ≡ b → Among x (cond b (y ∷ filter test ys) (filter test ys)) → Among x (y ∷ ys) × (test x ≡ true)) [
      | true ↦ λ e m.
          ⊎_elim (λ (q : y ≡ x). (inl q, subst (λ z. test z ≡ true) q e))
          (λ (n : Among x (filter test ys)). let found = of_filter test ys x n in (inr found.0, found.1)) m
      | false ↦ λ e m. let found = of_filter test ys x m in (inr found.0, found.1)
    ]) refl a

-- an open carrier is that of a missing item, or that of an update that is held back
pub data OneOf (from to : Report) (c : Carrier) : Type 0 where
  ByItem : (i : Sent) → Among i (items_of from) → missing from to i ≡ true → of_item i ≡ c → OneOf from to c
  ByRow : (row : Pending) → Among row from.pending → waits_for to row ≡ true → of_pending row ≡ c → OneOf from to c

pub of_open : (from to : Report) (c : Carrier) → Among c (open_to from to) → OneOf from to c
unfolding open_to
of_open from to c a =
    ⊎_elim
    (λ (m : Among c (map of_item (filter (missing from to) (items_of from)))).
    let one = of_map of_item (filter (missing from to) (items_of from)) c m in
    let two = of_filter (missing from to) (items_of from) one.0 one.1 in
    ByItem one.0 two.0 two.1 one.2)
    (λ (m : Among c (map of_pending (filter (waits_for to) from.pending))).
    let one = of_map of_pending (filter (waits_for to) from.pending) c m in
    let two = of_filter (waits_for to) from.pending one.0 one.1 in
    ByRow one.0 two.0 two.1 one.2)
    (in_either c (map of_item (filter (missing from to) (items_of from))) (map of_pending (filter (waits_for to) from.pending)) a)

module _ (rules : Rules) (net : Net) (e : ℕ) (reports : List Report) (blocked : Trigger → Bool) (inside : IsClosed reports blocked) (u v : ℕ) (a b : List Entry) (fits : Fits a) (near : has (neighbours net u) v ≡ true)
    (receiver : Among (report_of rules net u e a) reports) (sender : Among (report_of rules net v e b) reports) where
  -- an open carrier lists triggers of the set, if its session is still held
  open_in : (c : Carrier) → Among c (open_to (report_of rules net v e b) (report_of rules net u e a)) → StillHolds blocked a v c.session → AllIn blocked c.triggers
  unfolding report_of
  open_in c is holds = all_from_each (λ t. blocked t ≡ true) c.triggers (λ t among. by holds t among)
    where
      lacks : Open reports (report_of rules net v e b) (report_of rules net u e a) c
      lacks = record { sender = sender; receiver = receiver; is_open = is }

      by : StillHolds blocked a v c.session → (t : Trigger) → Among t c.triggers → blocked t ≡ true
      by (Never d) t among =
          inside.start t (record { from = report_of rules net v e b; to = report_of rules net u e a; carrier = c; lacks = lacks; unclosed = down_is rules net u e a v c.session fits near ∙ d; lists = among })
      by (Blocked triggers d some) t among =
          let one = some_passes blocked triggers some in
          inside.step one.0 t
          (inr (inr (record { from = report_of rules net v e b; to = report_of rules net u e a; carrier = c; lacks = lacks; lists = among; closed = triggers; closes = down_is rules net u e a v c.session fits near ∙ d; names = one.1 })))
          one.2

  -- an item is missing if its number is above all that were received
  is_missing : (s n : ℕ) (triggers : List Trigger) → length (inbox a v s) < n → missing (report_of rules net v e b) (report_of rules net u e a) (item u s n triggers) ≡ true
  unfolding report_of
  is_missing s n triggers above =
      let count = received_is rules net u e a v s fits near in
      rw (same_refl u, count) (grind (arith, nat_tests))

  -- an item in a row is an item of the report
  sends_item : (i : Sent) → SendsRow (entry_rows rules net v b) i → Among i (items_of (report_of rules net v e b))
  unfolding report_of
  sends_item i sends = in_flat (λ (r : Row). r.sent) (entry_rows rules net v b) sends.0 i sends.1 sends.2

  -- an item that is in a row, was not received, and is of a session that is still held, lists only triggers of the set
  above_in : (s n : ℕ) (triggers : List Trigger) → SendsRow (entry_rows rules net v b) (item u s n triggers) → StillHolds blocked a v s → length (inbox a v s) < n → AllIn blocked triggers
  above_in s n triggers sends holds above =
      open_in (of_item (item u s n triggers))
      (missing_open (report_of rules net v e b) (report_of rules net u e a) (item u s n triggers) (sends_item (item u s n triggers) sends) (is_missing s n triggers above)) holds

  -- each update that was not received in a session that is still held lists only triggers of the set
  updates_in : (s m : ℕ) (xs : List Update) → StillHolds blocked a v s → AllSent (entry_rows rules net v b) u s m xs → AllInFrom blocked (length (inbox a v s)) m xs
  updates_in s m [] holds sent = tt
  updates_in s m (x ∷ xs) holds sent = (λ above. above_in s m x.triggers sent.0 holds above, updates_in s (suc m) xs holds sent.1)

  -- what is held back in a session that is still held lists only triggers of the set
  pending_in : (s : ℕ) (row : Pending) → Among row (pending_rows rules net v b) → row.to ≡ u → row.session ≡ s → StillHolds blocked a v s → AllIn blocked row.triggers
  unfolding report_of
  pending_in s row stands to is holds =
      open_in (of_pending row) (pending_open (report_of rules net v e b) (report_of rules net u e a) row stands (rw to (same_refl u))) (subst (StillHolds blocked a v) (sym is) holds)

-- ---- the set is closed

-- a prefix of a list is no longer than the list
begins_short : (xs ys : List Update) → Begins xs ys → length xs ≤ length ys
begins_short xs ys begins = let both = length-append xs begins.0 in subst (λ (z : List Update). length xs ≤ length z) begins.1 (omega arith)

-- the rows of the report of a log
rows_are : (rules : Rules) (net : Net) (u e : ℕ) (h : List Entry) → (report_of rules net u e h).rows ≡ entry_rows rules net u h
unfolding report_of
rows_are rules net u e h = refl

module _ (rules : Rules) (net : Net) (e : ℕ) (reports : List Report) (blocked : Trigger → Bool) (inside : IsClosed reports blocked) (u : ℕ) (log : List Entry) (told : Among (report_of rules net u e log) reports) where
  -- if an entry lists a trigger of the set, each later entry that shares a prefix with it lists only triggers of the
  -- set
  order_in : (h : List Entry) (j k : Entry) → Older log (k ∷ h) → Among j h → shares j.read.scope k.read.scope ≡ true → some_in blocked j.triggers ≡ true → AllIn blocked k.triggers
  order_in h j k o a near some =
      let s = some_passes blocked j.triggers some in
      all_from_each (λ t. blocked t ≡ true) k.triggers
      (λ t x. inside.step s.0 t (inl (report_of rules net u e log, told, rw (rows_are rules net u e log) (rows_stand rules net u log h j k s.0 t o a near s.1 x))) s.2)

  -- an entry that lists one trigger of the set lists only triggers of the set
  together_in : (h : List Entry) (k : Entry) → Older log (k ∷ h) → some_in blocked k.triggers ≡ true → AllIn blocked k.triggers
  together_in h k o some =
      let s = some_passes blocked k.triggers some in
      all_from_each (λ t. blocked t ≡ true) k.triggers
      (λ t x. inside.step s.0 t (inr (inl (report_of rules net u e log, entry_row rules net u h k, told, rw (rows_are rules net u e log) (row_stands rules net u log h k o), s.1, x))) s.2)

-- the reports have the report of each node's log
abbrev pub HaveReports : Rules → Net → ℕ → List ℕ → (ℕ → List Entry) → List Report → Type 0
HaveReports rules net e nodes log reports = (u : ℕ) → Among u nodes → Among (report_of rules net u e (log u)) reports

-- a set that has each start, and that no step of a family's reports leaves, is closed
pub closed_over : (rules : Rules) (net : Net) (nodes : List ℕ) (log : ℕ → List Entry) (e : ℕ) (reports : List Report) (blocked : Trigger → Bool) → IsValid net → Family rules net nodes log
    → HaveReports rules net e nodes log reports → IsClosed reports blocked → Closed rules net nodes log blocked
closed_over rules net nodes log e reports blocked valid family told inside = record {
  updates = λ u v s mu mv near holds.
      updates_in rules net e reports blocked inside u v (log u) (log v) (family.fits u mu) near (told u mu) (told v mv) s 1 (outbox rules net v (log v) u s) holds
      (outbox_rows rules net v (log v) u s (other_way u v near));
  closes = λ u v s triggers mu mv near holds c.
      let short = begins_short (inbox (log u) v s) (outbox rules net v (log v) u s) (family.begins u v s mu mv near) in
      above_in rules net e reports blocked inside u v (log u) (log v) (family.fits u mu) near (told u mu) (told v mv) s (next_number rules net v (log v) u s) triggers
      (close_rows rules net v (log v) u s triggers (family.fits v mv) (other_way u v near) c) holds (omega arith);
  waits = λ u v s p mu mv near known holds held_in.
      waits_in u v s p mu mv near known holds held_in (is_pending rules net v (log v) u p) refl;
  order = λ u h j k mu o a near some. order_in rules net e reports blocked inside u (log u) (told u mu) h j k o a near some;
  together = λ u h k mu o some. together_in rules net e reports blocked inside u (log u) (told u mu) h k o some;
}
  where
    other_way : (u v : ℕ) → has (neighbours net u) v ≡ true → has (neighbours net v) u ≡ true
    other_way u v near = sym (neighbours_mutual net u v valid) ∙ near

    none_waits : (ts : List Trigger) → is_some_trigger ts ≡ false → AllIn blocked ts
    none_waits [] e = tt
    none_waits (t ∷ ts) e = absurd (cc e)

    waits_in : (u v s p : ℕ) → Among u nodes → Among v nodes → has (neighbours net u) v ≡ true → has (places net) p ≡ true → StillHolds blocked (log u) v s → held (reads (log v)) u ≡ Some s
        → (b : Bool) → is_pending rules net v (log v) u p ≡ b → AllIn blocked (pending rules net v (log v) u p)
    waits_in u v s p mu mv near known holds held_in false q = none_waits (pending rules net v (log v) u p) q
    waits_in u v s p mu mv near known holds held_in true q =
        pending_in rules net e reports blocked inside u v (log u) (log v) (family.fits u mu) near (told u mu) (told v mv) s (pending_row (pending rules net v (log v) u) u s p)
        (held_rows rules net v (log v) u s p (other_way u v near) known held_in q) refl refl holds

-- the incomplete triggers of the value of a family's reports are a closed set
pub closed_of_value : (rules : Rules) (net : Net) (nodes : List ℕ) (log : ℕ → List Entry) (e : ℕ) (reports : List Report) (value : Value) → IsValid net → Family rules net nodes log
    → HaveReports rules net e nodes log reports → IsValue reports value → Closed rules net nodes log (lists value.incomplete)
closed_of_value rules net nodes log e reports value valid family told is = closed_over rules net nodes log e reports (lists value.incomplete) valid family told (value_closed reports value is)
