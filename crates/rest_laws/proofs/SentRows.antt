-- From reports to logs: each item that a log sent is in a row of its report, and the rows are in the order of the
-- entries.
use Rattle.std.proofs.Common.{ℕ, suc, ◌+◌, Bool, true, false, cond, ◌==◌, ◌&&◌, Option, Some, None, List, [], ◌∷◌, ◌++◌, length, ◌≡◌, ◌≢◌, inl, inr, refl, sym, ◌∙◌, ap, subst, arith, filter, append_assoc}
use Rattle.std.proofs.lemmas.List.{append-nil}
use Rattle.topology.specs.declared.names.Trigger.{Trigger}
use Rattle.topology.specs.declared.names.Scope.{Scope}
use Rattle.topology.specs.declared.items.Sent.{Sent}
use Rattle.topology.specs.Lists.{has, Among}
use Rattle.topology.specs.Net.{Net, neighbours, places}
use Rattle.topology.proofs.Tests.{same_is}
use Rattle.path_vector.specs.Rules.{Rules}
use Rattle.path_vector.specs.History.{held, ready}
use Rattle.trigger_log.specs.Entries.{Entry, Update, reads, closes, closing, is_session}
use Rattle.trigger_log.specs.Making.{making}
use Rattle.trigger_log.specs.Pending.{pending, is_pending, pending_row, pending_to, pending_rows}
use Rattle.trigger_log.specs.Sending.{news, outbox, close, close_list, sent_from, updates_sent, close_sent, sent_to, sent_by, next_number}
use Rattle.trigger_log.specs.Fits.{Fits}
use Rattle.trigger_log.proofs.Holding.{stays_closed}
use Rattle.trigger_log.proofs.Closings.{session_is, no_close, outbox_other}
use Rattle.incomplete_closure.specs.Reports.{Row}
use Rattle.incomplete_closure.specs.Blocked.{shares, Precedes}
use Rattle.incomplete_closure.proofs.Listing.{and_both, some_passes, in_front, at_end, in_flat, in_map}
use Rattle.epoch_report.specs.Reporting.{entry_row, entry_rows}
use Rattle.cut_laws.specs.Older.{Older, whole, less}

-- ---- items in rows

-- a row lists this item
abbrev pub SendsRow : List Row → Sent → Type 0
SendsRow rows i = (r : Row) × Among r rows × Among i r.sent

-- an item to w in session s
abbrev pub item : ℕ → ℕ → ℕ → List Trigger → Sent
item w s n triggers = record { to = w; session = s; seq = n; triggers = triggers }

-- an item of an older part is in a row of the whole log
row_later : (rows more : List Row) (i : Sent) → SendsRow rows i → SendsRow (rows ++ more) i
row_later rows more i r = (r.0, in_front r.0 rows more r.1, r.2)

-- the updates stand in the rows, numbered on from n
abbrev pub AllSent : List Row → ℕ → ℕ → ℕ → List Update → Type 0
AllSent rows w s n [] = Unit {0}
AllSent rows w s n (x ∷ xs) = SendsRow rows (item w s n x.triggers) × AllSent rows w s (suc n) xs

-- updates that stand in the rows stand in the rows with more behind them
sent_more : (rows more : List Row) (w s n : ℕ) (xs : List Update) → AllSent rows w s n xs → AllSent (rows ++ more) w s n xs
sent_more rows more w s n [] a = tt
sent_more rows more w s n (x ∷ xs) a = (row_later rows more (item w s n x.triggers) a.0, sent_more rows more w s (suc n) xs a.1)

-- if two lists of updates stand in the rows, the second numbered on from the first, their concatenation does
sent_append : (rows : List Row) (w s n : ℕ) (xs ys : List Update) → AllSent rows w s n xs → AllSent rows w s (n + length xs) ys → AllSent rows w s n (xs ++ ys)
sent_append rows w s n [] ys a b = subst (λ m. AllSent rows w s m ys) (omega arith) b
sent_append rows w s n (x ∷ xs) ys a b = (a.0, sent_append rows w s (suc n) xs ys a.1 (subst (λ m. AllSent rows w s m ys) (omega arith) b))

-- updates stand in the rows, if one row lists all their items
sent_here : (rows : List Row) (r : Row) (w s n : ℕ) (xs : List Update) → Among r rows → ((i : Sent) → Among i (sent_from w s n xs) → Among i r.sent) → AllSent rows w s n xs
sent_here rows r w s n [] a each = tt
sent_here rows r w s n (x ∷ xs) a each = ((r, a, each (item w s n x.triggers) (inl refl)), sent_here rows r w s (suc n) xs a (λ i b. each i (inr b)))

-- a number in a list is one of its members
pub has_among : (ws : List ℕ) (w : ℕ) → has ws w ≡ true → Among w ws
has_among ws w m = let one = some_passes (λ x. x == w) ws m in subst (λ x. Among x ws) (same_is one.0 w one.2) one.1

-- an element that passes is in the filtered list
pub in_filtered : {A : Type 0} (test : A → Bool) (xs : List A) (n : A) → Among n xs → test n ≡ true → Among n (filter test xs)
in_filtered test [] n a e = absurd a
in_filtered test (x ∷ xs) n (inl q) e = rw (subst (λ z. test z ≡ true) (sym q) e) (inl q)
in_filtered test (x ∷ xs) n (inr a) e = elim (test x) as (λ b. Among n (cond b (x ∷ filter test xs) (filter test xs))) [ true ↦ inr (in_filtered test xs n a e) | false ↦ in_filtered test xs n a e ]

-- of two rows that share a prefix, the one that stands before the other precedes it
precedes : (xs : List Row) (next : Row) (later : List Row) (r : Row) (s t : Trigger) → Among r xs → Among s r.triggers → Among t next.triggers → shares r.scope next.scope ≡ true → Precedes (xs ++ next ∷ later) s t
precedes [] next later r s t a x y e = absurd a
precedes (z ∷ xs) next later r s t (inl q) x y e =
    inl (subst (λ (w : Row). Among s w.triggers) (sym q) x, next, at_end next xs (next ∷ later) (inl refl), y, subst (λ (w : Row). shares w.scope next.scope ≡ true) (sym q) e)
precedes (z ∷ xs) next later r s t (inr a) x y e = inr (precedes xs next later r s t a x y e)

-- the rows have one for the entry
abbrev Shows : List Row → Entry → Type 0
Shows rows j = (r : Row) × Among r rows × (r.triggers ≡ j.triggers) × (r.scope ≡ j.read.scope)

module _ (rules : Rules) (net : Net) (u : ℕ) where
  -- the row of the newest entry stands in the rows
  newest_row : (h : List Entry) (k : Entry) → Among (entry_row rules net u h k) (entry_rows rules net u (k ∷ h))
  unfolding entry_rows
  newest_row h k = at_end (entry_row rules net u h k) (entry_rows rules net u h) (entry_row rules net u h k ∷ []) (inl refl)

  -- what an entry lists for a neighbour is in its row
  in_row : (h : List Entry) (k : Entry) (w : ℕ) (i : Sent) → has (neighbours net u) w ≡ true → Among i (sent_to rules net u h k w) → Among i (entry_row rules net u h k).sent
  unfolding sent_by
  in_row h k w i near a = in_flat (sent_to rules net u h k) (neighbours net u) w i (has_among (neighbours net u) w near) a

  -- each update that an entry sends is in the row of the entry
  update_row : (h : List Entry) (k : Entry) (w s : ℕ) (i : Sent) → has (neighbours net u) w ≡ true → held (k.read ∷ reads h) w ≡ Some s
      → Among i (sent_from w s (next_number rules net u h w s) (news rules net u h k w)) → Among i (entry_row rules net u h k).sent
  update_row h k w s i near holds a =
      in_row h k w i near
      (in_front i (updates_sent (making rules net u h k) w (held (k.read ∷ reads h) w)) (close_sent (making rules net u h k) w (ready (reads h) w))
      (subst (λ z. Among i (updates_sent (making rules net u h k) w z)) (sym holds) a))

  -- each update that a log sent is in a row, with its number and its triggers
  pub outbox_rows : (h : List Entry) (w s : ℕ) → has (neighbours net u) w ≡ true → AllSent (entry_rows rules net u h) w s 1 (outbox rules net u h w s)
  unfolding outbox entry_rows
  outbox_rows [] w s near = tt
  outbox_rows (k ∷ h) w s near =
      let row = entry_row rules net u h k in
      let rows = entry_rows rules net u h ++ row ∷ [] in
      let old = outbox rules net u h w s in
      let new = news rules net u h k w in
      let before = sent_more (entry_rows rules net u h) (row ∷ []) w s 1 old (outbox_rows h w s near) in
      (elim (is_session (held (k.read ∷ reads h) w) s) as (λ b. is_session (held (k.read ∷ reads h) w) s ≡ b → AllSent rows w s 1 (cond b (old ++ new) old)) [
        | false ↦ λ e. before
        | true ↦ λ e.
            let here = sent_here rows row w s (next_number rules net u h w s) new (newest_row h k) (λ i a. update_row h k w s i near (session_is (held (k.read ∷ reads h) w) s e) a) in
            sent_append rows w s 1 old new before (subst (λ n. AllSent rows w s n new) (omega arith) here)
      ]) refl

  -- ---- closes

  -- once a session has a close, it gets no more updates
  outbox_stays : (k : Entry) (h : List Entry) (w s : ℕ) (triggers : List Trigger) → Fits (k ∷ h) → close rules net u (k ∷ h) w s ≡ Some triggers → outbox rules net u (k ∷ h) w s ≡ outbox rules net u h w s
  outbox_stays k h w s triggers f c = outbox_other rules net u k h w s (by (closing (k ∷ h) w s) refl)
    where
      by : (d : Option (List Trigger)) → closing (k ∷ h) w s ≡ d → held (k.read ∷ reads h) w ≢ Some s
      by None e = absurd (cc (sym (no_close rules net u (k ∷ h) w s e) ∙ c))
      by (Some ts) e = stays_closed (k ∷ h) w s ts f e

  -- an entry that ends a ready session lists its close, with the number after the updates
  close_row : (k : Entry) (h : List Entry) (w s : ℕ) → has (neighbours net u) w ≡ true → closes k.read.cause w s ≡ true → ready (reads h) w ≡ Some s
      → SendsRow (entry_rows rules net u (k ∷ h)) (item w s (next_number rules net u h w s) (close_list rules net u h k w))
  close_row k h w s near c r =
      let i : Sent = item w s (next_number rules net u h w s) (close_list rules net u h k w) in
      let here : Among i (close_sent (making rules net u h k) w (ready (reads h) w)) = rw (r, c) (inl refl) in
      (entry_row rules net u h k, newest_row h k, in_row h k w i near (at_end i (updates_sent (making rules net u h k) w (held (k.read ∷ reads h) w)) (close_sent (making rules net u h k) w (ready (reads h) w)) here))

  -- the close of a session is in a row, with the number after the updates
  pub close_rows : (h : List Entry) (w s : ℕ) (triggers : List Trigger) → Fits h → has (neighbours net u) w ≡ true → close rules net u h w s ≡ Some triggers
      → SendsRow (entry_rows rules net u h) (item w s (next_number rules net u h w s) triggers)
  unfolding entry_rows
  close_rows [] w s triggers f near c = absurd (cc c)
  close_rows (k ∷ h) w s triggers f near c =
      rw (outbox_stays k h w s triggers f c) (by (closes k.read.cause w s && is_session (ready (reads h) w) s) refl c (close_rows h w s triggers f.1 near))
    where
      by : (b : Bool) → (closes k.read.cause w s && is_session (ready (reads h) w) s) ≡ b → cond b (Some (close_list rules net u h k w)) (close rules net u h w s) ≡ Some triggers
          → (close rules net u h w s ≡ Some triggers → SendsRow (entry_rows rules net u h) (item w s (next_number rules net u h w s) triggers))
          → SendsRow (entry_rows rules net u (k ∷ h)) (item w s (next_number rules net u h w s) triggers)
      by true e is before =
          let both = and_both (closes k.read.cause w s) (is_session (ready (reads h) w) s) e in
          let mine : close_list rules net u h k w ≡ triggers = cc is in
          subst (λ (z : List Trigger). SendsRow (entry_rows rules net u (k ∷ h)) (item w s (next_number rules net u h w s) z)) mine (close_row k h w s near both.0 (session_is (ready (reads h) w) s both.1))
      by false e is before = row_later (entry_rows rules net u h) (entry_row rules net u h k ∷ []) (item w s (next_number rules net u h w s) triggers) (before is)

  -- ---- what is held back

  -- what is held back from w for a prefix of the network has a row, in the held session
  pub held_rows : (h : List Entry) (w s p : ℕ) → has (neighbours net u) w ≡ true → has (places net) p ≡ true → held (reads h) w ≡ Some s → is_pending rules net u h w p ≡ true
      → Among (pending_row (pending rules net u h w) w s p) (pending_rows rules net u h)
  unfolding pending_rows
  held_rows h w s p near known holds some =
      in_flat (λ v. pending_to rules net u h v (held (reads h) v)) (neighbours net u) w (pending_row (pending rules net u h w) w s p) (has_among (neighbours net u) w near)
      (subst (λ o. Among (pending_row (pending rules net u h w) w s p) (pending_to rules net u h w o)) (sym holds)
      (in_map (pending_row (pending rules net u h w) w s) (filter (is_pending rules net u h w) (places net)) p (in_filtered (is_pending rules net u h w) (places net) p (has_among (places net) p known) some)))

  -- ---- the order of rows

  -- the rows of an older part are the first ones of the whole
  older_rows : (log h : List Entry) → Older log h → (later : List Row) × (entry_rows rules net u h ++ later ≡ entry_rows rules net u log)
  unfolding entry_rows
  older_rows log _ whole = ([], append-nil (entry_rows rules net u log))
  older_rows log h (less {k = k} o) =
      let more = older_rows log (k ∷ h) o in
      let row = entry_row rules net u h k in
      (row ∷ more.0, sym (append_assoc (entry_rows rules net u h) (row ∷ []) more.0) ∙ more.1)

  -- the rows of a log have one for each of its entries
  shown : (h : List Entry) (j : Entry) → Among j h → Shows (entry_rows rules net u h) j
  unfolding entry_rows
  shown [] j a = absurd a
  shown (k ∷ h) j (inl e) = (entry_row rules net u h k, newest_row h k, ap (λ (z : Entry). z.triggers) e, ap (λ (z : Entry). z.read.scope) e)
  shown (k ∷ h) j (inr a) =
      let before = shown h j a in
      (before.0, in_front before.0 (entry_rows rules net u h) (entry_row rules net u h k ∷ []) before.1, before.2, before.3)

  -- the row of an older entry stands before that of a newer one
  pub rows_stand : (log h : List Entry) (j k : Entry) (s t : Trigger) → Older log (k ∷ h) → Among j h → shares j.read.scope k.read.scope ≡ true
      → Among s j.triggers → Among t k.triggers → Precedes (entry_rows rules net u log) s t
  unfolding entry_rows
  rows_stand log h j k s t o a near x y =
      let more = older_rows log (k ∷ h) o in
      let r = shown h j a in
      let mine = entry_row rules net u h k in
      subst (λ (z : List Row). Precedes z s t) (sym (append_assoc (entry_rows rules net u h) (mine ∷ []) more.0) ∙ more.1)
      (precedes (entry_rows rules net u h) mine more.0 r.0 s t r.1 (subst (λ (z : List Trigger). Among s z) (sym r.2) x) y (subst (λ (z : Scope). shares z k.read.scope ≡ true) (sym r.3) near))

  -- the row of an entry of an older part is a row of the whole log
  pub row_stands : (log h : List Entry) (k : Entry) → Older log (k ∷ h) → Among (entry_row rules net u h k) (entry_rows rules net u log)
  row_stands log h k o =
      let more = older_rows log (k ∷ h) o in
      subst (λ (z : List Row). Among (entry_row rules net u h k) z) more.1 (in_front (entry_row rules net u h k) (entry_rows rules net u (k ∷ h)) more.0 (newest_row h k))
