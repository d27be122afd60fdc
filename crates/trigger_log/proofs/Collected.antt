-- How an entry changes what is held back.
use Rattle.std.proofs.Common.{ℕ, zero, suc, ◌+◌, ◌<◌, ◌≤◌, Bool, true, false, cond, ◌==◌, ◌&&◌, ◌||◌, Option, Some, None, List, [], ◌∷◌, ◌++◌, ◌≡◌, ◌⊎◌, inl, inr, refl, sym, ◌∙◌, ap, ap₂, subst, arith, length, filter, map, take, slice_get, slice_index_or}
use Rattle.std.specs.Prelude.{if◌then◌else◌, is_some}
use Rattle.std.specs.List.{list_any, range_with_len}
use Rattle.std.proofs.lemmas.List.{append-nil, take_all}
use Rattle.topology.specs.declared.names.Trigger.{Trigger}
use Rattle.topology.specs.declared.items.Pending.{Pending}
use Rattle.topology.specs.Lists.{has}
use Rattle.topology.specs.Triggers.{Ascend, all_of, union}
use Rattle.topology.specs.Net.{Net, IsValid, holds_back, neighbours, places}
use Rattle.topology.proofs.Ascending.{Rises}
use Rattle.topology.proofs.Neighbours.{rises-neighbours}
use Rattle.topology.proofs.Tests.{or_false, or_second, same_is, same_refl, same_sym}
use Rattle.path_vector.specs.declared.causes.Cause.{Cause}
use Rattle.path_vector.specs.declared.causes.Cause.TheVariants.{Originate, Withdraw, Recv, Down, Up, Ready, Prefer, Flush}
use Rattle.path_vector.specs.Rules.{Rules}
use Rattle.path_vector.specs.History.{Change, History, held, held_by, opened, ready}
use Rattle.path_vector.specs.Offers.{offer, changed}
use Rattle.trigger_log.specs.declared.held_back.HeldBack.{HeldBack}
use Rattle.trigger_log.specs.Entries.{Entry, Update, flushes, reads}
use Rattle.trigger_log.specs.Making.{Making, making}
use Rattle.trigger_log.specs.Pending.{all_pending, empties, gathered, holds_some, is_pending, is_some_trigger, pending, pending_row, pending_rows, rows_to}
use Rattle.trigger_log.specs.Sending.{close_list, held_update, held_updates, update_of}
use Rattle.trigger_log.specs.Fits.{CauseFits, Fits, ListsFor}
use Rattle.trigger_log.specs.Putting.{emptied, is_to, put_all, put_row, row_of, rows_over, rows_without, triggers_to}
use Rattle.trigger_log.specs.HoldingBack.{ArePlacedRows, HoldsBack, HoldsPart, held_part, row_update, row_updates}
use Rattle.trigger_log.specs.Offered.{differs, updates_over}
use Rattle.trigger_log.specs.Quiet.{turns_session}
use Rattle.trigger_log.specs.Marked.{ends_with}
use Rattle.trigger_log.proofs.Gathering.{changed_lists, empties_is, flush_is, flush_offer, ready_held, unready_gathered}
use Rattle.trigger_log.proofs.HeldRows.{pending_next}
use Rattle.trigger_log.proofs.Holding.{fits_down, fits_up}
use Rattle.trigger_log.proofs.Putting.{all_rows, any_row, has_more, not_yet, over_none, over_same, put_passing, rows_none, rows_of, there, without_other, without_own, without_parts}
use Rattle.trigger_log.proofs.Updating.{over_other}
use Rattle.trigger_log.proofs.Speaking.{ended_by, flush_moves, moved_to}

module _ (rules : Rules) (net : Net) (u : ℕ) where
  -- ---- nothing is held back

  not_pending : (h : List Entry) (w p : ℕ) → holds_back net u w ≡ false → pending rules net u h w p ≡ []
  not_pending h w p e = ap (λ b. if b then gathered rules net u h w p else []) e

  first_pending : (w p : ℕ) → pending rules net u [] w p ≡ []
  unfolding gathered
  first_pending w p = elim (holds_back net u w) as (λ b. ◌≡◌ {A = List Trigger} (if b then [] else []) []) [ true ↦ refl | false ↦ refl ]

  unready_pending : (h : List Entry) (w p : ℕ) → Fits h → ready (reads h) w ≡ None → pending rules net u h w p ≡ []
  unready_pending h w p f e =
      elim (holds_back net u w) as (λ b. (if b then gathered rules net u h w p else []) ≡ []) [ true ↦ unready_gathered rules net u h w p f e | false ↦ refl ]

  unheld_pending : (h : List Entry) (w p : ℕ) → Fits h → held (reads h) w ≡ None → pending rules net u h w p ≡ []
  unheld_pending h w p f e = unready_pending h w p f (rw e refl)

  none_any : {A : Type 0} (t : A → Bool) (xs : List A) → ((x : A) → t x ≡ false) → list_any t xs ≡ false
  none_any t [] none = refl
  none_any t (x ∷ xs) none = rw (none x) (none_any t xs none)

  pub unheld_none : (h : List Entry) (w : ℕ) → Fits h → held (reads h) w ≡ None → holds_some rules net u h w ≡ false
  unheld_none h w f e = none_any (is_pending rules net u h w) (places net) (λ p. ap is_some_trigger (unheld_pending h w p f e))

  -- if anything is held back from a neighbour, a session is held with it
  pub held_where : (h : List Entry) (w : ℕ) → Fits h → holds_some rules net u h w ≡ true → is_some (held (reads h) w) ≡ true
  held_where h w f some = by (held (reads h) w) refl
    where
      by : (o : Option ℕ) → held (reads h) w ≡ o → is_some o ≡ true
      by None e = absurd (cc (some, unheld_none h w f e))
      by (Some s) e = refl

  -- a log without entries holds nothing back
  pub none_at_first : pending_rows rules net u [] ≡ []
  unfolding pending_rows
  none_at_first = over_none net (pending rules net u []) (held (reads [])) (neighbours net u) (λ w p e. first_pending w p)

  free_of : (ws : List ℕ) → filter (holds_back net u) ws ≡ [] → (w : ℕ) → has ws w ≡ true → holds_back net u w ≡ false
  free_of [] none w e = absurd (cc e)
  free_of (v ∷ ws) none w e =
      (elim (holds_back net u v) as (λ b. holds_back net u v ≡ b → cond b (v ∷ filter (holds_back net u) ws) (filter (holds_back net u) ws) ≡ [] → holds_back net u w ≡ false) [
        | true ↦ λ q r. absurd (cc r)
        | false ↦ λ q r.
            (elim (v == w) as (λ b. (v == w) ≡ b → (b || has ws w) ≡ true → holds_back net u w ≡ false) [
              | true ↦ λ same t. subst (λ x. holds_back net u x ≡ false) (same_is v w same) q
              | false ↦ λ same t. free_of ws r w t
            ]) refl e
      ]) refl none

  none_of : (h : List Entry) → filter (holds_back net u) (neighbours net u) ≡ [] → pending_rows rules net u h ≡ []
  unfolding pending_rows
  none_of h free =
      over_none net (pending rules net u h) (held (reads h)) (neighbours net u) (λ w p e. not_pending h w p (free_of (neighbours net u) free w e))

  -- a node that holds back from nobody has no rows
  pub holds_none : (k : Entry) (h : List Entry) (back : HeldBack) → back.from.items ≡ [] → HoldsBack rules net u h back → HoldsBack rules net u (k ∷ h) back
  holds_none k h back free was =
      let none = sym was.from ∙ free in
      record { from = was.from; rows = was.rows ∙ (none_of h none ∙ sym (none_of (k ∷ h) none)) }

-- ---- the entry empties what is held back from a neighbour

module _ (rules : Rules) (net : Net) (u : ℕ) (k : Entry) (h : List Entry) (fits : Fits (k ∷ h)) where
  abbrev m : Making
  m = making rules net u h k

  -- the rows that are left
  abbrev left : Cause → ℕ → ℕ → List Trigger
  left cause w p = if empties cause w then [] else pending rules net u h w p

  kept_rows : (cause : Cause) (w : ℕ) → emptied cause ≡ None → CauseFits h k.read.scope cause
      → rows_to net (pending rules net u h w) w (held (reads h) w) ≡ rows_to net (left cause w) w (held_by cause w (held (reads h) w))
  kept_rows Originate w e f = refl
  kept_rows Withdraw w e f = refl
  kept_rows (Recv v t seq path) w e f = refl
  kept_rows (Ready v t) w e f = refl
  kept_rows (Prefer v x) w e f = refl
  kept_rows (Down v t) w e f = absurd (cc e)
  kept_rows (Flush v) w e f = absurd (cc e)
  kept_rows (Up v t) w e f =
      (elim (v == w) as (λ b. (v == w) ≡ b → rows_to net (pending rules net u h w) w (held (reads h) w) ≡ rows_to net (pending rules net u h w) w (cond b (Some t) (held (reads h) w))) [
        | true ↦ λ q.
            let none : held (reads h) w ≡ None = subst (λ x. held (reads h) x ≡ None) (same_is v w q) (fits_up h k.read.scope v t f).0 in
            ap (rows_to net (pending rules net u h w) w) none ∙ sym (rows_none net (pending rules net u h w) w (Some t) (λ p. unheld_pending rules net u h w p fits.1 none))
        | false ↦ λ q. refl
      ]) refl

  gone_rows : (cause : Cause) (v w : ℕ) → emptied cause ≡ Some v
      → rows_without v (rows_to net (pending rules net u h w) w (held (reads h) w)) ≡ rows_to net (left cause w) w (held_by cause w (held (reads h) w))
  gone_rows Originate v w e = absurd (cc e)
  gone_rows Withdraw v w e = absurd (cc e)
  gone_rows (Recv x t seq path) v w e = absurd (cc e)
  gone_rows (Ready x t) v w e = absurd (cc e)
  gone_rows (Prefer x n) v w e = absurd (cc e)
  gone_rows (Up x t) v w e = absurd (cc e)
  gone_rows (Down x t) v w e =
      let same : x ≡ v = cc e in
      subst (λ y. rows_without y (rows_to net (pending rules net u h w) w (held (reads h) w)) ≡ rows_to net (left (Down x t) w) w (held_by (Down x t) w (held (reads h) w))) same
      ((elim (x == w) as (λ b. (x == w) ≡ b → rows_without x (rows_to net (pending rules net u h w) w (held (reads h) w)) ≡ rows_to net (λ p. if b then [] else pending rules net u h w p) w (cond b None (held (reads h) w))) [
        | true ↦ λ q. without_own net (pending rules net u h w) w (held (reads h) w) x (turn x w true q)
        | false ↦ λ q. without_other net (pending rules net u h w) w (held (reads h) w) x (turn x w false q)
      ]) refl)
    where
      turn : (a b : ℕ) (c : Bool) → (a == b) ≡ c → (b == a) ≡ c
      turn a b c e = same_sym b a ∙ e
  gone_rows (Flush x) v w e =
      let same : x ≡ v = cc e in
      subst (λ y. rows_without y (rows_to net (pending rules net u h w) w (held (reads h) w)) ≡ rows_to net (left (Flush x) w) w (held_by (Flush x) w (held (reads h) w))) same
      ((elim (x == w) as (λ b. (x == w) ≡ b → rows_without x (rows_to net (pending rules net u h w) w (held (reads h) w)) ≡ rows_to net (λ p. if b then [] else pending rules net u h w p) w (held (reads h) w)) [
        | true ↦ λ q. without_own net (pending rules net u h w) w (held (reads h) w) x (turn x w true q) ∙ sym (rows_none net (λ p. []) w (held (reads h) w) (λ p. refl))
        | false ↦ λ q. without_other net (pending rules net u h w) w (held (reads h) w) x (turn x w false q)
      ]) refl)
    where
      turn : (a b : ℕ) (c : Bool) → (a == b) ≡ c → (b == a) ≡ c
      turn a b c e = same_sym b a ∙ e

  over_kept : (ws : List ℕ) → emptied k.read.cause ≡ None → rows_over net (pending rules net u h) (held (reads h)) ws ≡ rows_over net (held_part m 0) (held (k.read ∷ reads h)) ws
  over_kept [] e = refl
  over_kept (w ∷ ws) e =
      ap (λ l. l ++ rows_over net (pending rules net u h) (held (reads h)) ws) (kept_rows k.read.cause w e fits.0)
      ∙ ap (λ l. rows_to net (held_part m 0 w) w (held (k.read ∷ reads h) w) ++ l) (over_kept ws e)

  over_gone : (v : ℕ) (ws : List ℕ) → emptied k.read.cause ≡ Some v
      → rows_without v (rows_over net (pending rules net u h) (held (reads h)) ws) ≡ rows_over net (held_part m 0) (held (k.read ∷ reads h)) ws
  over_gone v [] e = refl
  over_gone v (w ∷ ws) e =
      without_parts v (rows_to net (pending rules net u h w) w (held (reads h) w)) (rows_over net (pending rules net u h) (held (reads h)) ws)
      ∙ (ap (λ l. l ++ rows_without v (rows_over net (pending rules net u h) (held (reads h)) ws)) (gone_rows k.read.cause v w e)
      ∙ ap (λ l. rows_to net (held_part m 0 w) w (held (k.read ∷ reads h) w) ++ l) (over_gone v ws e))

  -- the entry empties nothing
  pub part_kept : (back : HeldBack) → emptied k.read.cause ≡ None → HoldsBack rules net u h back → HoldsPart m 0 back
  unfolding pending_rows
  part_kept back e was = record { from = was.from; rows = was.rows ∙ over_kept (neighbours net u) e }

  -- what is held back from v is emptied
  pub part_gone : (old new : HeldBack) (v : ℕ) → emptied k.read.cause ≡ Some v → new.from.items ≡ old.from.items → new.rows ≡ rows_without v old.rows
      → HoldsBack rules net u h old → HoldsPart m 0 new
  unfolding pending_rows
  part_gone old new v e from rows was =
      record { from = from ∙ was.from; rows = rows ∙ (ap (rows_without v) was.rows ∙ over_gone v (neighbours net u) e) }

  -- ---- one more neighbour

  abbrev next : ℕ → ℕ → List Trigger
  next w p = pending rules net u (k ∷ h) w p

  either : (b : Bool) → ◌≡◌ {A = List Trigger} (if b then [] else []) []
  either true = refl
  either false = refl

  -- a neighbour from which nothing is held back
  unheld : (w p : ℕ) → holds_back net u w ≡ false → next w p ≡ left k.read.cause w p
  unheld w p e =
      not_pending rules net u (k ∷ h) w p e
      ∙ sym (ap (λ ts. if empties k.read.cause w then [] else ts) (not_pending rules net u h w p e) ∙ either (empties k.read.cause w))

  -- at a neighbour for which the entry changes no offer
  unmoved : (w p : ℕ) → changed rules net u (k.read ∷ reads h) w p ≡ false → next w p ≡ left k.read.cause w p
  unmoved w p same = by (holds_back net u w) refl
    where
      by : (b : Bool) → holds_back net u w ≡ b → next w p ≡ left k.read.cause w p
      by true e = pending_next rules net u k h w p e ∙ ap (λ c. if empties k.read.cause w then [] else if c then union k.triggers (pending rules net u h w p) else pending rules net u h w p) same
      by false e = unheld w p e

  abbrev part_in : Bool → ℕ → ℕ → List Trigger
  part_in b v p = if b then next v p else left k.read.cause v p

  same_part : (n w v p : ℕ) → slice_get (neighbours net u) n ≡ Some w → next w p ≡ left k.read.cause w p → held_part m n v p ≡ held_part m (suc n) v p
  same_part n w v p at same = by (has (take n (neighbours net u)) v) (w == v) refl ∙ sym (ap (λ b. part_in b v p) (has_more (neighbours net u) n w v at))
    where
      by : (b c : Bool) → (w == v) ≡ c → part_in b v p ≡ part_in (b || c) v p
      by true c e = refl
      by false true e = sym (subst (λ x. next x p ≡ left k.read.cause x p) (same_is w v e) same)
      by false false e = refl

  pub part_same : (n w : ℕ) (back : HeldBack) → slice_get (neighbours net u) n ≡ Some w → ((p : ℕ) → has (places net) p ≡ true → next w p ≡ left k.read.cause w p) → HoldsPart m n back → HoldsPart m (suc n) back
  part_same n w back at same was =
      record { from = was.from; rows = was.rows ∙ over_same net (held_part m n) (held_part m (suc n)) (held (k.read ∷ reads h)) (neighbours net u) (λ v p there known. same_part n w v p at (same p known)) }

  -- a neighbour for which the entry changes an offer
  abbrev moved_at : ℕ → ℕ → Bool
  moved_at w p = changed rules net u (k.read ∷ reads h) w p

  more_same : (n w v p : ℕ) → Rises (neighbours net u) → slice_get (neighbours net u) n ≡ Some w → holds_back net u w ≡ true → empties k.read.cause w ≡ false → has (places net) p ≡ true
      → (if v == w && (has (places net) p && moved_at w p) then union k.triggers (held_part m n v p) else held_part m n v p) ≡ held_part m (suc n) v p
  more_same n w v p rises at holds stays known = by (v == w) refl
    where
      before : held_part m n w p ≡ pending rules net u h w p
      before = ap (λ b. part_in b w p) (not_yet (neighbours net u) n w rises at) ∙ ap (λ b. if b then [] else pending rules net u h w p) stays

      last_one : has (take (suc n) (neighbours net u)) w ≡ true
      last_one = has_more (neighbours net u) n w w at ∙ or_second (has (take n (neighbours net u)) w) (w == w) (same_refl w)

      after : held_part m (suc n) w p ≡ (if moved_at w p then union k.triggers (pending rules net u h w p) else pending rules net u h w p)
      after =
          ap (λ b. part_in b w p) last_one
          ∙ (pending_next rules net u k h w p holds
          ∙ ap (λ b. if b then [] else if moved_at w p then union k.triggers (pending rules net u h w p) else pending rules net u h w p) stays)

      own : (if has (places net) p && moved_at w p then union k.triggers (held_part m n w p) else held_part m n w p) ≡ held_part m (suc n) w p
      own =
          ap (λ b. if b && moved_at w p then union k.triggers (held_part m n w p) else held_part m n w p) known
          ∙ (ap (λ ts. if moved_at w p then union k.triggers ts else ts) before ∙ sym after)

      by : (b : Bool) → (v == w) ≡ b → (if b && (has (places net) p && moved_at w p) then union k.triggers (held_part m n v p) else held_part m n v p) ≡ held_part m (suc n) v p
      by true e = subst (λ x. (if has (places net) p && moved_at w p then union k.triggers (held_part m n x p) else held_part m n x p) ≡ held_part m (suc n) x p) (sym (same_is v w e)) own
      by false e =
          sym (ap (λ b. part_in b v p) (has_more (neighbours net u) n w v at ∙ (ap (λ b. has (take n (neighbours net u)) v || b) (same_sym w v ∙ e) ∙ or_false (has (take n (neighbours net u)) v))))

  pub part_put : (n w s : ℕ) (old new : HeldBack) → Rises (neighbours net u) → slice_get (neighbours net u) n ≡ Some w → holds_back net u w ≡ true → empties k.read.cause w ≡ false → held (k.read ∷ reads h) w ≡ Some s
      → ListsFor k.read.scope k.triggers → Ascend k.triggers → new.from.items ≡ old.from.items → new.rows ≡ put_all w s (moved_to m w) old.rows → HoldsPart m n old → HoldsPart m (suc n) new
  part_put n w s old new rises at holds stays session lists rising from rows was = record {
    from = from ∙ was.from;
    rows = rows ∙ (ap (put_all w s (moved_to m w)) was.rows
        ∙ (put_passing net (held (k.read ∷ reads h)) (neighbours net u) rises w s (there (neighbours net u) n w at) session k.triggers rising (λ p. offer rules net u (k.read ∷ reads h) p w) (moved_at w)
        (λ p e. changed_lists rules net u k h w p fits lists e) (held_part m n)
        ∙ over_same net (λ v p. if v == w && (has (places net) p && moved_at w p) then union k.triggers (held_part m n v p) else held_part m n v p) (held_part m (suc n)) (held (k.read ∷ reads h)) (neighbours net u)
        (λ v p near known. more_same n w v p rises at holds stays known)));
  }

  -- ---- the step at a neighbour

  unready_moves : (w p : ℕ) → ready (k.read ∷ reads h) w ≡ None → changed rules net u (k.read ∷ reads h) w p ≡ false
  unfolding changed
  unready_moves w p e = rw e refl

  -- the node holds nothing back from w
  pub step_free : (n w : ℕ) (back : HeldBack) → slice_get (neighbours net u) n ≡ Some w → holds_back net u w ≡ false → HoldsPart m n back → HoldsPart m (suc n) back
  step_free n w back at free was = part_same n w back at (λ p known. unheld w p free) was

  -- w is not ready
  pub step_unready : (n w : ℕ) (back : HeldBack) → slice_get (neighbours net u) n ≡ Some w → ready (k.read ∷ reads h) w ≡ None → HoldsPart m n back → HoldsPart m (suc n) back
  step_unready n w back at none was = part_same n w back at (λ p known. unmoved w p (unready_moves w p none)) was

  -- an update of no prefix passes
  none_passes : (f : ℕ → Update) (t : ℕ → Bool) (ps : List ℕ) (p : ℕ) → map f (filter t ps) ≡ [] → has ps p ≡ true → t p ≡ false
  none_passes f t [] p none e = absurd (cc e)
  none_passes f t (q ∷ ps) p none e =
      (elim (t q) as (λ b. t q ≡ b → map f (cond b (q ∷ filter t ps) (filter t ps)) ≡ [] → t p ≡ false) [
        | true ↦ λ r z. absurd (cc z)
        | false ↦ λ r z.
            (elim (q == p) as (λ b. (q == p) ≡ b → (b || has ps p) ≡ true → t p ≡ false) [
              | true ↦ λ same k. subst (λ x. t x ≡ false) (same_is q p same) r
              | false ↦ λ same k. none_passes f t ps p z k
            ]) refl e
      ]) refl none

  -- it is ready, and the node holds back from it
  pub step_ready : (n w s : ℕ) (old new : HeldBack) → Rises (neighbours net u) → slice_get (neighbours net u) n ≡ Some w → holds_back net u w ≡ true → ready (k.read ∷ reads h) w ≡ Some s
      → ListsFor k.read.scope k.triggers → Ascend k.triggers → new.from.items ≡ old.from.items → new.rows ≡ put_all w s (moved_to m w) old.rows → HoldsPart m n old → HoldsPart m (suc n) new
  step_ready n w s old new rises at holds now lists rising from rows was = by (empties k.read.cause w) refl
    where
      session : held (k.read ∷ reads h) w ≡ Some s
      session = ready_held (held (k.read ∷ reads h) w) (opened (k.read ∷ reads h) w) s now

      by : (b : Bool) → empties k.read.cause w ≡ b → HoldsPart m (suc n) new
      by false e = part_put n w s old new rises at holds e session lists rising from rows was
      by true e = flushed (empties_is k h w e)
        where
          flushed : (flushes k.read.cause w ≡ true) ⊎ (held (k.read ∷ reads h) w ≡ None) → HoldsPart m (suc n) new
          flushed (inr none) = absurd (cc (none, session))
          flushed (inl flush) =
              let none : moved_to m w ≡ [] = flush_moves rules net u h k w w fits (ap (λ (r : Change). r.cause) (flush_is k h w fits flush)) in
              part_same n w new at (λ p known. unmoved w p (none_passes (update_of m w) (changed rules net u (k.read ∷ reads h) w) (places net) p none known))
              (record { from = from ∙ was.from; rows = rows ∙ (ap (λ xs. put_all w s xs old.rows) none ∙ was.rows) })

  -- ---- all neighbours

  among_all : (ws : List ℕ) (n : ℕ) → length ws ≤ n → take n ws ≡ ws
  among_all ws n whole = take_all n ws whole

  pub part_all : (n : ℕ) (back : HeldBack) → length (neighbours net u) ≤ n → HoldsPart m n back → HoldsBack rules net u (k ∷ h) back
  unfolding pending_rows
  part_all n back whole was = record {
    from = was.from;
    rows = was.rows ∙ over_same net (held_part m n) (pending rules net u (k ∷ h)) (held (k.read ∷ reads h)) (neighbours net u)
        (λ w p near known. ap (λ b. part_in b w p) (ap (λ l. has l w) (take_all n (neighbours net u) whole) ∙ near));
  }

  -- ---- an entry that turns no session and changes no offer

  turns_emptied : (cause : Cause) → turns_session cause ≡ false → emptied cause ≡ None
  turns_emptied Originate e = refl
  turns_emptied Withdraw e = refl
  turns_emptied (Recv v s seq path) e = refl
  turns_emptied (Down v s) e = absurd (cc e)
  turns_emptied (Up v s) e = refl
  turns_emptied (Ready v s) e = absurd (cc e)
  turns_emptied (Prefer v x) e = refl
  turns_emptied (Flush v) e = absurd (cc e)

  pub holds_still : (back : HeldBack) → turns_session k.read.cause ≡ false → ((w s : ℕ) → ready (k.read ∷ reads h) w ≡ Some s → moved_to m w ≡ []) → HoldsBack rules net u h back → HoldsBack rules net u (k ∷ h) back
  unfolding pending_rows
  holds_still back turns none was =
      let start = part_kept back (turns_emptied k.read.cause turns) was in
      record {
        from = was.from;
        rows = start.rows ∙ over_same net (held_part m 0) (pending rules net u (k ∷ h)) (held (k.read ∷ reads h)) (neighbours net u) (λ w p near known. sym (unmoved w p (still w p known (ready (k.read ∷ reads h) w) refl)));
      }
    where
      still : (w p : ℕ) → has (places net) p ≡ true → (o : Option ℕ) → ready (k.read ∷ reads h) w ≡ o → changed rules net u (k.read ∷ reads h) w p ≡ false
      still w p known None e = unready_moves w p e
      still w p known (Some s) e = none_passes (update_of m w) (changed rules net u (k.read ∷ reads h) w) (places net) p (none w s e) known

-- the rows that are left
pub part_left : (rules : Rules) (net : Net) (u : ℕ) (h : List Entry) (k : Entry) (fits : Fits (k ∷ h)) (old new : HeldBack) (cause : Cause) → k.read.cause ≡ cause → new.from.items ≡ old.from.items
    → (emptied cause ≡ None → new.rows ≡ old.rows) → ((v : ℕ) → emptied cause ≡ Some v → new.rows ≡ rows_without v old.rows)
    → HoldsBack rules net u h old → HoldsPart (making rules net u h k) 0 new
part_left rules net u h k fits old new cause is from none some was = by (emptied k.read.cause) refl
  where
    by : (o : Option ℕ) → emptied k.read.cause ≡ o → HoldsPart (making rules net u h k) 0 new
    by None e = part_kept rules net u k h fits new e (record { from = from ∙ was.from; rows = none (ap emptied (sym is) ∙ e) ∙ was.rows })
    by (Some v) e = part_gone rules net u k h fits old new v e from (some v (ap emptied (sym is) ∙ e)) was

-- ---- what the rows of a neighbour say

module _ (rules : Rules) (net : Net) (u : ℕ) (h : List Entry) (w : ℕ) (back : HeldBack) (was : HoldsBack rules net u h back) (valid : IsValid net) (near : has (neighbours net u) w ≡ true) where
  own : filter (is_to w) (pending_rows rules net u h) ≡ rows_to net (pending rules net u h w) w (held (reads h) w)
  unfolding pending_rows
  own = rows_of net (pending rules net u h) (held (reads h)) w (neighbours net u) (rises-neighbours net u valid) near

  -- the triggers that a close lists
  pub together : (k : Entry) (s : ℕ) → held (reads h) w ≡ Some s → union k.triggers (triggers_to w back.rows) ≡ close_list rules net u h k w
  unfolding all_pending
  together k s session =
      ap (union k.triggers)
      (ap (triggers_to w) was.rows
      ∙ (ap (λ l. all_of (map (λ (row : Pending). row.triggers) l)) (own ∙ ap (rows_to net (pending rules net u h w) w) session)
      ∙ all_rows net (pending rules net u h w) w s))

  -- the updates that a flush sends
  pub sent_rows : (k : Entry) (s : ℕ) → Fits (k ∷ h) → flushes k.read.cause w ≡ true → held (reads h) w ≡ Some s
      → row_updates rules net u (k.read ∷ reads h) back.rows w ≡ held_updates (making rules net u h k) w
  sent_rows k s fits flush session =
      ap (λ l. row_updates rules net u (k.read ∷ reads h) l w) was.rows
      ∙ (ap (map (λ (row : Pending). row_update rules net u (k.read ∷ reads h) row w)) (own ∙ ap (rows_to net (pending rules net u h w) w) session)
      ∙ over (filter (λ p. is_some_trigger (pending rules net u h w p)) (places net)))
    where
      over : (ps : List ℕ) → map (λ (row : Pending). row_update rules net u (k.read ∷ reads h) row w) (map (pending_row (pending rules net u h w) w s) ps) ≡ map (held_update (making rules net u h k) w) ps
      over [] = refl
      over (p ∷ ps) = ap₂ (λ (a : Update) l. a ∷ l) (ap (λ path. record { prefix = p; triggers = pending rules net u h w p; path = path }) (flush_offer rules net u k h w p w fits flush)) (over ps)

  -- a Down ends the session that is held
  pub closed_together : (k : Entry) → Fits (k ∷ h) → ends_with k.read.cause w ≡ true → union k.triggers (triggers_to w back.rows) ≡ close_list rules net u h k w
  closed_together k fits ends =
      let by = ended_by k.read.cause w ends in
      together k by.0 (fits_down h k.read.scope w by.0 (subst (CauseFits h k.read.scope) by.1 fits.0))

  -- whether anything is held back
  pub any_held : Fits h → list_any (is_to w) back.rows ≡ holds_some rules net u h w
  unfolding pending_rows
  any_held fits = ap (list_any (is_to w)) was.rows ∙ by (held (reads h) w) refl
    where
      filtered_none : (xs : List Pending) → filter (is_to w) xs ≡ [] → list_any (is_to w) xs ≡ false
      filtered_none [] e = refl
      filtered_none (x ∷ xs) e =
          (elim (is_to w x) as (λ b. cond b (x ∷ filter (is_to w) xs) (filter (is_to w) xs) ≡ [] → (b || list_any (is_to w) xs) ≡ false) [
            | true ↦ λ z. absurd (cc z)
            | false ↦ λ z. filtered_none xs z
          ]) e

      by : (o : Option ℕ) → held (reads h) w ≡ o → list_any (is_to w) (pending_rows rules net u h) ≡ holds_some rules net u h w
      by None e =
          filtered_none (pending_rows rules net u h) (own ∙ ap (rows_to net (pending rules net u h w) w) e)
          ∙ sym (unheld_none rules net u h w fits e)
      by (Some s) e = any_row net (pending rules net u h) (held (reads h)) w s (neighbours net u) (rises-neighbours net u valid) near e

-- ---- the neighbours from which the node holds back

has_passing : (t : ℕ → Bool) (ws : List ℕ) (w : ℕ) → has ws w ≡ true → has (filter t ws) w ≡ t w
has_passing t [] w e = absurd (cc e)
has_passing t (v ∷ ws) w e =
    (elim (t v) as (λ b. t v ≡ b → has (cond b (v ∷ filter t ws) (filter t ws)) w ≡ t w) [
      | true ↦ λ q.
          (elim (v == w) as (λ c. (v == w) ≡ c → (c || has ws w) ≡ true → (c || has (filter t ws) w) ≡ t w) [
            | true ↦ λ r z. sym (ap t (sym (same_is v w r)) ∙ q)
            | false ↦ λ r z. has_passing t ws w z
          ]) refl e
      | false ↦ λ q.
          (elim (v == w) as (λ c. (v == w) ≡ c → (c || has ws w) ≡ true → has (filter t ws) w ≡ t w) [
            | true ↦ λ r z. subst (λ x. has (filter t ws) x ≡ t x) (same_is v w r) (gone t v ws q ∙ sym q)
            | false ↦ λ r z. has_passing t ws w z
          ]) refl e
    ]) refl
  where
    gone : (t : ℕ → Bool) (v : ℕ) (ws : List ℕ) → t v ≡ false → has (filter t ws) v ≡ false
    gone t v [] q = refl
    gone t v (x ∷ ws) q =
        (elim (t x) as (λ b. t x ≡ b → has (cond b (x ∷ filter t ws) (filter t ws)) v ≡ false) [
          | true ↦ λ r.
              (elim (x == v) as (λ c. (x == v) ≡ c → (c || has (filter t ws) v) ≡ false) [
                | true ↦ λ z. absurd (cc (q, r, ap t (same_is x v z)))
                | false ↦ λ z. gone t v ws q
              ]) refl
          | false ↦ λ r. gone t v ws q
        ]) refl

pub holds_is : (rules : Rules) (net : Net) (u : ℕ) (h : List Entry) (w : ℕ) (back : HeldBack) → HoldsBack rules net u h back → has (neighbours net u) w ≡ true → (b : Bool) → b ≡ has back.from.items w → holds_back net u w ≡ b
holds_is rules net u h w back was near b is = sym (is ∙ (ap (λ l. has l w) was.from ∙ has_passing (holds_back net u) (neighbours net u) w near))

pub holds_in : (m : Making) (n w : ℕ) (back : HeldBack) → HoldsPart m n back → has (neighbours m.net m.node) w ≡ true → (b : Bool) → b ≡ has back.from.items w → holds_back m.net m.node w ≡ b
holds_in m n w back was near b is = sym (is ∙ (ap (λ l. has l w) was.from ∙ has_passing (holds_back m.net m.node) (neighbours m.net m.node) w near))

-- ---- the prefixes of the rows are in the network

module _ (net : Net) where
  row_in : (f : ℕ → List Trigger) (w s start n : ℕ) → start + n ≤ length net.prefixes → (rest : List Pending) → ArePlacedRows net rest
      → ArePlacedRows net (map (pending_row f w s) (filter (λ p. is_some_trigger (f p)) (range_with_len start n)) ++ rest)
  row_in f w s start zero within rest all = all
  row_in f w s start (suc n) within rest all =
      elim (is_some_trigger (f start)) as (λ b. ArePlacedRows net (map (pending_row f w s) (cond b (start ∷ filter (λ p. is_some_trigger (f p)) (range_with_len (start + 1) n)) (filter (λ p. is_some_trigger (f p)) (range_with_len (start + 1) n))) ++ rest)) [
        | true ↦ (let less : start < length net.prefixes = omega arith in less, row_in f w s (start + 1) n (omega arith) rest all)
        | false ↦ row_in f w s (start + 1) n (omega arith) rest all
      ]

  rows_in : (f : ℕ → ℕ → List Trigger) (a : ℕ → Option ℕ) (ws : List ℕ) → ArePlacedRows net (rows_over net f a ws)
  unfolding places
  rows_in f a [] = tt
  rows_in f a (w ∷ ws) = by (a w) (rows_in f a ws)
    where
      by : (o : Option ℕ) → ArePlacedRows net (rows_over net f a ws) → ArePlacedRows net (rows_to net (f w) w o ++ rows_over net f a ws)
      by None rest = rest
      by (Some s) rest = row_in (f w) w s 0 (length net.prefixes) (omega arith) (rows_over net f a ws) rest

pub held_placed : (rules : Rules) (net : Net) (u : ℕ) (h : List Entry) (back : HeldBack) → HoldsBack rules net u h back → ArePlacedRows net back.rows
unfolding pending_rows
held_placed rules net u h back was = subst (ArePlacedRows net) (sym was.rows) (rows_in net (pending rules net u h) (held (reads h)) (neighbours net u))

-- ---- one more update, and one more row

pub put_more : (w s : ℕ) (xs : List Update) (x : Update) (rows : List Pending) → put_all w s (xs ++ x ∷ []) rows ≡ put_row (row_of w s x) (put_all w s xs rows)
put_more w s [] x rows = refl
put_more w s (y ∷ xs) x rows = put_more w s xs x (put_row (row_of w s y) rows)

-- one more prefix whose offer to the neighbour changed
pub gathered_more : (rules : Rules) (net : Net) (u : ℕ) (h : List Entry) (k : Entry) (knows : Bool) (w s i p q : ℕ) (ps : List ℕ) (ts : List Trigger) (first so_far new : List Pending) → slice_get ps i ≡ Some p → i < length ps
    → differs (making rules net u h k) knows w p ≡ true → q ≡ p → ts ≡ k.triggers
    → so_far ≡ put_all w s (updates_over (making rules net u h k) knows w (take i ps)) first
    → new ≡ put_row (record { to = w; prefix = q; session = s; triggers = ts }) so_far
    → new ≡ put_all w s (updates_over (making rules net u h k) knows w (take (i + 1) ps)) first
gathered_more rules net u h k knows w s i p q ps ts first so_far new at inside moved prefix triggers was is =
    let m = making rules net u h k in
    is ∙ (ap₂ (λ n us. put_row (record { to = w; prefix = n; session = s; triggers = us }) so_far) prefix triggers
    ∙ (ap (put_row (row_of w s (update_of m w p))) was
    ∙ (sym (put_more w s (updates_over m knows w (take i ps)) (update_of m w p) first)
    ∙ ap (λ xs. put_all w s xs first) (sym (over_other rules net u h k knows w ps i p at inside moved)))))

module _ (rules : Rules) (net : Net) (u : ℕ) (now : History) (w : ℕ) where
  rows_end : (rows : List Pending) (row : Pending) → row_updates rules net u now (rows ++ row ∷ []) w ≡ row_updates rules net u now rows w ++ (if is_to w row then row_update rules net u now row w ∷ [] else [])
  rows_end [] row = elim (is_to w row) as (λ b. map (λ (r : Pending). row_update rules net u now r w) (cond b (row ∷ []) []) ≡ (if b then row_update rules net u now row w ∷ [] else [])) [ true ↦ refl | false ↦ refl ]
  rows_end (x ∷ rows) row =
      elim (is_to w x) as (λ b. map (λ (r : Pending). row_update rules net u now r w) (cond b (x ∷ filter (is_to w) (rows ++ row ∷ [])) (filter (is_to w) (rows ++ row ∷ [])))
      ≡ map (λ (r : Pending). row_update rules net u now r w) (cond b (x ∷ filter (is_to w) rows) (filter (is_to w) rows)) ++ (if is_to w row then row_update rules net u now row w ∷ [] else [])) [
        | true ↦ ap (λ l. row_update rules net u now x w ∷ l) (rows_end rows row)
        | false ↦ rows_end rows row
      ]

  rows_next : (rows : List Pending) (i : ℕ) (row : Pending) → i < length rows → row ≡ slice_index_or rows i row → take (i + 1) rows ≡ take i rows ++ row ∷ []
  rows_next [] i row inside is = absurd (omega arith)
  rows_next (x ∷ rows) zero row inside is = ap (λ r. r ∷ []) (sym is)
  rows_next (x ∷ rows) (suc i) row inside is =
      let next : suc i + 1 ≡ suc (i + 1) = omega arith in
      ap (λ n. take n (x ∷ rows)) next ∙ ap (λ l. x ∷ l) (rows_next rows i row (omega arith) is)

  -- a row of w
  pub rows_own : (rows : List Pending) (i : ℕ) (row : Pending) → i < length rows → row ≡ slice_index_or rows i row → is_to w row ≡ true
      → row_updates rules net u now (take (i + 1) rows) w ≡ row_updates rules net u now (take i rows) w ++ row_update rules net u now row w ∷ []
  rows_own rows i row inside is test =
      ap (λ l. row_updates rules net u now l w) (rows_next rows i row inside is)
      ∙ (rows_end (take i rows) row ∙ ap (λ b. row_updates rules net u now (take i rows) w ++ (if b then row_update rules net u now row w ∷ [] else [])) test)

  -- a row of another
  pub rows_other : (rows : List Pending) (i : ℕ) (row : Pending) → i < length rows → row ≡ slice_index_or rows i row → is_to w row ≡ false
      → row_updates rules net u now (take (i + 1) rows) w ≡ row_updates rules net u now (take i rows) w
  rows_other rows i row inside is test =
      ap (λ l. row_updates rules net u now l w) (rows_next rows i row inside is)
      ∙ (rows_end (take i rows) row
      ∙ (ap (λ b. row_updates rules net u now (take i rows) w ++ (if b then row_update rules net u now row w ∷ [] else [])) test ∙ append-nil (row_updates rules net u now (take i rows) w)))

-- the row at a place is in the network
pub placed_at : (net : Net) (rows : List Pending) (i : ℕ) (row : Pending) → ArePlacedRows net rows → i < length rows → row ≡ slice_index_or rows i row → row.prefix < length net.prefixes
placed_at net [] i row all inside is = absurd (omega arith)
placed_at net (x ∷ rows) zero row all inside is = subst (λ (r : Pending). r.prefix < length net.prefixes) (sym is) all.0
placed_at net (x ∷ rows) (suc i) row all inside is = placed_at net rows i row all.1 (omega arith) is
