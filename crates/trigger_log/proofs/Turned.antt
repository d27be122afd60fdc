-- How an entry changes the marks of sessions.
use Rattle.std.proofs.Common.{ℕ, suc, ◌+◌, ◌<◌, true, false, cond, ◌==◌, ◌&&◌, Option, Some, None, List, [], ◌∷◌, ◌++◌, ◌≡◌, ◌≢◌, refl, sym, ◌∙◌, ap, subst, arith, length, length-append, set, slice_get}
use Rattle.std.specs.Prelude.{if◌then◌else◌}
use Rattle.std.specs.List.{AllZip}
use Rattle.std.proofs.lemmas.Bool.Decides.{nat_tests}
use Rattle.std.proofs.lemmas.List.{append-nil}
use Rattle.std.proofs.lemmas.Option.{same_Some}
use Rattle.std.proofs.lemmas.Slice.Zip.{AllZip-long}
use Rattle.topology.specs.declared.names.Trigger.{Trigger}
use Rattle.topology.specs.declared.names.Scope.{Scope}
use Rattle.topology.specs.declared.names.Scope.TheVariants.{One, All, Nothing}
use Rattle.topology.specs.Lists.{has}
use Rattle.topology.specs.Net.{Net, IsValid, neighbours}
use Rattle.topology.proofs.Neighbours.{differ-neighbours}
use Rattle.topology.proofs.Places.{has_placed}
use Rattle.path_vector.specs.declared.causes.Cause.{Cause}
use Rattle.path_vector.specs.declared.causes.Cause.TheVariants.{Originate, Withdraw, Recv, Down, Up, Ready, Prefer, Flush}
use Rattle.path_vector.specs.Rules.{Rules}
use Rattle.path_vector.specs.History.{last, opened, opened_by}
use Rattle.path_vector.specs.Kept.{names}
use Rattle.trigger_log.specs.declared.sessions.SessionMark.{SessionMark}
use Rattle.trigger_log.specs.Entries.{Entry, reads, entry, inbox, received_by, closes, closing}
use Rattle.trigger_log.specs.Making.{making}
use Rattle.trigger_log.specs.Sending.{sent_count}
use Rattle.trigger_log.specs.Fits.{CauseFits, Fits, ListsFor}
use Rattle.trigger_log.specs.Sessions.{ever, opens_by, IsFirst, Says, AreMarks, AreRows}
use Rattle.trigger_log.specs.Rows.{EndsWith}
use Rattle.trigger_log.specs.Marked.{AreMarked, AreAllMarked, hears}
use Rattle.trigger_log.proofs.Holding.{fits_recv, fits_down, fits_ready, held_is_last}
use Rattle.trigger_log.proofs.Closings.{closing_above, closing_other, count_above}
use Rattle.trigger_log.proofs.Fresh.{ever_above, fresh_inbox}
use Rattle.trigger_log.proofs.Silence.{opened_above}
use Rattle.trigger_log.proofs.Newest.{ends_ever}
use Rattle.trigger_log.proofs.Rows.{last_of}
use Rattle.trigger_log.proofs.Zips.{zip_push, zip_end, zip_each, zip_map, zip_at, zip_set}

-- ---- sessions that an entry leaves

no_test : (v w t s : ℕ) → (v ≡ w → t ≡ s → ⊥) → (v == w && t == s) ≡ false
no_test v w t s other =
    (elim (v == w) as (λ b. (v == w) ≡ b → (b && (t == s)) ≡ false) [
      | true ↦ λ e. (elim (t == s) as (λ c. (t == s) ≡ c → c ≡ false) [
        | true ↦ λ f. absurd (other (grind (arith, nat_tests)) (grind (arith, nat_tests)))
        | false ↦ λ f. refl
      ]) refl
      | false ↦ λ e. refl
    ]) refl

-- the cause is not about session s with w
abbrev Spares : List Entry → Cause → ℕ → ℕ → Type 0
Spares h cause w s = names cause ≡ Some w → s ≡ last (reads h) w → ⊥

some : (v w : ℕ) → v ≡ w → Some v ≡ Some w
some v w e = ap (λ n. Some n) e

opened_spared : (scope : Scope) (cause : Cause) (h : List Entry) (w s : ℕ) → CauseFits h scope cause → Spares h cause w s → opened_by cause w s (opened (reads h) w s) ≡ opened (reads h) w s
opened_spared scope Originate h w s f other = refl
opened_spared scope Withdraw h w s f other = refl
opened_spared scope (Recv v t seq path) h w s f other = refl
opened_spared scope (Down v t) h w s f other = refl
opened_spared scope (Up v t) h w s f other = refl
opened_spared scope (Prefer v x) h w s f other = refl
opened_spared scope (Flush v) h w s f other = refl
opened_spared scope (Ready v t) h w s f other =
    let newest = held_is_last (reads h) v t (fits_ready h scope v t f).0 in
    rw (no_test v w t s (λ e g. other (some v w e) (sym g ∙ (newest ∙ ap (last (reads h)) e)))) refl

received_spared : (triggers : List Trigger) (scope : Scope) (cause : Cause) (h : List Entry) (w s : ℕ) → CauseFits h scope cause → Spares h cause w s → received_by triggers scope cause w s ≡ []
received_spared triggers All cause h w s f other = refl
received_spared triggers Nothing cause h w s f other = refl
received_spared triggers (One p) Originate h w s f other = refl
received_spared triggers (One p) Withdraw h w s f other = refl
received_spared triggers (One p) (Down v t) h w s f other = refl
received_spared triggers (One p) (Up v t) h w s f other = refl
received_spared triggers (One p) (Ready v t) h w s f other = refl
received_spared triggers (One p) (Prefer v x) h w s f other = refl
received_spared triggers (One p) (Flush v) h w s f other = refl
received_spared triggers (One p) (Recv v t seq path) h w s f other =
    let newest = held_is_last (reads h) v t (fits_recv h (One p) v t seq path f) in
    rw (no_test v w t s (λ e g. other (some v w e) (sym g ∙ (newest ∙ ap (last (reads h)) e)))) refl

closes_spared : (scope : Scope) (cause : Cause) (h : List Entry) (w s : ℕ) → CauseFits h scope cause → Spares h cause w s → closes cause w s ≡ false
closes_spared scope Originate h w s f other = refl
closes_spared scope Withdraw h w s f other = refl
closes_spared scope (Recv v t seq path) h w s f other = refl
closes_spared scope (Up v t) h w s f other = refl
closes_spared scope (Ready v t) h w s f other = refl
closes_spared scope (Prefer v x) h w s f other = refl
closes_spared scope (Flush v) h w s f other = refl
closes_spared scope (Down v t) h w s f other =
    let newest = held_is_last (reads h) v t (fits_down h scope v t f) in
    no_test v w t s (λ e g. other (some v w e) (sym g ∙ (newest ∙ ap (last (reads h)) e)))

says_same : (k : Entry) (h : List Entry) (w s n : ℕ) (mark : SessionMark) → opened_by k.read.cause w s (opened (reads h) w s) ≡ opened (reads h) w s → received_by k.triggers k.read.scope k.read.cause w s ≡ []
    → closes k.read.cause w s ≡ false → Says h w s n mark → Says (k ∷ h) w s n mark
says_same k h w s n mark same_opened none other was = record {
  nbr = was.nbr;
  session = was.session;
  is_opened = was.is_opened ∙ sym same_opened;
  sent = was.sent;
  received = was.received ∙ ap length (sym (ap (λ l. inbox h w s ++ l) none ∙ append-nil (inbox h w s)));
  down = subst (IsFirst mark.down) (sym (closing_other k h w s other)) was.down;
}

says_spared : (k : Entry) (h : List Entry) (w s n : ℕ) (mark : SessionMark) → Fits (k ∷ h) → Spares h k.read.cause w s → Says h w s n mark → Says (k ∷ h) w s n mark
says_spared k h w s n mark f other was =
    says_same k h w s n mark (opened_spared k.read.scope k.read.cause h w s f.0 other) (received_spared k.triggers k.read.scope k.read.cause h w s f.0 other)
    (closes_spared k.read.scope k.read.cause h w s f.0 other) was

-- ---- the newest session of the neighbour that an entry names

both_hold : (v w t s : ℕ) → v ≡ w → t ≡ s → (v == w && t == s) ≡ true
both_hold v w t s e f = grind (arith, nat_tests)

named_is : (v w : ℕ) → Some v ≡ Some w → v ≡ w
named_is v w e = same_Some v w e

recv_test : (scope : Scope) (h : List Entry) (v t seq w : ℕ) (path : Option (List ℕ)) → CauseFits h scope (Recv v t seq path) → v ≡ w → (v == w && t == last (reads h) w) ≡ true
recv_test scope h v t seq w path f e =
    both_hold v w t (last (reads h) w) e (held_is_last (reads h) v t (fits_recv h scope v t seq path f) ∙ ap (last (reads h)) e)

received_one : (triggers : List Trigger) (scope : Scope) (h : List Entry) (v t seq w : ℕ) (path : Option (List ℕ)) → CauseFits h scope (Recv v t seq path) → v ≡ w
    → length (inbox h w (last (reads h) w) ++ received_by triggers scope (Recv v t seq path) w (last (reads h) w)) ≡ suc (length (inbox h w (last (reads h) w)))
received_one triggers All h v t seq w path f e = absurd f
received_one triggers Nothing h v t seq w path f e = absurd f
received_one triggers (One p) h v t seq w path f e =
    rw (recv_test (One p) h v t seq w path f e) (simp length-append (omega arith))

module _ (triggers : List Trigger) (scope : Scope) (h : List Entry) (w n : ℕ) (mark : SessionMark) where
  abbrev newest : ℕ
  newest = last (reads h) w

  abbrev after : Cause → List Entry
  after cause = entry triggers scope cause ∷ h

  abbrev heard : SessionMark
  heard = record mark { received = suc mark.received }

  recv_says : (v t seq : ℕ) (path : Option (List ℕ)) → Fits (after (Recv v t seq path)) → v ≡ w → Says h w newest n mark → Says (after (Recv v t seq path)) w newest n heard
  recv_says v t seq path f e was = record {
    nbr = was.nbr;
    session = was.session;
    is_opened = was.is_opened;
    sent = was.sent;
    received = ap suc was.received ∙ sym (received_one triggers scope h v t seq w path f.0 e);
    down = was.down;
  }

  pub turned_recv : (v t seq : ℕ) (path : Option (List ℕ)) (cause : Cause) → cause ≡ Recv v t seq path → Fits (after cause) → names cause ≡ Some w → Says h w newest n mark → Says (after cause) w newest n heard
  turned_recv v t seq path cause is f by was =
      subst (λ c. Fits (after c) → names c ≡ Some w → Says (after c) w newest n heard) (sym is)
      (λ f by. recv_says v t seq path f (named_is v w by) was) f by

  down_says : (v t : ℕ) → Fits (after (Down v t)) → ListsFor scope triggers → v ≡ w → Says h w newest n mark → Says (after (Down v t)) w newest n (record mark { down = slice_get triggers 0 })
  down_says v t f lists e was =
      let test = both_hold v w t newest e (held_is_last (reads h) v t (fits_down h scope v t f.0) ∙ ap (last (reads h)) e) in
      record {
        nbr = was.nbr;
        session = was.session;
        is_opened = was.is_opened;
        sent = was.sent;
        received = was.received ∙ ap length (sym (ap (λ l. inbox h w newest ++ l) (none scope) ∙ append-nil (inbox h w newest)));
        down = subst (λ b. IsFirst (slice_get triggers 0) (if b then Some triggers else closing h w newest)) (sym test) (first triggers (some scope f.0 lists));
      }
    where
      none : (scope : Scope) → received_by triggers scope (Down v t) w newest ≡ []
      none All = refl
      none (One p) = refl
      none Nothing = refl

      some : (scope : Scope) → CauseFits h scope (Down v t) → ListsFor scope triggers → triggers ≢ []
      some All f lists = lists
      some (One p) f lists = absurd f
      some Nothing f lists = absurd f

      first : (ts : List Trigger) → ts ≢ [] → IsFirst (slice_get ts 0) (Some ts)
      first [] some = absurd (some refl)
      first (u ∷ ts) some = refl

  pub turned_down : (v t : ℕ) (cause : Cause) → cause ≡ Down v t → Fits (after cause) → ListsFor scope triggers → names cause ≡ Some w → Says h w newest n mark
      → Says (after cause) w newest n (record mark { down = slice_get triggers 0 })
  turned_down v t cause is f lists by was =
      subst (λ c. Fits (after c) → names c ≡ Some w → Says (after c) w newest n (record mark { down = slice_get triggers 0 })) (sym is)
      (λ f by. down_says v t f lists (named_is v w by) was) f by

  ready_says : (v t : ℕ) → Fits (after (Ready v t)) → v ≡ w → Says h w newest n mark → Says (after (Ready v t)) w newest n (record mark { opened = true })
  ready_says v t f e was =
      let test = both_hold v w t newest e (held_is_last (reads h) v t (fits_ready h scope v t f.0).0 ∙ ap (last (reads h)) e) in
      record {
        nbr = was.nbr;
        session = was.session;
        is_opened = rw test refl;
        sent = was.sent;
        received = was.received ∙ ap length (sym (ap (λ l. inbox h w newest ++ l) (none scope) ∙ append-nil (inbox h w newest)));
        down = was.down;
      }
    where
      none : (scope : Scope) → received_by triggers scope (Ready v t) w newest ≡ []
      none All = refl
      none (One p) = refl
      none Nothing = refl

  pub turned_ready : (v t : ℕ) (cause : Cause) → cause ≡ Ready v t → Fits (after cause) → names cause ≡ Some w → Says h w newest n mark
      → Says (after cause) w newest n (record mark { opened = true })
  turned_ready v t cause is f by was =
      subst (λ c. Fits (after c) → names c ≡ Some w → Says (after c) w newest n (record mark { opened = true })) (sym is)
      (λ f by. ready_says v t f (named_is v w by) was) f by

-- an entry that is not an update
pub made_here : (cause : Cause) → ((v t seq : ℕ) (path : Option (List ℕ)) → cause ≡ Recv v t seq path → ⊥) → hears cause ≡ false
made_here Originate other = refl
made_here Withdraw other = refl
made_here (Recv v t seq path) other = absurd (other v t seq path refl)
made_here (Down v t) other = refl
made_here (Up v t) other = refl
made_here (Ready v t) other = refl
made_here (Prefer v x) other = refl
made_here (Flush v) other = refl

-- a neighbour that the entry names has a place
pub no_stranger : (net : Net) (u : ℕ) (cause : Cause) (v i : ℕ) → ((w : ℕ) → names cause ≡ Some w → has (neighbours net u) w ≡ false) → names cause ≡ Some v → slice_get (neighbours net u) i ≡ Some v → ⊥
no_stranger net u cause v i far by at = cc (far v by, has_placed (neighbours net u) i v at)

-- ---- rows

module _ (rules : Rules) (net : Net) (u : ℕ) (h : List Entry) (k : Entry) (fits : Fits (k ∷ h)) where
  -- a mark of the entries before, after k
  abbrev Before : ℕ → ℕ → SessionMark → Type 0
  Before w s mark = Says h w s (sent_count rules net u h w s) mark

  abbrev After : ℕ → ℕ → SessionMark → Type 0
  After w s mark = Says (k ∷ h) w s (sent_count rules net u h w s) mark

  spared_row : (w : ℕ) (row : List SessionMark) → opens_by k.read.cause w ≡ [] → (names k.read.cause ≡ Some w → ⊥) → AreMarks rules net u h w row → AreMarked (making rules net u h k) w row
  spared_row w row none other was =
      subst (λ l. AllZip (After w) l row) (sym (ap (λ l. ever h w ++ l) none ∙ append-nil (ever h w)))
      (zip_map (Before w) (After w) (λ s mark is. says_spared k h w s (sent_count rules net u h w s) mark fits (λ e f. other e) is) (ever h w) row was)

  opens_none : (cause : Cause) (w : ℕ) → (names cause ≡ Some w → ⊥) → opens_by cause w ≡ []
  opens_none Originate w other = refl
  opens_none Withdraw w other = refl
  opens_none (Recv v t seq path) w other = refl
  opens_none (Down v t) w other = refl
  opens_none (Ready v t) w other = refl
  opens_none (Prefer v x) w other = refl
  opens_none (Flush v) w other = refl
  opens_none (Up v t) w other =
      (elim (v == w) as (λ b. (v == w) ≡ b → cond b (t ∷ []) [] ≡ []) [ true ↦ λ e. absurd (other (some v w (grind (arith, nat_tests)))) | false ↦ λ e. refl ]) refl

  pub other_row : (w : ℕ) (row : List SessionMark) → (names k.read.cause ≡ Some w → ⊥) → AreMarks rules net u h w row → AreMarked (making rules net u h k) w row
  other_row w row other was = spared_row w row (opens_none k.read.cause w other) other was

  -- the last mark of a row stays, or is replaced
  pub turned_row : (w : ℕ) (older : List SessionMark) (mark new : SessionMark) → opens_by k.read.cause w ≡ [] → AreMarks rules net u h w (older ++ mark ∷ [])
      → (Says h w (last (reads h) w) (sent_count rules net u h w (last (reads h) w)) mark → Says (k ∷ h) w (last (reads h) w) (sent_count rules net u h w (last (reads h) w)) new)
      → AreMarked (making rules net u h k) w (older ++ new ∷ [])
  turned_row w older mark new none was turn =
      let ends = ends_ever h w fits.1 in
      let parts = zip_end (Before w) ends.older older (last (reads h) w) mark (subst (λ l. AllZip (Before w) l (older ++ mark ∷ [])) ends.is was) in
      subst (λ l. AllZip (After w) l (older ++ new ∷ [])) (sym (ap (λ l. ever h w ++ l) none ∙ (append-nil (ever h w) ∙ ends.is)))
      (zip_push (After w) ends.older older (last (reads h) w) new
      (zip_each (λ s. s < last (reads h) w) (Before w) (After w)
      (λ s m below is. says_spared k h w s (sent_count rules net u h w s) m fits (λ e (f : s ≡ last (reads h) w). omega arith) is)
      ends.older older ends.below parts.0)
      (turn parts.1))

-- one more session, with nothing sent or received
module _ (rules : Rules) (net : Net) (u : ℕ) (h : List Entry) (triggers : List Trigger) (w s : ℕ) (fits : Fits (entry triggers All (Up w s) ∷ h)) where
  abbrev opening : Entry
  opening = entry triggers All (Up w s)

  abbrev fresh : SessionMark
  fresh = record { nbr = w; session = s; opened = false; sent = 0; received = 0; down = None }

  fresh_says : Says (opening ∷ h) w s (sent_count rules net u h w s) fresh
  fresh_says =
      let above = fits.0.1 in
      record {
        nbr = refl;
        session = refl;
        is_opened = sym (opened_above h w s fits.1 above);
        sent = sym (count_above rules net u h w s fits.1 above);
        received = sym (ap length (append-nil (inbox h w s) ∙ fresh_inbox h w s fits.1 (ever_above h w s fits.1 above)));
        down = subst (IsFirst None) (sym (closing_above h w s fits.1 above)) tt;
      }

  opened_row : (row : List SessionMark) → AreMarks rules net u h w row → AreMarked (making rules net u h opening) w (row ++ fresh ∷ [])
  opened_row row was =
      let test : (w == w) ≡ true = grind (arith, nat_tests) in
      subst (λ l. AllZip (λ t mark. Says (opening ∷ h) w t (sent_count rules net u h w t) mark) l (row ++ fresh ∷ [])) (sym (ap (λ b. ever h w ++ cond b (s ∷ []) []) test))
      (zip_push (λ t mark. Says (opening ∷ h) w t (sent_count rules net u h w t) mark) (ever h w) row s fresh
      (zip_map (λ s mark. Says h w s (sent_count rules net u h w s) mark) (λ t mark. Says (opening ∷ h) w t (sent_count rules net u h w t) mark)
      (λ t mark is. says_same opening h w t (sent_count rules net u h w t) mark refl refl refl is) (ever h w) row was)
      fresh_says)

-- ---- all rows

module _ (rules : Rules) (net : Net) (u : ℕ) (h : List Entry) (rows : List (List SessionMark)) (valid : IsValid net) (were : AreRows rules net u h rows) where
  -- an entry that names no neighbour
  pub marked_none : (triggers : List Trigger) (scope : Scope) (cause : Cause) → Fits (entry triggers scope cause ∷ h) → names cause ≡ None → AreAllMarked (making rules net u h (entry triggers scope cause)) rows
  marked_none triggers scope cause fits by =
      zip_map (AreMarks rules net u h) (AreMarked (making rules net u h (entry triggers scope cause)))
      (λ w row was. other_row rules net u h (entry triggers scope cause) fits w row (λ e. absurd (cc (by, e))) was) (neighbours net u) rows were

  set_row : (k : Entry) (fits : Fits (k ∷ h)) (v i : ℕ) (row : List SessionMark) → names k.read.cause ≡ Some v → slice_get (neighbours net u) i ≡ Some v → AreMarked (making rules net u h k) v row
      → AllZip (AreMarked (making rules net u h k)) (neighbours net u) (set rows i row)
  set_row k fits v i row by at here =
      zip_set (AreMarks rules net u h) (AreMarked (making rules net u h k)) v
      (λ w old other was. other_row rules net u h k fits w old (λ e. let same : v ≡ w = same_Some v w (sym by ∙ e) in absurd (grind (arith, nat_tests))) was)
      (neighbours net u) rows i row (differ-neighbours net u valid) at here were

  -- the row at a place
  pub row_of : (v i : ℕ) → slice_get (neighbours net u) i ≡ Some v → (row : List SessionMark) × (slice_get rows i ≡ Some row) × AreMarks rules net u h v row
  row_of v i at = zip_at (AreMarks rules net u h) (neighbours net u) rows i v were at

  up_fits : (triggers : List Trigger) (scope : Scope) (v s : ℕ) → Fits (entry triggers scope (Up v s) ∷ h) → scope ≡ All
  up_fits triggers (One p) v s f = absurd f.0
  up_fits triggers All v s f = refl
  up_fits triggers Nothing v s f = absurd f.0

  pub marked_up : (triggers : List Trigger) (scope : Scope) (cause : Cause) (v s i : ℕ) (new : List (List SessionMark)) → Fits (entry triggers scope cause ∷ h) → cause ≡ Up v s → slice_get (neighbours net u) i ≡ Some v
      → ((row : List SessionMark) → slice_get rows i ≡ Some row → new ≡ set rows i (row ++ record { nbr = v; session = s; opened = false; sent = 0; received = 0; down = None } ∷ []))
      → AreAllMarked (making rules net u h (entry triggers scope cause)) new
  marked_up triggers scope cause v s i new fits is at opened =
      let is_all : scope ≡ All = up_fits triggers scope v s (subst (λ c. Fits (entry triggers scope c ∷ h)) is fits) in
      let k = entry triggers All (Up v s) in
      let up : Fits (k ∷ h) = subst (λ x. Fits (entry triggers x (Up v s) ∷ h)) is_all (subst (λ c. Fits (entry triggers scope c ∷ h)) is fits) in
      let found = row_of v i at in
      let row = found.0 ++ fresh rules net u h triggers v s up ∷ [] in
      let marked : AreAllMarked (making rules net u h k) new =
      subst (AllZip (AreMarked (making rules net u h k)) (neighbours net u)) (sym (opened found.0 found.1))
      (set_row k up v i row refl at (opened_row rules net u h triggers v s up found.0 found.2)) in
      subst (λ x. AreAllMarked (making rules net u h (entry triggers x cause)) new) (sym is_all) (subst (λ c. AreAllMarked (making rules net u h (entry triggers All c)) new) (sym is) marked)

  not_up : (cause : Cause) (w : ℕ) → ((v s : ℕ) → cause ≡ Up v s → ⊥) → opens_by cause w ≡ []
  not_up Originate w other = refl
  not_up Withdraw w other = refl
  not_up (Recv v t seq path) w other = refl
  not_up (Down v t) w other = refl
  not_up (Ready v t) w other = refl
  not_up (Prefer v x) w other = refl
  not_up (Flush v) w other = refl
  not_up (Up v t) w other = absurd (other v t refl)

  -- the last mark of the row of v is replaced
  marked_end : (k : Entry) (v i : ℕ) (older : List SessionMark) (mark turned : SessionMark) (new : List (List SessionMark)) → Fits (k ∷ h) → ((v s : ℕ) → k.read.cause ≡ Up v s → ⊥) → names k.read.cause ≡ Some v
      → slice_get (neighbours net u) i ≡ Some v → slice_get rows i ≡ Some (older ++ mark ∷ [])
      → ((n : ℕ) → Says h v (last (reads h) v) n mark → Says (k ∷ h) v (last (reads h) v) n turned) → new ≡ set rows i (older ++ turned ∷ []) → AreAllMarked (making rules net u h k) new
  marked_end k v i older mark turned new fits other by at here turn is =
      let found = row_of v i at in
      let same : found.0 ≡ older ++ mark ∷ [] = same_Some found.0 (older ++ mark ∷ []) (sym found.1 ∙ here) in
      subst (AllZip (AreMarked (making rules net u h k)) (neighbours net u)) (sym is)
      (set_row k fits v i (older ++ turned ∷ []) by at
      (turned_row rules net u h k fits v older mark turned (not_up k.read.cause v other) (subst (AreMarks rules net u h v) same found.2) (turn (sent_count rules net u h v (last (reads h) v)))))

  pub marked_turned : (k : Entry) (v i : ℕ) (mark turned : SessionMark) (new : List (List SessionMark)) → Fits (k ∷ h) → ((v s : ℕ) → k.read.cause ≡ Up v s → ⊥) → names k.read.cause ≡ Some v
      → slice_get (neighbours net u) i ≡ Some v → ((row : List SessionMark) → slice_get rows i ≡ Some row → EndsWith row mark)
      → ((n : ℕ) → Says h v (last (reads h) v) n mark → Says (k ∷ h) v (last (reads h) v) n turned)
      → ((older : List SessionMark) (last : SessionMark) → slice_get rows i ≡ Some (older ++ last ∷ []) → new ≡ set rows i (older ++ turned ∷ []))
      → AreAllMarked (making rules net u h k) new
  marked_turned k v i mark turned new fits other by at ends turn put =
      let found = row_of v i at in
      let end = ends found.0 found.1 in
      let here = found.1 ∙ ap (λ r. Some r) end.1 in
      marked_end k v i end.0 mark turned new fits other by at here turn (put end.0 mark here)

  -- a row is not empty
  filled_row : (w : ℕ) (row : List SessionMark) → Fits h → AreMarks rules net u h w row → 0 < length row
  filled_row w row fits was =
      let ends = ends_ever h w fits in
      let long = AllZip-long (λ s mark. Says h w s (sent_count rules net u h w s) mark) (ever h w) row was in
      let some : length (ever h w) ≡ length ends.older + 1 = ap length ends.is ∙ length-append ends.older (last (reads h) w ∷ []) in
      omega arith

  pub marked_recv : (triggers : List Trigger) (scope : Scope) (cause : Cause) (v t seq i w : ℕ) (path : Option (List ℕ)) (new : List (List SessionMark)) → Fits (entry triggers scope cause ∷ h) → cause ≡ Recv v t seq path → names cause ≡ Some w
      → slice_get (neighbours net u) i ≡ Some w
      → ((older : List SessionMark) (last : SessionMark) → slice_get rows i ≡ Some (older ++ last ∷ []) → new ≡ set rows i (older ++ record last { received = suc last.received } ∷ []))
      → AreAllMarked (making rules net u h (entry triggers scope cause)) new
  marked_recv triggers scope cause v t seq i w path new fits is by at heard =
      let found = row_of w i at in
      let end = last_of found.0 (filled_row w found.0 fits.1 found.2) in
      let here = found.1 ∙ ap (λ r. Some r) end.1.1 in
      marked_end (entry triggers scope cause) w i end.1.0 end.0 (record end.0 { received = suc end.0.received }) new fits (λ x s e. absurd (cc (is, e))) by at here
      (λ n was. turned_recv triggers scope h w n end.0 v t seq path cause is fits by was) (heard end.1.0 end.0 here)
