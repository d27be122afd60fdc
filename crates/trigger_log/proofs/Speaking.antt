-- What an entry tells one neighbour.
use Rattle.std.proofs.Common.{ℕ, zero, suc, ◌+◌, ◌<◌, ◌≤◌, Bool, true, false, not, cond, ◌==◌, ◌&&◌, Option, Some, None, List, [], ◌∷◌, ◌++◌, ◌≡◌, refl, sym, ◌∙◌, ap, subst, arith, length, map, filter}
use Rattle.std.specs.Prelude.{if◌then◌else◌, is_some, is_none}
use Rattle.std.specs.List.{range_with_len}
use Rattle.std.proofs.lemmas.Bool.Decides.{nat_tests}
use Rattle.std.proofs.lemmas.List.{append-nil}
use Rattle.topology.specs.declared.names.Trigger.{Trigger}
use Rattle.topology.specs.declared.names.Scope.{Scope}
use Rattle.topology.specs.declared.names.Scope.TheVariants.{One, All, Nothing}
use Rattle.topology.specs.declared.items.Sent.{Sent}
use Rattle.topology.specs.Net.{Net, places}
use Rattle.path_vector.specs.declared.causes.Cause.{Cause}
use Rattle.path_vector.specs.declared.causes.Cause.TheVariants.{Originate, Withdraw, Recv, Down, Up, Ready, Prefer, Flush}
use Rattle.path_vector.specs.Rules.{Rules}
use Rattle.path_vector.specs.History.{change, last, held, held_by, opened, opened_by, ready, concerns}
use Rattle.path_vector.specs.Offers.{changed, offered}
use Rattle.path_vector.proofs.Changes.{other_prefix}
use Rattle.path_vector.proofs.Opening.{opening_changes_nothing}
use Rattle.trigger_log.specs.declared.sessions.SessionMark.{SessionMark}
use Rattle.trigger_log.specs.declared.listeners.Listener.{Listener}
use Rattle.trigger_log.specs.Entries.{Entry, Update, reads, entry, closes, closing, flushes, is_session}
use Rattle.trigger_log.specs.Making.{Making, making}
use Rattle.trigger_log.specs.Sending.{news, update_of, sent_count, sent_from, updates_sent, close_list, close_sent, next_number}
use Rattle.trigger_log.specs.Going.{going_of, going_in, going_to, told, numbered}
use Rattle.trigger_log.specs.Fits.{CauseFits, Fits}
use Rattle.trigger_log.specs.Offered.{IsPlaced, places_of, asked, differs, updates_over}
use Rattle.trigger_log.specs.Sessions.{IsFirst, Says}
use Rattle.trigger_log.specs.Telling.{Speech, TellsUpdates}
use Rattle.trigger_log.specs.Marked.{Spoken, close_row, ends_with, readies}
use Rattle.trigger_log.proofs.Holding.{scoped, fits_up, fits_down, fits_ready, held_is_last, highest_is_last}
use Rattle.trigger_log.proofs.Closings.{count_held, count_other, count_down, close_count, held_count}
use Rattle.trigger_log.proofs.Silence.{opened_above, unready_news}
use Rattle.trigger_log.proofs.Gathering.{ready_in, ready_held, not_opened, flush_off}
use Rattle.trigger_log.proofs.Newest.{held_until}

same_number : (v w : ℕ) → (v == w) ≡ true → v ≡ w
same_number v w e = grind (arith, nat_tests)

same_self : (n : ℕ) → (n == n) ≡ true
same_self n = grind (arith, nat_tests)

-- ---- whether w is ready, as its newest mark shows

ready_of : (a : Option ℕ) (o : ℕ → Bool) (d b : Bool) (s : ℕ) → a ≡ (if d then Some s else None) → b ≡ o s → ready_in a o ≡ (if d && b then Some s else None)
ready_of a o true b s e f = rw (e, f) refl
ready_of a o false b s e f = rw e refl

first_none : (one : Option Trigger) (list : Option (List Trigger)) → IsFirst one list → is_none one ≡ is_none list
first_none None None is = refl
first_none (Some t) (Some ts) is = refl
first_none None (Some ts) is = absurd is
first_none (Some t) None is = absurd is

pub held_mark : (h : List Entry) (w n : ℕ) (mark : SessionMark) → Fits h → Says h w (last (reads h) w) n mark → held (reads h) w ≡ (if is_none mark.down then Some (last (reads h) w) else None)
held_mark h w n mark fits says =
    held_until h w fits
    ∙ ap (λ b. if b then Some (last (reads h) w) else None) (sym (first_none mark.down (closing h w (last (reads h) w)) says.down))

pub ready_mark : (h : List Entry) (w n : ℕ) (mark : SessionMark) → Fits h → Says h w (last (reads h) w) n mark → ready (reads h) w ≡ (if is_none mark.down && mark.opened then Some (last (reads h) w) else None)
ready_mark h w n mark fits says =
    ready_of (held (reads h) w) (opened (reads h) w) (is_none mark.down) mark.opened (last (reads h) w) (held_mark h w n mark fits says) says.is_opened

-- ---- if w is ready after an entry, it held the session before, and knows the offers unless the entry made it ready

abbrev Knew : List Entry → Cause → ℕ → ℕ → Type 0
Knew h cause w s = (held (reads h) w ≡ Some s) × (is_some (ready (reads h) w) ≡ not (readies cause w))

still : (h : List Entry) (w s : ℕ) → ready (reads h) w ≡ Some s → (held (reads h) w ≡ Some s) × (is_some (ready (reads h) w) ≡ true)
still h w s e = (ready_held (held (reads h) w) (opened (reads h) w) s e, ap is_some e)

knew_by : (h : List Entry) (scope : Scope) (cause : Cause) (w s : ℕ) → Fits h → CauseFits h scope cause
    → ready_in (held_by cause w (held (reads h) w)) (λ t. opened_by cause w t (opened (reads h) w t)) ≡ Some s → Knew h cause w s
knew_by h scope Originate w s f c e = still h w s e
knew_by h scope Withdraw w s f c e = still h w s e
knew_by h scope (Recv v t seq path) w s f c e = still h w s e
knew_by h scope (Prefer v x) w s f c e = still h w s e
knew_by h scope (Flush v) w s f c e = still h w s e
knew_by h scope (Down v t) w s f c e =
    (elim (v == w) as (λ b. ready_in (cond b None (held (reads h) w)) (opened (reads h) w) ≡ Some s → (held (reads h) w ≡ Some s) × (is_some (ready (reads h) w) ≡ true)) [
      | true ↦ λ r. absurd (cc r)
      | false ↦ λ r. still h w s r
    ]) e
knew_by h scope (Up v t) w s f c e =
    (elim (v == w) as (λ b. (v == w) ≡ b → ready_in (cond b (Some t) (held (reads h) w)) (opened (reads h) w) ≡ Some s → (held (reads h) w ≡ Some s) × (is_some (ready (reads h) w) ≡ true)) [
      | true ↦ λ q r.
          let shut : opened (reads h) w t ≡ false = subst (λ x. opened (reads h) x t ≡ false) (same_number v w q) (opened_above h v t f (fits_up h scope v t c).1) in
          absurd (cc (not_opened t (opened (reads h) w) (Some t) refl shut, r))
      | false ↦ λ q r. still h w s r
    ]) refl e
knew_by h scope (Ready v t) w s f c e =
    (elim (v == w) as (λ b. (v == w) ≡ b → ready_in (held (reads h) w) (λ x. if b && t == x then true else opened (reads h) w x) ≡ Some s → (held (reads h) w ≡ Some s) × (is_some (ready (reads h) w) ≡ not b)) [
      | true ↦ λ q r.
          let mine : held (reads h) w ≡ Some t = subst (λ x. held (reads h) x ≡ Some t) (same_number v w q) (fits_ready h scope v t c).0 in
          let shut : opened (reads h) w t ≡ false = subst (λ x. opened (reads h) x t ≡ false) (same_number v w q) (fits_ready h scope v t c).1 in
          (ready_held (held (reads h) w) (λ x. if true && t == x then true else opened (reads h) w x) s r, ap is_some (not_opened t (opened (reads h) w) (held (reads h) w) mine shut))
      | false ↦ λ q r. still h w s r
    ]) refl e

pub knew : (k : Entry) (h : List Entry) (w s : ℕ) → Fits (k ∷ h) → ready (k.read ∷ reads h) w ≡ Some s → Knew h k.read.cause w s
knew k h w s f e = knew_by h k.read.scope k.read.cause w s f.1 f.0 e

-- ---- the updates over the scope's prefixes are those of all prefixes whose offer changed

filter_none : (f : ℕ → Bool) (xs : List ℕ) → ((p : ℕ) → f p ≡ false) → filter f xs ≡ []
filter_none f [] none = refl
filter_none f (x ∷ xs) none = rw (none x) (filter_none f xs none)

-- an update to w of each prefix whose offer the entry changed, in file order
abbrev pub moved_to : Making → ℕ → List Update
moved_to m w = map (update_of m w) (filter (changed m.rules m.net m.node (m.entry.read ∷ reads m.before) w) (places m.net))

-- there is none if the entry changed no offer
none_moved : (m : Making) (w : ℕ) → ((p : ℕ) → changed m.rules m.net m.node (m.entry.read ∷ reads m.before) w p ≡ false) → moved_to m w ≡ []
none_moved m w none =
    ap (map (update_of m w)) (filter_none (changed m.rules m.net m.node (m.entry.read ∷ reads m.before) w) (places m.net) none)

opening_moves : (rules : Rules) (net : Net) (u : ℕ) (h : List Entry) (k : Entry) (v t w : ℕ) → Fits (k ∷ h) → k.read.cause ≡ Up v t → moved_to (making rules net u h k) w ≡ []
opening_moves rules net u h k v t w fits is = none_moved (making rules net u h k) w (λ p. none_changed p)
  where
    scope_is : (scope : Scope) → CauseFits h scope (Up v t) → scope ≡ All
    scope_is (One p) f = absurd f
    scope_is All f = refl
    scope_is Nothing f = absurd f

    fits_as : CauseFits h k.read.scope (Up v t)
    fits_as = subst (CauseFits h k.read.scope) is fits.0

    read_is : k.read ≡ change All (Up v t)
    read_is = ap (λ c. change k.read.scope c) is ∙ ap (λ x. change x (Up v t)) (scope_is k.read.scope fits_as)

    none_changed : (p : ℕ) → changed rules net u (k.read ∷ reads h) w p ≡ false
    none_changed p =
        let opens = fits_up h k.read.scope v t fits_as in
        let top = highest_is_last h v fits.1 in
        let above : last (reads h) v < t = opens.1 in
        ap (λ r. changed rules net u (r ∷ reads h) w p) read_is ∙ opening_changes_nothing rules net u (reads h) v t w p opens.0 (omega arith)

pub flush_moves : (rules : Rules) (net : Net) (u : ℕ) (h : List Entry) (k : Entry) (v w : ℕ) → Fits (k ∷ h) → k.read.cause ≡ Flush v → moved_to (making rules net u h k) w ≡ []
flush_moves rules net u h k v w fits is =
    none_moved (making rules net u h k) w (λ p. other_prefix rules net u (reads h) k.read w p (scoped (k ∷ h) fits) (flush_off k h v p fits (ap (λ c. flushes c v) is ∙ same_self v)))

-- all prefixes of the scope are asked for, unless a session is opened or flushed
pub asked_all : (net : Net) (scope : Scope) (cause : Cause) → ((v s : ℕ) → cause ≡ Up v s → ⊥) → ((v : ℕ) → cause ≡ Flush v → ⊥) → asked net scope cause ≡ places_of net scope
asked_all net scope Originate other no_flush = refl
asked_all net scope Withdraw other no_flush = refl
asked_all net scope (Recv v s seq path) other no_flush = refl
asked_all net scope (Down v s) other no_flush = refl
asked_all net scope (Up v s) other no_flush = absurd (other v s refl)
asked_all net scope (Ready v s) other no_flush = refl
asked_all net scope (Prefer v x) other no_flush = refl
asked_all net scope (Flush v) other no_flush = absurd (no_flush v refl)

none_passes : (f : ℕ → Bool) (p start n : ℕ) → p < start → ((q : ℕ) → (p == q) ≡ false → f q ≡ false) → filter f (range_with_len start n) ≡ []
none_passes f p start zero before off = refl
none_passes f p start (suc n) before off = rw (off start (grind (arith, nat_tests))) (none_passes f p (start + 1) n (omega arith) off)

one_passes : (f : ℕ → Bool) (p start n : ℕ) → start ≤ p → p < start + n → ((q : ℕ) → (p == q) ≡ false → f q ≡ false) → filter f (range_with_len start n) ≡ (if f p then p ∷ [] else [])
one_passes f p start zero from to off = absurd (omega arith)
one_passes f p start (suc n) from to off =
    (elim (p == start) as (λ t. (p == start) ≡ t → filter f (start ∷ range_with_len (start + 1) n) ≡ (if f p then p ∷ [] else [])) [
      | true ↦ λ e.
          let same : start ≡ p = grind (arith, nat_tests) in
          rw (none_passes f p (start + 1) n (omega arith) off) (ap (λ q. if f q then q ∷ [] else []) same)
      | false ↦ λ e.
          let later : start + 1 ≤ p = grind (arith, nat_tests) in
          rw (off start e) (one_passes f p (start + 1) n later (omega arith) off)
    ]) refl

filter_same : (f g : ℕ → Bool) → ((p : ℕ) → f p ≡ g p) → (xs : List ℕ) → filter f xs ≡ filter g xs
filter_same f g same [] = refl
filter_same f g same (x ∷ xs) = rw (same x, filter_same f g same xs) refl

module _ (rules : Rules) (net : Net) (u : ℕ) (h : List Entry) (k : Entry) (w s : ℕ) (fits : Fits (k ∷ h)) (now : ready (k.read ∷ reads h) w ≡ Some s) where
  abbrev pub moved : ℕ → Bool
  moved = changed rules net u (k.read ∷ reads h) w

  moves : (p : ℕ) → differs (making rules net u h k) (is_some (ready (reads h) w)) w p ≡ moved p
  unfolding changed offered
  moves p = rw now refl

  -- no prefix outside the scope has news
  pub passing : (scope : Scope) → k.read.scope ≡ scope → IsPlaced net scope → filter moved (places_of net scope) ≡ filter moved (places net)
  unfolding places
  passing All is placed = refl
  passing Nothing is placed = sym (filter_none moved (places net) (λ q. other_prefix rules net u (reads h) k.read w q (scoped (k ∷ h) fits) (ap (concerns q) is)))
  passing (One p) is placed =
      sym (one_passes moved p 0 (length net.prefixes) (omega arith) (omega arith)
      (λ q other. other_prefix rules net u (reads h) k.read w q (scoped (k ∷ h) fits) (ap (concerns q) is ∙ other)))

  pub over_scope : IsPlaced net k.read.scope → updates_over (making rules net u h k) (is_some (ready (reads h) w)) w (places_of net k.read.scope) ≡ moved_to (making rules net u h k) w
  over_scope placed =
      ap (map (update_of (making rules net u h k) w))
      (filter_same (differs (making rules net u h k) (is_some (ready (reads h) w)) w) moved moves (places_of net k.read.scope) ∙ passing k.read.scope refl placed)

  -- the updates over the prefixes that are asked for are all updates, too
  pub over_asked : IsPlaced net k.read.scope → updates_over (making rules net u h k) (is_some (ready (reads h) w)) w (asked net k.read.scope k.read.cause) ≡ moved_to (making rules net u h k) w
  over_asked placed = by_cause k.read.cause refl
    where
      by_cause : (cause : Cause) → k.read.cause ≡ cause → updates_over (making rules net u h k) (is_some (ready (reads h) w)) w (asked net k.read.scope cause) ≡ moved_to (making rules net u h k) w
      by_cause Originate e = over_scope placed
      by_cause Withdraw e = over_scope placed
      by_cause (Recv v t seq path) e = over_scope placed
      by_cause (Down v t) e = over_scope placed
      by_cause (Up v t) e = sym (opening_moves rules net u h k v t w fits e)
      by_cause (Ready v t) e = over_scope placed
      by_cause (Prefer v x) e = over_scope placed
      by_cause (Flush v) e = sym (flush_moves rules net u h k v w fits e)

-- ---- the three cases

pub not_closed : (cause : Cause) (w t : ℕ) → ends_with cause w ≡ false → closes cause w t ≡ false
not_closed Originate w t e = refl
not_closed Withdraw w t e = refl
not_closed (Recv v s seq path) w t e = refl
not_closed (Up v s) w t e = refl
not_closed (Ready v s) w t e = refl
not_closed (Prefer v x) w t e = refl
not_closed (Flush v) w t e = refl
not_closed (Down v s) w t e = rw e refl

pub ended_by : (cause : Cause) (w : ℕ) → ends_with cause w ≡ true → (t : ℕ) × (cause ≡ Down w t)
ended_by Originate w e = absurd (cc e)
ended_by Withdraw w e = absurd (cc e)
ended_by (Recv v s seq path) w e = absurd (cc e)
ended_by (Up v s) w e = absurd (cc e)
ended_by (Ready v s) w e = absurd (cc e)
ended_by (Prefer v x) w e = absurd (cc e)
ended_by (Flush v) w e = absurd (cc e)
ended_by (Down v s) w e = (s, ap (λ n. Down n s) (same_number v w e))

module _ (rules : Rules) (net : Net) (u : ℕ) (h : List Entry) (k : Entry) (w : ℕ) (fits : Fits (k ∷ h)) where
  pub close_none : (a : Option ℕ) → ends_with k.read.cause w ≡ false → close_sent (making rules net u h k) w a ≡ []
  close_none None e = refl
  close_none (Some t) e = rw (not_closed k.read.cause w t e) refl

  number_is : (s : ℕ) → held (reads h) w ≡ Some s → next_number rules net u h w s ≡ suc (sent_count rules net u h w s)
  number_is s e = ap suc (sym (held_count rules net u h w s fits.1 e))

  -- its news go out
  pub spoken_told : (s count : ℕ) (listener : Listener) (before after : Speech) → listener.nbr ≡ w → listener.session ≡ s → listener.sent ≡ sent_count rules net u h w s
      → ends_with k.read.cause w ≡ false → ready (k.read ∷ reads h) w ≡ Some s → TellsUpdates listener (news rules net u h k w) before after count
      → Spoken (making rules net u h k) w s before after count
  spoken_told s count listener before after nbr session so_far open_still now tells =
      let list = news rules net u h k w in
      let holds : held (k.read ∷ reads h) w ≡ Some s = ready_held (held (k.read ∷ reads h) w) (opened (k.read ∷ reads h) w) s now in
      let number = number_is s (knew k h w s fits now).0 in
      record {
        counts = tells.counts ∙ (ap (λ n. n + length list) so_far ∙ sym (count_held rules net u k h w s holds));
        sent = tells.sent ∙ ap (λ l. before.sent ++ l)
            (ap (λ x. sent_from x listener.session (suc listener.sent) list) nbr
            ∙ (ap (λ x. sent_from w x (suc listener.sent) list) session
            ∙ (ap (λ n. sent_from w s (suc n) list) so_far
            ∙ (ap (λ n. sent_from w s n list) (sym number)
            ∙ (sym (append-nil (sent_from w s (next_number rules net u h w s) list))
            ∙ (ap (λ l. updates_sent (making rules net u h k) w (Some s) ++ l) (sym (close_none (ready (reads h) w) open_still))
            ∙ ap (λ a. updates_sent (making rules net u h k) w a ++ close_sent (making rules net u h k) w (ready (reads h) w)) (sym holds)))))));
        out = tells.out ∙ ap (λ l. map going_of before.out ++ l)
            (ap (λ x. going_to x listener.session (numbered (suc listener.sent) list)) nbr
            ∙ (ap (λ x. going_to w x (numbered (suc listener.sent) list)) session
            ∙ (ap (λ n. going_to w s (numbered (suc n) list)) so_far
            ∙ (ap (λ n. going_to w s (numbered n list)) (sym number)
            ∙ ap (going_in w (told (making rules net u h k) w)) (sym holds)))));
      }

  pub updates_none : (a : Option ℕ) → news rules net u h k w ≡ [] → updates_sent (making rules net u h k) w a ≡ []
  updates_none None e = refl
  updates_none (Some t) e = ap (sent_from w t (next_number rules net u h w t)) e

  pub going_none : (a : Option ℕ) → news rules net u h k w ≡ [] → going_in w (told (making rules net u h k) w) a ≡ []
  going_none None e = refl
  going_none (Some t) e = ap (λ l. going_to w t (numbered (next_number rules net u h w t) l)) e

  count_same : (a : Option ℕ) → held (k.read ∷ reads h) w ≡ a → ends_with k.read.cause w ≡ false → news rules net u h k w ≡ []
      → sent_count rules net u (k ∷ h) w (last (k.read ∷ reads h) w) ≡ sent_count rules net u h w (last (k.read ∷ reads h) w)
  count_same None e open_still none =
      count_other rules net u k h w (last (k.read ∷ reads h) w) (λ f. absurd (cc (e, f))) (not_closed k.read.cause w (last (k.read ∷ reads h) w) open_still)
  count_same (Some t) e open_still none =
      let s = last (k.read ∷ reads h) w in
      let same : t ≡ s = held_is_last (k.read ∷ reads h) w t e in
      count_held rules net u k h w s (e ∙ ap (λ n. Some n) same) ∙ (ap (λ (l : List Update). sent_count rules net u h w s + length l) none ∙ omega arith)

  -- it tells nothing
  pub spoken_silent : (count : ℕ) (speech : Speech) → count ≡ sent_count rules net u h w (last (k.read ∷ reads h) w) → ends_with k.read.cause w ≡ false → news rules net u h k w ≡ []
      → Spoken (making rules net u h k) w (last (k.read ∷ reads h) w) speech speech count
  spoken_silent count speech so_far open_still none = record {
    counts = so_far ∙ sym (count_same (held (k.read ∷ reads h) w) refl open_still none);
    sent = sym (ap (λ l. speech.sent ++ l) (ap (λ l. l ++ close_sent (making rules net u h k) w (ready (reads h) w)) (updates_none (held (k.read ∷ reads h) w) none) ∙ close_none (ready (reads h) w) open_still) ∙ append-nil speech.sent);
    out = sym (ap (λ l. map going_of speech.out ++ l) (going_none (held (k.read ∷ reads h) w) none) ∙ append-nil (map going_of speech.out));
  }

  pub spoken_none : (count : ℕ) (speech : Speech) → count ≡ sent_count rules net u h w (last (k.read ∷ reads h) w) → ends_with k.read.cause w ≡ false → ready (k.read ∷ reads h) w ≡ None
      → Spoken (making rules net u h k) w (last (k.read ∷ reads h) w) speech speech count
  spoken_none count speech so_far open_still now = spoken_silent count speech so_far open_still (unready_news rules net u h k w fits now)

-- it closes the session
module _ (rules : Rules) (net : Net) (u : ℕ) (h : List Entry) (triggers : List Trigger) (scope : Scope) (w t : ℕ) (fits : Fits (entry triggers scope (Down w t) ∷ h)) where
  abbrev ending : Entry
  ending = entry triggers scope (Down w t)

  was_held : held (reads h) w ≡ Some t
  was_held = fits_down h scope w t fits.0

  abbrev listed : Bool → List Sent
  listed b = if b then record { to = w; session = t; seq = suc (sent_count rules net u h w t); triggers = close_list rules net u h ending w } ∷ [] else []

  held_none : held (ending.read ∷ reads h) w ≡ None
  held_none = rw (same_self w) refl

  ready_is : ready (reads h) w ≡ (if opened (reads h) w t then Some t else None)
  ready_is = rw was_held refl

  in_session : (b : Bool) → is_session (if b then Some t else None) t ≡ b
  in_session true = same_self t
  in_session false = refl

  close_is : (b : Bool) → close_sent (making rules net u h ending) w (if b then Some t else None) ≡ listed b
  close_is true =
      rw (same_self w, same_self t) (ap (λ n. record { to = w; session = t; seq = suc n; triggers = close_list rules net u h ending w } ∷ []) (sym (held_count rules net u h w t fits.1 was_held)))
  close_is false = refl

  -- it closes the session
  pub spoken_close : (count : ℕ) (before : Speech) (all : List Sent) → count ≡ sent_count rules net u h w t + close_count (opened (reads h) w t) → all ≡ before.sent ++ listed (opened (reads h) w t)
      → Spoken (making rules net u h ending) w t before (record before { sent = all }) count
  spoken_close count before all counted lists = record {
    counts = counted ∙ (ap (λ b. sent_count rules net u h w t + close_count b) (sym (in_session (opened (reads h) w t)) ∙ ap (λ a. is_session a t) (sym ready_is))
        ∙ sym (count_down rules net u triggers scope h w t fits));
    sent = lists ∙ ap (λ l. before.sent ++ l) (sym (ap (λ a. updates_sent (making rules net u h ending) w a ++ close_sent (making rules net u h ending) w (ready (reads h) w)) held_none
        ∙ (ap (close_sent (making rules net u h ending) w) ready_is ∙ close_is (opened (reads h) w t))));
    out = sym (ap (λ a. map going_of before.out ++ going_in w (told (making rules net u h ending) w) a) held_none ∙ append-nil (map going_of before.out));
  }

  last_is : last (ending.read ∷ reads h) w ≡ t
  last_is = rw (same_self w) refl

  closed_listed : (nbr session : ℕ) (b : Bool) (n : ℕ) (all : List Trigger) → nbr ≡ w → session ≡ t → n ≡ sent_count rules net u h w t → all ≡ close_list rules net u h ending w
      → (if b then record { to = nbr; session = session; seq = suc n; triggers = all } ∷ [] else []) ≡ listed b
  closed_listed nbr session b n all e f g is = rw (e, f, g, is) refl

  spoken_ending : (count : ℕ) (mark : SessionMark) (before : Speech) (all : List Sent) (together : List Trigger) → together ≡ close_list rules net u h ending w
      → Says (ending ∷ h) w (last (ending.read ∷ reads h) w) (sent_count rules net u h w (last (ending.read ∷ reads h) w)) mark
      → count ≡ mark.sent + close_count mark.opened → all ≡ before.sent ++ (if mark.opened then close_row together mark ∷ [] else [])
      → Spoken (making rules net u h ending) w (last (ending.read ∷ reads h) w) before (record before { sent = all }) count
  spoken_ending count mark before all together is says counted lists =
      let at : Says (ending ∷ h) w t (sent_count rules net u h w t) mark = subst (λ s. Says (ending ∷ h) w s (sent_count rules net u h w s) mark) last_is says in
      subst (λ s. Spoken (making rules net u h ending) w s before (record before { sent = all }) count) (sym last_is)
      (spoken_close count before all
      (counted ∙ (ap (λ n. n + close_count mark.opened) at.sent ∙ ap (λ b. sent_count rules net u h w t + close_count b) at.is_opened))
      (lists ∙ ap (λ l. before.sent ++ l) (closed_listed mark.nbr mark.session mark.opened mark.sent together at.nbr at.session at.sent is ∙ ap listed at.is_opened)))

pub spoken_closed : (rules : Rules) (net : Net) (u : ℕ) (h : List Entry) (k : Entry) (w count : ℕ) (mark : SessionMark) (before : Speech) (all : List Sent) (together : List Trigger) → Fits (k ∷ h) → ends_with k.read.cause w ≡ true → together ≡ close_list rules net u h k w
    → Says (k ∷ h) w (last (k.read ∷ reads h) w) (sent_count rules net u h w (last (k.read ∷ reads h) w)) mark
    → count ≡ mark.sent + close_count mark.opened → all ≡ before.sent ++ (if mark.opened then close_row together mark ∷ [] else [])
    → Spoken (making rules net u h k) w (last (k.read ∷ reads h) w) before (record before { sent = all }) count
spoken_closed rules net u h k w count mark before all together fits ends joined says counted lists =
    let by = ended_by k.read.cause w ends in
    let is : entry k.triggers k.read.scope (Down w by.0) ≡ k = ap (entry k.triggers k.read.scope) (sym by.1) in
    (subst (λ (k : Entry). Fits (k ∷ h) → together ≡ close_list rules net u h k w → Says (k ∷ h) w (last (k.read ∷ reads h) w) (sent_count rules net u h w (last (k.read ∷ reads h) w)) mark
    → Spoken (making rules net u h k) w (last (k.read ∷ reads h) w) before (record before { sent = all }) count) is
    (λ fits joined says. spoken_ending rules net u h k.triggers k.read.scope w by.0 fits count mark before all together joined says counted lists)) fits joined says
