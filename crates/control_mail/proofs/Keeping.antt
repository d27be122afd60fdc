-- Inboxes that show the state of all nodes, and a change of one inbox.
use Rattle.std.proofs.Common.{ℕ, zero, suc, ◌<◌, Bool, true, false, ◌==◌, ◌&&◌, Option, Some, None, IfNone, is_some, not, Result, Ok, Err, OnOk, List, [], ◌∷◌, ◌++◌, ◌≡◌, ◌≢◌, ◌⊎◌, inl, inr, ⊎_elim, refl, sym, ◌∙◌, ap, arith, true≢false, length, get_or, set, slice_get, if◌then◌else◌}
use Rattle.std.specs.BTreeSet.{BTreeSet, contains, Updates}
use Rattle.std.specs.Ordering.{nat_cmp}
use Rattle.std.proofs.lemmas.Bool.{cases_eq}
use Rattle.std.proofs.lemmas.Bool.Decides.{nat_tests}
use Rattle.std.proofs.lemmas.Option.{slice_get_within, slice_get_read}
use Rattle.control_mail.specs.declared.inbox.Inbox.{Inbox}
use Rattle.control_mail.specs.Keeping.{Stopped, Waiting, IsAbsent, IsAt, HasInbox, IsInbox, Keeps, none_stopped, none_waiting, with_stopped, with_waiting}
use Rattle.control_mail.proofs.Places.{same_some, get_set_same, get_set_other, pushed_at, still_at, end_at}

-- the node has an inbox, or no inbox is its own
pub has_or_absent : (boxes : List Inbox) (u : ℕ) → HasInbox boxes u ⊎ IsAbsent boxes u
has_or_absent [] u = inr (λ i b here. absurd (cc here))
has_or_absent (a ∷ boxes) u = ⊎_elim
    (λ (same : a.node ≡ u). inl (record { place = 0; at = record { inbox = a; here = refl; is_of = same } }))
    (λ (ne : a.node ≢ u). ⊎_elim
    (λ (has : HasInbox boxes u). inl (record { place = suc has.place; at = record { inbox = has.at.inbox; here = has.at.here; is_of = has.at.is_of } }))
    (λ (absent : IsAbsent boxes u). inr (lacks ne absent))
    (has_or_absent boxes u))
    (cases_eq a.node u)
  where
    lacks : a.node ≢ u → IsAbsent boxes u → IsAbsent (a ∷ boxes) u
    lacks ne absent zero b here same = ne (ap (λ (x : Inbox). x.node) (same_some a b here) ∙ same)
    lacks ne absent (suc i) b here same = absent i b here same

-- the same state, said in another way
pub keeps_same : (boxes : List Inbox) (s t : Stopped) (w v : Waiting) → ((u : ℕ) → s u ≡ t u) → ((u k : ℕ) → w u k ≡ v u k) → Keeps boxes s w → Keeps boxes t v
keeps_same boxes s t w v stops waits keeps = record {
  apart = keeps.apart;
  each = λ i b here. let is = keeps.each i b here in record { crashed = is.crashed ∙ stops b.node; holds = λ k. is.holds k ∙ waits b.node k };
  runs = λ u absent. sym (stops u) ∙ keeps.runs u absent;
  idle = λ u k absent. sym (waits u k) ∙ keeps.idle u k absent;
}

pub keeps_none : Keeps [] none_stopped none_waiting
keeps_none = record {
  apart = λ i j a b here there same. absurd (cc here);
  each = λ i b here. absurd (cc here);
  runs = λ u absent. refl;
  idle = λ u k absent. refl;
}

-- ---- one inbox changes, and the state of no other node does

pub record Apart (node : ℕ) (s t : Stopped) (w v : Waiting) : Type 0 where
  pub stops : (u : ℕ) → u ≢ node → t u ≡ s u
  pub waits : (u k : ℕ) → u ≢ node → v u k ≡ w u k

module _ (s t : Stopped) (w v : Waiting) where
  still : (node : ℕ) (b : Inbox) → Apart node s t w v → b.node ≢ node → IsInbox s w b → IsInbox t v b
  still node b others ne is = record {
    crashed = is.crashed ∙ sym (others.stops b.node ne);
    holds = λ k. is.holds k ∙ sym (others.waits b.node k ne);
  }

-- the inbox at a place before the change
record Was (boxes : List Inbox) (place i : ℕ) (new b : Inbox) : Type 0 where
  old : Inbox
  here : slice_get boxes i ≡ Some old
  node : old.node ≡ b.node
  is : ((i ≡ place) × (b ≡ new)) ⊎ ((i ≢ place) × (b ≡ old))

module _ (boxes : List Inbox) (place : ℕ) (a new : Inbox) (at : slice_get boxes place ≡ Some a) (same : new.node ≡ a.node) where
  inside : place < length boxes
  inside = slice_get_within boxes place a at

  was : (i : ℕ) (b : Inbox) → slice_get (set boxes place new) i ≡ Some b → Was boxes place i new b
  was i b here = ⊎_elim
      (λ (e : i ≡ place).
      let is : b ≡ new = same_some b new (sym here ∙ (ap (slice_get (set boxes place new)) e ∙ get_set_same boxes place new inside)) in
      record { old = a; here = ap (slice_get boxes) e ∙ at; node = sym same ∙ ap (λ (x : Inbox). x.node) (sym is); is = inl (e, is) })
      (λ (ne : i ≢ place).
      record { old = b; here = sym (get_set_other boxes place i new (λ e. ne (sym e))) ∙ here; node = refl; is = inr (ne, refl) })
      (cases_eq i place)

  now : (i : ℕ) (b : Inbox) → slice_get boxes i ≡ Some b → HasInbox (set boxes place new) b.node
  now i b here = ⊎_elim
      (λ (e : i ≡ place). record { place = place; at = record { inbox = new; here = get_set_same boxes place new inside; is_of = same ∙ ap (λ (x : Inbox). x.node) (same_some a b (sym at ∙ (ap (slice_get boxes) (sym e) ∙ here))) } })
      (λ (ne : i ≢ place). record { place = i; at = record { inbox = b; here = get_set_other boxes place i new (λ e. ne (sym e)) ∙ here; is_of = refl } })
      (cases_eq i place)

  -- each node that had an inbox still has one
  pub has_after : (u : ℕ) → HasInbox boxes u → HasInbox (set boxes place new) u
  has_after u has =
      let here = now has.place has.at.inbox has.at.here in
      record { place = here.place; at = record { inbox = here.at.inbox; here = here.at.here; is_of = here.at.is_of ∙ has.at.is_of } }

  absent_before : (u : ℕ) → IsAbsent (set boxes place new) u → IsAbsent boxes u
  absent_before u absent i b here is =
      let there = now i b here in
      absent there.place there.at.inbox there.at.here (there.at.is_of ∙ is)

  not_this : (u : ℕ) → IsAbsent (set boxes place new) u → u ≢ a.node
  not_this u absent e = absent place new (get_set_same boxes place new inside) (same ∙ sym e)

  pub changed : (s t : Stopped) (w v : Waiting) → Apart a.node s t w v → IsInbox t v new → Keeps boxes s w → Keeps (set boxes place new) t v
  changed s t w v others is keeps = record {
    apart = λ i j x y here there e.
        let first = was i x here in
        let second = was j y there in
        keeps.apart i j first.old second.old first.here second.here (first.node ∙ (e ∙ sym second.node));
    each = λ i b here. each_after i b (was i b here);
    runs = λ u absent. others.stops u (not_this u absent) ∙ keeps.runs u (absent_before u absent);
    idle = λ u k absent. others.waits u k (not_this u absent) ∙ keeps.idle u k (absent_before u absent);
  }
    where
      each_after : (i : ℕ) (b : Inbox) → Was boxes place i new b → IsInbox t v b
      each_after i b before = ⊎_elim
          (λ (this : (i ≡ place) × (b ≡ new)). rw this.1 is)
          (λ (other : (i ≢ place) × (b ≡ before.old)).
          let here : slice_get boxes i ≡ Some b = before.here ∙ ap Some (sym other.1) in
          still s t w v a.node b others (λ e. other.0 (keeps.apart i place b a here at e)) (keeps.each i b here))
          before.is

-- ---- one more inbox

pub has_more : (boxes : List Inbox) (new : Inbox) (u : ℕ) → HasInbox boxes u → HasInbox (boxes ++ new ∷ []) u
has_more boxes new u has = record { place = has.place; at = record { inbox = has.at.inbox; here = still_at boxes new has.place has.at.inbox has.at.here; is_of = has.at.is_of } }

pub has_new : (boxes : List Inbox) (new : Inbox) (u : ℕ) → new.node ≡ u → HasInbox (boxes ++ new ∷ []) u
has_new boxes new u same = record { place = length boxes; at = record { inbox = new; here = end_at boxes new; is_of = same } }

module _ (boxes : List Inbox) (new : Inbox) (absent : IsAbsent boxes new.node) where
  pub added : (s t : Stopped) (w v : Waiting) → Apart new.node s t w v → IsInbox t v new → Keeps boxes s w → Keeps (boxes ++ new ∷ []) t v
  added s t w v others is keeps = record {
    apart = λ i j x y here there e. ⊎_elim
        (λ (first : slice_get boxes i ≡ Some x). ⊎_elim
        (λ (second : slice_get boxes j ≡ Some y). keeps.apart i j x y first second e)
        (λ (second : (j ≡ length boxes) × (y ≡ new)). absurd (absent i x first (e ∙ ap (λ (z : Inbox). z.node) second.1)))
        (pushed_at boxes new j y there))
        (λ (first : (i ≡ length boxes) × (x ≡ new)). ⊎_elim
        (λ (second : slice_get boxes j ≡ Some y). absurd (absent j y second (sym e ∙ ap (λ (z : Inbox). z.node) first.1)))
        (λ (second : (j ≡ length boxes) × (y ≡ new)). first.0 ∙ sym second.0)
        (pushed_at boxes new j y there))
        (pushed_at boxes new i x here);
    each = λ i b here. ⊎_elim
        (λ (first : slice_get boxes i ≡ Some b). still s t w v new.node b others (absent i b first) (keeps.each i b first))
        (λ (last : (i ≡ length boxes) × (b ≡ new)). rw last.1 is)
        (pushed_at boxes new i b here);
    runs = λ u gone. others.stops u (not_new u gone) ∙ keeps.runs u (not_there u gone);
    idle = λ u k gone. others.waits u k (not_new u gone) ∙ keeps.idle u k (not_there u gone);
  }
    where
      not_new : (u : ℕ) → IsAbsent (boxes ++ new ∷ []) u → u ≢ new.node
      not_new u gone e = gone (length boxes) new (end_at boxes new) (sym e)

      not_there : (u : ℕ) → IsAbsent (boxes ++ new ∷ []) u → IsAbsent boxes u
      not_there u gone i b here e = gone i b (still_at boxes new i b here) e

-- ---- numbers that wait, and nodes that crash

if_cond : (k q : ℕ) (v : Bool) (s n : BTreeSet ℕ) → Updates nat_cmp s n k v → contains nat_cmp n q ≡ (if k == q then v else contains nat_cmp s q)
if_cond k q v s n updates = let is = updates.0 q in grind (arith, nat_tests)

not_same : (a b : ℕ) → a ≢ b → (b == a) ≡ false
not_same a b ne = grind (arith, nat_tests)

is_same : (a b : ℕ) → a ≡ b → (b == a) ≡ true
is_same a b e = grind (arith, nat_tests)

pub apart_waiting : (node number : ℕ) (new : Bool) (s : Stopped) (w : Waiting) → Apart node s s w (with_waiting node number new w)
apart_waiting node number new s w = record { stops = λ u ne. refl; waits = λ u k ne. rw (not_same u node ne) refl }

pub apart_stopped : (node : ℕ) (new : Bool) (s : Stopped) (w : Waiting) → Apart node s (with_stopped node new s) w w
apart_stopped node new s w = record { stops = λ u ne. rw (not_same u node ne) refl; waits = λ u k ne. refl }

-- the inbox after a number was added or removed
pub inbox_updated : (a new : Inbox) (number : ℕ) (value : Bool) (s : Stopped) (w : Waiting) → new.node ≡ a.node → new.crashed ≡ a.crashed → Updates nat_cmp a.waiting new.waiting number value
    → IsInbox s w a → IsInbox s (with_waiting a.node number value w) new
inbox_updated a new number value s w node crashed updates is = record {
  crashed = crashed ∙ (is.crashed ∙ ap s (sym node));
  holds = λ k. if_cond number k value a.waiting new.waiting updates ∙ holds_after k;
}
  where
    holds_after : (k : ℕ) → (if number == k then value else contains nat_cmp a.waiting k) ≡ with_waiting a.node number value w new.node k
    holds_after k = rw (node, is_same a.node a.node refl, is.holds k) refl

no_number : (s : BTreeSet ℕ) (k : ℕ) → s.keys ≡ [] → contains nat_cmp s k ≡ false
no_number s k e = rw e refl

-- ---- the inboxes after each call

pub absent_of : (o : Option ℕ) (t : Bool) (P : Type 0) → IfNone o P → is_some o ≡ not t → t ≡ true → P
absent_of None t P p is e = p
absent_of (Some i) t P p is e = absurd (true≢false (is ∙ ap not e))

-- a node without an inbox gets one
pub opened : (boxes after : List Inbox) (new : Inbox) (node : ℕ) → after ≡ boxes ++ new ∷ [] → IsAbsent boxes node → new.node ≡ node → new.crashed ≡ false → new.waiting.keys ≡ []
    → (s : Stopped) (w : Waiting) → Keeps boxes s w → Keeps after s w
opened boxes after new node is absent same runs empty s w keeps = rw is (added boxes new gone s s w w
    (record { stops = λ u ne. refl; waits = λ u k ne. refl })
    (record { crashed = runs ∙ sym (keeps.runs new.node gone); holds = λ k. no_number new.waiting k empty ∙ sym (keeps.idle new.node k gone) })
    keeps)
  where
    gone : IsAbsent boxes new.node
    gone = rw same absent

-- a node without an inbox gets one for which a number waits
pub put_new : (boxes after : List Inbox) (new : Inbox) (node number : ℕ) → after ≡ boxes ++ new ∷ [] → IsAbsent boxes node → new.node ≡ node → new.crashed ≡ false
    → ((k : ℕ) → contains nat_cmp new.waiting k ≡ (number == k)) → (s : Stopped) (w : Waiting) → Keeps boxes s w → Keeps after s (with_waiting node number true w)
put_new boxes after new node number is absent same runs one s w keeps = rw (is, ← same) (added boxes new gone s s w (with_waiting new.node number true w)
    (apart_waiting new.node number true s w)
    (record { crashed = runs ∙ sym (keeps.runs new.node gone); holds = λ k. one k ∙ alone k })
    keeps)
  where
    gone : IsAbsent boxes new.node
    gone = rw same absent

    yes_no : (t : Bool) → t ≡ (if t then true else false)
    yes_no true = refl
    yes_no false = refl

    alone : (k : ℕ) → (number == k) ≡ with_waiting new.node number true w new.node k
    alone k = rw (is_same new.node new.node refl, keeps.idle new.node k gone) (yes_no (number == k))

-- nothing is removed for a node without an inbox
pub nothing_taken : (boxes : List Inbox) (node number : ℕ) → IsAbsent boxes node → (s : Stopped) (w : Waiting) → Keeps boxes s w → Keeps boxes s (with_waiting node number false w)
nothing_taken boxes node number absent s w keeps = keeps_same boxes s s w (with_waiting node number false w) (λ u. refl) (λ u k.
    (elim (node == u) as (λ t. (node == u) ≡ t → w u k ≡ (if t && number == k then false else w u k)) [
      | true ↦ λ e.
          let at : u ≡ node = eq_of node u e in
          none (number == k) (w u k) (ap (λ n. w n k) at ∙ keeps.idle node k absent)
      | false ↦ λ e. refl
    ]) refl) keeps
  where
    none : (t b : Bool) → b ≡ false → b ≡ (if t then false else b)
    none true b e = e
    none false b e = refl

    eq_of : (a b : ℕ) → (a == b) ≡ true → b ≡ a
    eq_of a b e = grind (arith, nat_tests)

module _ (boxes : List Inbox) (node place : ℕ) (a new : Inbox) (at : IsAt boxes node place) (read : a ≡ get_or boxes place a) (same : new.node ≡ a.node) where
  here : slice_get boxes place ≡ Some a
  here = slice_get_read boxes (length boxes) place a refl (slice_get_within boxes place at.inbox at.here) read

  is_of : a.node ≡ node
  is_of = ap (λ (x : Inbox). x.node) (same_some a at.inbox (sym here ∙ at.here)) ∙ at.is_of

  pub has_set : (u : ℕ) → HasInbox boxes u → HasInbox (set boxes place new) u
  has_set = has_after boxes place a new here same

  -- a number waits in the inbox, or no longer does
  pub updated : (number : ℕ) (value : Bool) → new.crashed ≡ a.crashed → Updates nat_cmp a.waiting new.waiting number value
      → (s : Stopped) (w : Waiting) → Keeps boxes s w → Keeps (set boxes place new) s (with_waiting node number value w)
  updated number value crashed updates s w keeps = rw (← is_of) (changed boxes place a new here same s s w (with_waiting a.node number value w)
      (apart_waiting a.node number value s w)
      (inbox_updated a new number value s w same crashed updates (keeps.each place a here))
      keeps)

  -- the node crashes, or comes back
  pub turned : (value : Bool) → new.crashed ≡ value → new.waiting ≡ a.waiting
      → (s : Stopped) (w : Waiting) → Keeps boxes s w → Keeps (set boxes place new) (with_stopped node value s) w
  turned value crashed waiting s w keeps = rw (← is_of) (changed boxes place a new here same s (with_stopped a.node value s) w w
      (apart_stopped a.node value s w)
      (record { crashed = crashed ∙ now_so; holds = λ k. ap (λ l. contains nat_cmp l k) waiting ∙ (was.holds k ∙ ap (λ n. w n k) (sym same)) })
      keeps)
    where
      was : IsInbox s w a
      was = keeps.each place a here

      now_so : value ≡ with_stopped a.node value s new.node
      now_so = rw (same, is_same a.node a.node refl) refl

pub place_inside : (boxes : List Inbox) (node place : ℕ) → IsAt boxes node place → place < length boxes
place_inside boxes node place at = slice_get_within boxes place at.inbox at.here

pub on_ok : {T E : Type 0} (r : Result T E) (P Q : Type 0) → OnOk r P → (P → Q) → OnOk r Q
on_ok (Ok x) P Q p step = step p
on_ok (Err e) P Q p step = tt
