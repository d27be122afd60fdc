-- What a node does, and what its snapshots are told of it.
use Rattle.std.proofs.Common.{ℕ, zero, suc, ◌<◌, ◌≤◌, ◌+◌, Bool, true, false, ◌==◌, ◌&&◌, ◌||◌, nat_le, Option, Some, None, List, [], ◌∷◌, ◌++◌, drop, length, ◌≡◌, refl, sym, ◌∙◌, ap, subst, arith, length-append}
use Rattle.std.specs.Prelude.{if◌then◌else◌, option_and_then}
use Rattle.std.proofs.lemmas.List.{append-nil, drop-append-le, drop_all}
use Rattle.std.proofs.lemmas.Bool.Decides.{nat_tests}
use Rattle.topology.specs.Net.{Net}
use Rattle.path_vector.specs.Rules.{Rules}
use Rattle.path_vector.specs.History.{held}
use Rattle.trigger_log.specs.Entries.{Entry, Update, inbox, reads}
use Rattle.trigger_log.specs.Going.{Item, News, Marker, Hello, mark_of, numbered}
use Rattle.marker_snapshot.specs.Acts.{SnapshotActs, Takes, Meets, Hears}
use Rattle.marker_snapshot.specs.Cuts.{cut_of, is_of, done, more, recorded, IsNext, Continues}
use Rattle.chronicle.specs.Facts.{Chronicle, Took}
use Rattle.chronicle.specs.Logs.{log_of}
use Rattle.chronicle.specs.Epochs.{epoch, cut}
use Rattle.chronicle.specs.Messages.{goes, took, updates, is_at_least, marked, until}
use Rattle.chronicle.specs.Recordings.{numbers}
use Rattle.chronicle.specs.Steps.{Carried, raise}
use Rattle.chronicle.proofs.Blocks.{same_number, epoch_raise, cut_raise, took_raise}
use Rattle.cut_laws.specs.Own.{Own}
use Rattle.cut_laws.proofs.Updates.{updates_append}
use Rattle.cut_laws.proofs.Marking.{until_more, until_marked}
use Rattle.cut_laws.proofs.Marked.{marked_append, unmarked_higher}
use Rattle.node_core.specs.Alike.{Alike}

-- nothing was told of a node that has done nothing
pub start_alike : (u : ℕ) → Alike [] u []
start_alike u = record {
  same_epoch = refl;
  same_cut = λ e. refl;
  same_done = λ e v s c is holds. absurd (cc is);
  same_recorded = λ e v s c is holds. absurd (cc is);
}

-- only epochs, cuts and what was taken matter
pub same_alike : (acts : SnapshotActs) (u : ℕ) (past now : Chronicle) → epoch u now ≡ epoch u past → ((e : ℕ) → cut u e now ≡ cut u e past) → ((v s : ℕ) → took v u s now ≡ took v u s past)
    → Alike acts u past → Alike acts u now
same_alike acts u past now epochs cuts items was = record {
  same_epoch = was.same_epoch ∙ sym epochs;
  same_cut = λ e. was.same_cut e ∙ sym (cuts e);
  same_done = λ e v s c is holds. was.same_done e v s c (sym (cuts e) ∙ is) holds ∙ ap (marked e) (sym (items v s));
  same_recorded = λ e v s c is holds.
      was.same_recorded e v s c (sym (cuts e) ∙ is) holds ∙ ap (λ r. numbers (drop (length (inbox c v s)) (updates (until e r)))) (sym (items v s));
}

-- an act is of the session in which its item goes
is_same : (v s u w t : ℕ) → goes w u t v u s ≡ is_of v s w t
is_same v s u w t = ap (λ b. v == w && (b && s == t)) (same_number u)

-- ---- lists of items

-- without a mark all items stand before it
all_before : (e : ℕ) (xs : List Item) → marked e xs ≡ false → until e xs ≡ xs
all_before e xs off = ap (until e) (sym (append-nil xs)) ∙ (until_more e xs [] off ∙ append-nil xs)

-- the numbers of two lists
numbers_append : (xs ys : List Item) → numbers (xs ++ ys) ≡ numbers xs ++ numbers ys
numbers_append [] ys = refl
numbers_append (News n x ∷ xs) ys = ap (λ r. n ∷ r) (numbers_append xs ys)
numbers_append (Marker e ∷ xs) ys = numbers_append xs ys
numbers_append (Hello e ∷ xs) ys = numbers_append xs ys

-- there are as many items as updates
length_numbered : (n : ℕ) (xs : List Update) → length (numbered n xs) ≡ length xs
length_numbered n [] = refl
length_numbered n (x ∷ xs) = ap suc (length_numbered (suc n) xs)

-- a test, or one that is false
or_false : (b : Bool) → (b || false) ≡ b
or_false true = refl
or_false false = refl

-- ---- an update is taken

-- no update is a mark
marked_news : (b : Bool) (e n : ℕ) (x : Update) (xs : List Item) → marked e (if b then xs ++ News n x ∷ [] else xs) ≡ marked e xs
marked_news true e n x xs = marked_append e xs (News n x ∷ []) ∙ or_false (marked e xs)
marked_news false e n x xs = refl

-- its number is recorded, unless the recording is done
recorded_news : (b : Bool) (e n : ℕ) (x : Update) (k : ℕ) (xs : List Item) (is_done : Bool) (before : List ℕ)
    → is_done ≡ marked e xs → before ≡ numbers (drop k (updates (until e xs))) → k ≤ length (updates (until e xs))
    → (if b then more is_done n before else before) ≡ numbers (drop k (updates (until e (if b then xs ++ News n x ∷ [] else xs))))
recorded_news false e n x k xs is_done before d r low = r
recorded_news true e n x k xs true before d r low =
    r ∙ ap (λ z. numbers (drop k (updates z))) (sym (until_marked e xs (News n x ∷ []) (sym d)))
recorded_news true e n x k xs false before d r low =
    let off : marked e xs ≡ false = sym d in
    let all = all_before e xs off in
    let short : k ≤ length (updates xs) = subst (λ z. k ≤ length (updates z)) all low in
    ap (λ z. z ++ n ∷ []) (r ∙ ap (λ z. numbers (drop k (updates z))) all)
    ∙ sym (ap (λ z. numbers (drop k (updates z))) (until_more e xs (News n x ∷ []) off)
    ∙ (ap (λ z. numbers (drop k z)) (updates_append xs (News n x ∷ []))
    ∙ (ap numbers (drop-append-le k (updates xs) (News n x ∷ []) short) ∙ numbers_append (drop k (updates xs)) (News n x ∷ []))))

module _ (rules : Rules) (net : Net) (u : ℕ) (past : Chronicle) (acts : SnapshotActs) (own : Own rules net past u) (was : Alike acts u past) where
  -- what a cut received was taken before the mark
  heard_so_far : (e v s : ℕ) (c : List Entry) → cut u e past ≡ Some c → length (inbox c v s) ≤ length (updates (until e (took v u s past)))
  heard_so_far e v s c is =
      let begins = own.marks.heard_before e v s c is in
      let sum : length (inbox c v s) + length begins.0 ≡ length (updates (until e (took v u s past))) =
      ap (λ n. n + length begins.0) (sym (length_numbered 1 (inbox c v s))) ∙ (sym (length-append (numbered 1 (inbox c v s)) begins.0) ∙ ap length begins.1) in
      omega (arith, sum)

  -- an update is taken
  pub news_alike : (v s n : ℕ) (x : Update) → Alike (Hears v s n ∷ acts) u (Took v u s (News n x) ∷ past)
  news_alike v s n x = record {
    same_epoch = was.same_epoch;
    same_cut = was.same_cut;
    same_done = λ e w t c is holds. was.same_done e w t c is holds ∙ sym (marked_news (goes w u t v u s) e n x (took w u t past));
    same_recorded = λ e w t c is holds.
        ap (λ b. if b then more (done e w t acts) n (recorded e w t acts) else recorded e w t acts) (sym (is_same v s u w t))
        ∙ recorded_news (goes w u t v u s) e n x (length (inbox c w t)) (took w u t past) (done e w t acts) (recorded e w t acts)
        (was.same_done e w t c is holds) (was.same_recorded e w t c is holds) (heard_so_far e w t c is);
  }

-- ---- a mark is met

-- a mark ends a recording, where it is high enough
marked_mark : (b : Bool) (e d : ℕ) (x : Item) (xs : List Item) (is_done : Bool) → mark_of x ≡ Some d → is_done ≡ marked e xs
    → (if b && nat_le e d then true else is_done) ≡ marked e (if b then xs ++ x ∷ [] else xs)
marked_mark false e d x xs is_done is same = same
marked_mark true e d x xs is_done is same =
    sym (marked_append e xs (x ∷ []) ∙ (ap (λ m. marked e xs || (is_at_least e m || false)) is ∙ (ap (λ m. m || (nat_le e d || false)) (sym same) ∙ either is_done (nat_le e d))))
  where
    either : (a b : Bool) → (a || (b || false)) ≡ (if b then true else a)
    either true true = refl
    either true false = refl
    either false true = refl
    either false false = refl

-- it is no update
no_update : (x : Item) (d : ℕ) → mark_of x ≡ Some d → updates (x ∷ []) ≡ []
no_update (News n y) d is = absurd (cc is)
no_update (Marker e) d is = refl
no_update (Hello e) d is = refl

-- nothing is recorded of it
recorded_mark : (b : Bool) (e d : ℕ) (x : Item) (xs : List Item) → mark_of x ≡ Some d → updates (until e (if b then xs ++ x ∷ [] else xs)) ≡ updates (until e xs)
recorded_mark false e d x xs is = refl
recorded_mark true e d x xs is =
    (elim (marked e xs) as (λ m. marked e xs ≡ m → updates (until e (xs ++ x ∷ [])) ≡ updates (until e xs)) [
      | true ↦ λ on. ap updates (until_marked e xs (x ∷ []) on)
      | false ↦ λ off.
          ap updates (until_more e xs (x ∷ []) off)
          ∙ (updates_append xs (until e (x ∷ [])) ∙ (ap (λ r. updates xs ++ r) (none (is_at_least e (mark_of x)))
          ∙ (append-nil (updates xs) ∙ sym (ap updates (all_before e xs off)))))
    ]) refl
  where
    none : (t : Bool) → updates (if t then [] else x ∷ []) ≡ []
    none true = refl
    none false = no_update x d is

-- a mark is met
pub mark_alike : (u : ℕ) (past : Chronicle) (acts : SnapshotActs) (v s d : ℕ) (x : Item) → mark_of x ≡ Some d → Alike acts u past → Alike (Meets v s d ∷ acts) u (Took v u s x ∷ past)
mark_alike u past acts v s d x is was = record {
  same_epoch = was.same_epoch;
  same_cut = was.same_cut;
  same_done = λ e w t c there holds.
      ap (λ b. if b && nat_le e d then true else done e w t acts) (sym (is_same v s u w t))
      ∙ marked_mark (goes w u t v u s) e d x (took w u t past) (done e w t acts) is (was.same_done e w t c there holds);
  same_recorded = λ e w t c there holds.
      was.same_recorded e w t c there holds ∙ sym (ap (λ z. numbers (drop (length (inbox c w t)) z)) (recorded_mark (goes w u t v u s) e d x (took w u t past) is));
}

-- ---- the epoch rises

-- where there is a new cut, it is the log; the older ones stay
cut_which : (e d : ℕ) (log c : List Entry) (older : Option (List Entry)) (t : Bool) → (if t then Some log else older) ≡ Some c → t ≡ true → log ≡ c
cut_which e d log c older true is on = cc is
cut_which e d log c older false is on = absurd (cc on)

module _ (rules : Rules) (net : Net) (u : ℕ) (carried : Carried) (e : ℕ) (past : Chronicle) (acts : SnapshotActs) (own : Own rules net past u) (was : Alike acts u past) (high : epoch u past < e) where
  -- no mark of the new epoch was taken
  none_yet : (v s : ℕ) → marked e (took v u s past) ≡ false
  none_yet v s = unmarked_higher (suc (epoch u past)) e (took v u s past) (omega (arith, high)) (own.marks.took_below v s)

  -- the cut of each epoch then
  then_cut : (d : ℕ) → cut u d (raise rules net carried u e past) ≡ (if e == d then Some (log_of u past) else cut u d past)
  then_cut d = cut_raise rules net carried u e past u d ∙ ap (λ b. if b && e == d then Some (log_of u past) else cut u d past) (same_number u)

  -- all that was heard is in the cut
  none_recorded : (v s : ℕ) → numbers (drop (length (inbox (log_of u past) v s)) (updates (until e (took v u s past)))) ≡ []
  none_recorded v s =
      ap (λ z. numbers (drop (length (inbox (log_of u past) v s)) (updates z))) (all_before e (took v u s past) (none_yet v s))
      ∙ (ap (λ z. numbers (drop (length (inbox (log_of u past) v s)) z)) (own.alone.heard v s)
      ∙ ap numbers (drop_all (length (inbox (log_of u past) v s)) (numbered 1 (inbox (log_of u past) v s)) (let same = length_numbered 1 (inbox (log_of u past) v s) in omega (arith, same))))

  -- a recording begins, or is as it was
  done_then : (d v s : ℕ) (c : List Entry) (t : Bool) → (e == d) ≡ t → (if t then Some (log_of u past) else cut u d past) ≡ Some c → held (reads c) v ≡ Some s
      → (if t then false else done d v s acts) ≡ marked d (took v u s past)
  done_then d v s c true same is holds = let number : e ≡ d = grind (arith, nat_tests) in subst (λ z. false ≡ marked z (took v u s past)) number (sym (none_yet v s))
  done_then d v s c false same is holds = was.same_done d v s c is holds

  -- the numbers recorded in it
  recorded_then : (d v s : ℕ) (c : List Entry) (t : Bool) → (e == d) ≡ t → (if t then Some (log_of u past) else cut u d past) ≡ Some c → held (reads c) v ≡ Some s
      → (if t then [] else recorded d v s acts) ≡ numbers (drop (length (inbox c v s)) (updates (until d (took v u s past))))
  recorded_then d v s c true same is holds =
      let number : e ≡ d = grind (arith, nat_tests) in
      let log : log_of u past ≡ c = cc is in
      subst (λ (l : List Entry). [] ≡ numbers (drop (length (inbox l v s)) (updates (until d (took v u s past))))) log
      (subst (λ z. [] ≡ numbers (drop (length (inbox (log_of u past) v s)) (updates (until z (took v u s past))))) number (sym (none_recorded v s)))
  recorded_then d v s c false same is holds = was.same_recorded d v s c is holds

  -- the epoch rises
  pub rise_alike : Alike (Takes e (log_of u past) ∷ acts) u (raise rules net carried u e past)
  rise_alike = record {
    same_epoch = sym (epoch_raise rules net carried u e past u ∙ ap (λ b. if b then e else epoch u past) (same_number u));
    same_cut = λ d. ap (λ z. if e == d then Some (log_of u past) else z) (was.same_cut d) ∙ sym (then_cut d);
    same_done = λ d v s c is holds.
        done_then d v s c (e == d) refl (sym (then_cut d) ∙ is) holds ∙ ap (marked d) (sym (took_raise rules net carried u e past v u s));
    same_recorded = λ d v s c is holds.
        recorded_then d v s c (e == d) refl (sym (then_cut d) ∙ is) holds
        ∙ ap (λ r. numbers (drop (length (inbox c v s)) (updates (until d r)))) (sym (took_raise rules net carried u e past v u s));
  }

-- ---- an update continues the recordings

-- the next number of updates that are numbered
next_all : (m n : ℕ) (xs : List Update) → n ≡ m + length xs → IsNext n (numbers (numbered m xs))
next_all m n [] is = tt
next_all m n (x ∷ []) is = omega (arith, is)
next_all m n (x ∷ y ∷ ys) is = next_all (suc m) n (y ∷ ys) (omega (arith, is))

-- the same without the first ones
next_numbered : (m k n : ℕ) (xs : List Update) → n ≡ m + length xs → IsNext n (numbers (drop k (numbered m xs)))
next_numbered m zero n xs is = next_all m n xs is
next_numbered m (suc k) n [] is = tt
next_numbered m (suc k) n (x ∷ xs) is = next_numbered (suc m) k n xs (omega (arith, is))

module _ (rules : Rules) (net : Net) (u : ℕ) (past : Chronicle) (acts : SnapshotActs) (own : Own rules net past u) (was : Alike acts u past) where
  -- the next update of a session continues each recording of it that is not done
  pub continues : (v s n : ℕ) → n ≡ suc (length (inbox (log_of u past) v s)) → Continues acts v s n
  continues v s n turn = record {
    from_one = omega (arith, turn);
    each = λ e in_cut going. by_cut e (cut_of e acts) refl in_cut going;
  }
    where
      by_cut : (e : ℕ) (o : Option (List Entry)) → cut_of e acts ≡ o → option_and_then (λ c. held (reads c) v) o ≡ Some s → done e v s acts ≡ false → IsNext n (recorded e v s acts)
      by_cut e None is in_cut going = absurd (cc in_cut)
      by_cut e (Some c) is in_cut going =
          let there = sym (was.same_cut e) ∙ is in
          let off : marked e (took v u s past) ≡ false = sym (was.same_done e v s c there in_cut) ∙ going in
          let all = was.same_recorded e v s c there in_cut
          ∙ (ap (λ z. numbers (drop (length (inbox c v s)) (updates z))) (all_before e (took v u s past) off)
          ∙ ap (λ z. numbers (drop (length (inbox c v s)) z)) (own.alone.heard v s)) in
          subst (IsNext n) (sym all) (next_numbered 1 (length (inbox c v s)) n (inbox (log_of u past) v s) (omega (arith, turn)))
