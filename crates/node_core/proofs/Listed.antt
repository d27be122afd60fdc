-- What a log lists.
use Rattle.std.proofs.Common.{ℕ, suc, ◌+◌, ◌-◌, ◌<◌, ◌≤◌, ◌⊎◌, ⊎_elim, Bool, true, false, ◌||◌, Some, List, [], ◌∷◌, ◌++◌, ◌≡◌, refl, sym, subst, ◌∙◌, ap, ap₂, arith, length, slice_get}
use Rattle.std.specs.List.{list_any}
use Rattle.topology.specs.declared.items.Sent.{Sent}
use Rattle.node_core.specs.declared.counts.Counts.{Counts}
use Rattle.topology.specs.SentLists.{marks_of}
use Rattle.node_core.specs.Counted.{is_long_item}
use Rattle.message_fitting.specs.Marks.{item_marks}
use Rattle.node_core.specs.Counting.{Adds, AreCounts}
use Rattle.message_fitting.proofs.Totals.{total_append}
use Rattle.std.proofs.lemmas.List.{length-append}
use Rattle.topology.specs.Net.{Net}
use Rattle.path_vector.specs.Rules.{Rules}
use Rattle.trigger_log.specs.declared.entries.Entry.{Entry as Shown}
use Rattle.trigger_log.specs.Entries.{Entry}
use Rattle.trigger_log.specs.Sending.{sent_by, sent_of}
use Rattle.trigger_log.specs.Entered.{Entered, all_entered, Shows}
use Rattle.message_fitting.proofs.ListedMarks.{same_marks}

-- what is there is one thing
same_some : (x y : Entered) → Some x ≡ Some y → x ≡ y
same_some x y e = cc

-- there is one for each entry
length_steps : (h : List Entry) → length (all_entered h) ≡ length h
length_steps [] = refl
length_steps (k ∷ h) = length-append (all_entered h) (record { before = h; entry = k } ∷ []) ∙ rw (length_steps h) (omega arith)

-- what is put at the end stands there
at_end : (xs : List Entered) (x : Entered) → slice_get (xs ++ x ∷ []) (length xs) ≡ Some x
at_end [] x = refl
at_end (y ∷ ys) x = at_end ys x

-- the newest entry stands at the end
pub newest : (k : Entry) (h : List Entry) → slice_get (all_entered (k ∷ h)) (length h) ≡ Some (record { before = h; entry = k })
newest k h = ap (slice_get (all_entered (k ∷ h))) (sym (length_steps h)) ∙ at_end (all_entered h) (record { before = h; entry = k })

-- there is a newest entry, where it was not dropped
pub has_newest : (index n dropped : ℕ) → index ≡ suc n → dropped ≤ n → (index ≤ dropped) ⊎ (suc n < index) → ⊥
has_newest index n dropped is few none = ⊎_elim (λ (e : index ≤ dropped). omega (arith, e, is, few)) (λ (l : suc n < index). omega arith) none

-- what is kept of the newest entry shows it
pub shows_newest : (rules : Rules) (net : Net) (u : ℕ) (k : Entry) (h : List Entry) (index : ℕ) (at : Entered) (shown : Shown) → index ≡ suc (length h)
    → slice_get (all_entered (k ∷ h)) (index - 1) ≡ Some at → Shows rules net u at shown → Shows rules net u (record { before = h; entry = k }) shown
shows_newest rules net u k h index at shown is here shows =
    let place : index - 1 ≡ length h = omega arith in
    let same : at ≡ record { before = h; entry = k } = same_some at (record { before = h; entry = k }) (sym here ∙ (ap (slice_get (all_entered (k ∷ h))) place ∙ newest k h)) in
    subst (λ (s : Entered). Shows rules net u s shown) same shows

-- ---- what entries come to

-- a test of one of them, and of the others
any_append : (xs ys : List Sent) → list_any is_long_item (xs ++ ys) ≡ (list_any is_long_item xs || list_any is_long_item ys)
any_append [] ys = refl
any_append (x ∷ xs) ys = ap (λ b. is_long_item x || b) (any_append xs ys) ∙ or_assoc (is_long_item x) (list_any is_long_item xs) (list_any is_long_item ys)
  where
    or_assoc : (a b c : Bool) → (a || (b || c)) ≡ ((a || b) || c)
    or_assoc true b c = refl
    or_assoc false b c = refl

marks_append : (xs ys : List Sent) → item_marks (xs ++ ys) ≡ item_marks xs + item_marks ys
marks_append xs ys = total_append (λ (item : Sent). length item.triggers) xs ys

-- nothing at the start
pub none_counted : (rules : Rules) (net : Net) (u : ℕ) (counts : Counts) → counts.updates ≡ 0 → counts.marks ≡ 0 → counts.has_long ≡ false → AreCounts rules net u [] counts
unfolding sent_of
none_counted rules net u counts updates marks long = record { updates = updates; marks = marks; long = long }

-- with an entry and its items
pub counted_more : (rules : Rules) (net : Net) (u : ℕ) (k : Entry) (h : List Entry) (old mid new : Counts) (shown : Shown) (n : ℕ) → AreCounts rules net u h old → Shows rules net u (record { before = h; entry = k }) shown
    → Adds shown.sent old mid → new.updates ≡ mid.updates → n ≡ length shown.triggers → new.marks ≡ mid.marks + n → new.has_long ≡ mid.has_long → AreCounts rules net u (k ∷ h) new
unfolding sent_of
counted_more rules net u k h old mid new shown n was shows adds updates many marks long = record {
  updates = updates ∙ (adds.updates ∙ (ap₂ (λ a (items : List Sent). a + length items) was.updates shows.sent ∙ sym (length-append (sent_of rules net u h) (sent_by rules net u h k))));
  marks =
      let listed : n ≡ length k.triggers = many ∙ ap length shows.triggers in
      let added : mid.marks ≡ old.marks + item_marks (sent_by rules net u h k) = adds.marks ∙ ap (λ items. old.marks + item_marks items) shows.sent in
      let so_far = was.marks in
      let both = marks_append (sent_of rules net u h) (sent_by rules net u h k) in
      omega (arith, marks, listed, added, so_far, both);
  long = long ∙ (adds.long ∙ (ap₂ (λ a (items : List Sent). a || list_any is_long_item items) was.long shows.sent ∙ sym (any_append (sent_of rules net u h) (sent_by rules net u h k))));
}

-- items more
pub adds_items : (items : List Sent) (old new : Counts) (count marks : ℕ) (long : Bool) → count ≡ length items → marks ≡ marks_of items → long ≡ list_any is_long_item items
    → new.updates ≡ old.updates + count → new.marks ≡ old.marks + marks → new.has_long ≡ (old.has_long || long) → Adds items old new
adds_items items old new count marks long counts lists any updates more either = record {
  updates = updates ∙ ap (λ n. old.updates + n) counts;
  marks = more ∙ ap (λ n. old.marks + n) (lists ∙ same_marks items);
  long = either ∙ ap (λ b. old.has_long || b) any;
}
