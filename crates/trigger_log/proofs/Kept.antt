-- The kept entries of a log: adding one, finding one by its place, and dropping more.
use Rattle.std.proofs.Common.{Bool, true, not, ℕ, zero, suc, ◌+◌, ◌-◌, ◌<◌, ◌≤◌, ◌⊎◌, ◌↔◌, ⊎_elim, inr, nat_lt, is_some, IsNone, IsSome, Option, Some, None, get_or, List, [], ◌∷◌, ◌++◌, length, take, drop, fold, ◌≡◌, refl, sym, ◌∙◌, ap, ap₂, subst, append_assoc, append-nil, arith, slice_get}
use Rattle.std.specs.List.{AllZip}
use Rattle.std.proofs.lemmas.Bool.Decides.{nat_tests}
use Rattle.std.proofs.lemmas.List.{length-append}
use Rattle.std.proofs.lemmas.Option.{same_Some}
use Rattle.std.proofs.lemmas.Slice.Zip.{AllZip-long}
use Rattle.topology.specs.Net.{Net}
use Rattle.path_vector.specs.Rules.{Rules}
use Rattle.path_vector.specs.History.{Change, History}
use Rattle.path_vector.specs.Parts.{Accepted}
use Rattle.path_vector.specs.Standing.{StandsFor as RoutesStandFor}
use Rattle.path_vector.specs.declared.state.RouteState.{RouteState}
use Rattle.trigger_log.specs.declared.entries.Entry.{Entry as Shown}
use Rattle.trigger_log.specs.declared.kept_entries.KeptEntries.{KeptEntries}
use Rattle.trigger_log.specs.Dropping.{trimmed, base_of, kept_of}
use Rattle.trigger_log.specs.Entered.{Entered, all_entered, Shows}
use Rattle.trigger_log.specs.Entries.{Entry, reads}
use Rattle.trigger_log.specs.Fits.{Fits}
use Rattle.trigger_log.specs.KeptEntries.{KeepsEntries, TakesAll, dropped_before, taken}
use Rattle.trigger_log.proofs.Droppable.{base_length, base_stays, kept_and_base}
use Rattle.trigger_log.proofs.Holding.{accepted}
use Rattle.trigger_log.proofs.Reading.{count_steps}
use Rattle.trigger_log.proofs.Zips.{fold_append, zip_push, zip_split}

-- one more at the end stays, where only others are left out
drop_more : {A : Type 0} (n : ℕ) (xs : List A) (x : A) → n ≤ length xs → drop n (xs ++ x ∷ []) ≡ drop n xs ++ x ∷ []
drop_more zero xs x le = refl
drop_more (suc n) [] x le = absurd (omega (arith, le))
drop_more (suc n) (y ∷ xs) x le = drop_more n xs x (omega (arith, le))

-- the rest is shorter by what is left out
drop_long : {A : Type 0} (n : ℕ) (xs : List A) → length (drop n xs) ≡ length xs - n
drop_long zero xs = omega arith
drop_long (suc n) [] = omega arith
drop_long (suc n) (y ∷ xs) = let before = drop_long n xs in omega (arith, before)

pub drop_all : {A : Type 0} (n : ℕ) (xs : List A) → length xs ≤ n → drop n xs ≡ []
drop_all zero [] le = refl
drop_all zero (y ∷ xs) le = absurd (omega (arith, le))
drop_all (suc n) [] le = refl
drop_all (suc n) (y ∷ xs) le = drop_all n xs (omega (arith, le))

-- the rest from a place on begins with the element there
pub drop_next : {A : Type 0} (xs : List A) (i : ℕ) (x : A) → i < length xs → x ≡ get_or xs i x → drop i xs ≡ x ∷ drop (suc i) xs
drop_next [] i x below is = absurd (omega arith)
drop_next (y ∷ xs) zero x below is = ap (λ z. z ∷ xs) (sym is)
drop_next (y ∷ xs) (suc i) x below is = drop_next xs i x (omega arith) is

-- the two parts of a list, by the length of the first part
drop_front : {A : Type 0} (xs ys : List A) → drop (length xs) (xs ++ ys) ≡ ys
drop_front [] ys = refl
drop_front (x ∷ xs) ys = drop_front xs ys

take_front : {A : Type 0} (xs ys : List A) → take (length xs) (xs ++ ys) ≡ xs
take_front [] ys = refl
take_front (x ∷ xs) ys = ap (λ l. x ∷ l) (take_front xs ys)

-- the rest of a reversed list, without its end
pub rotated : {A : Type 0} (n m : ℕ) (xs : List A) → m ≡ length xs → take (m - n) (drop n xs ++ take n xs) ≡ drop n xs
rotated n m xs is =
    ap (λ k. take k (drop n xs ++ take n xs)) (ap (λ k. k - n) is ∙ sym (drop_long n xs)) ∙ take_front (drop n xs) (take n xs)

not_none : {A : Type 0} (x : Option A) → IsSome x → x ≡ None → ⊥
not_none None some none = cc
not_none (Some x) some none = cc

-- an option that is none
pub none_is : {A : Type 0} (x : Option A) (none : Bool) → is_some x ≡ not none → none ≡ true → x ≡ None
none_is None none is e = refl
none_is (Some x) none is e = cc

-- one more entry
pub keeps_more : {P : Type 0} (policy : P) (rules : Rules) (net : Net) (u : ℕ) (h : List Entry) (k : Entry) (shown : Shown) (old new : KeptEntries P) → KeepsEntries policy rules net u old h
    → Shows rules net u (record { before = h; entry = k }) shown → IsSome old.base → new.base ≡ old.base → new.from ≡ old.from → new.next ≡ suc old.next → new.entries.items ≡ old.entries.items ++ shown ∷ []
    → KeepsEntries policy rules net u new (k ∷ h)
keeps_more policy rules net u h k shown old new was shows based base from next entries =
    let n = dropped_before old in
    let same : dropped_before new ≡ n = ap (λ m. m - 1) from in
    record {
      counted = subst (λ m. 1 ≤ m) (sym from) was.counted;
      next = next ∙ ap suc was.next;
      within = subst (λ m. m ≤ suc (length h)) (sym same) (let le = was.within in omega (arith, le));
      routes = λ kept is. subst (λ m. RoutesStandFor policy net u kept (reads (base_of (trimmed m (k ∷ h))))) (sym same)
          (subst (λ b. RoutesStandFor policy net u kept (reads b)) (sym (base_stays n k h was.within)) (was.routes kept (sym base ∙ is)));
      whole = λ none. absurd (not_none old.base based (sym base ∙ none));
      shown = subst (λ m. AllZip (Shows rules net u) (drop m (all_entered (k ∷ h))) new.entries.items) (sym same)
          (subst (AllZip (Shows rules net u) (drop n (all_entered (k ∷ h)))) (sym entries)
          (subst (λ l. AllZip (Shows rules net u) l (old.entries.items ++ shown ∷ []))
          (sym (drop_more n (all_entered h) (record { before = h; entry = k }) (let le = was.within in let long = count_steps h in omega (arith, le, long))))
          (zip_push (Shows rules net u) (drop n (all_entered h)) old.entries.items (record { before = h; entry = k }) shown was.shown shows)));
    }

-- ---- kept entries by place

-- the element at a place of the rest
get_behind : {A : Type 0} (n i : ℕ) (xs : List A) → slice_get (drop n xs) i ≡ slice_get xs (n + i)
get_behind zero i xs = let same : zero + i ≡ i = omega arith in ap (slice_get xs) (sym same)
get_behind (suc n) i [] = refl
get_behind (suc n) i (y ∷ xs) = let same : suc n + i ≡ suc (n + i) = omega arith in get_behind n i xs ∙ ap (slice_get (y ∷ xs)) (sym same)

-- the kept entry at a place is the entry of the log at its index
pub kept_at : (h : List Entry) (one : Entered) (from index place : ℕ) → 1 ≤ from → from ≤ index → place ≡ index - from → slice_get (drop (from - 1) (all_entered h)) place ≡ Some one
    → slice_get (all_entered h) (index - 1) ≡ Some one
kept_at h one from index place counted above is at =
    let same : (from - 1) + place ≡ index - 1 = omega (arith, counted, above, is) in
    ap (slice_get (all_entered h)) (sym same) ∙ (sym (get_behind (from - 1) place (all_entered h)) ∙ at)

-- how many are kept
pub kept_long : {P : Type 0} (policy : P) (rules : Rules) (net : Net) (u : ℕ) (kept : KeptEntries P) (h : List Entry) → KeepsEntries policy rules net u kept h
    → length kept.entries.items ≡ length h - dropped_before kept
kept_long policy rules net u kept h was =
    AllZip-long (Shows rules net u) (drop (dropped_before kept) (all_entered h)) kept.entries.items was.shown
    ∙ (drop_long (dropped_before kept) (all_entered h) ∙ ap (λ m. m - dropped_before kept) (count_steps h))

-- there is no entry at a place that was dropped, or past the last one
pub none_kept : {B : Type 0} (r : Option B) (long from index place : ℕ) → is_some r ≡ nat_lt place (long - (from - 1)) → 1 ≤ from → from - 1 ≤ long → from ≤ index → place ≡ index - from
    → IsNone r ↔ ((index ≤ from - 1) ⊎ (long < index))
none_kept None long from index place within counted short above is =
    (λ none. inr (let out : long - (from - 1) ≤ place = grind (arith, nat_tests, within) in omega (arith, out, counted, short, above, is)), λ past. refl)
none_kept (Some x) long from index place within counted short above is =
    let inside : place < long - (from - 1) = grind (arith, nat_tests, within) in
    (λ none. absurd (cc none), λ past. absurd (⊎_elim (λ (e : index ≤ from - 1). omega (arith, e, counted, above)) (λ (e : long < index). omega (arith, e, inside, counted, short, above, is)) past))

-- ---- dropping more

-- the entries of a log after a base, one by one, the oldest first
abbrev pub entered_on : List Entry → List Entry → List Entered
entered_on [] base = []
entered_on (k ∷ newer) base = entered_on newer base ++ record { before = newer ++ base; entry = k } ∷ []

-- they are what is left of all entries without the base
pub on_base : (newer base : List Entry) → drop (length base) (all_entered (newer ++ base)) ≡ entered_on newer base
on_base [] base = drop_all (length base) (all_entered base) (let long = count_steps base in omega (arith, long))
on_base (k ∷ newer) base =
    let long = count_steps (newer ++ base) in
    let both = length-append newer base in
    drop_more (length base) (all_entered (newer ++ base)) (record { before = newer ++ base; entry = k }) (omega (arith, long, both))
    ∙ ap (λ l. l ++ record { before = newer ++ base; entry = k } ∷ []) (on_base newer base)

entered_long : (newer base : List Entry) → length (entered_on newer base) ≡ length newer
entered_long [] base = refl
entered_long (k ∷ newer) base =
    let before = entered_long newer base in
    let one = length-append (entered_on newer base) (record { before = newer ++ base; entry = k } ∷ []) in
    omega (arith, before, one)

-- the entries after a base, split in two
entered_parts : (newer mid base : List Entry) → entered_on (newer ++ mid) base ≡ entered_on mid base ++ entered_on newer (mid ++ base)
entered_parts [] mid base = sym (append-nil (entered_on mid base))
entered_parts (k ∷ newer) mid base =
    ap₂ (λ l b. l ++ record { before = b; entry = k } ∷ []) (entered_parts newer mid base) (append_assoc newer mid base)
    ∙ append_assoc (entered_on mid base) (entered_on newer (mid ++ base)) (record { before = newer ++ (mid ++ base); entry = k } ∷ [])

-- shown entries on a base come before the others
pub first_shown : (rules : Rules) (net : Net) (u : ℕ) (newer mid base : List Entry) (shown : List Shown) → AllZip (Shows rules net u) (drop (length base) (all_entered (newer ++ (mid ++ base)))) shown
    → AllZip (Shows rules net u) (entered_on mid base) (take (length mid) shown)
first_shown rules net u newer mid base shown z =
    let all = subst (λ l. AllZip (Shows rules net u) l shown)
    (ap (λ h. drop (length base) (all_entered h)) (sym (append_assoc newer mid base)) ∙ (on_base (newer ++ mid) base ∙ entered_parts newer mid base)) z in
    let parts = zip_split (Shows rules net u) (entered_on mid base) (entered_on newer (mid ++ base)) shown all in
    let size : length parts.0 ≡ length mid = AllZip-long (Shows rules net u) (entered_on mid base) parts.0 parts.3 ∙ entered_long mid base in
    subst (AllZip (Shows rules net u) (entered_on mid base)) (sym (ap₂ (λ n l. take n l) (sym size) (sym parts.2) ∙ take_front parts.0 parts.1)) parts.3

-- what routing reads from the shown entries
pub taken_all : (rules : Rules) (net : Net) (u : ℕ) (mid base : List Entry) (shown : List Shown) (past : History) → AllZip (Shows rules net u) (entered_on mid base) shown
    → fold taken past shown ≡ reads mid ++ past
taken_all rules net u [] base [] past z = refl
taken_all rules net u [] base (s ∷ shown) past z = absurd z
taken_all rules net u (k ∷ mid) base shown past z =
    let parts = zip_split (Shows rules net u) (entered_on mid base) (record { before = mid ++ base; entry = k } ∷ []) shown z in
    ap (fold taken past) (sym parts.2)
    ∙ (fold_append taken past parts.0 parts.1
    ∙ (ap (λ before. fold taken before parts.1) (taken_all rules net u mid base parts.0 past parts.3) ∙ last parts.1 parts.4))
  where
    last : (bs : List Shown) → AllZip (Shows rules net u) (record { before = mid ++ base; entry = k } ∷ []) bs → fold taken (reads mid ++ past) bs ≡ k.read ∷ (reads mid ++ past)
    last [] z = absurd z
    last (b ∷ []) z = ap (λ (c : Change). c ∷ (reads mid ++ past)) z.0.read
    last (b ∷ c ∷ bs) z = absurd z.1

-- what routing reads from a log split in two
pub reads_parts : (mid base : List Entry) → reads mid ++ reads base ≡ reads (mid ++ base)
reads_parts [] base = refl
reads_parts (k ∷ mid) base = ap (λ (r : History). k.read ∷ r) (reads_parts mid base)

-- the base of a log split in two
pub base_is : (newer base : List Entry) → base_of (trimmed (length base) (newer ++ base)) ≡ base
base_is newer base =
    let both = length-append newer base in
    let first : length (newer ++ base) - length base ≡ length newer = omega (arith, both) in
    ap (λ n. drop n (newer ++ base)) first ∙ drop_front newer base

-- the first part of a log is a log
pub fits_before : (newer entries : List Entry) → Fits (newer ++ entries) → Fits entries
fits_before [] entries f = f
fits_before (k ∷ newer) entries f = fits_before newer entries f.1

pub all_accepted : (h : List Entry) → Fits h → Accepted (reads h)
all_accepted [] f = tt
all_accepted (k ∷ h) f = (accepted h k.read.scope k.read.cause f.1 f.0, all_accepted h f.1)

-- if a longer list can be a log, so can its first part
pub accepted_before : (past : History) (es : List Shown) → Accepted (fold taken past es) → Accepted past
accepted_before past [] a = a
accepted_before past (e ∷ es) a = (accepted_before (taken past e) es a).1

module _ {P : Type 0} (policy : P) (rules : Rules) (net : Net) (u : ℕ) (old new : KeptEntries P) where
  -- what is kept after the entries in the middle are dropped
  pub keeps_fewer : (newer mid base : List Entry) (first_base next_base : RouteState P) → old.base ≡ Some first_base → new.base ≡ Some next_base → KeepsEntries policy rules net u old (newer ++ (mid ++ base)) → Fits (newer ++ (mid ++ base)) → dropped_before old ≡ length base → new.from ≡ old.from + length mid → new.next ≡ old.next
      → (Accepted (fold taken (reads base) (take (length mid) old.entries.items)) → RoutesStandFor policy net u first_base (reads base) → RoutesStandFor policy net u next_base (fold taken (reads base) (take (length mid) old.entries.items)))
      → new.entries.items ≡ drop (length mid) old.entries.items → KeepsEntries policy rules net u new (newer ++ (mid ++ base))
  keeps_fewer newer mid base first_base next_base had has was fitting count from next routes entries =
      let counted = was.counted in
      let long = length-append mid base in
      let both = length-append newer (mid ++ base) in
      let now : dropped_before new ≡ length (mid ++ base) = ap (λ m. m - 1) from ∙ omega (arith, counted, count, long) in
      let items = old.entries.items in
      let all : AllZip (Shows rules net u) (entered_on mid base ++ entered_on newer (mid ++ base)) items =
      subst (λ l. AllZip (Shows rules net u) l items)
      (ap₂ (λ n h. drop n (all_entered h)) count (sym (append_assoc newer mid base)) ∙ (on_base (newer ++ mid) base ∙ entered_parts newer mid base)) was.shown in
      let parts = zip_split (Shows rules net u) (entered_on mid base) (entered_on newer (mid ++ base)) items all in
      let size : length parts.0 ≡ length mid = AllZip-long (Shows rules net u) (entered_on mid base) parts.0 parts.3 ∙ entered_long mid base in
      let first : take (length mid) items ≡ parts.0 = ap₂ (λ n l. take n l) (sym size) (sym parts.2) ∙ take_front parts.0 parts.1 in
      let rest : drop (length mid) items ≡ parts.1 = ap₂ (λ n l. drop n l) (sym size) (sym parts.2) ∙ drop_front parts.0 parts.1 in
      let read : fold taken (reads base) (take (length mid) items) ≡ reads (mid ++ base) =
      ap (fold taken (reads base)) first ∙ (taken_all rules net u mid base parts.0 (reads base) parts.3 ∙ reads_parts mid base) in
      let before : RoutesStandFor policy net u first_base (reads base) =
      subst (λ b. RoutesStandFor policy net u first_base (reads b))
      (ap₂ (λ n h. base_of (trimmed n h)) count (sym (append_assoc newer mid base)) ∙ base_is (newer ++ mid) base) (was.routes first_base had) in
      let after = routes (subst Accepted (sym read) (all_accepted (mid ++ base) (fits_before newer (mid ++ base) fitting))) before in
      record {
        counted = subst (λ m. 1 ≤ m) (sym from) (omega (arith, counted));
        next = next ∙ was.next;
        within = subst (λ m. m ≤ length (newer ++ (mid ++ base))) (sym now) (omega (arith, both));
        routes = λ kept is. let same : next_base ≡ kept = same_Some next_base kept (sym has ∙ is) in
            subst (λ r. RoutesStandFor policy net u r (reads (base_of (trimmed (dropped_before new) (newer ++ (mid ++ base)))))) same
            (subst (λ b. RoutesStandFor policy net u next_base (reads b)) (sym (ap (λ n. base_of (trimmed n (newer ++ (mid ++ base)))) now ∙ base_is newer (mid ++ base)))
            (subst (RoutesStandFor policy net u next_base) read after));
        whole = λ none. absurd (let clash = sym has ∙ none in cc);
        shown = subst (λ n. AllZip (Shows rules net u) (drop n (all_entered (newer ++ (mid ++ base)))) new.entries.items) (sym now)
            (subst (λ l. AllZip (Shows rules net u) l new.entries.items) (sym (on_base newer (mid ++ base)))
            (subst (AllZip (Shows rules net u) (entered_on newer (mid ++ base))) (sym (entries ∙ rest)) parts.4));
      }

  -- what is kept after all are dropped
  pub keeps_none : (h : List Entry) → KeepsEntries policy rules net u old h → new.base ≡ None → new.from ≡ old.next → new.next ≡ old.next → new.entries.items ≡ []
      → KeepsEntries policy rules net u new h
  keeps_none h was none from next entries =
      let place : new.from ≡ suc (length h) = from ∙ was.next in
      let now : dropped_before new ≡ length h = omega (arith, place) in
      record {
        counted = subst (λ m. 1 ≤ m) (sym place) (omega arith);
        next = next ∙ was.next;
        within = subst (λ m. m ≤ length h) (sym now) (omega arith);
        routes = λ kept is. absurd (let clash = sym none ∙ is in cc);
        whole = λ none. now;
        shown = subst (λ n. AllZip (Shows rules net u) (drop n (all_entered h)) new.entries.items) (sym now)
            (subst (AllZip (Shows rules net u) (drop (length h) (all_entered h))) (sym entries)
            (subst (λ l. AllZip (Shows rules net u) l []) (sym (drop_all (length h) (all_entered h) (let long = count_steps h in omega (arith, long)))) tt));
      }

  -- what is kept where nothing was, and nothing is dropped
  pub keeps_nothing : (h : List Entry) (place : ℕ) → KeepsEntries policy rules net u old h → old.base ≡ None → new.base ≡ None → old.from ≤ place → place ≤ suc (length h) → new.from ≡ place → new.next ≡ old.next
      → (old.from ≡ place → new.entries.items ≡ old.entries.items) → KeepsEntries policy rules net u new h
  keeps_nothing h place was none none_now above below from next entries =
      let counted = was.counted in
      let whole = was.whole none in
      let same : old.from ≡ place = omega (arith, counted, whole, above, below) in
      let still : dropped_before new ≡ dropped_before old = ap (λ n. n - 1) (from ∙ sym same) in
      record {
        counted = subst (λ m. 1 ≤ m) (same ∙ sym from) counted;
        next = next ∙ was.next;
        within = subst (λ m. m ≤ length h) (sym still) was.within;
        routes = λ kept is. absurd (let clash = sym none_now ∙ is in cc);
        whole = λ e. still ∙ whole;
        shown = subst (λ n. AllZip (Shows rules net u) (drop n (all_entered h)) new.entries.items) (sym still)
            (subst (AllZip (Shows rules net u) (drop (dropped_before old) (all_entered h))) (sym (entries same)) was.shown);
      }

  -- what is kept once the routes after the dropped entries are
  pub keeps_based : (h : List Entry) (next_base : RouteState P) → KeepsEntries policy rules net u old h → old.base ≡ None → new.base ≡ Some next_base → RoutesStandFor policy net u next_base (reads h) → new.from ≡ old.from
      → new.next ≡ old.next → new.entries.items ≡ old.entries.items → KeepsEntries policy rules net u new h
  keeps_based h next_base was none has stands from next entries =
      let still : dropped_before new ≡ dropped_before old = ap (λ n. n - 1) from in
      let all : dropped_before new ≡ length h = still ∙ was.whole none in
      let whole : base_of (trimmed (length h) h) ≡ h = let none : length h - length h ≡ 0 = omega arith in ap (λ n. drop n h) none in
      record {
        counted = subst (λ m. 1 ≤ m) (sym from) was.counted;
        next = next ∙ was.next;
        within = subst (λ m. m ≤ length h) (sym still) was.within;
        routes = λ kept is. let same : next_base ≡ kept = same_Some next_base kept (sym has ∙ is) in
            subst (λ r. RoutesStandFor policy net u r (reads (base_of (trimmed (dropped_before new) h)))) same
            (subst (λ n. RoutesStandFor policy net u next_base (reads (base_of (trimmed n h)))) (sym all)
            (subst (λ b. RoutesStandFor policy net u next_base (reads b)) (sym whole) stands));
        whole = λ gone. all;
        shown = subst (λ n. AllZip (Shows rules net u) (drop n (all_entered h)) new.entries.items) (sym still)
            (subst (AllZip (Shows rules net u) (drop (dropped_before old) (all_entered h))) (sym entries) was.shown);
      }

  -- the same by places: all entries before this place are dropped
  pub keeps_from : (h : List Entry) (place asked : ℕ) (first_base next_base : RouteState P) → old.base ≡ Some first_base → new.base ≡ Some next_base → KeepsEntries policy rules net u old h → Fits h → old.from ≤ place → place ≤ suc (length h) → asked ≡ place - old.from → new.from ≡ place → new.next ≡ old.next
      → ((past : History) → Accepted (fold taken past (take asked old.entries.items)) → RoutesStandFor policy net u first_base past → RoutesStandFor policy net u next_base (fold taken past (take asked old.entries.items)))
      → new.entries.items ≡ drop asked old.entries.items → KeepsEntries policy rules net u new h
  keeps_from h place asked first_base next_base had has was fitting above below is from next routes entries =
      let counted = was.counted in
      let log = trimmed (place - 1) h in
      let newer = kept_of log in
      let rest = base_of log in
      let short : place - 1 ≤ length h = omega (arith, below) in
      let size : length rest ≡ place - 1 = base_length log short in
      let whole : newer ++ rest ≡ h = kept_and_base log in
      let mid = take asked rest in
      let base = drop asked rest in
      let halves : mid ++ base ≡ rest = take_drop asked rest in
      let left : length base ≡ length rest - asked = drop_long asked rest in
      let count : dropped_before old ≡ length base = omega (arith, left, size, is, counted, above) in
      let total : length (mid ++ base) ≡ length rest = ap length halves in
      let parts = length-append mid base in
      let taken_long : length mid ≡ asked = omega (arith, parts, total, left, size, is, counted, above) in
      let log_is : newer ++ (mid ++ base) ≡ h = ap (λ l. newer ++ l) halves ∙ whole in
      subst (KeepsEntries policy rules net u new) log_is
      (keeps_fewer newer mid base first_base next_base had has (subst (KeepsEntries policy rules net u old) (sym log_is) was) (subst Fits (sym log_is) fitting) count
      (from ∙ omega (arith, taken_long, is, above)) next
      (subst (λ n. Accepted (fold taken (reads base) (take n old.entries.items)) → RoutesStandFor policy net u first_base (reads base) → RoutesStandFor policy net u next_base (fold taken (reads base) (take n old.entries.items))) (sym taken_long) (routes (reads base)))
      (entries ∙ ap (λ n. drop n old.entries.items) (sym taken_long)))
    where
      take_drop : (n : ℕ) (xs : List Entry) → take n xs ++ drop n xs ≡ xs
      take_drop zero xs = refl
      take_drop (suc n) [] = refl
      take_drop (suc n) (x ∷ xs) = ap (λ r. x ∷ r) (take_drop n xs)

  -- the same, whether a base is kept or not
  pub keeps_after : (h : List Entry) (place asked : ℕ) → KeepsEntries policy rules net u old h → Fits h → old.from ≤ place → place ≤ suc (length h) → asked ≡ place - old.from → new.from ≡ place → new.next ≡ old.next
      → (base : Option (RouteState P)) → old.base ≡ base → TakesAll base new.base (take asked old.entries.items) → new.entries.items ≡ drop asked old.entries.items → KeepsEntries policy rules net u new h
  keeps_after h place asked was fitting above below is from next None none none_now entries =
      keeps_nothing h place was none none_now above below from next
      (λ same. entries ∙ ap (λ n. drop n old.entries.items) (let zero_now : asked ≡ 0 = omega (arith, is, same) in zero_now))
  keeps_after h place asked was fitting above below is from next (Some first_base) had takes entries =
      keeps_from h place asked first_base takes.0 had takes.1 was fitting above below is from next
      (λ past accepted stands. takes.2 policy net u past stands accepted) entries
