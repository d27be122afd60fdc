-- How many of the first kept entries of a cut list no incomplete trigger, as they are shown and as entries of the log.
use Rattle.std.proofs.Common.{ℕ, zero, suc, ◌+◌, ◌-◌, ◌≤◌, Bool, true, false, not, ◌||◌, List, [], ◌∷◌, ◌++◌, length, length-append, append_assoc, drop, take, map, ◌≡◌, refl, sym, ◌∙◌, ap, ap₂, arith}
use Rattle.std.specs.Prelude.{if◌then◌else◌}
use Rattle.std.specs.List.{AllZip, list_any}
use Rattle.topology.specs.declared.names.Trigger.{Trigger}
use Rattle.topology.specs.Triggers.{lists}
use Rattle.topology.specs.Net.{Net}
use Rattle.path_vector.specs.Rules.{Rules}
use Rattle.trigger_log.specs.declared.entries.Entry.{Entry as Shown}
use Rattle.trigger_log.specs.Dropping.{trimmed, base_of, kept_of, droppable}
use Rattle.trigger_log.specs.Entered.{Entered, all_entered, Shows}
use Rattle.trigger_log.specs.Entries.{Entry}
use Rattle.trigger_log.proofs.Droppable.{in_order, is_clean, leading, droppable_leads, kept_and_base, base_length}
use Rattle.trigger_log.proofs.Kept.{entered_on}
use Rattle.stable_table.specs.Keeping.{complete_first}
use Rattle.stable_table.proofs.Keeping.{lists_alike}
use Rattle.stable_table.proofs.Tabled.{cut_shown}

-- ---- the entries in their order

order_append : (newer base : List Entry) → in_order (newer ++ base) ≡ in_order base ++ in_order newer
order_append [] base = sym (append_nil (in_order base))
  where
    append_nil : (xs : List Entry) → xs ++ [] ≡ xs
    append_nil [] = refl
    append_nil (x ∷ xs) = ap (λ r. x ∷ r) (append_nil xs)
order_append (k ∷ newer) base = ap (λ l. l ++ k ∷ []) (order_append newer base) ∙ append_assoc (in_order base) (in_order newer) (k ∷ [])

order_length : (h : List Entry) → length (in_order h) ≡ length h
order_length [] = refl
order_length (k ∷ h) = let more = length-append (in_order h) (k ∷ []) in let before = order_length h in omega (arith, more, before)

drop_front : (xs ys : List Entry) → drop (length xs) (xs ++ ys) ≡ ys
drop_front [] ys = refl
drop_front (x ∷ xs) ys = drop_front xs ys

-- behind a base, those that are newer are left
order_behind : (newer base : List Entry) → drop (length base) (in_order (newer ++ base)) ≡ in_order newer
order_behind newer base =
    ap₂ (λ n l. drop n l) (sym (order_length base)) (order_append newer base) ∙ drop_front (in_order base) (in_order newer)

-- they are the entries one by one
order_entered : (newer base : List Entry) → map (λ (e : Entered). e.entry) (entered_on newer base) ≡ in_order newer
order_entered [] base = refl
order_entered (k ∷ newer) base = map_end (entered_on newer base) (record { before = newer ++ base; entry = k }) ∙ ap (λ l. l ++ k ∷ []) (order_entered newer base)
  where
    map_end : (xs : List Entered) (x : Entered) → map (λ (e : Entered). e.entry) (xs ++ x ∷ []) ≡ map (λ (e : Entered). e.entry) xs ++ x.entry ∷ []
    map_end [] x = refl
    map_end (y ∷ xs) x = ap (λ r. y.entry ∷ r) (map_end xs x)

-- ---- as they are shown

or_false : (b : Bool) → (b || false) ≡ b
or_false true = refl
or_false false = refl

-- as many list no incomplete trigger as are shown to
leading_shown : (rules : Rules) (net : Net) (u n : ℕ) (incomplete : List Trigger) (steps : List Entered) (shown : List Shown) → AllZip (Shows rules net u) steps shown
    → complete_first incomplete shown ≡ leading (is_clean (lists incomplete) n) (map (λ (e : Entered). e.entry) steps)
leading_shown rules net u n incomplete [] [] z = refl
leading_shown rules net u n incomplete [] (s ∷ shown) z = absurd z
leading_shown rules net u n incomplete (e ∷ steps) [] z = absurd z
leading_shown rules net u n incomplete (e ∷ steps) (s ∷ shown) z =
    let test : is_clean (lists incomplete) n e.entry ≡ not (list_any (lists incomplete) s.triggers) =
    ap (λ (ts : List Trigger). not (list_any (lists incomplete) ts)) (sym z.0.triggers) in
    let others = leading_shown rules net u n incomplete steps shown z.1 in
    (elim (list_any (lists incomplete) s.triggers) as (λ b. (if b then 0 else suc (complete_first incomplete shown)) ≡ (if not b then suc (leading (is_clean (lists incomplete) n) (map (λ (e : Entered). e.entry) steps)) else 0)) [
      | true ↦ refl
      | false ↦ ap suc others
    ]) ∙ ap (λ b. if b then suc (leading (is_clean (lists incomplete) n) (map (λ (e : Entered). e.entry) steps)) else 0) (sym test)

-- no more than there are
pub first_short : (incomplete : List Trigger) (shown : List Shown) → complete_first incomplete shown ≤ length shown
first_short incomplete [] = omega arith
first_short incomplete (s ∷ shown) =
    let others = first_short incomplete shown in
    elim (list_any (lists incomplete) s.triggers) as (λ b. (if b then 0 else suc (complete_first incomplete shown)) ≤ suc (length shown)) [ true ↦ omega arith | false ↦ omega (arith, others) ]

-- the same by any list of the same triggers
pub first_alike : (a b : List Trigger) → ((t : Trigger) → lists a t ≡ lists b t) → (shown : List Shown) → complete_first a shown ≡ complete_first b shown
first_alike a b same [] = refl
first_alike a b same (s ∷ shown) = ap₂ (λ (t : Bool) (n : ℕ). if t then 0 else suc n) (lists_alike a b same s.triggers) (first_alike a b same shown)

-- what may be dropped of the cut: what was dropped, and the first of the other entries that are complete
pub first_droppable : (rules : Rules) (net : Net) (u n cut : ℕ) (incomplete : List Trigger) (newer entries : List Entry) (all : List Shown) → AllZip (Shows rules net u) (drop n (all_entered (newer ++ entries))) all → cut ≡ length entries → n ≤ cut
    → droppable (lists incomplete) n entries ≡ n + complete_first incomplete (take (cut - n) all)
first_droppable rules net u n cut incomplete newer entries all z is within =
    let log = trimmed n entries in
    let mid = kept_of log in
    let base = base_of log in
    let short : n ≤ length entries = omega (arith, is, within) in
    let halves : mid ++ base ≡ entries = kept_and_base log in
    let size : length base ≡ n = base_length log short in
    let order : drop n (in_order entries) ≡ in_order mid = ap₂ (λ m h. drop m (in_order h)) (sym size) (sym halves) ∙ order_behind mid base in
    let counted = leading_shown rules net u n incomplete (entered_on mid base) (take (cut - n) all) (cut_shown rules net u n cut newer entries all z is within) in
    droppable_leads (lists incomplete) n entries short
    ∙ ap (λ m. n + m) (ap (leading (is_clean (lists incomplete) n)) (order ∙ sym (order_entered mid base)) ∙ sym counted)

-- a part of a list is no longer than was asked for
take_short : (n : ℕ) (shown : List Shown) → length (take n shown) ≤ n
take_short zero shown = omega arith
take_short (suc n) [] = omega arith
take_short (suc n) (s ∷ shown) = let before = take_short n shown in omega (arith, before)

pub counted_short : (incomplete : List Trigger) (n : ℕ) (shown : List Shown) → complete_first incomplete (take n shown) ≤ n
counted_short incomplete n shown = let a = first_short incomplete (take n shown) in let b = take_short n shown in omega (arith, a, b)
