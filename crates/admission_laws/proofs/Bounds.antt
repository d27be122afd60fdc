-- Numbers that fit, and counts of a log.
use Rattle.std.proofs.Common.{ℕ, suc, ◌+◌, ◌^◌, ◌<◌, ◌≤◌, Bool, true, false, cond, Some, List, [], ◌∷◌, length, ◌≡◌, ap, arith, filter}
use Rattle.std.specs.Prelude.{nat_lt, nat_le}
use Rattle.std.specs.List.{list_any}
use Rattle.std.proofs.lemmas.Bool.Decides.{nat_tests}
use Rattle.std.proofs.lemmas.List.{length-append, length-map}
use Rattle.std.proofs.lemmas.List.FromFn.{length-range_with_len}
use Rattle.topology.specs.declared.items.Sent.{Sent}
use Rattle.topology.specs.declared.names.Trigger.{Trigger}
use Rattle.topology.specs.Lists.{has}
use Rattle.topology.specs.Net.{Net, IsValid, neighbours}
use Rattle.path_vector.specs.Rules.{Rules}
use Rattle.path_vector.specs.History.{held}
use Rattle.trigger_log.specs.Entries.{Entry, reads}
use Rattle.trigger_log.specs.Pending.{pending_rows}
use Rattle.trigger_log.specs.Sending.{outbox, news, sent_count, sent_by, sent_of, is_sent_in}
use Rattle.trigger_log.specs.Fits.{Fits}
use Rattle.trigger_log.proofs.Closings.{outbox_held}
use Rattle.trigger_log.proofs.Numbering.{numbered_from_one}
use Rattle.message_fitting.specs.Names.{is_number}
use Rattle.node_core.specs.Counted.{is_long, is_long_item, is_long_row}
use Rattle.node_core.specs.NodeLimits.{marks_of}
use Rattle.topology.specs.declared.limits.TheConstants.{MOST_ENTRIES, MOST_MARKS, MOST_TRIGGERS, MOST_UPDATES}
use Rattle.admission_laws.proofs.Each.{none_first, none_last}

-- a number from 1 that has four bytes
pub number_is : (n : ℕ) → 1 ≤ n → n < 2 ^ 32 → is_number n ≡ true
number_is n one few = grind (arith, nat_tests)

-- if m is below n, the test for below passes
pub below_is : (m n : ℕ) → m < n → nat_lt m n ≡ true
below_is m n low = grind (arith, nat_tests)

-- if the test for below passes, m is below n
pub below_from : (m n : ℕ) → nat_lt m n ≡ true → m < n
below_from m n is = grind (arith, nat_tests)

-- if m is not above n, the test for it passes
pub most_is : (m n : ℕ) → m ≤ n → nat_le m n ≡ true
most_is m n low = grind (arith, nat_tests)

-- if the test for not above passes, m is not above n
pub most_from : (m n : ℕ) → nat_le m n ≡ true → m ≤ n
most_from m n is = grind (arith, nat_tests)

-- a log that is within the limits of a node
pub record Within (rules : Rules) (net : Net) (u : ℕ) (h : List Entry) : Type 0 where
  pub entries : length h ≤ MOST_ENTRIES
  pub updates : length (sent_of rules net u h) ≤ MOST_UPDATES
  pub short : list_any is_long_item (sent_of rules net u h) ≡ false

-- a log of which a report may be made: the list of held-back updates is not too long, and all lists have few triggers
pub record Reportable (rules : Rules) (net : Net) (u : ℕ) (h : List Entry) : Type 0 where
  pub rows : list_any is_long_row (pending_rows rules net u h) ≡ false
  pub marks : marks_of rules net u h ≤ MOST_MARKS

-- a list that is not too long
pub not_long : (ts : List Trigger) → is_long ts ≡ false → nat_le (length ts) MOST_TRIGGERS ≡ true
not_long ts short = grind (arith, nat_tests)

-- what a test leaves of a list is no longer than the list
pub kept_few : {A : Type 0} (test : A → Bool) (xs : List A) → length (filter test xs) ≤ length xs
kept_few test [] = omega arith
kept_few test (x ∷ xs) =
    let rest = kept_few test xs in
    elim (test x) as (λ t. length (cond t (x ∷ filter test xs) (filter test xs)) ≤ suc (length xs)) [ true ↦ omega arith | false ↦ omega arith ]

-- the entries before an entry send no more items than all do
pub fewer_before : (rules : Rules) (net : Net) (u : ℕ) (k : Entry) (h : List Entry) → length (sent_of rules net u h) ≤ length (sent_of rules net u (k ∷ h))
unfolding sent_of
fewer_before rules net u k h = omega (arith, length-append (sent_of rules net u h) (sent_by rules net u h k))

-- if no item of a log is too long, no item of the entries before the newest is
shorter_before : (rules : Rules) (net : Net) (u : ℕ) (k : Entry) (h : List Entry) → list_any is_long_item (sent_of rules net u (k ∷ h)) ≡ false → list_any is_long_item (sent_of rules net u h) ≡ false
unfolding sent_of
shorter_before rules net u k h short = none_first is_long_item (sent_of rules net u h) (sent_by rules net u h k) short

-- if no item of a log is too long, none that its newest entry lists is
pub short_items : (rules : Rules) (net : Net) (u : ℕ) (k : Entry) (h : List Entry) → list_any is_long_item (sent_of rules net u (k ∷ h)) ≡ false → list_any is_long_item (sent_by rules net u h k) ≡ false
unfolding sent_of
short_items rules net u k h short = none_last is_long_item (sent_of rules net u h) (sent_by rules net u h k) short

-- if a log is within the limits, the entries before the newest are
pub within_before : (rules : Rules) (net : Net) (u : ℕ) (k : Entry) (h : List Entry) → Within rules net u (k ∷ h) → Within rules net u h
within_before rules net u k h in_it = record {
  entries = let few = in_it.entries in omega arith;
  updates = let few = in_it.updates in let less = fewer_before rules net u k h in omega arith;
  short = shorter_before rules net u k h in_it.short;
}

module _ (rules : Rules) (net : Net) (u : ℕ) (valid : IsValid net) where
  -- a session has no more items than the log sent in all
  count_few : (h : List Entry) (w s : ℕ) → Fits h → has (neighbours net u) w ≡ true → sent_count rules net u h w s ≤ length (sent_of rules net u h)
  count_few h w s fits near =
      let count = sent_count rules net u h w s in
      let kept = filter (is_sent_in w s) (sent_of rules net u h) in
      let same = ap length (numbered_from_one rules net u h w s valid fits near) in
      let as_many = length-map kept (λ (item : Sent). item.seq) in
      let up_to = length-range_with_len 1 count in
      let less = kept_few (is_sent_in w s) (sent_of rules net u h) in
      omega arith

  -- a session has no more updates than the log sent items in all
  pub outbox_few : (h : List Entry) (w s : ℕ) → Fits h → has (neighbours net u) w ≡ true → length (outbox rules net u h w s) ≤ length (sent_of rules net u h)
  outbox_few h w s fits near = let few = count_few h w s fits near in omega arith

  -- the updates that a session had before an entry, and those of the entry, are together no more than the items sent in
  -- all
  pub said_few : (k : Entry) (h : List Entry) (w s : ℕ) → Fits (k ∷ h) → has (neighbours net u) w ≡ true → held (k.read ∷ reads h) w ≡ Some s
      → length (outbox rules net u h w s) + length (news rules net u h k w) ≤ length (sent_of rules net u (k ∷ h))
  said_few k h w s fits near holds =
      let all = outbox_few (k ∷ h) w s fits near in
      let more = ap length (outbox_held rules net u k h w s holds) in
      let both = length-append (outbox rules net u h w s) (news rules net u h k w) in
      omega arith
