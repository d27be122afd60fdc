-- The counts of a node, and the numbers that they may not be above.
use Rattle.std.proofs.Common.{ℕ, ◌+◌, ap₂, ◌≡◌, ◌<◌, ◌≤◌, Bool, true, false, ◌==◌, ◌&&◌, ◌||◌, nat_le, nat_lt, Some, None, List, [], ◌∷◌, refl, sym, ◌∙◌, ap, arith, length, length-append}
use Rattle.std.specs.Prelude.{if◌then◌else◌}
use Rattle.std.specs.List.{list_any}
use Rattle.std.proofs.lemmas.Bool.Decides.{nat_tests}
use Rattle.topology.specs.declared.names.Trigger.{Trigger}
use Rattle.topology.specs.declared.names.Scope.{Scope}
use Rattle.topology.specs.declared.names.Scope.TheVariants.{One, All, Nothing}
use Rattle.topology.specs.declared.status.LimitKind.TheVariants.{Epochs, Triggers, Entries, Updates}
use Rattle.topology.specs.Net.{Net}
use Rattle.path_vector.specs.declared.causes.Cause.{Cause}
use Rattle.path_vector.specs.declared.causes.Cause.TheVariants.{Originate, Withdraw, Recv, Down, Up, Ready, Prefer, Flush}
use Rattle.path_vector.specs.Rules.{Rules}
use Rattle.trigger_log.specs.Entries.{Entry, Update, inbox, received_by}
use Rattle.topology.specs.declared.items.Pending.{Pending}
use Rattle.trigger_log.specs.Pending.{pending_rows}
use Rattle.trigger_log.specs.Sending.{sent_of}
use Rattle.node_core.specs.Counted.{entry_marks, is_long_item, is_long_row}
use Rattle.message_fitting.specs.Marks.{item_marks, row_marks}
use Rattle.chronicle.specs.Facts.{Chronicle}
use Rattle.chronicle.specs.Logs.{log_of}
use Rattle.chronicle.specs.Epochs.{epoch}
use Rattle.topology.specs.declared.limits.TheConstants.{MOST_MARKS, MOST_TRIGGERS}
use Rattle.node_core.specs.NodeLimits.{has_large_value, has_long_list, has_more_marks, first_of_node, marks_of, node_above}

above : (n m : ℕ) → n < m → nat_lt n m ≡ true
above n m less = grind (arith, nat_tests)

not_above : (n m : ℕ) → m ≤ n → nat_lt n m ≡ false
not_above n m most = grind (arith, nat_tests)

within : (n m : ℕ) → nat_lt n m ≡ false → m ≤ n
within n m is = grind (arith, nat_tests)

first_epochs : (a b c d : Bool) → a ≡ true → first_of_node a b c d ≡ Some (record { kind = Epochs; number = 32 })
first_epochs a b c d is = rw is refl

first_triggers : (a b c d : Bool) → a ≡ false → b ≡ true → first_of_node a b c d ≡ Some (record { kind = Triggers; number = MOST_TRIGGERS })
first_triggers a b c d e is = rw (e, is) refl

first_entries : (a b c d : Bool) → a ≡ false → b ≡ false → c ≡ true → first_of_node a b c d ≡ Some (record { kind = Entries; number = 2048 })
first_entries a b c d e t is = rw (e, t, is) refl

first_updates : (a b c d : Bool) → a ≡ false → b ≡ false → c ≡ false → d ≡ true → first_of_node a b c d ≡ Some (record { kind = Updates; number = 16384 })
first_updates a b c d e t n is = rw (e, t, n, is) refl

first_none : (a b c d : Bool) → a ≡ false → b ≡ false → c ≡ false → d ≡ false → first_of_node a b c d ≡ None
first_none a b c d e t n is = rw (e, t, n, is) refl

or_true : (a : Bool) → (a || true) ≡ true
or_true true = refl
or_true false = refl

neither : (a b : Bool) → a ≡ false → b ≡ false → (a || b) ≡ false
neither a b x y = rw (x, y) refl

first_not : (a b : Bool) → (a || b) ≡ false → a ≡ false
first_not true b e = absurd (cc e)
first_not false b e = refl

-- where none is above, each is within
none_above_of : (a b c d : Bool) → first_of_node a b c d ≡ None → (a ≡ false) × (b ≡ false) × (c ≡ false)
none_above_of true b c d e = absurd (cc e)
none_above_of false true c d e = absurd (cc e)
none_above_of false false true d e = absurd (cc e)
none_above_of false false false d e = (refl, refl, refl)

one_at_most : (b : Bool) (x : Update) → length (if b then x ∷ [] else []) ≤ 1
one_at_most true x = omega arith
one_at_most false x = omega arith

-- an entry receives one update at most
received_few : (ts : List Trigger) (scope : Scope) (cause : Cause) (v s : ℕ) → length (received_by ts scope cause v s) ≤ 1
received_few ts (One p) (Recv w t n path) v s =
    one_at_most (w == v && t == s) (record { prefix = p; triggers = ts; path = path })
received_few ts (One p) Originate v s = omega arith
received_few ts (One p) Withdraw v s = omega arith
received_few ts (One p) (Down w t) v s = omega arith
received_few ts (One p) (Up w t) v s = omega arith
received_few ts (One p) (Ready w t) v s = omega arith
received_few ts (One p) (Prefer w value) v s = omega arith
received_few ts (One p) (Flush w) v s = omega arith
received_few ts All cause v s = omega arith
received_few ts Nothing cause v s = omega arith

-- no more updates were received in a session than entries were made
inbox_few : (h : List Entry) (v s : ℕ) → length (inbox h v s) ≤ length h
inbox_few [] v s = omega arith
inbox_few (k ∷ h) v s =
    let before = inbox_few h v s in
    let one = received_few k.triggers k.read.scope k.read.cause v s in
    let both = length-append (inbox h v s) (received_by k.triggers k.read.scope k.read.cause v s) in
    omega (arith, before, one, both)

module _ (rules : Rules) (net : Net) (u : ℕ) (past : Chronicle) where
  -- too large a value comes before entries and their items
  pub triggers_above : epoch u past ≤ 32 → has_large_value u past ≡ true → node_above rules net u past ≡ Some (record { kind = Triggers; number = MOST_TRIGGERS })
  unfolding node_above
  triggers_above low large =
      first_triggers (nat_lt 32 (epoch u past)) (has_large_value u past || has_long_list rules net u past) (nat_lt 2048 (length (log_of u past))) (nat_lt 16384 (length (sent_of rules net u (log_of u past))))
      (not_above 32 (epoch u past) low) (ap (λ b. b || has_long_list rules net u past) large)

  module _ (e : ℕ) (is : e ≡ epoch u past) where
    pub epochs_above : 32 < e → node_above rules net u past ≡ Some (record { kind = Epochs; number = 32 })
    unfolding node_above
    epochs_above more =
        first_epochs (nat_lt 32 (epoch u past)) (has_large_value u past || has_long_list rules net u past) (nat_lt 2048 (length (log_of u past))) (nat_lt 16384 (length (sent_of rules net u (log_of u past))))
        (ap (nat_lt 32) (sym is) ∙ above 32 e more)

    pub lists_above : e ≤ 32 → has_long_list rules net u past ≡ true → node_above rules net u past ≡ Some (record { kind = Triggers; number = MOST_TRIGGERS })
    unfolding node_above
    lists_above low long =
        first_triggers (nat_lt 32 (epoch u past)) (has_large_value u past || has_long_list rules net u past) (nat_lt 2048 (length (log_of u past))) (nat_lt 16384 (length (sent_of rules net u (log_of u past))))
        (ap (nat_lt 32) (sym is) ∙ not_above 32 e low) (ap (λ b. has_large_value u past || b) long ∙ or_true (has_large_value u past))

    module _ (small : has_large_value u past ≡ false) (short : has_long_list rules net u past ≡ false) (n : ℕ) (made : n ≡ length (log_of u past)) (low : e ≤ 32) where
      pub entries_above : 2048 < n → node_above rules net u past ≡ Some (record { kind = Entries; number = 2048 })
      unfolding node_above
      entries_above more =
          first_entries (nat_lt 32 (epoch u past)) (has_large_value u past || has_long_list rules net u past) (nat_lt 2048 (length (log_of u past))) (nat_lt 16384 (length (sent_of rules net u (log_of u past))))
          (ap (nat_lt 32) (sym is) ∙ not_above 32 e low) (neither (has_large_value u past) (has_long_list rules net u past) small short) (ap (nat_lt 2048) (sym made) ∙ above 2048 n more)

      module _ (m : ℕ) (listed : m ≡ length (sent_of rules net u (log_of u past))) (few : n ≤ 2048) where
        pub updates_above : 16384 < m → node_above rules net u past ≡ Some (record { kind = Updates; number = 16384 })
        unfolding node_above
        updates_above more =
            first_updates (nat_lt 32 (epoch u past)) (has_large_value u past || has_long_list rules net u past) (nat_lt 2048 (length (log_of u past))) (nat_lt 16384 (length (sent_of rules net u (log_of u past))))
            (ap (nat_lt 32) (sym is) ∙ not_above 32 e low) (neither (has_large_value u past) (has_long_list rules net u past) small short) (ap (nat_lt 2048) (sym made) ∙ not_above 2048 n few) (ap (nat_lt 16384) (sym listed) ∙ above 16384 m more)

        pub none_above : m ≤ 16384 → node_above rules net u past ≡ None
        unfolding node_above
        none_above most =
            first_none (nat_lt 32 (epoch u past)) (has_large_value u past || has_long_list rules net u past) (nat_lt 2048 (length (log_of u past))) (nat_lt 16384 (length (sent_of rules net u (log_of u past))))
            (ap (nat_lt 32) (sym is) ∙ not_above 32 e low) (neither (has_large_value u past) (has_long_list rules net u past) small short) (ap (nat_lt 2048) (sym made) ∙ not_above 2048 n few) (ap (nat_lt 16384) (sym listed) ∙ not_above 16384 m most)

  module _ (none : node_above rules net u past ≡ None) where
    within_all : (nat_lt 32 (epoch u past) ≡ false) × ((has_large_value u past || has_long_list rules net u past) ≡ false) × (nat_lt 2048 (length (log_of u past)) ≡ false)
    unfolding node_above
    within_all =
        none_above_of (nat_lt 32 (epoch u past)) (has_large_value u past || has_long_list rules net u past) (nat_lt 2048 (length (log_of u past))) (nat_lt 16384 (length (sent_of rules net u (log_of u past)))) none

    -- the epoch is not above its number
    pub epoch_low : epoch u past ≤ 32
    epoch_low = within 32 (epoch u past) within_all.0

    -- no value that was proposed is too large
    pub values_small : has_large_value u past ≡ false
    values_small = first_not (has_large_value u past) (has_long_list rules net u past) within_all.1

    -- what was received in a session is no more than the entries may be
    pub received_low : (v s : ℕ) → length (inbox (log_of u past) v s) ≤ 2048
    received_low v s =
        let entries = within 2048 (length (log_of u past)) within_all.2 in
        let few = inbox_few (log_of u past) v s in
        omega (arith, entries, few)

-- ---- lists and marks

-- a list that is too long is among the items, or among what is held back
pub long_lists : (rules : Rules) (net : Net) (u : ℕ) (past : Chronicle) (a b : Bool) (rows : List Pending) → a ≡ list_any is_long_item (sent_of rules net u (log_of u past)) → b ≡ list_any is_long_row rows → rows ≡ pending_rows rules net u (log_of u past)
    → (a || b) ≡ has_long_list rules net u past
unfolding has_long_list
long_lists rules net u past a b rows items waits are = ap₂ (λ x y. x || y) items (waits ∙ ap (list_any is_long_row) are)

-- the triggers of the entries and of the items, and of what is held back
pub all_marks : (rules : Rules) (net : Net) (u : ℕ) (past : Chronicle) (n : ℕ) (rows : List Pending) → n ≡ entry_marks (log_of u past) + item_marks (sent_of rules net u (log_of u past)) → rows ≡ pending_rows rules net u (log_of u past)
    → nat_lt MOST_MARKS (n + row_marks rows) ≡ has_more_marks rules net u past
unfolding has_more_marks marks_of
all_marks rules net u past n rows marks are = ap₂ (λ m (l : List Pending). nat_lt MOST_MARKS (m + row_marks l)) marks are

-- the test of a sum, of which this much is left
pub sum_over : (marks rows : ℕ) → MOST_MARKS < marks → true ≡ nat_lt MOST_MARKS (marks + rows)
sum_over marks rows over = let more : MOST_MARKS < marks + rows = omega (arith, over) in grind (arith, nat_tests)

pub rows_over : (marks rows left : ℕ) → left + marks ≡ MOST_MARKS → left < rows → true ≡ nat_lt MOST_MARKS (marks + rows)
rows_over marks rows left room over = let more : MOST_MARKS < marks + rows = omega (arith, room, over) in grind (arith, nat_tests)

pub sum_within : (marks rows left rest : ℕ) → left + marks ≡ MOST_MARKS → rest + rows ≡ left → false ≡ nat_lt MOST_MARKS (marks + rows)
sum_within marks rows left rest room few = let low : marks + rows ≤ MOST_MARKS = omega (arith, room, few) in grind (arith, nat_tests)

-- the same of the other test
pub sum_not : (marks rows : ℕ) → MOST_MARKS < marks → false ≡ nat_le (marks + rows) MOST_MARKS
sum_not marks rows over = let more : MOST_MARKS < marks + rows = omega (arith, over) in grind (arith, nat_tests)

pub rows_not : (marks rows left : ℕ) → left + marks ≡ MOST_MARKS → left < rows → false ≡ nat_le (marks + rows) MOST_MARKS
rows_not marks rows left room over = let more : MOST_MARKS < marks + rows = omega (arith, room, over) in grind (arith, nat_tests)

pub sum_low : (marks rows left rest : ℕ) → left + marks ≡ MOST_MARKS → rest + rows ≡ left → true ≡ nat_le (marks + rows) MOST_MARKS
sum_low marks rows left rest room few = let low : marks + rows ≤ MOST_MARKS = omega (arith, room, few) in grind (arith, nat_tests)
