-- The fields of version 2: each format reads exactly what it spells.
use Rattle.std.proofs.Common.{◌≡◌, ℕ, ◌^◌, ◌+◌, ◌<◌, ◌≤◌, Bool, true, false, not, ◌&&◌, cond, length, refl, sym, ◌∙◌, arith, inl, inr}
use Rattle.std.specs.Prelude.{◌==◌, nat_le}
use Rattle.std.specs.Int.{w16, is_in_range}
use Rattle.std.proofs.lemmas.Bool.{leb-true, ne_eqb, or_cases, eqb-true, and_parts}
use Rattle.topology.specs.declared.frame_faults.FrameKind.TheVariants as fault
use Rattle.topology.specs.declared.names.Scope.{Scope}
use Rattle.topology.specs.declared.names.Scope.TheVariants.{One, All, Nothing}
use Rattle.topology.specs.declared.items.Sent.{Sent}
use Rattle.topology.specs.declared.items.Pending.{Pending}
use Rattle.topology.specs.declared.limits.TheConstants.{MOST_ENTRIES, MOST_MARKS, MOST_PENDING, MOST_SESSIONS, MOST_TRIGGERS}
use Rattle.incomplete_closure.specs.declared.cut_rows.Row.{Row}
use Rattle.wire_frames.specs.Formats.{tested, ordered, pair, led, listed, reached, IsFormat}
use Rattle.wire_frames.specs.Fields.{scope_number, node, positive, epoch, many, no_trigger, rising_triggers, more_items, session_rows, above}
use Rattle.wire_frames.specs.Listing.{more_triggers, triggers, is_plain, begun, item_meaning, item, listed_items, RowsSoFar, no_rows, may_stand, scope_of, is_told, any_scope_meaning, scope_beside, listed_row_meaning, behind_triggers, listed_row, listed_rows, PendingSoFar, nothing_pending, pending_key, pending_meaning, pending_row, pending_rows, behind_rows, listed_report_meaning, any_report, listed_report}
use Rattle.wire_frames.proofs.Formats.{IsSeries, wide16, tested_law, guarded_law, ordered_law, pair_law, led_law, meant_law, listed_law}
use Rattle.wire_frames.proofs.Fields.{node_law, prefix_law, positive_law, epoch_law, many_law, rising_triggers_laws, more_items_law, session_rows_laws}

-- ---- lists of triggers

pub more_triggers_law : (low before : ℕ) → IsFormat (more_triggers low before)
unfolding more_triggers
more_triggers_law low before =
    tested_law w16 (2 ^ 16) (λ n. is_in_range low MOST_TRIGGERS n && nat_le (before + n) MOST_MARKS) wide16
    (λ n h. let below : n ≤ 8192 = leb-true n 8192 (and_parts (nat_le low n) (nat_le n 8192) (and_parts (is_in_range low MOST_TRIGGERS n) (nat_le (before + n) MOST_MARKS) h).0).1 in omega arith)

pub triggers_law : (low before : ℕ) → IsFormat (triggers low before)
unfolding triggers
triggers_law low before = listed_law (more_triggers low before) rising_triggers no_trigger (more_triggers_law low before) rising_triggers_laws

-- ---- items

pub item_law : (before : ℕ) → IsFormat (item before)
unfolding item
item_law before = meant_law (pair node (pair positive (pair positive (triggers 1 before)))) item_meaning
    (pair_law node (pair positive (pair positive (triggers 1 before))) node_law
    (pair_law positive (pair positive (triggers 1 before)) positive_law
    (pair_law positive (triggers 1 before) positive_law (triggers_law 1 before))))
    (record { back = λ x h. refl; there = λ p h. refl; good = λ p h. refl })

item_spells : (before : ℕ) (x : Sent) → (item before).spells x ≡ (item 0).spells x
unfolding item triggers more_triggers
item_spells before x = refl

pub listed_items_laws : IsSeries listed_items
listed_items_laws = record { law = λ s. item_law s.marks; same = λ s x. item_spells s.marks x }

-- ---- rows

scope_there : (n : ℕ) → scope_number (scope_of n) ≡ n
scope_there n = go (n == 65535) refl
  where
    other : (b : Bool) → (n == 65534) ≡ b → scope_number (cond b Nothing (One n)) ≡ n
    other true e = sym (eqb-true n 65534 e)
    other false e = refl

    go : (b : Bool) → (n == 65535) ≡ b → scope_number (cond b All (cond (n == 65534) Nothing (One n))) ≡ n
    go true e = sym (eqb-true n 65535 e)
    go false e = other (n == 65534) refl

scope_back : (s : Scope) → is_told s ≡ true → scope_of (scope_number s) ≡ s
scope_back (One p) h = let below : p ≤ 255 = leb-true p 255 h in rw (ne_eqb p 65535 (λ e. omega arith), ne_eqb p 65534 (λ e. omega arith)) refl
scope_back All h = refl
scope_back Nothing h = refl

is_small : (n : ℕ) (none : Bool) → may_stand none n ≡ true → (n == 65535) ≡ false → (n == 65534) ≡ false → nat_le n 255 ≡ true
is_small n true h all nothing = absurd (let both : false ≡ true = sym nothing ∙ h in cc)
is_small n false h all nothing =
    elim (or_cases (nat_le n 255) (n == 65535) h) [ inl low ↦ low | inr other ↦ absurd (let both : false ≡ true = sym all ∙ other in cc) ]

scope_good : (none : Bool) (n : ℕ) → may_stand none n ≡ true → is_told (scope_of n) ≡ true
scope_good none n h = go (n == 65535) refl
  where
    other : (b : Bool) → (n == 65534) ≡ b → (n == 65535) ≡ false → is_told (cond b Nothing (One n)) ≡ true
    other true e all = refl
    other false e all = is_small n none h all e

    go : (b : Bool) → (n == 65535) ≡ b → is_told (cond b All (cond (n == 65534) Nothing (One n))) ≡ true
    go true e = refl
    go false e = other (n == 65534) refl e

scope_under : (none : Bool) (n : ℕ) → may_stand none n ≡ true → n < 2 ^ 16
scope_under true n h = let same : n ≡ 65534 = eqb-true n 65534 h in omega arith
scope_under false n h = elim (or_cases (nat_le n 255) (n == 65535) h) [
  | inl low ↦ let below : n ≤ 255 = leb-true n 255 low in omega arith
  | inr all ↦ let same : n ≡ 65535 = eqb-true n 65535 all in omega arith
]

pub scope_beside_law : (none : Bool) → IsFormat (scope_beside none)
unfolding scope_beside
scope_beside_law none = meant_law (tested w16 (may_stand none)) any_scope_meaning (tested_law w16 (2 ^ 16) (may_stand none) wide16 (scope_under none))
    (record { back = scope_back; there = λ n h. scope_there n; good = scope_good none })

pub listed_row_law : (s : RowsSoFar) → IsFormat (listed_row s)
unfolding listed_row
listed_row_law s = meant_law (led (triggers 0 s.marks) (behind_triggers s)) listed_row_meaning
    (led_law (triggers 0 s.marks) (behind_triggers s) (triggers_law 0 s.marks)
    (λ ts. pair_law (scope_beside (length ts == 0)) (listed (more_items s.items) listed_items (begun s.marks ts)) (scope_beside_law (length ts == 0))
    (listed_law (more_items s.items) listed_items (begun s.marks ts) (more_items_law s.items) listed_items_laws)))
    (record { back = λ r h. refl; there = λ p h. refl; good = λ p h. refl })

listed_row_spells : (s : RowsSoFar) (r : Row) → (listed_row s).spells r ≡ (listed_row no_rows).spells r
unfolding listed_row triggers more_triggers more_items
listed_row_spells s r = refl

pub listed_rows_laws : IsSeries listed_rows
listed_rows_laws = record { law = listed_row_law; same = listed_row_spells }

-- ---- pending rows

pub pending_row_law : (s : PendingSoFar) → IsFormat (pending_row s)
unfolding pending_row
pending_row_law s = meant_law (pair (ordered pending_key (above s.last)) (pair positive (triggers 1 s.marks))) pending_meaning
    (pair_law (ordered pending_key (above s.last)) (pair positive (triggers 1 s.marks))
    (ordered_law pending_key (above s.last) (pair_law node _ node_law prefix_law))
    (pair_law positive (triggers 1 s.marks) positive_law (triggers_law 1 s.marks)))
    (record { back = λ r h. refl; there = λ p h. refl; good = λ p h. refl })

pending_row_spells : (s : PendingSoFar) (r : Pending) → (pending_row s).spells r ≡ (pending_row (nothing_pending 0)).spells r
unfolding pending_row triggers more_triggers
pending_row_spells s r = refl

pub pending_rows_laws : IsSeries pending_rows
pending_rows_laws = record { law = pending_row_law; same = pending_row_spells }

-- ---- reports

behind_rows_law : (marks : ℕ) → IsFormat (behind_rows marks)
behind_rows_law marks = pair_law (listed (many MOST_SESSIONS) session_rows (0, 0)) (listed (many MOST_PENDING) pending_rows (nothing_pending marks))
    (listed_law (many MOST_SESSIONS) session_rows (0, 0) (many_law 65535 (omega arith)) session_rows_laws)
    (listed_law (many MOST_PENDING) pending_rows (nothing_pending marks) (many_law 16128 (omega arith)) pending_rows_laws)

any_report_law : IsFormat any_report
any_report_law =
    let lists = led (listed (many MOST_ENTRIES) listed_rows no_rows) (λ rs. behind_rows (reached listed_rows no_rows rs).marks) in
    let lists_law = led_law (listed (many MOST_ENTRIES) listed_rows no_rows) (λ rs. behind_rows (reached listed_rows no_rows rs).marks)
    (listed_law (many MOST_ENTRIES) listed_rows no_rows (many_law 2048 (omega arith)) listed_rows_laws) (λ rs. behind_rows_law (reached listed_rows no_rows rs).marks) in
    meant_law (pair node (pair epoch lists)) listed_report_meaning (pair_law node (pair epoch lists) node_law (pair_law epoch lists epoch_law lists_law))
    (record { back = λ r h. refl; there = λ p h. refl; good = λ p h. refl })

pub listed_report_law : IsFormat listed_report
unfolding listed_report
listed_report_law = guarded_law fault.Value any_report (λ r. not (is_plain r)) any_report_law
