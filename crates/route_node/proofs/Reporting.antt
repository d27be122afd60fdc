-- Lists of triggers and reports that a node hands out have a spelling in version 1 or version 2.
use Rattle.std.proofs.Common.{ℕ, ◌+◌, ◌≡◌, ◌≢◌, ◌≤◌, inl, inr, ⊎_elim, Bool, true, false, cond, ◌&&◌, ◌||◌, ◌==◌, Some, List, [], ◌∷◌, map, length, refl, ap, subst, arith}
use Rattle.std.specs.Prelude.{nat_lt, nat_le}
use Rattle.std.specs.Int.{is_in_range}
use Rattle.std.specs.List.{list_all, AllByRecursion}
use Rattle.std.proofs.lemmas.Bool.{ne_eqb}
use Rattle.std.proofs.lemmas.Bool.Decides.{nat_tests}
use Rattle.std.proofs.lemmas.List.{length-map, length-append}
use Rattle.topology.specs.declared.names.Scope.{Scope}
use Rattle.topology.specs.declared.names.Scope.TheVariants.{One, All, Nothing}
use Rattle.topology.specs.declared.names.Trigger.{Trigger}
use Rattle.topology.specs.declared.items.Sent.{Sent}
use Rattle.topology.specs.declared.items.Pending.{Pending}
use Rattle.topology.specs.Lists.{has, Among}
use Rattle.topology.specs.Triggers.{earlier, Ascend, put, union}
use Rattle.topology.specs.Net.{Net, IsValid}
use Rattle.topology.proofs.Tests.{and_left, and_right, and_both, same_is}
use Rattle.topology.proofs.Unions.{of_union, union_ascends, union_none}
use Rattle.incomplete_closure.specs.Reports.{Row, Report}
use Rattle.message_fitting.specs.ControlFits.{epoch_fits, in_order, leads, listed_fits, row_lists_fit, scope_fits, row_fits, items_of, rows_are_few, rows_fit, sooner, session_fits, sessions_ascend, sessions_fit, waiting_fits, waits_sooner, waiting_ascends, pending_fits, marks_of_row, marks_of_rows, report_marks, report_fits}
use Rattle.message_fitting.specs.Marks.{item_marks, row_marks}
use Rattle.message_fitting.specs.Names.{is_number, list_fits, trigger_fits, triggers_fit}
use Rattle.wire_frames.specs.Formats.{many_fit, listed, reached}
use Rattle.wire_frames.specs.Fields.{node, prefix, positive, epoch, many, trigger, scope, is_one, is_alone, one_trigger, no_trigger, rising_triggers, more_items, sent, items, row, rows, above, session_rows, report}
use Rattle.wire_frames.specs.Listing as listing
use Rattle.wire_frames.specs.Listing.{more_triggers, triggers, only_of, has_alone, is_plain_row, is_plain, RowSoFar, begun, item, behind_item, listed_items, RowsSoFar, no_rows, scope_beside, listed_row, with_row, listed_rows, PendingSoFar, nothing_pending, pending_row, behind_pending, pending_rows, any_report, listed_report}
use Rattle.route_node.specs.Frames.{list_told, item_told, row_told, session_told, pending_told, report_told}
use Rattle.route_node.proofs.Spellable.{number_fits, node_fits, positive_fits, below_as, at_most, prefix_fits, epoch_as, trigger_as, many_fits, sessions_as, first_above, node_above_none}

-- ---- lists of triggers

more_as : (low before n : ℕ) → low ≤ n → n ≤ 8192 → before + n ≤ 65536 → (more_triggers low before).fits n ≡ true
unfolding more_triggers
more_as low before n least most sum = and_both (is_in_range low 8192 n) (nat_le (before + n) 65536) (number_fits low 8192 n least most) (grind (arith, nat_tests, sum))

put_length : (t : Trigger) (ts : List Trigger) → length (put t ts) ≤ 1 + length ts
put_length t [] = omega arith
put_length t (s ∷ ts) =
    let later = put_length t ts in
    elim (earlier t s) as (λ b. length (cond b (t ∷ s ∷ ts) (cond (earlier s t) (s ∷ put t ts) (s ∷ ts))) ≤ 1 + length (s ∷ ts)) [
      | true ↦ omega arith
      | false ↦ elim (earlier s t) as (λ b. length (cond b (s ∷ put t ts) (s ∷ ts)) ≤ 1 + length (s ∷ ts)) [ true ↦ omega (arith, later) | false ↦ omega arith ]
    ]

-- the list of a frame has no more triggers
pub told_short : (ts : List Trigger) → length (list_told ts) ≤ length ts
unfolding union
told_short [] = omega arith
told_short (t ∷ ts) = let later = told_short ts in omega (arith, later, put_length t (list_told ts))

told_some : (ts : List Trigger) → ts ≢ [] → list_told ts ≢ []
told_some ts some none = some (union_none ts [] none).0

at_least_one : (ts : List Trigger) → ts ≢ [] → 1 ≤ length ts
at_least_one [] some = absurd (some refl)
at_least_one (t ∷ ts) some = omega arith

each_passes : {A : Type 0} (test : A → Bool) (xs : List A) → ((x : A) → Among x xs → test x ≡ true) → list_all test xs ≡ true
each_passes test [] each = refl
each_passes test (x ∷ xs) each = and_both (test x) (list_all test xs) (each x (inl refl)) (each_passes test xs (λ y a. each y (inr a)))

not_none : (t : Trigger) (ts : List Trigger) → (length (t ∷ ts) == 0) ≡ false
not_none t ts = ne_eqb (length (t ∷ ts)) 0 (λ e. omega (arith, e))

-- the state after a row
abbrev behind_row : RowsSoFar → Row → RowsSoFar
behind_row s k = with_row s (length (map item_told k.sent)) (reached listed_items (begun s.marks (list_told k.triggers)) (map item_told k.sent))

-- the first pending row stands above a key
abbrev waits_above : (ℕ × ℕ) → List Pending → Bool
waits_above last [] = true
waits_above last (p ∷ ps) = above last (p.to, p.prefix)

module _ (net : Net) (valid : IsValid net) where
  known : (t : Trigger) (ts : List Trigger) → triggers_fit net ts ≡ true → Among t ts → trigger_fits net t ≡ true
  known t [] fit a = absurd (cc fit)
  known t (s ∷ []) fit (inl same) = subst (λ z. trigger_fits net z ≡ true) same fit
  known t (s ∷ []) fit (inr a) = absurd a
  known t (s ∷ r ∷ ts) fit (inl same) = subst (λ z. trigger_fits net z ≡ true) same (and_left (trigger_fits net s) (triggers_fit net (r ∷ ts)) fit)
  known t (s ∷ r ∷ ts) fit (inr a) = known t (r ∷ ts) (and_right (trigger_fits net s) (triggers_fit net (r ∷ ts)) fit) a

  -- properties of a frame's list
  pub record ListParts (ts : List Trigger) : Type 0 where
    pub each : list_all (trigger_fits net) ts ≡ true
    pub rises : Ascend ts
    pub some : ts ≢ []
    pub few : length ts ≤ 8192

  list_parts : (ts : List Trigger) → list_fits net ts ≡ true → ListParts (list_told ts)
  list_parts ts e =
      let fit = and_right (nat_le (length ts) 8192) (triggers_fit net ts) e in
      let most = at_most (length ts) 8192 (and_left (nat_le (length ts) 8192) (triggers_fit net ts) e) in
      record {
        each = each_passes (trigger_fits net) (list_told ts) (λ t a. ⊎_elim (λ (b : Among t ts). known t ts fit b) (λ (b : Among t []). absurd b) (of_union t ts [] a));
        rises = union_ascends ts [] tt;
        some = told_some ts (λ none. absurd (let both = subst (λ l. triggers_fit net l ≡ true) none fit in cc both));
        few = omega (arith, told_short ts, most);
      }

  rises_fit : (last : Trigger) (ts : List Trigger) → AllByRecursion (λ s. earlier last s ≡ true) ts → Ascend ts → list_all (trigger_fits net) ts ≡ true → many_fit rising_triggers last ts ≡ true
  rises_fit last [] after rises each = refl
  rises_fit last (t ∷ ts) after rises each =
      and_both (trigger.fits t && earlier last t) (many_fit rising_triggers t ts) (and_both (trigger.fits t) (earlier last t) (trigger_as net t valid (and_left (trigger_fits net t) (list_all (trigger_fits net) ts) each)) after.0)
      (rises_fit t ts rises.0 rises.1 (and_right (trigger_fits net t) (list_all (trigger_fits net) ts) each))

  behind_none : (ts : List Trigger) → list_all (trigger_fits net) ts ≡ true → AllByRecursion (λ s. earlier no_trigger s ≡ true) ts
  behind_none [] each = tt
  behind_none (t ∷ ts) each =
      let here = and_left (trigger_fits net t) (list_all (trigger_fits net) ts) each in (
        node_above_none net valid t.node t.count (and_left (has net.nodes t.node) (is_number t.count) here),
        behind_none ts (and_right (trigger_fits net t) (list_all (trigger_fits net) ts) each),
      )

  list_as : (low before : ℕ) (ts : List Trigger) → ListParts ts → low ≤ length ts → before + length ts ≤ 65536 → (triggers low before).fits ts ≡ true
  unfolding triggers
  list_as low before ts p least sum =
      and_both ((more_triggers low before).fits (length ts)) (many_fit rising_triggers no_trigger ts) (more_as low before (length ts) least p.few sum) (rises_fit no_trigger ts (behind_none ts p.each) p.rises p.each)

  one_as : (t : Trigger) → ListParts (t ∷ []) → trigger.fits t ≡ true
  one_as t p = trigger_as net t valid (and_left (trigger_fits net t) true p.each)

  told_list_as : (ts : List Trigger) → ListParts ts → listing.triggers_fit ts ≡ true
  unfolding one_trigger
  told_list_as [] p = absurd (p.some refl)
  told_list_as (t ∷ []) p = one_as t p
  told_list_as (t ∷ s ∷ ts) p = let most = p.few in list_as 2 0 (t ∷ s ∷ ts) p (omega arith) (omega (arith, most))

  pub update_list_as : (ts : List Trigger) → list_fits net ts ≡ true → listing.triggers_fit (list_told ts) ≡ true
  update_list_as ts e = told_list_as (list_told ts) (list_parts ts e)

  -- ---- items

  -- what an item has before its triggers, and its list
  pub record ItemParts (x : Sent) : Type 0 where
    pub to : node.fits x.to ≡ true
    pub session : positive.fits x.session ≡ true
    pub seq : positive.fits x.seq ≡ true
    pub list : ListParts (list_told x.triggers)

  item_parts : (x : Sent) → listed_fits net x ≡ true → ItemParts x
  item_parts x e =
      let second = and_right (has net.nodes x.to) (is_number x.session && (is_number x.seq && list_fits net x.triggers)) e in
      let third = and_right (is_number x.session) (is_number x.seq && list_fits net x.triggers) second in
      record {
        to = node_fits net x.to valid (and_left (has net.nodes x.to) (is_number x.session && (is_number x.seq && list_fits net x.triggers)) e);
        session = positive_fits x.session (and_left (is_number x.session) (is_number x.seq && list_fits net x.triggers) second);
        seq = positive_fits x.seq (and_left (is_number x.seq) (list_fits net x.triggers) third);
        list = list_parts x.triggers (and_right (is_number x.seq) (list_fits net x.triggers) third);
      }

  item_as : (before : ℕ) (x : Sent) → listed_fits net x ≡ true → before + length x.triggers ≤ 65536 → (item before).fits (item_told x) ≡ true
  unfolding item
  item_as before x e sum =
      let p = item_parts x e in
      let ts = list_told x.triggers in
      let list = list_as 1 before ts p.list (at_least_one ts p.list.some) (omega (arith, sum, told_short x.triggers)) in
      and_both (node.fits x.to) (positive.fits x.session && (positive.fits x.seq && (triggers 1 before).fits ts)) p.to
      (and_both (positive.fits x.session) (positive.fits x.seq && (triggers 1 before).fits ts) p.session (and_both (positive.fits x.seq) ((triggers 1 before).fits ts) p.seq list))

  items_as : (s : RowSoFar) (xs : List Sent) → list_all (listed_fits net) xs ≡ true → s.marks + item_marks xs ≤ 65536 → many_fit listed_items s (map item_told xs) ≡ true
  items_as s [] e sum = refl
  items_as s (x ∷ xs) e sum =
      and_both ((item s.marks).fits (item_told x)) (many_fit listed_items (behind_item s (list_told x.triggers)) (map item_told xs))
      (item_as s.marks x (and_left (listed_fits net x) (list_all (listed_fits net) xs) e) (omega (arith, sum)))
      (items_as (behind_item s (list_told x.triggers)) xs (and_right (listed_fits net x) (list_all (listed_fits net) xs) e) (omega (arith, sum, told_short x.triggers)))

  -- the items of a row with one trigger, in both formats
  plain_items_as : (t : Trigger) (xs : List Sent) → list_all (listed_fits net) xs ≡ true → list_all (λ (x : Sent). has_alone (Some t) x.triggers) (map item_told xs) ≡ true → many_fit items t (map item_told xs) ≡ true
  unfolding sent
  plain_items_as t [] e alone = refl
  plain_items_as t (x ∷ xs) e alone =
      let p = item_parts x (and_left (listed_fits net x) (list_all (listed_fits net) xs) e) in
      let others = list_all (λ (y : Sent). has_alone (Some t) y.triggers) (map item_told xs) in
      and_both ((sent t).fits (item_told x)) (many_fit items t (map item_told xs))
      (and_both (is_alone t (list_told x.triggers)) (node.fits x.to && (positive.fits x.session && positive.fits x.seq)) (and_left (is_alone t (list_told x.triggers)) others alone)
      (and_both (node.fits x.to) (positive.fits x.session && positive.fits x.seq) p.to (and_both (positive.fits x.session) (positive.fits x.seq) p.session p.seq)))
      (plain_items_as t xs (and_right (listed_fits net x) (list_all (listed_fits net) xs) e) (and_right (is_alone t (list_told x.triggers)) others alone))

  -- ---- rows

  more_fits : (before n : ℕ) → before + n ≤ 16384 → (more_items before).fits n ≡ true
  unfolding more_items
  more_fits before n small = grind (arith, nat_tests, small)

  small_prefix : (p : ℕ) → nat_lt p (length net.prefixes) ≡ true → nat_le p 255 ≡ true
  small_prefix p e = let below = below_as p (length net.prefixes) e in let most = valid.few_prefixes in grind (arith, nat_tests, below, most)

  -- the list of a row in a frame; empty if the row concerns nothing
  abbrev RowList : Scope → List Trigger → Type 0
  RowList (One p) ts = ListParts ts
  RowList All ts = ListParts ts
  RowList Nothing ts = ts ≡ []

  row_list : (whole : Scope) (ts : List Trigger) → row_lists_fit net whole ts ≡ true → RowList whole (list_told ts)
  unfolding union
  row_list (One p) ts e = list_parts ts e
  row_list All ts e = list_parts ts e
  row_list Nothing [] e = refl
  row_list Nothing (t ∷ ts) e = absurd (let none = same_is (length (t ∷ ts)) 0 e in omega (arith, none))

  row_list_as : (whole : Scope) (before : ℕ) (ts : List Trigger) → RowList whole ts → before + length ts ≤ 65536 → (triggers 0 before).fits ts ≡ true
  unfolding triggers
  row_list_as (One p) before ts list sum = list_as 0 before ts list (omega arith) sum
  row_list_as All before ts list sum = list_as 0 before ts list (omega arith) sum
  row_list_as Nothing before ts none sum =
      let low : before + 0 ≤ 65536 = omega (arith, sum) in
      rw none (and_both ((more_triggers 0 before).fits 0) true (more_as 0 before 0 (omega arith) (omega arith) low) refl)

  told_scope : (whole : Scope) (ts : List Trigger) → RowList whole ts → scope_fits net whole ≡ true → (scope_beside (length ts == 0)).fits whole ≡ true
  unfolding scope_beside
  told_scope (One p) [] list at = absurd (list.some refl)
  told_scope (One p) (t ∷ ts) list at =
      let small = small_prefix p at in
      rw (not_none t ts) (and_both (nat_le p 255) (nat_le p 255 || p == 65535) small (ap (λ b. b || p == 65535) small))
  told_scope All [] list at = absurd (list.some refl)
  told_scope All (t ∷ ts) list at = rw (not_none t ts) refl
  told_scope Nothing [] none at = refl
  told_scope Nothing (t ∷ ts) none at = absurd (cc none)

  row_as : (s : RowsSoFar) (k : Row) → row_fits net k ≡ true → s.items + length k.sent ≤ 16384 → s.marks + marks_of_row k ≤ 65536 → (listed_row s).fits (row_told k) ≡ true
  unfolding listed_row
  row_as s k e counted sum =
      let ts = list_told k.triggers in
      let xs = map item_told k.sent in
      let rest = and_right (row_lists_fit net k.scope k.triggers) (scope_fits net k.scope && list_all (listed_fits net) k.sent) e in
      let list = row_list k.scope k.triggers (and_left (row_lists_fit net k.scope k.triggers) (scope_fits net k.scope && list_all (listed_fits net) k.sent) e) in
      let whole = and_left (scope_fits net k.scope) (list_all (listed_fits net) k.sent) rest in
      let each = and_right (scope_fits net k.scope) (list_all (listed_fits net) k.sent) rest in
      let behind = (listed (more_items s.items) listed_items (begun s.marks ts)).fits xs in
      and_both ((triggers 0 s.marks).fits ts) ((scope_beside (length ts == 0)).fits k.scope && behind) (row_list_as k.scope s.marks ts list (omega (arith, sum, told_short k.triggers)))
      (and_both ((scope_beside (length ts == 0)).fits k.scope) behind (told_scope k.scope ts list whole)
      (and_both ((more_items s.items).fits (length xs)) (many_fit listed_items (begun s.marks ts) xs) (more_fits s.items (length xs) (omega (arith, counted, length-map k.sent item_told)))
      (items_as (begun s.marks ts) k.sent each (omega (arith, sum, told_short k.triggers)))))

  items_marks : (s : RowSoFar) (xs : List Sent) → (reached listed_items s (map item_told xs)).marks ≤ s.marks + item_marks xs
  items_marks s [] = omega arith
  items_marks s (x ∷ xs) = let later = items_marks (behind_item s (list_told x.triggers)) xs in omega (arith, later, told_short x.triggers)

  row_counts : (s : RowsSoFar) (k : Row) → (behind_row s k).marks ≤ s.marks + marks_of_row k
  row_counts s k = let later = items_marks (begun s.marks (list_told k.triggers)) k.sent in omega (arith, later, told_short k.triggers)

  rows_as : (s : RowsSoFar) (ks : List Row) → list_all (row_fits net) ks ≡ true → s.items + length (items_of ks) ≤ 16384 → s.marks + marks_of_rows ks ≤ 65536 → many_fit listed_rows s (map row_told ks) ≡ true
  rows_as s [] e counted sum = refl
  rows_as s (k ∷ ks) e counted sum =
      let split = length-append k.sent (items_of ks) in
      let same = length-map k.sent item_told in
      let more = row_counts s k in
      and_both ((listed_row s).fits (row_told k)) (many_fit listed_rows (behind_row s k) (map row_told ks))
      (row_as s k (and_left (row_fits net k) (list_all (row_fits net) ks) e) (omega (arith, counted, split)) (omega (arith, sum)))
      (rows_as (behind_row s k) ks (and_right (row_fits net k) (list_all (row_fits net) ks) e) (omega (arith, counted, split, same)) (omega (arith, sum, more)))

  rows_count : (s : RowsSoFar) (ks : List Row) → (reached listed_rows s (map row_told ks)).marks ≤ s.marks + marks_of_rows ks
  rows_count s [] = omega arith
  rows_count s (k ∷ ks) = let more = row_counts s k in let later = rows_count (behind_row s k) ks in omega (arith, more, later)

  -- a row that lists one trigger, as its items do
  plain_row_as : (before : ℕ) (whole : Scope) (ts : List Trigger) (xs : List Sent) → RowList whole ts → scope_fits net whole ≡ true → list_all (listed_fits net) xs ≡ true → before + length xs ≤ 16384
      → (is_one ts && list_all (λ (x : Sent). has_alone (only_of ts) x.triggers) (map item_told xs)) ≡ true → (row before).fits (record { triggers = ts; scope = whole; sent = map item_told xs }) ≡ true
  unfolding row scope
  plain_row_as before whole [] xs list at each counted plain = absurd (cc plain)
  plain_row_as before (One p) (t ∷ []) xs list at each counted plain =
      let small = small_prefix p at in
      let in_range = and_both (nat_le p 255) (nat_le p 255 || p == 65535) small (ap (λ b. b || p == 65535) small) in
      let sent' = map item_told xs in
      and_both (trigger.fits t) (scope.fits (One p) && (listed (more_items before) items t).fits sent') (one_as t list)
      (and_both (scope.fits (One p)) ((listed (more_items before) items t).fits sent') in_range
      (and_both ((more_items before).fits (length sent')) (many_fit items t sent') (more_fits before (length sent') (omega (arith, counted, length-map xs item_told))) (plain_items_as t xs each plain)))
  plain_row_as before All (t ∷ []) xs list at each counted plain =
      let sent' = map item_told xs in
      and_both (trigger.fits t) (scope.fits All && (listed (more_items before) items t).fits sent') (one_as t list)
      (and_both (scope.fits All) ((listed (more_items before) items t).fits sent') refl
      (and_both ((more_items before).fits (length sent')) (many_fit items t sent') (more_fits before (length sent') (omega (arith, counted, length-map xs item_told))) (plain_items_as t xs each plain)))
  plain_row_as before Nothing (t ∷ []) xs none at each counted plain = absurd (cc none)
  plain_row_as before whole (t ∷ s ∷ ts) xs list at each counted plain = absurd (cc plain)

  plain_rows_as : (before : ℕ) (ks : List Row) → list_all (row_fits net) ks ≡ true → before + length (items_of ks) ≤ 16384 → list_all is_plain_row (map row_told ks) ≡ true → many_fit rows before (map row_told ks) ≡ true
  plain_rows_as before [] e counted plain = refl
  plain_rows_as before (k ∷ ks) e counted plain =
      let split = length-append k.sent (items_of ks) in
      let same = length-map k.sent item_told in
      let here = and_left (row_fits net k) (list_all (row_fits net) ks) e in
      let list = row_list k.scope k.triggers (and_left (row_lists_fit net k.scope k.triggers) (scope_fits net k.scope && list_all (listed_fits net) k.sent) here) in
      let rest = and_right (row_lists_fit net k.scope k.triggers) (scope_fits net k.scope && list_all (listed_fits net) k.sent) here in
      let first = and_left (is_plain_row (row_told k)) (list_all is_plain_row (map row_told ks)) plain in
      and_both ((row before).fits (row_told k)) (many_fit rows (before + length (map item_told k.sent)) (map row_told ks))
      (plain_row_as before k.scope (list_told k.triggers) k.sent list (and_left (scope_fits net k.scope) (list_all (listed_fits net) k.sent) rest) (and_right (scope_fits net k.scope) (list_all (listed_fits net) k.sent) rest)
      (omega (arith, counted, split)) first)
      (plain_rows_as (before + length (map item_told k.sent)) ks (and_right (row_fits net k) (list_all (row_fits net) ks) e) (omega (arith, counted, split, same)) (and_right (is_plain_row (row_told k)) (list_all is_plain_row (map row_told ks)) plain))

  -- ---- pending rows

  next_waits : (p : Pending) (ps : List Pending) → leads waits_sooner p ps ≡ true → waits_above (p.to, p.prefix) ps ≡ true
  next_waits p [] e = refl
  next_waits p (q ∷ qs) e = e

  pending_row_as : (s : PendingSoFar) (p : Pending) → waiting_fits net p ≡ true → above s.last (p.to, p.prefix) ≡ true → s.marks + length p.triggers ≤ 65536 → (pending_row s).fits (pending_told p) ≡ true
  unfolding pending_row
  pending_row_as s p e behind sum =
      let ts = list_told p.triggers in
      let second = and_right (has net.nodes p.to) (nat_lt p.prefix (length net.prefixes) && (is_number p.session && list_fits net p.triggers)) e in
      let third = and_right (nat_lt p.prefix (length net.prefixes)) (is_number p.session && list_fits net p.triggers) second in
      let list = list_parts p.triggers (and_right (is_number p.session) (list_fits net p.triggers) third) in
      and_both ((node.fits p.to && prefix.fits p.prefix) && above s.last (p.to, p.prefix)) (positive.fits p.session && (triggers 1 s.marks).fits ts)
      (and_both (node.fits p.to && prefix.fits p.prefix) (above s.last (p.to, p.prefix))
      (and_both (node.fits p.to) (prefix.fits p.prefix) (node_fits net p.to valid (and_left (has net.nodes p.to) (nat_lt p.prefix (length net.prefixes) && (is_number p.session && list_fits net p.triggers)) e))
      (prefix_fits net p.prefix valid (and_left (nat_lt p.prefix (length net.prefixes)) (is_number p.session && list_fits net p.triggers) second))) behind)
      (and_both (positive.fits p.session) ((triggers 1 s.marks).fits ts) (positive_fits p.session (and_left (is_number p.session) (list_fits net p.triggers) third))
      (list_as 1 s.marks ts list (at_least_one ts list.some) (omega (arith, sum, told_short p.triggers))))

  pending_as : (s : PendingSoFar) (ps : List Pending) → list_all (waiting_fits net) ps ≡ true → in_order waits_sooner ps ≡ true → waits_above s.last ps ≡ true → s.marks + row_marks ps ≤ 65536 → many_fit pending_rows s (map pending_told ps) ≡ true
  pending_as s [] e order behind sum = refl
  pending_as s (p ∷ ps) e order behind sum =
      let next = behind_pending s (p.to, p.prefix) (list_told p.triggers) in
      and_both ((pending_row s).fits (pending_told p)) (many_fit pending_rows next (map pending_told ps))
      (pending_row_as s p (and_left (waiting_fits net p) (list_all (waiting_fits net) ps) e) behind (omega (arith, sum)))
      (pending_as next ps (and_right (waiting_fits net p) (list_all (waiting_fits net) ps) e) (and_right (leads waits_sooner p ps) (in_order waits_sooner ps) order)
      (next_waits p ps (and_left (leads waits_sooner p ps) (in_order waits_sooner ps) order)) (omega (arith, sum, told_short p.triggers)))

  first_waits : (ps : List Pending) → list_all (waiting_fits net) ps ≡ true → waits_above (0, 0) ps ≡ true
  first_waits [] e = refl
  first_waits (p ∷ ps) e =
      let here = and_left (waiting_fits net p) (list_all (waiting_fits net) ps) e in
      node_above_none net valid p.to p.prefix (and_left (has net.nodes p.to) (nat_lt p.prefix (length net.prefixes) && (is_number p.session && list_fits net p.triggers)) here)

  -- ---- reports

  -- what is known of the parts of a report
  pub record Parts (r : Report) : Type 0 where
    pub rows : list_all (row_fits net) r.rows ≡ true
    pub few_rows : length r.rows ≤ 2048
    pub few_items : length (items_of r.rows) ≤ 16384
    pub sessions : many_fit session_rows (0, 0) (map session_told r.sessions) ≡ true
    pub few_sessions : length r.sessions ≤ 65535
    pub pending : list_all (waiting_fits net) r.pending ≡ true
    pub order : in_order waits_sooner r.pending ≡ true
    pub few_pending : length r.pending ≤ 16128
    pub marks : report_marks r ≤ 65536

  pub parts_of : (r : Report) → report_fits net r ≡ true → Parts r
  parts_of r e =
      let second = and_right (rows_fit net r.rows) (sessions_fit net r.sessions && (pending_fits net r.pending && nat_le (report_marks r) 65536)) e in
      let third = and_right (sessions_fit net r.sessions) (pending_fits net r.pending && nat_le (report_marks r) 65536) second in
      let each = and_left (rows_fit net r.rows) (sessions_fit net r.sessions && (pending_fits net r.pending && nat_le (report_marks r) 65536)) e in
      let small = and_right (list_all (row_fits net) r.rows) (rows_are_few r.rows) each in
      let all = and_left (sessions_fit net r.sessions) (pending_fits net r.pending && nat_le (report_marks r) 65536) second in
      let fit = and_left (list_all (session_fits net) r.sessions) (sessions_ascend r.sessions) all in
      let ascend = and_right (list_all (session_fits net) r.sessions) (sessions_ascend r.sessions) all in
      let held = and_left (pending_fits net r.pending) (nat_le (report_marks r) 65536) third in
      let waiting = and_right (list_all (waiting_fits net) r.pending) (waiting_ascends r.pending) held in
      record {
        rows = and_left (list_all (row_fits net) r.rows) (rows_are_few r.rows) each;
        few_rows = at_most (length r.rows) 2048 (and_left (nat_le (length r.rows) 2048) (nat_le (length (items_of r.rows)) 16384) small);
        few_items = at_most (length (items_of r.rows)) 16384 (and_right (nat_le (length r.rows) 2048) (nat_le (length (items_of r.rows)) 16384) small);
        sessions = sessions_as net (0, 0) r.sessions valid fit (and_left (in_order sooner r.sessions) (nat_le (length r.sessions) 65535) ascend) (first_above net r.sessions valid fit);
        few_sessions = at_most (length r.sessions) 65535 (and_right (in_order sooner r.sessions) (nat_le (length r.sessions) 65535) ascend);
        pending = and_left (list_all (waiting_fits net) r.pending) (waiting_ascends r.pending) held;
        order = and_left (in_order waits_sooner r.pending) (nat_le (length r.pending) 16128) waiting;
        few_pending = at_most (length r.pending) 16128 (and_right (in_order waits_sooner r.pending) (nat_le (length r.pending) 16128) waiting);
        marks = at_most (report_marks r) 65536 (and_right (pending_fits net r.pending) (nat_le (report_marks r) 65536) third);
      }

  sessions_listed : (r : Report) → Parts r → (listed (many 65535) session_rows (0, 0)).fits (map session_told r.sessions) ≡ true
  sessions_listed r p =
      and_both ((many 65535).fits (length (map session_told r.sessions))) (many_fit session_rows (0, 0) (map session_told r.sessions)) (many_fits (length (map session_told r.sessions)) 65535 (omega (arith, p.few_sessions, length-map r.sessions session_told)))
      p.sessions

  plain_as : (r : Report) → has net.nodes r.node ≡ true → epoch_fits r.epoch ≡ true → Parts r → is_plain (report_told r) ≡ true → report.fits (report_told r) ≡ true
  unfolding report
  plain_as r of at p plain =
      let told = map row_told r.rows in
      let all = and_left (list_all is_plain_row told) (length (map pending_told r.pending) == 0) plain in
      let waiting = map pending_told r.pending in
      let none = and_right (list_all is_plain_row told) (length waiting == 0) plain in
      let sessions = (listed (many 65535) session_rows (0, 0)).fits (map session_told r.sessions) in
      let rows_fit' : (listed (many 2048) rows 0).fits told ≡ true =
      and_both ((many 2048).fits (length told)) (many_fit rows 0 told) (many_fits (length told) 2048 (omega (arith, p.few_rows, length-map r.rows row_told))) (plain_rows_as 0 r.rows p.rows (omega (arith, p.few_items)) all) in
      and_both (length waiting == 0) (node.fits r.node && (epoch.fits r.epoch && ((listed (many 2048) rows 0).fits told && sessions))) none
      (and_both (node.fits r.node) (epoch.fits r.epoch && ((listed (many 2048) rows 0).fits told && sessions)) (node_fits net r.node valid of)
      (and_both (epoch.fits r.epoch) ((listed (many 2048) rows 0).fits told && sessions) (epoch_as r.epoch at) (and_both ((listed (many 2048) rows 0).fits told) sessions rows_fit' (sessions_listed r p))))

  any_as : (r : Report) → has net.nodes r.node ≡ true → epoch_fits r.epoch ≡ true → Parts r → any_report.fits (report_told r) ≡ true
  any_as r of at p =
      let told = map row_told r.rows in
      let marks = (reached listed_rows no_rows told).marks in
      let count = rows_count no_rows r.rows in
      let sessions = (listed (many 65535) session_rows (0, 0)).fits (map session_told r.sessions) in
      let waiting = (listed (many 16128) pending_rows (nothing_pending marks)).fits (map pending_told r.pending) in
      let first = (listed (many 2048) listed_rows no_rows).fits told in
      let rows_fit' : first ≡ true =
      and_both ((many 2048).fits (length told)) (many_fit listed_rows no_rows told) (many_fits (length told) 2048 (omega (arith, p.few_rows, length-map r.rows row_told)))
      (rows_as no_rows r.rows p.rows (omega (arith, p.few_items)) (omega (arith, p.marks))) in
      let pending_fit : waiting ≡ true =
      and_both ((many 16128).fits (length (map pending_told r.pending))) (many_fit pending_rows (nothing_pending marks) (map pending_told r.pending)) (many_fits (length (map pending_told r.pending)) 16128 (omega (arith, p.few_pending, length-map r.pending pending_told)))
      (pending_as (nothing_pending marks) r.pending p.pending p.order (first_waits r.pending p.pending) (omega (arith, p.marks, count))) in
      and_both (node.fits r.node) (epoch.fits r.epoch && (first && (sessions && waiting))) (node_fits net r.node valid of)
      (and_both (epoch.fits r.epoch) (first && (sessions && waiting)) (epoch_as r.epoch at) (and_both first (sessions && waiting) rows_fit' (and_both sessions waiting (sessions_listed r p) pending_fit)))

  either_as : (r : Report) → has net.nodes r.node ≡ true → epoch_fits r.epoch ≡ true → Parts r → (b : Bool) → is_plain (report_told r) ≡ b → listing.report_fits (report_told r) ≡ true
  unfolding listed_report
  either_as r of at p true plain = rw plain (plain_as r of at p plain)
  either_as r of at p false other = rw other (and_both (any_report.fits (report_told r)) true (any_as r of at p) refl)

  pub report_as : (r : Report) → has net.nodes r.node ≡ true → epoch_fits r.epoch ≡ true → Parts r → listing.report_fits (report_told r) ≡ true
  report_as r of at p = either_as r of at p (is_plain (report_told r)) refl
