-- The value of fitting reports fits.
use Rattle.std.proofs.Common.{Bool, true, ◌&&◌, nat_lt, nat_le, List, [], ◌∷◌, filter, map, length, ◌≡◌, ⊎_elim, inl, inr, refl, sym, subst, arith}
use Rattle.std.specs.List.{list_all}
use Rattle.topology.specs.declared.items.Pending.{Pending}
use Rattle.topology.specs.declared.items.Sent.{Sent}
use Rattle.topology.specs.declared.names.Scope.{Scope}
use Rattle.topology.specs.declared.names.Scope.TheVariants.{One, All, Nothing}
use Rattle.topology.specs.declared.names.Trigger.{Trigger}
use Rattle.topology.specs.Lists.{has, Among}
use Rattle.topology.specs.Triggers.{earlier, Ascend}
use Rattle.topology.specs.Net.{Net}
use Rattle.topology.proofs.Tests.{and_left, and_right, and_both, same_is}
use Rattle.incomplete_closure.specs.Reports.{Carrier, Row, Report, items_of, missing, of_item, of_pending, open_to, waits_for}
use Rattle.incomplete_closure.specs.Blocked.{Open, Precedes, StepsTo, Leads, Blocked}
use Rattle.incomplete_closure.specs.Values.{IsValue}
use Rattle.incomplete_closure.specs.Collecting.{value_of}
use Rattle.incomplete_closure.proofs.Told.{is_value}
use Rattle.consolidator.specs.Readings.{nodes_of}
use Rattle.message_fitting.specs.ControlFits.{all_fit, in_order, incomplete_fits, listed_fits, nodes_fit, row_fits, row_lists_fit, scope_fits, value_fits, waiting_fits}
use Rattle.message_fitting.specs.Names.{are_nodes, is_number, list_fits, trigger_fits, triggers_fit}
use Rattle.topology.specs.declared.limits.TheConstants.{MOST_TRIGGERS}
use Rattle.admission_laws.proofs.Each.{among_append, among_filter, among_flat, among_made}

-- ---- lists

-- a list passes, if each of its elements does
pub all_of : {A : Type 0} (test : A → Bool) (xs : List A) → ((x : A) → Among x xs → test x ≡ true) → list_all test xs ≡ true
all_of test [] each = refl
all_of test (x ∷ xs) each = and_both (test x) (list_all test xs) (each x (inl refl)) (all_of test xs (λ y a. each y (inr a)))

-- an element of a list that passes passes
pub one_of : {A : Type 0} (test : A → Bool) (xs : List A) (x : A) → list_all test xs ≡ true → Among x xs → test x ≡ true
one_of test [] x all a = absurd a
one_of test (y ∷ ys) x all (inl same) = subst (λ z. test z ≡ true) same (and_left (test y) (list_all test ys) all)
one_of test (y ∷ ys) x all (inr a) = one_of test ys x (and_right (test y) (list_all test ys) all) a

-- ---- what reports list

-- a report of a node of the network, whose rows fit
abbrev pub report_fits : Net → Report → Bool
report_fits net r = has net.nodes r.node && (list_all (row_fits net) r.rows && list_all (waiting_fits net) r.pending)

module _ (net : Net) where
  -- each trigger of a fitting list fits
  pub trigger_of : (t : Trigger) (ts : List Trigger) → triggers_fit net ts ≡ true → Among t ts → trigger_fits net t ≡ true
  trigger_of t [] fit a = absurd a
  trigger_of t (s ∷ []) fit (inl same) = subst (λ z. trigger_fits net z ≡ true) same fit
  trigger_of t (s ∷ []) fit (inr a) = absurd a
  trigger_of t (s ∷ r ∷ ts) fit (inl same) = subst (λ z. trigger_fits net z ≡ true) same (and_left (trigger_fits net s) (triggers_fit net (r ∷ ts)) fit)
  trigger_of t (s ∷ r ∷ ts) fit (inr a) = trigger_of t (r ∷ ts) (and_right (trigger_fits net s) (triggers_fit net (r ∷ ts)) fit) a

  -- a fitting list is a list of triggers that fit
  pub of_list : (ts : List Trigger) → list_fits net ts ≡ true → triggers_fit net ts ≡ true
  of_list ts fit = and_right (nat_le (length ts) MOST_TRIGGERS) (triggers_fit net ts) fit

  -- each trigger that a fitting row of this scope lists fits
  pub of_row : (t : Trigger) (scope : Scope) (ts : List Trigger) → row_lists_fit net scope ts ≡ true → Among t ts → trigger_fits net t ≡ true
  of_row t (One p) ts fit a = trigger_of t ts (of_list ts fit) a
  of_row t All ts fit a = trigger_of t ts (of_list ts fit) a
  of_row t Nothing [] fit a = absurd a
  of_row t Nothing (s ∷ ts) fit a = let none = same_is (length (s ∷ ts)) 0 fit in absurd (omega (arith, none))

  -- each trigger that a fitting row lists fits
  by_row : (t : Trigger) (row : Row) → row_fits net row ≡ true → Among t row.triggers → trigger_fits net t ≡ true
  by_row t row fit a =
      of_row t row.scope row.triggers (and_left (row_lists_fit net row.scope row.triggers) (scope_fits net row.scope && list_all (listed_fits net) row.sent) fit) a

  -- each trigger that an item of a fitting row lists fits
  by_item : (t : Trigger) (row : Row) (item : Sent) → row_fits net row ≡ true → Among item row.sent → Among t item.triggers → trigger_fits net t ≡ true
  by_item t row item fit sent a =
      let all = and_right (scope_fits net row.scope) (list_all (listed_fits net) row.sent) (and_right (row_lists_fit net row.scope row.triggers) (scope_fits net row.scope && list_all (listed_fits net) row.sent) fit) in
      let one = one_of (listed_fits net) row.sent item all sent in
      let numbered = and_right (has net.nodes item.to) (is_number item.session && (is_number item.seq && list_fits net item.triggers)) one in
      let list = and_right (is_number item.seq) (list_fits net item.triggers) (and_right (is_number item.session) (is_number item.seq && list_fits net item.triggers) numbered) in
      trigger_of t item.triggers (of_list item.triggers list) a

  -- each trigger for which an update is held back fits
  by_waiting : (t : Trigger) (row : Pending) → waiting_fits net row ≡ true → Among t row.triggers → trigger_fits net t ≡ true
  by_waiting t row fit a =
      let placed = and_right (has net.nodes row.to) (nat_lt row.prefix (length net.prefixes) && (is_number row.session && list_fits net row.triggers)) fit in
      let list = and_right (is_number row.session) (list_fits net row.triggers) (and_right (nat_lt row.prefix (length net.prefixes)) (is_number row.session && list_fits net row.triggers) placed) in
      trigger_of t row.triggers (of_list row.triggers list) a

  -- each trigger of a row that stands behind another fits
  behind : (s t : Trigger) (rows : List Row) → list_all (row_fits net) rows ≡ true → Precedes rows s t → trigger_fits net t ≡ true
  behind s t [] fit p = absurd p
  behind s t (row ∷ later) fit (inl p) =
      by_row t p.1 (one_of (row_fits net) later p.1 (and_right (row_fits net row) (list_all (row_fits net) later) fit) p.2) p.3
  behind s t (row ∷ later) fit (inr p) = behind s t later (and_right (row_fits net row) (list_all (row_fits net) later) fit) p

  module _ (reports : List Report) (fit : list_all (report_fits net) reports ≡ true) where
    -- the rows of each of the reports fit
    all_rows : (r : Report) → Among r reports → (list_all (row_fits net) r.rows && list_all (waiting_fits net) r.pending) ≡ true
    all_rows r a = and_right (has net.nodes r.node) (list_all (row_fits net) r.rows && list_all (waiting_fits net) r.pending) (one_of (report_fits net) reports r fit a)

    rows_of : (r : Report) → Among r reports → list_all (row_fits net) r.rows ≡ true
    rows_of r a = and_left (list_all (row_fits net) r.rows) (list_all (waiting_fits net) r.pending) (all_rows r a)

    waiting_of : (r : Report) → Among r reports → list_all (waiting_fits net) r.pending ≡ true
    waiting_of r a = and_right (list_all (row_fits net) r.rows) (list_all (waiting_fits net) r.pending) (all_rows r a)

    -- each row of one of the reports fits
    row_of : (r : Report) (row : Row) → Among r reports → Among row r.rows → row_fits net row ≡ true
    row_of r row a b = one_of (row_fits net) r.rows row (rows_of r a) b

    -- each trigger that an item of one of the reports lists fits
    item_of_report : (r : Report) (item : Sent) (t : Trigger) → Among r reports → Among item (items_of r) → Among t item.triggers → trigger_fits net t ≡ true
    item_of_report r item t a b c =
        let row = among_flat (λ (row : Row). row.sent) r.rows item b in
        by_item t row.0 item (row_of r row.0 a row.1) row.2 c

    -- each trigger of a carrier that is open between the reports fits
    open_fits : (from to : Report) (carrier : Carrier) (t : Trigger) → Open reports from to carrier → Among t carrier.triggers → trigger_fits net t ≡ true
    unfolding open_to
    open_fits from to carrier t lacks a =
        ⊎_elim
        (λ (item : Among carrier (map of_item (filter (missing from to) (items_of from)))).
        let one = among_made of_item (filter (missing from to) (items_of from)) carrier item in
        item_of_report from one.0 t lacks.sender (among_filter (missing from to) (items_of from) one.0 one.1) (subst (λ (c : Carrier). Among t c.triggers) (sym one.2) a))
        (λ (row : Among carrier (map of_pending (filter (waits_for to) from.pending))).
        let one = among_made of_pending (filter (waits_for to) from.pending) carrier row in
        by_waiting t one.0 (one_of (waiting_fits net) from.pending one.0 (waiting_of from lacks.sender) (among_filter (waits_for to) from.pending one.0 one.1))
        (subst (λ (c : Carrier). Among t c.triggers) (sym one.2) a))
        (among_append (map of_item (filter (missing from to) (items_of from))) (map of_pending (filter (waits_for to) from.pending)) carrier lacks.is_open)

    -- a trigger to which a step leads fits
    step_fits : (s t : Trigger) → StepsTo reports s t → trigger_fits net t ≡ true
    step_fits s t (inl o) = behind s t o.0.rows (rows_of o.0 o.1) o.2
    step_fits s t (inr (inl j)) = by_row t j.1 (row_of j.0 j.1 j.2 j.3) j.5
    step_fits s t (inr (inr c)) = open_fits c.from c.to c.carrier t c.lacks c.lists

    led_fits : (t : Trigger) (before : List Trigger) → Leads reports (t ∷ before) → trigger_fits net t ≡ true
    led_fits t [] starts = open_fits starts.from starts.to starts.carrier t starts.lacks starts.lists
    led_fits t (s ∷ before) led = step_fits s t led.0

    -- a trigger that is blocked between the reports fits
    blocked_fits : (t : Trigger) → Blocked reports t → trigger_fits net t ≡ true
    blocked_fits t b = led_fits t b.0 b.1

  -- the nodes of fitting reports are nodes of the network
  nodes_known : (reports : List Report) → list_all (report_fits net) reports ≡ true → are_nodes net (nodes_of reports) ≡ true
  nodes_known [] fit = refl
  nodes_known (r ∷ rs) fit =
      let one : report_fits net r ≡ true = and_left (report_fits net r) (list_all (report_fits net) rs) fit in
      and_both (has net.nodes r.node) (are_nodes net (nodes_of rs))
      (and_left (has net.nodes r.node) (list_all (row_fits net) r.rows && list_all (waiting_fits net) r.pending) one)
      (nodes_known rs (and_right (report_fits net r) (list_all (report_fits net) rs) fit))

-- triggers that ascend stand in order
in_turn : (ts : List Trigger) → Ascend ts → in_order earlier ts ≡ true
in_turn [] up = refl
in_turn (t ∷ []) up = refl
in_turn (t ∷ s ∷ ts) up = and_both (earlier t s) (in_order earlier (s ∷ ts)) up.0.0 (in_turn (s ∷ ts) up.1)

-- the value of fitting reports fits, if their nodes ascend and it has no more triggers than a value may have
pub value_of_fits : (net : Net) (reports : List Report) → list_all (report_fits net) reports ≡ true → in_order nat_lt (nodes_of reports) ≡ true
    → nat_le (length (value_of reports).incomplete) MOST_TRIGGERS ≡ true → value_fits net (value_of reports) ≡ true
value_of_fits net reports fit up few =
    let is : IsValue reports (value_of reports) = is_value reports in
    let nodes = (value_of reports).responding in
    let blocked = (value_of reports).incomplete in
    let each : list_all (trigger_fits net) blocked ≡ true = all_of (trigger_fits net) blocked (λ t a. blocked_fits net reports fit t ((is.incomplete t).0 a)) in
    and_both (nodes_fit net nodes) (incomplete_fits net blocked)
    (subst (λ ns. nodes_fit net ns ≡ true) (sym is.responding)
    (and_both (are_nodes net (nodes_of reports)) (in_order nat_lt (nodes_of reports)) (nodes_known net reports fit) up))
    (and_both (all_fit net blocked) (nat_le (length blocked) MOST_TRIGGERS)
    (and_both (list_all (trigger_fits net) blocked) (in_order earlier blocked) each (in_turn blocked is.ascending))
    few)
