-- The reached part of the graph of reports is the least set that is closed under what is open and under the rows.
use Rattle.std.proofs.Common.{ℕ, ◌+◌, ◌<◌, ◌≤◌, Bool, true, false, not, ◌||◌, ◌==◌, nat_lt, Option, Some, None, List, [], ◌∷◌, ◌++◌, length, slice_get, ◌≡◌, ◌⊎◌, inl, inr, refl, sym, ◌∙◌, ap, subst, arith, if◌then◌else◌}
use Rattle.std.specs.List.{list_any, AllByRecursion}
use Rattle.std.specs.Option.{option_to_list}
use Rattle.std.proofs.lemmas.Bool.{cases_lt}
use Rattle.std.proofs.lemmas.Bool.Decides.{nat_tests}
use Rattle.std.proofs.lemmas.List.{get_or_past}
use Rattle.topology.specs.declared.names.Trigger.{Trigger}
use Rattle.topology.specs.declared.names.Scope.{Scope}
use Rattle.topology.specs.declared.names.Scope.TheVariants.{One, All, Nothing}
use Rattle.topology.specs.Triggers.{lists}
use Rattle.topology.specs.Lists.{Among}
use Rattle.incomplete_closure.specs.declared.cut_rows.Row.{Row}
use Rattle.incomplete_closure.specs.declared.reports.Report.{Report}
use Rattle.incomplete_closure.specs.declared.opening.OpenTrigger.{OpenTrigger}
use Rattle.incomplete_closure.specs.Blocked.{shares}
use Rattle.incomplete_closure.specs.Graphs.{led_from, IsKept, Trail, has_seen, IsReached}
use Rattle.incomplete_closure.specs.Collection.{collect_names}
use Rattle.incomplete_closure.specs.Closed.{is_due, ClosedAt, AllInside, ClosedFrom, RowClosed, ClosedRows, ClosedFor, IsLeast}
use Rattle.incomplete_closure.specs.Names.{names_of, number_of}
use Rattle.incomplete_closure.specs.Wiring.{nearest_by, nearest, stretch_by, stretch_at, nearest_at, stretch, next_rows, root_of, roots_of, wire_open, graph_of_rows}
use Rattle.incomplete_closure.proofs.Listing.{or_left, or_right, or_either, lists_among, among_lists, some_passes, passes, in_flat, of_flat, each_at, all_from_each}
use Rattle.incomplete_closure.proofs.Wired.{AllIn, Leads, TiedIn, RowWired, RowsWired, ReportsWired, DownWired, OpenWired, kept_says, says_kept, length_graph}
use Rattle.incomplete_closure.proofs.Naming.{in_collection, passes_collected, collection_ascend, Distinct, names_distinct, row_named, open_named, number_within, number_stands, number_at, at_number}

-- ---- one row leads to all later ones that share a prefix

module _ (inside : ℕ → Bool) (names : List Trigger) where
  -- the first trigger that a row lists is in the set
  abbrev pub HeadIn : List Trigger → Type 0
  HeadIn [] = Unit {0}
  HeadIn (t ∷ ts) = inside (number_of names t) ≡ true

  -- the first trigger of every row that shares a prefix is in the set
  abbrev pub Sharing : Scope → List Row → Type 0
  Sharing scope [] = Unit {0}
  Sharing scope (row ∷ later) = (shares scope row.scope ≡ true → HeadIn row.triggers) × Sharing scope later

  all_front : (xs ys : List ℕ) → AllIn inside (xs ++ ys) → AllIn inside xs
  all_front [] ys all = tt
  all_front (x ∷ xs) ys all = (all.0, all_front xs ys all.1)

  all_last : (xs : List ℕ) (y : ℕ) → AllIn inside (xs ++ y ∷ []) → inside y ≡ true
  all_last [] y all = all.0
  all_last (x ∷ xs) y all = all_last xs y all.1

  -- a row in the set leads to others in it
  pub led_in : (from : ℕ) (tos : List ℕ) → inside from ≡ true → AllByRecursion (Leads inside from) tos → AllIn inside tos
  led_in from [] e all = tt
  led_in from (to ∷ tos) e all = (all.0 e, led_in from tos e all.1)

  never : {P : Type 0} → false ≡ true → P
  never e = absurd (cc e)

  -- the stretch of one row, and of the rows behind it
  one_of_stretch : (scope : Scope) (n : ℕ) (later : List Row) → AllIn inside (stretch_by scope n (stretch names later)) → AllByRecursion (Leads inside n) (next_rows names scope later)
      → (shares All scope ≡ true → inside n ≡ true) × AllIn inside (stretch names later)
  one_of_stretch (One q) n later all step = ((λ s. all_last (stretch names later) n all), all_front (stretch names later) (n ∷ []) all)
  one_of_stretch All n later all step = ((λ s. all.0), led_in n (stretch names later) all.0 step)
  one_of_stretch Nothing n later all step = ((λ s. never s), all)

  row_of_stretch : (ts : List Trigger) (scope : Scope) (later : List Row) → AllIn inside (stretch_at names ts scope (stretch names later)) → RowWired inside names ts (next_rows names scope later)
      → (shares All scope ≡ true → HeadIn ts) × AllIn inside (stretch names later)
  row_of_stretch [] scope later all w = ((λ s. tt), all)
  row_of_stretch (t ∷ ts) scope later all w = one_of_stretch scope (number_of names t) later all w.1

  every : (rows : List Row) → RowsWired inside names rows → AllIn inside (stretch names rows) → Sharing All rows
  every [] w all = tt
  every (row ∷ later) w all = let one = row_of_stretch row.triggers row.scope later all w.1 in (one.0, every later w.0 one.1)

  shares_all : (p : ℕ) (scope : Scope) → shares (One p) scope ≡ true → shares All scope ≡ true
  shares_all p (One q) s = refl
  shares_all p All s = refl
  shares_all p Nothing s = s

  all_shared : (p : ℕ) (rows : List Row) → Sharing All rows → Sharing (One p) rows
  all_shared p [] e = tt
  all_shared p (row ∷ later) e = ((λ s. e.0 (shares_all p row.scope s)), all_shared p later e.1)

  same_prefix : (q p : ℕ) → (q == p) ≡ true → q ≡ p
  same_prefix q p e = grind (arith, nat_tests)

  other_prefix : (q p : ℕ) → (q == p) ≡ false → (p == q) ≡ true → ⊥
  other_prefix q p e f = grind (arith, nat_tests)

  abbrev Near : ℕ → List Row → Type 0
  Near p rows = AllIn inside (option_to_list (nearest names p rows))

  one_of_near : (p : ℕ) (scope : Scope) (n : ℕ) (later : List Row) → AllIn inside (option_to_list (nearest_by scope n p (nearest names p later))) → AllByRecursion (Leads inside n) (next_rows names scope later)
      → RowsWired inside names later → (Near p later → Sharing (One p) later) → (shares (One p) scope ≡ true → inside n ≡ true) × Sharing (One p) later
  one_of_near p All n later all step w more = ((λ s. all.0), all_shared p later (every later w (led_in n (stretch names later) all.0 step)))
  one_of_near p Nothing n later all step w more = ((λ s. never s), more all)
  one_of_near p (One q) n later all step w more =
      (elim (q == p) as (λ b. (q == p) ≡ b → AllIn inside (option_to_list (if b then Some n else nearest names p later)) → (shares (One p) (One q) ≡ true → inside n ≡ true) × Sharing (One p) later) [
        | true ↦ λ e here. ((λ s. here.0), more (subst (λ z. Near z later) (same_prefix q p e) (led_in n (option_to_list (nearest names q later)) here.0 step)))
        | false ↦ λ e here. ((λ s. absurd (other_prefix q p e s)), more here)
      ]) refl all

  row_of_near : (p : ℕ) (ts : List Trigger) (scope : Scope) (later : List Row) → AllIn inside (option_to_list (nearest_at names ts scope p (nearest names p later))) → RowWired inside names ts (next_rows names scope later)
      → RowsWired inside names later → (Near p later → Sharing (One p) later) → (shares (One p) scope ≡ true → HeadIn ts) × Sharing (One p) later
  row_of_near p [] scope later all w ws more = ((λ s. tt), more all)
  row_of_near p (t ∷ ts) scope later all w ws more = one_of_near p scope (number_of names t) later all w.1 ws more

  sharing : (p : ℕ) (rows : List Row) → RowsWired inside names rows → Near p rows → Sharing (One p) rows
  sharing p [] w near = tt
  sharing p (row ∷ later) w near = row_of_near p row.triggers row.scope later near w.1 w.0 (sharing p later w.0)

  none_shared : (rows : List Row) → Sharing Nothing rows
  none_shared [] = tt
  none_shared (row ∷ later) = ((λ s. never s), none_shared later)

  pub follow : (scope : Scope) (rows : List Row) → RowsWired inside names rows → AllIn inside (next_rows names scope rows) → Sharing scope rows
  follow (One p) rows w all = sharing p rows w all
  follow All rows w all = every rows w all
  follow Nothing rows w all = none_shared rows

  -- one trigger of a row leads to all of them
  pub to_first : (first : ℕ) (ts : List Trigger) (t : Trigger) → TiedIn inside names first ts → Among t ts → inside (number_of names t) ≡ true → inside first ≡ true
  to_first first [] t w a e = absurd a
  to_first first (s ∷ ts) t w (inl is) e = w.0.1 (subst (λ z. inside (number_of names z) ≡ true) (sym is) e)
  to_first first (s ∷ ts) t w (inr a) e = to_first first ts t w.1 a e

  pub from_first : (first : ℕ) (ts : List Trigger) → TiedIn inside names first ts → inside first ≡ true → AllByRecursion (λ t. inside (number_of names t) ≡ true) ts
  from_first first [] w e = tt
  from_first first (s ∷ ts) w e = (w.0.0 e, from_first first ts w.1 e)

  pub row_head : (ts : List Trigger) (next : List ℕ) (t : Trigger) → RowWired inside names ts next → Among t ts → inside (number_of names t) ≡ true → HeadIn ts
  row_head [] next t w a e = absurd a
  row_head (s ∷ ts) next t w (inl is) e = subst (λ z. inside (number_of names z) ≡ true) (sym is) e
  row_head (s ∷ ts) next t w (inr a) e = to_first (number_of names s) ts t w.0 a e

  pub head_row : (ts : List Trigger) (next : List ℕ) → RowWired inside names ts next → HeadIn ts → AllByRecursion (λ t. inside (number_of names t) ≡ true) ts
  head_row [] next w h = tt
  head_row (s ∷ ts) next w h = (h, from_first (number_of names s) ts w.0 h)

  pub head_next : (ts : List Trigger) (next : List ℕ) (t : Trigger) → RowWired inside names ts next → Among t ts → HeadIn ts → AllIn inside next
  head_next [] next t w a h = absurd a
  head_next (s ∷ ts) next t w a h = led_in (number_of names s) next h w.1

-- ---- the reached set is closed

not_above : (v n : ℕ) → v < n → nat_lt v n ≡ true
not_above v n h = grind (arith, nat_tests)

is_above : (v n : ℕ) → n ≤ v → nat_lt v n ≡ false
is_above v n h = grind (arith, nat_tests)

within_more : (v n m : ℕ) → v ≤ n → m ≡ n + 1 → v < m
within_more v n m h e = omega arith

zero_more : (i : ℕ) → 0 + i ≡ i
zero_more i = omega arith

module _ (reports : List Report) (opened : List OpenTrigger) (reached : Trail) (is : IsReached (wire_open (names_of reports opened) (graph_of_rows (names_of reports opened) reports) opened) (roots_of (names_of reports opened) opened) reached) where
  abbrev names : List Trigger
  names = names_of reports opened

  abbrev graph : List (List ℕ)
  graph = wire_open names (graph_of_rows names reports) opened

  abbrev collection : List Trigger
  collection = collect_names (has_seen reached) 0 names []

  -- reached, or not a vertex
  abbrev inside : ℕ → Bool
  inside v = has_seen reached v || not (nat_lt v (length graph))

  seen_inside : (v : ℕ) → has_seen reached v ≡ true → inside v ≡ true
  seen_inside v e = or_left (has_seen reached v) (not (nat_lt v (length graph))) e

  inside_seen : (v : ℕ) → v < length graph → inside v ≡ true → has_seen reached v ≡ true
  inside_seen v up e = either (or_either (has_seen reached v) (not (nat_lt v (length graph))) e)
    where
      either : (has_seen reached v ≡ true) ⊎ (not (nat_lt v (length graph)) ≡ true) → has_seen reached v ≡ true
      either (inl f) = f
      either (inr f) = absurd (cc (sym f ∙ ap not (not_above v (length graph) up)))

  past_inside : (v : ℕ) → length graph ≤ v → inside v ≡ true
  past_inside v up = or_right (has_seen reached v) (not (nat_lt v (length graph))) (ap not (is_above v (length graph) up))

  kept : IsKept inside graph
  kept v e = split (cases_lt v (length graph))
    where
      target : v < length graph → (w : ℕ) → Among w (led_from graph v) → inside w ≡ true
      target up w a = which (cases_lt w (length graph))
        where
          which : (w < length graph) ⊎ (length graph ≤ w) → inside w ≡ true
          which (inl h) = seen_inside w (is.led v w (inside_seen v up e) a h)
          which (inr h) = past_inside w h

      split : (v < length graph) ⊎ (length graph ≤ v) → AllIn inside (led_from graph v)
      split (inl up) = all_from_each (λ w. inside w ≡ true) (led_from graph v) (target up)
      split (inr up) = subst (AllIn inside) (sym (get_or_past graph v [] up)) tt

  wired : ReportsWired inside names reports × OpenWired inside names opened
  wired = kept_says inside names reports opened kept

  one_place : Distinct names
  one_place = names_distinct reports opened

  -- numbers are vertices
  number_in : (t : Trigger) → number_of names t < length graph
  number_in t = within_more (number_of names t) (length names) (length graph) (number_within names t) (length_graph names reports opened)

  -- a collected trigger has a place that was reached
  collected_seen : (t : Trigger) → lists collection t ≡ true → (i : ℕ) × (slice_get names i ≡ Some t) × (has_seen reached i ≡ true)
  collected_seen t e = either (in_collection (has_seen reached) 0 names [] t (lists_among collection t e))
    where
      either : ⊥ ⊎ ((i : ℕ) × (slice_get names i ≡ Some t) × (has_seen reached (0 + i) ≡ true)) → (i : ℕ) × (slice_get names i ≡ Some t) × (has_seen reached i ≡ true)
      either (inl a) = absurd a
      either (inr p) = (p.0, p.1, subst (λ k. has_seen reached k ≡ true) (zero_more p.0) p.2)

  into : (t : Trigger) → lists collection t ≡ true → inside (number_of names t) ≡ true
  into t e =
      let at = collected_seen t e in
      subst (λ n. inside n ≡ true) (sym (number_at names one_place at.0 t at.1)) (seen_inside at.0 at.2)

  -- and one with a number that was reached is collected
  out_of : (t : Trigger) → Among t names → inside (number_of names t) ≡ true → lists collection t ≡ true
  out_of t a e =
      among_lists collection t
      (passes_collected (has_seen reached) 0 names [] t (number_of names t) (number_stands names t a)
      (subst (λ k. has_seen reached k ≡ true) (sym (zero_more (number_of names t))) (inside_seen (number_of names t) (number_in t) e)))

  -- ---- what is open

  open_closed : (o : OpenTrigger) → Among o opened → DownWired inside names o.down o.trigger → ClosedAt (lists collection) o
  open_closed o a w due = out_of o.trigger (open_named reports opened o a) (from o.down refl w due)
    where
      from : (d : Option Trigger) → o.down ≡ d → DownWired inside names d o.trigger → is_due (lists collection) d ≡ true → inside (number_of names o.trigger) ≡ true
      from (Some s) e lead due = lead (into s due)
      from None e lead due =
          seen_inside (number_of names o.trigger)
          (is.begun (number_of names o.trigger)
          (in_flat (λ (o : OpenTrigger). root_of names o.down o.trigger) opened o (number_of names o.trigger) a
          (subst (λ z. Among (number_of names o.trigger) (root_of names z o.trigger)) (sym e) (inl refl)))
          (number_in o.trigger))

  items_closed : AllByRecursion (ClosedAt (lists collection)) opened
  items_closed =
      all_from_each (ClosedAt (lists collection)) opened
      (λ o a. open_closed o a (each_at (λ (o : OpenTrigger). DownWired inside names o.down o.trigger) opened o wired.1 a))

  -- ---- rows

  -- all triggers that these list have a number
  abbrev Named : List Row → Type 0
  Named rows = (row : Row) (t : Trigger) → Among row rows → Among t row.triggers → Among t names

  all_out : (ts : List Trigger) → ((t : Trigger) → Among t ts → Among t names) → AllByRecursion (λ t. inside (number_of names t) ≡ true) ts → AllInside (lists collection) ts
  all_out [] named all = tt
  all_out (t ∷ ts) named all = (out_of t (named t (inl refl)) all.0, all_out ts (λ s a. named s (inr a)) all.1)

  later_collected : (row : Row) (rows : List Row) → RowsWired inside names rows → Named rows → Sharing inside names row.scope rows → AllByRecursion (ClosedFrom (lists collection) row) rows
  later_collected row [] w named shared = tt
  later_collected row (next ∷ later) w named shared = (
    λ s. all_out next.triggers (λ t a. named next t (inl refl) a) (head_row inside names next.triggers (next_rows names next.scope later) w.1 (shared.0 s)),
    later_collected row later w.0 (λ k t a b. named k t (inr a) b) shared.1,
  )

  rows_closed : (rows : List Row) → RowsWired inside names rows → Named rows → ClosedRows (lists collection) rows
  rows_closed [] w named = tt
  rows_closed (row ∷ later) w named = (
    λ some.
        let t = some_passes (lists collection) row.triggers some in
        let next = next_rows names row.scope later in
        let head = row_head inside names row.triggers next t.0 w.1 t.1 (into t.0 t.2) in
        record {
          together = all_out row.triggers (λ t a. named row t (inl refl) a) (head_row inside names row.triggers next w.1 head);
          order = later_collected row later w.0 (λ k t a b. named k t (inr a) b) (follow inside names row.scope later w.0 (head_next inside names row.triggers next t.0 w.1 t.1 head));
        },
    rows_closed later w.0 (λ k t a b. named k t (inr a) b),
  )

  collection_closed : ClosedFor opened reports (lists collection)
  collection_closed = record {
    items = items_closed;
    rows = all_from_each (λ (r : Report). ClosedRows (lists collection) r.rows) reports
        (λ r a. rows_closed r.rows (each_at (λ (r : Report). RowsWired inside names r.rows) reports r wired.0 a) (λ row t b c. row_named reports opened r row t a b c));
  }

  -- ---- the reached set is in every closed set

  module _ (good : Trigger → Bool) (closed : ClosedFor opened reports good) where
    -- the trigger with this number is in the set
    good_at : Option Trigger → Bool
    good_at None = false
    good_at (Some t) = good t

    is_good : ℕ → Bool
    is_good v = good_at (slice_get names v)

    number_good : (t : Trigger) → Among t names → is_good (number_of names t) ≡ good t
    unfolding is_good good_at
    number_good t a = ap good_at (number_stands names t a)

    good_number : (t : Trigger) → is_good (number_of names t) ≡ true → good t ≡ true
    unfolding is_good good_at
    good_number t e = either (at_number names t)
      where
        either : (slice_get names (number_of names t) ≡ Some t) ⊎ (slice_get names (number_of names t) ≡ None) → good t ≡ true
        either (inl f) = sym (ap good_at f) ∙ e
        either (inr f) = absurd (cc (sym (ap good_at f) ∙ e))

    abbrev GoodHead : List Trigger → Type 0
    GoodHead [] = Unit {0}
    GoodHead (t ∷ ts) = is_good (number_of names t) ≡ true

    -- the first triggers of the rows that share a prefix are in the set
    abbrev GoodFrom : Scope → List Row → Type 0
    GoodFrom scope [] = Unit {0}
    GoodFrom scope (row ∷ later) = (shares scope row.scope ≡ true → GoodHead row.triggers) × GoodFrom scope later

    good_head : (ts : List Trigger) → ((t : Trigger) → Among t ts → Among t names) → AllInside good ts → GoodHead ts
    good_head [] named all = tt
    good_head (t ∷ ts) named all = number_good t (named t (inl refl)) ∙ all.0

    good_from : (row : Row) (rows : List Row) → Named rows → AllByRecursion (ClosedFrom good row) rows → GoodFrom row.scope rows
    good_from row [] named all = tt
    good_from row (next ∷ later) named all = (
      λ s. good_head next.triggers (λ t a. named next t (inl refl) a) (all.0 s),
      good_from row later (λ k t a b. named k t (inr a) b) all.1,
    )

    turned : (q p : ℕ) → (q == p) ≡ true → (p == q) ≡ true
    turned q p e = grind (arith, nat_tests)

    near_by : (p : ℕ) (scope : Scope) (n : ℕ) (near : Option ℕ) → (shares (One p) scope ≡ true → is_good n ≡ true) → AllIn is_good (option_to_list near) → AllIn is_good (option_to_list (nearest_by scope n p near))
    near_by p All n near here more = (here refl, tt)
    near_by p Nothing n near here more = more
    near_by p (One q) n near here more =
        (elim (q == p) as (λ b. (q == p) ≡ b → AllIn is_good (option_to_list (if b then Some n else near))) [
          | true ↦ λ e. (here (turned q p e), tt)
          | false ↦ λ e. more
        ]) refl

    near_at : (p : ℕ) (ts : List Trigger) (scope : Scope) (near : Option ℕ) → (shares (One p) scope ≡ true → GoodHead ts) → AllIn is_good (option_to_list near) → AllIn is_good (option_to_list (nearest_at names ts scope p near))
    near_at p [] scope near here more = more
    near_at p (t ∷ ts) scope near here more = near_by p scope (number_of names t) near here more

    near_good : (p : ℕ) (rows : List Row) → GoodFrom (One p) rows → AllIn is_good (option_to_list (nearest names p rows))
    near_good p [] g = tt
    near_good p (row ∷ later) g = near_at p row.triggers row.scope (nearest names p later) g.0 (near_good p later g.1)

    all_more : (xs : List ℕ) (y : ℕ) → AllIn is_good xs → is_good y ≡ true → AllIn is_good (xs ++ y ∷ [])
    all_more [] y all e = (e, tt)
    all_more (x ∷ xs) y all e = (all.0, all_more xs y all.1 e)

    far_by : (scope : Scope) (n : ℕ) (far : List ℕ) → (shares All scope ≡ true → is_good n ≡ true) → AllIn is_good far → AllIn is_good (stretch_by scope n far)
    far_by (One q) n far here more = all_more far n more (here refl)
    far_by All n far here more = (here refl, tt)
    far_by Nothing n far here more = more

    far_at : (ts : List Trigger) (scope : Scope) (far : List ℕ) → (shares All scope ≡ true → GoodHead ts) → AllIn is_good far → AllIn is_good (stretch_at names ts scope far)
    far_at [] scope far here more = more
    far_at (t ∷ ts) scope far here more = far_by scope (number_of names t) far here more

    far_good : (rows : List Row) → GoodFrom All rows → AllIn is_good (stretch names rows)
    far_good [] g = tt
    far_good (row ∷ later) g = far_at row.triggers row.scope (stretch names later) g.0 (far_good later g.1)

    next_good : (scope : Scope) (rows : List Row) → GoodFrom scope rows → AllIn is_good (next_rows names scope rows)
    next_good (One p) rows g = near_good p rows g
    next_good All rows g = far_good rows g
    next_good Nothing rows g = tt

    tied_good : (first : ℕ) (ts : List Trigger) → ((t : Trigger) → Among t ts → Among t names) → (is_good first ≡ true → AllInside good ts)
        → ((t : Trigger) → Among t ts → good t ≡ true → is_good first ≡ true) → TiedIn is_good names first ts
    tied_good first [] named all back = tt
    tied_good first (t ∷ ts) named all back = (
      ((λ e. number_good t (named t (inl refl)) ∙ (all e).0), (λ e. back t (inl refl) (good_number t e))),
      tied_good first ts (λ s a. named s (inr a)) (λ e. (all e).1) (λ s a e. back s (inr a) e),
    )

    leads_good : (from : ℕ) (tos : List ℕ) → (is_good from ≡ true → AllIn is_good tos) → AllByRecursion (Leads is_good from) tos
    leads_good from [] all = tt
    leads_good from (to ∷ tos) all = ((λ e. (all e).0), leads_good from tos (λ e. (all e).1))

    row_good : (row : Row) (ts : List Trigger) (later : List Row) → row.triggers ≡ ts → Named (row ∷ later) → (list_any good row.triggers ≡ true → RowClosed good row later) → RowWired is_good names ts (next_rows names row.scope later)
    row_good row [] later e named c = tt
    row_good row (t ∷ ts) later e named c = (
      tied_good (number_of names t) ts (λ s a. named_here s (inr a)) (λ g. (all t (inl refl) (good_number t g)).1)
          (λ s a g. number_good t (named_here t (inl refl)) ∙ (all s (inr a) g).0),
      leads_good (number_of names t) (next_rows names row.scope later)
          (λ g. next_good row.scope later (good_from row later (λ k s a b. named k s (inr a) b) (c (some t (inl refl) (good_number t g))).order)),
    )
      where
        named_here : (s : Trigger) → Among s (t ∷ ts) → Among s names
        named_here s a = named row s (inl refl) (subst (λ z. Among s z) (sym e) a)

        some : (s : Trigger) → Among s (t ∷ ts) → good s ≡ true → list_any good row.triggers ≡ true
        some s a g = subst (λ z. list_any good z ≡ true) (sym e) (passes good (t ∷ ts) s a g)

        all : (s : Trigger) → Among s (t ∷ ts) → good s ≡ true → AllInside good (t ∷ ts)
        all s a g = subst (AllInside good) e (c (some s a g)).together

    rows_good : (rows : List Row) → Named rows → ClosedRows good rows → RowsWired is_good names rows
    rows_good [] named c = tt
    rows_good (row ∷ later) named c = (rows_good later (λ k t a b. named k t (inr a) b) c.1, row_good row row.triggers later refl named c.0)

    open_good : (o : OpenTrigger) → Among o opened → DownWired is_good names o.down o.trigger
    open_good o a = from o.down (each_at (ClosedAt good) opened o closed.items a)
      where
        from : (d : Option Trigger) → (is_due good d ≡ true → good o.trigger ≡ true) → DownWired is_good names d o.trigger
        from None c = tt
        from (Some s) c = λ e. number_good o.trigger (open_named reports opened o a) ∙ c (good_number s e)

    good_kept : IsKept is_good graph
    good_kept =
        says_kept is_good names reports opened
        (all_from_each (λ (r : Report). RowsWired is_good names r.rows) reports
        (λ r a. rows_good r.rows (λ row t b c. row_named reports opened r row t a b c) (each_at (λ (r : Report). ClosedRows good r.rows) reports r closed.rows a)))
        (all_from_each (λ (o : OpenTrigger). DownWired is_good names o.down o.trigger) opened open_good)

    -- roots
    root_good : (w : ℕ) → Among w (roots_of names opened) → is_good w ≡ true
    root_good w a =
        let o = of_flat (λ (o : OpenTrigger). root_of names o.down o.trigger) opened w a in
        from o.0 o.1 o.0.down o.2 (each_at (ClosedAt good) opened o.0 closed.items o.1)
      where
        here : (o : OpenTrigger) → Among o opened → (number_of names o.trigger ≡ w) ⊎ ⊥ → good o.trigger ≡ true → is_good w ≡ true
        here o a (inl e) g = subst (λ z. is_good z ≡ true) e (number_good o.trigger (open_named reports opened o a) ∙ g)
        here o a (inr b) g = absurd b

        from : (o : OpenTrigger) → Among o opened → (d : Option Trigger) → Among w (root_of names d o.trigger) → (is_due good d ≡ true → good o.trigger ≡ true) → is_good w ≡ true
        from o a None b c = here o a b (c refl)
        from o a (Some s) b c = absurd b

    collection_good : (t : Trigger) → Among t collection → good t ≡ true
    unfolding is_good good_at
    collection_good t a =
        let at = collected_seen t (among_lists collection t a) in
        sym (ap good_at at.1) ∙ is.least is_good good_kept root_good at.0 at.2

  pub collection_least : IsLeast opened reports collection
  collection_least = record { ascending = collection_ascend (has_seen reached) 0 names [] tt; closed = collection_closed; least = λ good closed t a. collection_good good closed t a }

-- the same for the parts in the form of the code
pub found_least : (reports : List Report) (opened : List OpenTrigger) (ns : List Trigger) (graph : List (List ℕ)) (roots : List ℕ) (reached : Trail) (collected : List Trigger)
    → ns ≡ names_of reports opened → graph ≡ wire_open ns (graph_of_rows ns reports) opened → roots ≡ roots_of ns opened → IsReached graph roots reached → collected ≡ collect_names (has_seen reached) 0 ns []
    → IsLeast opened reports collected
found_least reports opened ns graph roots reached collected names_are graph_is roots_are is collected_is =
    let all = names_of reports opened in
    subst (λ z. IsLeast opened reports z) (sym (collected_is ∙ ap (λ z. collect_names (has_seen reached) 0 z []) names_are))
    (collection_least reports opened reached
    (subst (λ z. IsReached z (roots_of all opened) reached) (graph_is ∙ ap (λ z. wire_open z (graph_of_rows z reports) opened) names_are)
    (subst (λ z. IsReached graph z reached) (roots_are ∙ ap (λ z. roots_of z opened) names_are) is)))
