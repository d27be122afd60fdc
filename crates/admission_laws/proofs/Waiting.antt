-- The rows of what a log holds back fit.
use Rattle.std.proofs.Common.{ℕ, zero, suc, ◌+◌, ◌*◌, ◌<◌, ◌≤◌, Bool, true, false, cond, ◌&&◌, ◌||◌, ◌==◌, Option, Some, None, List, [], ◌∷◌, ◌≡◌, ⊎_elim, refl, sym, subst, arith, length, map, filter, flat_map}
use Rattle.std.specs.Prelude.{nat_le, nat_lt}
use Rattle.std.specs.List.{list_all, list_any, range_with_len, AllByRecursion}
use Rattle.std.proofs.lemmas.Bool.Decides.{nat_tests}
use Rattle.std.proofs.lemmas.List.{length-append, length-map}
use Rattle.std.proofs.lemmas.List.FromFn.{length-range_with_len}
use Rattle.topology.specs.declared.items.Pending.{Pending}
use Rattle.topology.specs.Lists.{has, Among}
use Rattle.topology.specs.Net.{Net, IsValid, neighbours, places}
use Rattle.topology.proofs.Ascending.{Rises}
use Rattle.topology.proofs.Near.{neighbours_few}
use Rattle.topology.proofs.Neighbours.{rises-neighbours}
use Rattle.topology.proofs.Tests.{and_both}
use Rattle.path_vector.specs.Rules.{Rules}
use Rattle.path_vector.specs.History.{held}
use Rattle.trigger_log.specs.Entries.{Entry, reads}
use Rattle.trigger_log.specs.Fits.{Fits}
use Rattle.trigger_log.specs.Pending.{is_pending, pending, pending_row, pending_rows, pending_to}
use Rattle.message_fitting.specs.ControlFits.{in_order, pending_fits, waiting_ascends, waiting_fits, waits_sooner}
use Rattle.node_core.specs.Counted.{is_long, is_long_row}
use Rattle.message_fitting.specs.Names.{is_number, list_fits, triggers_fit}
use Rattle.topology.specs.declared.limits.TheConstants.{MOST_PENDING, MOST_TRIGGERS}
use Rattle.admission_laws.proofs.Each.{among_append, among_filter, among_has, among_made, among_range, each_flat, each_map, none_flat, none_made, passing_filter}
use Rattle.admission_laws.proofs.Bounds.{below_is, kept_few, most_is, not_long}
use Rattle.admission_laws.proofs.Listing.{pending_known}
use Rattle.admission_laws.proofs.Sessions.{AllFit, held_number, neighbour_is, order_append, order_map}

-- ---- ascending numbers

-- what holds of all numbers of a list holds of those that a test leaves
all_left : (P : ℕ → Type 0) (test : ℕ → Bool) (xs : List ℕ) → AllByRecursion P xs → AllByRecursion P (filter test xs)
all_left P test [] all = tt
all_left P test (x ∷ xs) all =
    elim (test x) as (λ t. AllByRecursion P (cond t (x ∷ filter test xs) (filter test xs))) [ true ↦ (all.0, all_left P test xs all.1) | false ↦ all_left P test xs all.1 ]

-- the numbers that a test leaves of a list that rises rise
rising_left : (test : ℕ → Bool) (xs : List ℕ) → Rises xs → Rises (filter test xs)
rising_left test [] up = tt
rising_left test (x ∷ xs) up =
    elim (test x) as (λ t. Rises (cond t (x ∷ filter test xs) (filter test xs))) [
      | true ↦ (all_left (λ y. x < y) test xs up.0, rising_left test xs up.1)
      | false ↦ rising_left test xs up.1
    ]

-- the numbers of a range are above each number below its start
range_above : (x a n : ℕ) → x < a → AllByRecursion (λ y. x < y) (range_with_len a n)
range_above x a zero low = tt
range_above x a (suc n) low = (low, range_above x (a + 1) n (omega arith))

range_rises : (a n : ℕ) → Rises (range_with_len a n)
range_rises a zero = tt
range_rises a (suc n) = (range_above a (a + 1) n (omega arith), range_rises (a + 1) n)

-- a list that rises is in order
rising_order : (xs : List ℕ) → Rises xs → in_order nat_lt xs ≡ true
rising_order [] up = refl
rising_order (x ∷ []) up = refl
rising_order (x ∷ y ∷ xs) up = and_both (nat_lt x y) (in_order nat_lt (y ∷ xs)) (below_is x y up.0.0) (rising_order (y ∷ xs) up.1)

-- ---- the rows

module _ (rules : Rules) (net : Net) (u : ℕ) (valid : IsValid net) (own : has net.nodes u ≡ true) (h : List Entry) where
  -- the prefixes of which an update is held back from w
  abbrev waiting_at : ℕ → List ℕ
  waiting_at w = filter (is_pending rules net u h w) (range_with_len 0 (length net.prefixes))

  -- the rows for w, if a session is held with it
  rows_for : ℕ → Option ℕ → List Pending
  rows_for w None = []
  rows_for w (Some s) = map (pending_row (pending rules net u h w) w s) (waiting_at w)

  same_rows : (w : ℕ) (session : Option ℕ) → pending_to rules net u h w session ≡ rows_for w session
  unfolding rows_for places
  same_rows w None = refl
  same_rows w (Some s) = refl

  -- the rows of these neighbours
  abbrev rows_of : List ℕ → List Pending
  rows_of ws = flat_map (λ w. pending_to rules net u h w (held (reads h) w)) ws

  -- ---- each fits

  module _ (all : AllFit net u h) (fits : Fits h) (w s : ℕ) (near : has (neighbours net u) w ≡ true) (holds : held (reads h) w ≡ Some s) where
    one_fits : (p : ℕ) → Among p (waiting_at w) → is_long (pending rules net u h w p) ≡ false → waiting_fits net (pending_row (pending rules net u h w) w s p) ≡ true
    one_fits p there short =
        let ts = pending rules net u h w p in
        let low = among_range 0 (length net.prefixes) p (among_filter (is_pending rules net u h w) (range_with_len 0 (length net.prefixes)) p there) in
        and_both (has net.nodes w) (nat_lt p (length net.prefixes) && (is_number s && list_fits net ts)) (neighbour_is net u w valid near)
        (and_both (nat_lt p (length net.prefixes)) (is_number s && list_fits net ts) (below_is p (length net.prefixes) (omega arith))
        (and_both (is_number s) (list_fits net ts) (held_number net u h w s all holds)
        (and_both (nat_le (length ts) MOST_TRIGGERS) (triggers_fit net ts) (not_long ts short)
        (pending_known rules net u h w p all fits (passing_filter (is_pending rules net u h w) (range_with_len 0 (length net.prefixes)) p there)))))

  to_fits : (all : AllFit net u h) (fits : Fits h) (w : ℕ) (session : Option ℕ) → has (neighbours net u) w ≡ true → held (reads h) w ≡ session → list_any is_long_row (rows_for w session) ≡ false
      → list_all (waiting_fits net) (rows_for w session) ≡ true
  unfolding rows_for
  to_fits all fits w None near holds short = refl
  to_fits all fits w (Some s) near holds short =
      each_map (waiting_fits net) (pending_row (pending rules net u h w) w s) (waiting_at w)
      (λ p there. one_fits all fits w s near holds p there (none_made is_long_row (pending_row (pending rules net u h w) w s) (waiting_at w) p short there))

  -- ---- they ascend

  -- the rows for w are rows of w
  of_w : (w : ℕ) (session : Option ℕ) (row : Pending) → Among row (rows_for w session) → row.to ≡ w
  unfolding rows_for
  of_w w None row there = absurd there
  of_w w (Some s) row there =
      let one = among_made (pending_row (pending rules net u h w) w s) (waiting_at w) row there in
      subst (λ (r : Pending). r.to ≡ w) one.2 refl

  -- the rows for neighbours above v are rows of a neighbour above v
  rows_above : (v : ℕ) (ws : List ℕ) (row : Pending) → AllByRecursion (λ w. v < w) ws → Among row (rows_of ws) → v < row.to
  rows_above v [] row above there = absurd there
  rows_above v (w ∷ ws) row above there =
      ⊎_elim
      (λ (here : Among row (pending_to rules net u h w (held (reads h) w))).
      let is = of_w w (held (reads h) w) row (subst (λ rows. Among row rows) (same_rows w (held (reads h) w)) here) in let low = above.0 in omega (arith, is, low))
      (λ (later : Among row (rows_of ws)). rows_above v ws row above.1 later)
      (among_append (pending_to rules net u h w (held (reads h) w)) (rows_of ws) row there)

  next_prefix : (w p q : ℕ) → nat_lt p q ≡ true → (nat_lt w w || (w == w && nat_lt p q)) ≡ true
  next_prefix w p q less = grind (arith, nat_tests)

  next_neighbour : (a b : Pending) → a.to < b.to → waits_sooner a b ≡ true
  next_neighbour a b less = grind (arith, nat_tests)

  to_order : (w : ℕ) (session : Option ℕ) → in_order waits_sooner (rows_for w session) ≡ true
  unfolding rows_for
  to_order w None = refl
  to_order w (Some s) =
      order_map nat_lt waits_sooner (pending_row (pending rules net u h w) w s) (waiting_at w) (λ p q less. next_prefix w p q less)
      (rising_order (waiting_at w) (rising_left (is_pending rules net u h w) (range_with_len 0 (length net.prefixes)) (range_rises 0 (length net.prefixes))))

  rows_order : (ws : List ℕ) → Rises ws → in_order waits_sooner (rows_of ws) ≡ true
  rows_order [] up = refl
  rows_order (w ∷ ws) up =
      order_append waits_sooner (pending_to rules net u h w (held (reads h) w)) (rows_of ws)
      (subst (λ rows. in_order waits_sooner rows ≡ true) (sym (same_rows w (held (reads h) w))) (to_order w (held (reads h) w)))
      (rows_order ws up.1)
      (λ a b here there.
      let is = of_w w (held (reads h) w) a (subst (λ rows. Among a rows) (same_rows w (held (reads h) w)) here) in
      let low = rows_above w ws b up.0 there in
      next_neighbour a b (omega (arith, is, low)))

  -- ---- how many there are

  to_few : (w : ℕ) (session : Option ℕ) → length (rows_for w session) ≤ 256
  unfolding rows_for
  to_few w None = omega arith
  to_few w (Some s) =
      let as_many = length-map (waiting_at w) (pending_row (pending rules net u h w) w s) in
      let fewer = kept_few (is_pending rules net u h w) (range_with_len 0 (length net.prefixes)) in
      let all = length-range_with_len 0 (length net.prefixes) in
      let limit = valid.few_prefixes in
      omega (arith, as_many, fewer, all, limit)

  rows_few : (ws : List ℕ) → length (rows_of ws) ≤ 256 * length ws
  rows_few [] = omega arith
  rows_few (w ∷ ws) =
      let both = length-append (pending_to rules net u h w (held (reads h) w)) (rows_of ws) in
      let here : length (pending_to rules net u h w (held (reads h) w)) ≤ 256 = subst (λ rows. length rows ≤ 256) (sym (same_rows w (held (reads h) w))) (to_few w (held (reads h) w)) in
      let rest = rows_few ws in
      omega (arith, both, here, rest)

-- the rows of all that is held back fit, and are in order
pub waiting_are : (rules : Rules) (net : Net) (u : ℕ) → IsValid net → has net.nodes u ≡ true → (h : List Entry) → AllFit net u h → Fits h → list_any is_long_row (pending_rows rules net u h) ≡ false
    → pending_fits net (pending_rows rules net u h) ≡ true
unfolding pending_rows
waiting_are rules net u valid own h all fits short =
    let ns = neighbours net u in
    let rows = rows_of rules net u valid own h ns in
    let near = neighbours_few net u valid own in
    let few = rows_few rules net u valid own h ns in
    and_both (list_all (waiting_fits net) rows) (waiting_ascends rows)
    (each_flat (waiting_fits net) (λ w. pending_to rules net u h w (held (reads h) w)) ns
    (λ w there.
    let here = none_flat is_long_row (λ v. pending_to rules net u h v (held (reads h) v)) ns w short there in
    let same = same_rows rules net u valid own h w (held (reads h) w) in
    subst (λ l. list_all (waiting_fits net) l ≡ true) (sym same)
    (to_fits rules net u valid own h all fits w (held (reads h) w) (among_has ns w there) refl (subst (λ l. list_any is_long_row l ≡ false) same here))))
    (and_both (in_order waits_sooner rows) (nat_le (length rows) MOST_PENDING) (rows_order rules net u valid own h ns (rises-neighbours net u valid))
    (most_is (length rows) MOST_PENDING (omega (arith, near, few))))
