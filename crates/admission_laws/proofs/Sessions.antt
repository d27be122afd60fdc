-- The sessions of a log: their numbers, their order, and their count.
use Rattle.std.proofs.Common.{ℕ, ◌+◌, ◌^◌, ◌<◌, ◌≤◌, Bool, true, false, cond, not, ◌==◌, ◌&&◌, ◌||◌, Option, Some, None, List, [], ◌∷◌, ◌++◌, ◌≡◌, ⊎_elim, inl, inr, refl, sym, ◌∙◌, ap, subst, arith, length, map, flat_map}
use Rattle.std.specs.Prelude.{nat_lt, nat_le}
use Rattle.std.specs.List.{list_all, AllByRecursion}
use Rattle.std.proofs.lemmas.Bool.Decides.{nat_tests}
use Rattle.std.proofs.lemmas.List.{length-append, length-map}
use Rattle.topology.specs.declared.names.Scope.{Scope}
use Rattle.topology.specs.declared.names.Scope.TheVariants.{One, All, Nothing}
use Rattle.topology.specs.declared.names.Trigger.{Trigger}
use Rattle.topology.specs.Lists.{has, Among}
use Rattle.topology.specs.Paths.{differ}
use Rattle.topology.specs.Net.{Net, IsValid, neighbours}
use Rattle.topology.proofs.Tests.{and_left, and_right, and_both, or_right, not_true, same_is}
use Rattle.topology.proofs.Ascending.{Rises}
use Rattle.topology.proofs.Near.{neighbours_few}
use Rattle.topology.proofs.Neighbours.{linked_nodes, neighbours_linked, rises-neighbours, differ-neighbours}
use Rattle.path_vector.specs.declared.causes.Cause.{Cause}
use Rattle.path_vector.specs.declared.causes.Cause.TheVariants.{Originate, Withdraw, Recv, Down, Up, Ready, Prefer, Flush}
use Rattle.path_vector.specs.History.{held, held_by, last}
use Rattle.trigger_log.specs.Entries.{Entry, Update, reads, inbox, received_by, closes, closing}
use Rattle.trigger_log.specs.Fits.{Fits, CauseFits}
use Rattle.trigger_log.specs.Sessions.{ever, opens_by}
use Rattle.trigger_log.proofs.Fresh.{ever_above}
use Rattle.trigger_log.proofs.Holding.{fits_up}
use Rattle.incomplete_closure.specs.Reports.{SessionRow}
use Rattle.epoch_report.specs.Reporting.{session_row, session_rows}
use Rattle.message_fitting.specs.ControlFits.{leads, in_order, row_lists_fit, sooner, scope_fits, session_fits, sessions_ascend, sessions_fit, down_fits}
use Rattle.message_fitting.specs.Names.{is_number, triggers_fit}
use Rattle.topology.specs.declared.limits.TheConstants.{MOST_ENTRIES, MOST_SESSIONS, MOST_TRIGGERS}
use Rattle.admission_laws.proofs.Facts.{cause_fits, entry_fits}
use Rattle.admission_laws.proofs.Each.{each_append, each_map, each_flat, among_has, among_append}
use Rattle.admission_laws.proofs.Values.{one_of}
use Rattle.admission_laws.proofs.Bounds.{number_is, below_is, most_is}

-- what ends a session concerns all prefixes, so it lists something
pub close_lists : (net : Net) (h : List Entry) (scope : Scope) (cause : Cause) (w s : ℕ) (ts : List Trigger) → CauseFits h scope cause → closes cause w s ≡ true → row_lists_fit net scope ts ≡ true
    → triggers_fit net ts ≡ true
close_lists net h All (Down v t) w s ts f e fit = and_right (nat_le (length ts) MOST_TRIGGERS) (triggers_fit net ts) fit
close_lists net h (One p) (Down v t) w s ts f e fit = absurd f
close_lists net h Nothing (Down v t) w s ts f e fit = absurd f
close_lists net h scope other w s ts f e fit = absurd (cc e)

-- all entries are such as u may have
abbrev pub AllFit : Net → ℕ → List Entry → Type 0
AllFit net u h = list_all (entry_fits net u) h ≡ true

module _ (net : Net) (u : ℕ) where
  -- if all entries of a log fit, the newest does
  pub first_fits : (k : Entry) (h : List Entry) → AllFit net u (k ∷ h) → entry_fits net u k ≡ true
  first_fits k h all = and_left (entry_fits net u k) (list_all (entry_fits net u) h) all

  -- if all entries of a log fit, those before the newest do
  pub rest_fits : (k : Entry) (h : List Entry) → AllFit net u (k ∷ h) → AllFit net u h
  rest_fits k h all = and_right (entry_fits net u k) (list_all (entry_fits net u) h) all

  -- the triggers of an entry that fits
  pub triggers_of : (k : Entry) → entry_fits net u k ≡ true → row_lists_fit net k.read.scope k.triggers ≡ true
  triggers_of k is = and_left (row_lists_fit net k.read.scope k.triggers) (scope_fits net k.read.scope && cause_fits net u k.read.cause) is

  -- a fitting entry has a scope that fits
  pub scope_of : (k : Entry) → entry_fits net u k ≡ true → scope_fits net k.read.scope ≡ true
  scope_of k is =
      and_left (scope_fits net k.read.scope) (cause_fits net u k.read.cause)
      (and_right (row_lists_fit net k.read.scope k.triggers) (scope_fits net k.read.scope && cause_fits net u k.read.cause) is)

  -- a fitting entry has a cause that fits
  pub cause_of : (k : Entry) → entry_fits net u k ≡ true → cause_fits net u k.read.cause ≡ true
  cause_of k is =
      and_right (scope_fits net k.read.scope) (cause_fits net u k.read.cause)
      (and_right (row_lists_fit net k.read.scope k.triggers) (scope_fits net k.read.scope && cause_fits net u k.read.cause) is)

  -- ---- numbers

  -- the session that is held after a fitting cause has a number that fits
  held_then : (cause : Cause) (w s : ℕ) (a : Option ℕ) → cause_fits net u cause ≡ true → (a ≡ Some s → is_number s ≡ true) → held_by cause w a ≡ Some s → is_number s ≡ true
  held_then Originate w s a fits before is = before is
  held_then Withdraw w s a fits before is = before is
  held_then (Recv v t seq path) w s a fits before is = before is
  held_then (Ready v t) w s a fits before is = before is
  held_then (Prefer v x) w s a fits before is = before is
  held_then (Flush v) w s a fits before is = before is
  held_then (Down v t) w s a fits before is =
      (elim (v == w) as (λ b. cond b None a ≡ Some s → is_number s ≡ true) [ true ↦ λ r. absurd (cc r) | false ↦ λ r. before r ]) is
  held_then (Up v t) w s a fits before is =
      (elim (v == w) as (λ b. cond b (Some t) a ≡ Some s → is_number s ≡ true) [
        | true ↦ λ r. let same : t ≡ s = cc in subst (λ x. is_number x ≡ true) same (and_right (has (neighbours net u) v) (is_number t) fits)
        | false ↦ λ r. before r
      ]) is

  -- the session that is held has a number that fits
  pub held_number : (h : List Entry) (w s : ℕ) → AllFit net u h → held (reads h) w ≡ Some s → is_number s ≡ true
  held_number [] w s all is = let same : 1 ≡ s = cc in number_is s (omega arith) (omega arith)
  held_number (k ∷ h) w s all is =
      held_then k.read.cause w s (held (reads h) w) (cause_of k (first_fits k h all)) (λ before. held_number h w s (rest_fits k h all) before) is

  -- the sessions that a fitting cause opens have numbers that fit
  opened_numbers : (cause : Cause) (w : ℕ) → cause_fits net u cause ≡ true → list_all is_number (opens_by cause w) ≡ true
  opened_numbers Originate w fits = refl
  opened_numbers Withdraw w fits = refl
  opened_numbers (Recv v t seq path) w fits = refl
  opened_numbers (Down v t) w fits = refl
  opened_numbers (Ready v t) w fits = refl
  opened_numbers (Prefer v x) w fits = refl
  opened_numbers (Flush v) w fits = refl
  opened_numbers (Up v t) w fits =
      elim (v == w) as (λ b. list_all is_number (cond b (t ∷ []) []) ≡ true) [
        | true ↦ and_both (is_number t) true (and_right (has (neighbours net u) v) (is_number t) fits) refl
        | false ↦ refl
      ]

  -- all sessions that were ever held have numbers that fit
  ever_numbers : (h : List Entry) (w : ℕ) → AllFit net u h → list_all is_number (ever h w) ≡ true
  ever_numbers [] w all = refl
  ever_numbers (k ∷ h) w all =
      each_append is_number (ever h w) (opens_by k.read.cause w) (ever_numbers h w (rest_fits k h all)) (opened_numbers k.read.cause w (cause_of k (first_fits k h all)))

  -- the Down of a session lists something
  closing_lists : (h : List Entry) (w s : ℕ) → AllFit net u h → Fits h → down_fits net (closing h w s) ≡ true
  closing_lists [] w s all fits = refl
  closing_lists (k ∷ h) w s all fits =
      (elim (closes k.read.cause w s) as (λ b. closes k.read.cause w s ≡ b → down_fits net (cond b (Some k.triggers) (closing h w s)) ≡ true) [
        | true ↦ λ e. close_lists net h k.read.scope k.read.cause w s k.triggers fits.0 e (triggers_of k (first_fits k h all))
        | false ↦ λ e. closing_lists h w s (rest_fits k h all) fits.1
      ]) refl

-- ---- in order

-- an element that stands before the first of a list, or before the first of the next list where that one is empty,
-- stands before the first of their concatenation
leads_append : {A : Type 0} (before : A → A → Bool) (x : A) (xs ys : List A) → leads before x xs ≡ true → ((y : A) → Among y ys → before x y ≡ true) → leads before x (xs ++ ys) ≡ true
leads_append before x [] [] first all = refl
leads_append before x [] (y ∷ ys) first all = all y (inl refl)
leads_append before x (z ∷ xs) ys first all = first

-- two lists in order are in order together, if the elements of the first stand before those of the second
pub order_append : {A : Type 0} (before : A → A → Bool) (xs ys : List A) → in_order before xs ≡ true → in_order before ys ≡ true → ((x y : A) → Among x xs → Among y ys → before x y ≡ true)
    → in_order before (xs ++ ys) ≡ true
order_append before [] ys a b all = b
order_append before (x ∷ xs) ys a b all =
    and_both (leads before x (xs ++ ys)) (in_order before (xs ++ ys))
    (leads_append before x xs ys (and_left (leads before x xs) (in_order before xs) a) (λ y there. all x y (inl refl) there))
    (order_append before xs ys (and_right (leads before x xs) (in_order before xs) a) b (λ z y here there. all z y (inr here) there))

-- what is made of a list in order is in order, if what is made keeps the order
pub order_map : {A B : Type 0} (before : A → A → Bool) (then' : B → B → Bool) (f : A → B) (xs : List A) → ((x y : A) → before x y ≡ true → then' (f x) (f y) ≡ true) → in_order before xs ≡ true
    → in_order then' (map f xs) ≡ true
order_map before then' f [] step a = refl
order_map before then' f (x ∷ []) step a = refl
order_map before then' f (x ∷ y ∷ xs) step a =
    and_both (then' (f x) (f y)) (in_order then' (map f (y ∷ xs))) (step x y (and_left (before x y) (in_order before (y ∷ xs)) a))
    (order_map before then' f (y ∷ xs) step (and_right (before x y) (in_order before (y ∷ xs)) a))

-- no session ever held is above the newest
ever_below : (h : List Entry) (w s : ℕ) → Fits h → Among s (ever h w) → s ≤ last (reads h) w
ever_below h w s fits there =
    (elim (nat_lt (last (reads h) w) s) as (λ b. nat_lt (last (reads h) w) s ≡ b → s ≤ last (reads h) w) [
      | true ↦ λ e.
          let above : last (reads h) w < s = grind (arith, nat_tests) in
          let none = ever_above h w s fits above in
          let here = among_has (ever h w) s there in
          absurd (cc)
      | false ↦ λ e. grind (arith, nat_tests)
    ]) refl

-- the sessions still ascend with one more that is above all
opened_last : (k : Entry) (h : List Entry) (cause : Cause) (w : ℕ) → k.read.cause ≡ cause → Fits (k ∷ h) → in_order nat_lt (ever h w) ≡ true → in_order nat_lt (ever h w ++ opens_by cause w) ≡ true
opened_last k h Originate w is fits before = order_append nat_lt (ever h w) [] before refl (λ x y here there. absurd there)
opened_last k h Withdraw w is fits before = order_append nat_lt (ever h w) [] before refl (λ x y here there. absurd there)
opened_last k h (Recv v t seq path) w is fits before = order_append nat_lt (ever h w) [] before refl (λ x y here there. absurd there)
opened_last k h (Down v t) w is fits before = order_append nat_lt (ever h w) [] before refl (λ x y here there. absurd there)
opened_last k h (Ready v t) w is fits before = order_append nat_lt (ever h w) [] before refl (λ x y here there. absurd there)
opened_last k h (Prefer v x) w is fits before = order_append nat_lt (ever h w) [] before refl (λ x y here there. absurd there)
opened_last k h (Flush v) w is fits before = order_append nat_lt (ever h w) [] before refl (λ x y here there. absurd there)
opened_last k h (Up v t) w is fits before =
    (elim (v == w) as (λ b. (v == w) ≡ b → in_order nat_lt (ever h w ++ cond b (t ∷ []) []) ≡ true) [
      | true ↦ λ e.
          let same = same_is v w e in
          let above : last (reads h) w < t = subst (λ x. last (reads h) x < t) same (fits_up h k.read.scope v t (subst (λ c. CauseFits h k.read.scope c) is fits.0)).1 in
          order_append nat_lt (ever h w) (t ∷ []) before refl
          (λ x y here there. let low = ever_below h w x fits.1 here in
          ⊎_elim (λ (q : t ≡ y). below_is x y (omega arith)) (λ (no : ⊥). absurd no) there)
      | false ↦ λ e. order_append nat_lt (ever h w) [] before refl (λ x y here there. absurd there)
    ]) refl

-- the sessions ever held ascend
ever_order : (h : List Entry) (w : ℕ) → Fits h → in_order nat_lt (ever h w) ≡ true
ever_order [] w fits = refl
ever_order (k ∷ h) w fits = opened_last k h k.read.cause w refl fits (ever_order h w fits.1)

-- ---- rows

-- a row made of a list of a neighbour is of the neighbour
row_of : {A : Type 0} (f : A → SessionRow) (w : ℕ) (xs : List A) (row : SessionRow) → ((x : A) → (f x).nbr ≡ w) → Among row (map f xs) → row.nbr ≡ w
row_of f w [] row all there = absurd there
row_of f w (x ∷ xs) row all there =
    ⊎_elim (λ (same : f x ≡ row). sym (ap (λ (r : SessionRow). r.nbr) same) ∙ all x) (λ (later : Among row (map f xs)). row_of f w xs row all later) there

module _ (h : List Entry) where
  -- the rows of the sessions with these neighbours
  abbrev rows_for : List ℕ → List SessionRow
  rows_for ws = flat_map (λ w. map (session_row h w) (ever h w)) ws

  -- rows of neighbours above v are rows of a neighbour above v
  rows_above : (v : ℕ) (ws : List ℕ) (row : SessionRow) → AllByRecursion (λ w. v < w) ws → Among row (rows_for ws) → v < row.nbr
  rows_above v [] row above there = absurd there
  rows_above v (w ∷ ws) row above there =
      ⊎_elim (λ (here : Among row (map (session_row h w) (ever h w))). let is = row_of (session_row h w) w (ever h w) row (λ s. refl) here in let low = above.0 in omega arith)
      (λ (later : Among row (rows_for ws)). rows_above v ws row above.1 later)
      (among_append (map (session_row h w) (ever h w)) (rows_for ws) row there)

  -- the rows are in order, by neighbour and then by session
  rows_order : (ws : List ℕ) → Fits h → Rises ws → in_order sooner (rows_for ws) ≡ true
  rows_order [] fits rises = refl
  rows_order (w ∷ ws) fits rises =
      order_append sooner (map (session_row h w) (ever h w)) (rows_for ws)
      (order_map nat_lt sooner (session_row h w) (ever h w) (λ s t less. next_session w s t less) (ever_order h w fits))
      (rows_order ws fits rises.1)
      (λ a b here there.
      let is = row_of (session_row h w) w (ever h w) a (λ s. refl) here in
      let low = rows_above w ws b rises.0 there in
      next_neighbour a b (omega arith))
    where
      -- a later session of the same neighbour comes later
      next_session : (v s t : ℕ) → nat_lt s t ≡ true → (nat_lt v v || (v == v && nat_lt s t)) ≡ true
      next_session v s t less = grind (arith, nat_tests)

      -- a session of a higher neighbour comes later
      next_neighbour : (a b : SessionRow) → a.nbr < b.nbr → sooner a b ≡ true
      next_neighbour a b less = grind (arith, nat_tests)

-- ---- how many sessions there are

-- an entry receives at most one update
received_few : (triggers : List Trigger) (scope : Scope) (cause : Cause) (v s : ℕ) → length (received_by triggers scope cause v s) ≤ 1
received_few triggers All cause v s = omega arith
received_few triggers Nothing cause v s = omega arith
received_few triggers (One p) (Flush w) v s = omega arith
received_few triggers (One p) Originate v s = omega arith
received_few triggers (One p) Withdraw v s = omega arith
received_few triggers (One p) (Down w t) v s = omega arith
received_few triggers (One p) (Up w t) v s = omega arith
received_few triggers (One p) (Ready w t) v s = omega arith
received_few triggers (One p) (Prefer w x) v s = omega arith
received_few triggers (One p) (Recv w t seq path) v s =
    let x : Update = record { prefix = p; triggers = triggers; path = path } in
    elim (w == v && t == s) as (λ b. length (cond b (x ∷ []) []) ≤ 1) [ true ↦ omega arith | false ↦ omega arith ]

-- a log received no more updates in a session than it has entries
inbox_few : (h : List Entry) (v s : ℕ) → length (inbox h v s) ≤ length h
inbox_few [] v s = omega arith
inbox_few (k ∷ h) v s =
    let before = inbox_few h v s in
    let one = received_few k.triggers k.read.scope k.read.cause v s in
    let both = length-append (inbox h v s) (received_by k.triggers k.read.scope k.read.cause v s) in
    omega arith

-- the number of sessions ever held with these neighbours
abbrev total : List Entry → List ℕ → ℕ
total h [] = 0
total h (w ∷ ws) = length (ever h w) + total h ws

-- the number of sessions that a cause opens with these neighbours
abbrev opened_in : Cause → List ℕ → ℕ
opened_in cause [] = 0
opened_in cause (w ∷ ws) = length (opens_by cause w) + opened_in cause ws

-- there are as many rows as sessions
rows_count : (h : List Entry) (ws : List ℕ) → length (rows_for h ws) ≡ total h ws
rows_count h [] = refl
rows_count h (w ∷ ws) =
    let both = length-append (map (session_row h w) (ever h w)) (rows_for h ws) in
    let here = length-map (ever h w) (session_row h w) in
    let later = rows_count h ws in
    omega arith

-- an entry adds the sessions that it opens
total_more : (k : Entry) (h : List Entry) (ws : List ℕ) → total (k ∷ h) ws ≡ total h ws + opened_in k.read.cause ws
total_more k h [] = refl
total_more k h (w ∷ ws) =
    let here = length-append (ever h w) (opens_by k.read.cause w) in
    let later = total_more k h ws in
    omega arith

-- an opening with v opens no session with others
none_opened : (v t : ℕ) (ws : List ℕ) → has ws v ≡ false → opened_in (Up v t) ws ≡ 0
none_opened v t [] off = refl
none_opened v t (w ∷ ws) off =
    let here : (v == w) ≡ false = grind (arith, nat_tests, off) in
    let later : has ws v ≡ false = or_right (w == v) (has ws v) off in
    let rest = none_opened v t ws later in
    rw here (omega (arith, rest))

-- an opening opens at most one session, if the neighbours differ
one_opened : (v t : ℕ) (ws : List ℕ) → differ ws ≡ true → opened_in (Up v t) ws ≤ 1
one_opened v t [] apart = omega arith
one_opened v t (w ∷ ws) apart =
    (elim (v == w) as (λ b. (v == w) ≡ b → length (cond b (t ∷ []) []) + opened_in (Up v t) ws ≤ 1) [
      | true ↦ λ e.
          let alone : has ws v ≡ false = subst (λ x. has ws x ≡ false) (sym (same_is v w e)) (not_true (has ws w) (and_left (not (has ws w)) (differ ws) apart)) in
          let none = none_opened v t ws alone in
          omega arith
      | false ↦ λ e. let rest = one_opened v t ws (and_right (not (has ws w)) (differ ws) apart) in omega arith
    ]) refl

-- a cause that opens nothing opens at most one session
nothing_opened : (cause : Cause) (ws : List ℕ) → ((w : ℕ) → opens_by cause w ≡ []) → opened_in cause ws ≤ 1
nothing_opened cause [] none = omega arith
nothing_opened cause (w ∷ ws) none = let rest = nothing_opened cause ws none in rw none (omega (arith, rest))

-- each cause opens at most one session
opened_few : (cause : Cause) (ws : List ℕ) → differ ws ≡ true → opened_in cause ws ≤ 1
opened_few Originate ws apart = nothing_opened Originate ws (λ w. refl)
opened_few Withdraw ws apart = nothing_opened Withdraw ws (λ w. refl)
opened_few (Recv v t seq path) ws apart = nothing_opened (Recv v t seq path) ws (λ w. refl)
opened_few (Down v t) ws apart = nothing_opened (Down v t) ws (λ w. refl)
opened_few (Ready v t) ws apart = nothing_opened (Ready v t) ws (λ w. refl)
opened_few (Prefer v x) ws apart = nothing_opened (Prefer v x) ws (λ w. refl)
opened_few (Flush v) ws apart = nothing_opened (Flush v) ws (λ w. refl)
opened_few (Up v t) ws apart = one_opened v t ws apart

-- at the start there are as many sessions as neighbours
total_start : (ws : List ℕ) → total [] ws ≡ length ws
total_start [] = refl
total_start (w ∷ ws) = let rest = total_start ws in omega arith

-- there is at most one session more for each entry
total_few : (h : List Entry) (ws : List ℕ) → differ ws ≡ true → total h ws ≤ length ws + length h
total_few [] ws apart = let start = total_start ws in omega arith
total_few (k ∷ h) ws apart =
    let before = total_few h ws apart in
    let more = total_more k h ws in
    let one = opened_few k.read.cause ws apart in
    omega arith

-- ---- the rows of a report

-- a neighbour is a node
pub neighbour_is : (net : Net) (u w : ℕ) → IsValid net → has (neighbours net u) w ≡ true → has net.nodes w ≡ true
neighbour_is net u w valid near = (linked_nodes net u w valid (sym (neighbours_linked net u w valid) ∙ near)).1

-- a log has a row for the first session with each neighbour, and at most one for each entry
pub sessions_few : (net : Net) (u : ℕ) (h : List Entry) → IsValid net → has net.nodes u ≡ true → length h ≤ MOST_ENTRIES → length (session_rows net u h) ≤ 63 + MOST_ENTRIES
unfolding session_rows
sessions_few net u h valid own few =
    let count = rows_count h (neighbours net u) in
    let most = total_few h (neighbours net u) (differ-neighbours net u valid) in
    let near = neighbours_few net u valid own in
    omega arith

-- the session rows of a fitting log fit
pub sessions_are : (net : Net) (u : ℕ) (h : List Entry) → IsValid net → has net.nodes u ≡ true → AllFit net u h → Fits h → length h ≤ MOST_ENTRIES → sessions_fit net (session_rows net u h) ≡ true
unfolding session_rows
sessions_are net u h valid own all fits few =
    and_both (list_all (session_fits net) rows) (sessions_ascend rows)
    (each_flat (session_fits net) (λ w. map (session_row h w) (ever h w)) (neighbours net u)
    (λ w near. each_map (session_fits net) (session_row h w) (ever h w) (λ s there. one w s (among_has (neighbours net u) w near) there)))
    (and_both (in_order sooner rows) (nat_le (length rows) MOST_SESSIONS)
    (rows_order h (neighbours net u) fits (rises-neighbours net u valid))
    (most_is (length rows) MOST_SESSIONS
    (let most = sessions_few net u h valid own few in omega arith)))
  where
    -- the session rows of all neighbours
    rows : List SessionRow
    rows = rows_for h (neighbours net u)

    -- each of the session rows fits
    one : (w s : ℕ) → has (neighbours net u) w ≡ true → Among s (ever h w) → session_fits net (session_row h w s) ≡ true
    one w s near there =
        and_both (has net.nodes w) (is_number s && (nat_lt (length (inbox h w s)) (2 ^ 32) && down_fits net (closing h w s))) (neighbour_is net u w valid near)
        (and_both (is_number s) (nat_lt (length (inbox h w s)) (2 ^ 32) && down_fits net (closing h w s)) (one_of is_number (ever h w) s (ever_numbers net u h w all) there)
        (and_both (nat_lt (length (inbox h w s)) (2 ^ 32)) (down_fits net (closing h w s))
        (below_is (length (inbox h w s)) (2 ^ 32) (let short = inbox_few h w s in omega arith)) (closing_lists net u h w s all fits)))
