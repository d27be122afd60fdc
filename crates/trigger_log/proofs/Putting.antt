-- Rows of held-back updates: with one more update, and without those of a neighbour.
use Rattle.std.proofs.Common.{ℕ, zero, suc, ◌+◌, ◌<◌, ◌≤◌, Bool, true, false, cond, not, ◌==◌, ◌&&◌, ◌||◌, nat_lt, Option, Some, None, List, [], ◌∷◌, ◌++◌, ◌≡◌, ◌≢◌, refl, sym, ◌∙◌, ap, subst, arith, filter, map, drop, take, set, slice_get, slice_index_or, length}
use Rattle.std.specs.Prelude.{if◌then◌else◌}
use Rattle.std.specs.List.{AllByRecursion, list_any, range_with_len}
use Rattle.std.proofs.lemmas.Bool.Decides.{nat_tests}
use Rattle.std.proofs.lemmas.Option.{same_Some}
use Rattle.topology.specs.declared.names.Trigger.{Trigger}
use Rattle.topology.specs.declared.items.Pending.{Pending}
use Rattle.topology.specs.Lists.{has}
use Rattle.topology.specs.Triggers.{Ascend, all_of, union}
use Rattle.topology.specs.Net.{Net, places}
use Rattle.topology.proofs.Ascending.{Rises}
use Rattle.topology.proofs.Tests.{same_is, same_refl}
use Rattle.topology.proofs.Unions.{union_none, union_rest}
use Rattle.trigger_log.specs.Entries.{Update}
use Rattle.trigger_log.specs.Pending.{is_some_trigger, pending_row, rows_to}
use Rattle.trigger_log.specs.HeldLists.{is_row}
use Rattle.trigger_log.specs.Putting.{is_behind, put_row, put_all, is_to, rows_without, rows_over, with_more}

-- the rows of w in session s, over some prefixes
abbrev pub rows_for : (ℕ → List Trigger) → ℕ → ℕ → List ℕ → List Pending
rows_for f w s ps = map (pending_row f w s) (filter (λ p. is_some_trigger (f p)) ps)

has_first : (p : ℕ) (ps : List ℕ) → has (p ∷ ps) p ≡ true
has_first p ps = rw (same_refl p) refl

has_later : (p q : ℕ) (ps : List ℕ) → has ps q ≡ true → has (p ∷ ps) q ≡ true
has_later p q ps e = elim (p == q) as (λ b. (b || has ps q) ≡ true) [ true ↦ refl | false ↦ e ]

-- ---- rows depend only on the triggers of the network's prefixes

row_step : (f : ℕ → List Trigger) (w s p : ℕ) (ps : List ℕ) → rows_for f w s (p ∷ ps) ≡ (if is_some_trigger (f p) then pending_row f w s p ∷ rows_for f w s ps else rows_for f w s ps)
row_step f w s p ps =
    elim (is_some_trigger (f p)) as (λ b. map (pending_row f w s) (cond b (p ∷ filter (λ p. is_some_trigger (f p)) ps) (filter (λ p. is_some_trigger (f p)) ps)) ≡ (if b then pending_row f w s p ∷ rows_for f w s ps else rows_for f w s ps)) [ true ↦ refl | false ↦ refl ]

abbrev one_row : ℕ → ℕ → ℕ → List Trigger → List Pending → List Pending
one_row w s p ts rows = if is_some_trigger ts then record { to = w; prefix = p; session = s; triggers = ts } ∷ rows else rows

-- no row where no prefix has triggers
pub rows_none : (net : Net) (f : ℕ → List Trigger) (w : ℕ) (o : Option ℕ) → ((p : ℕ) → f p ≡ []) → rows_to net f w o ≡ []
rows_none net f w None none = refl
rows_none net f w (Some s) none = over (places net)
  where
    over : (ps : List ℕ) → rows_for f w s ps ≡ []
    over [] = refl
    over (p ∷ ps) = row_step f w s p ps ∙ (ap (λ ts. one_row w s p ts (rows_for f w s ps)) (none p) ∙ over ps)

pub over_none : (net : Net) (f : ℕ → ℕ → List Trigger) (a : ℕ → Option ℕ) (ws : List ℕ) → ((w p : ℕ) → has ws w ≡ true → f w p ≡ []) → rows_over net f a ws ≡ []
over_none net f a [] none = refl
over_none net f a (w ∷ ws) none =
    ap (λ l. l ++ rows_over net f a ws) (rows_none net (f w) w (a w) (λ p. none w p (has_first w ws)))
    ∙ over_none net f a ws (λ v p e. none v p (has_later w v ws e))

pub rows_same : (f g : ℕ → List Trigger) (w s : ℕ) (ps : List ℕ) → ((p : ℕ) → has ps p ≡ true → f p ≡ g p) → rows_for f w s ps ≡ rows_for g w s ps
rows_same f g w s [] same = refl
rows_same f g w s (p ∷ ps) same =
    row_step f w s p ps
    ∙ (ap (λ ts. one_row w s p ts (rows_for f w s ps)) (same p (has_first p ps))
    ∙ (ap (one_row w s p (g p)) (rows_same f g w s ps (λ q e. same q (has_later p q ps e))) ∙ sym (row_step g w s p ps)))

pub over_same : (net : Net) (f g : ℕ → ℕ → List Trigger) (a : ℕ → Option ℕ) (ws : List ℕ) → ((w p : ℕ) → has ws w ≡ true → has (places net) p ≡ true → f w p ≡ g w p) → rows_over net f a ws ≡ rows_over net g a ws
over_same net f g a [] same = refl
over_same net f g a (w ∷ ws) same =
    ap (λ l. l ++ rows_over net f a ws) (here (a w))
    ∙ ap (λ l. rows_to net (g w) w (a w) ++ l) (over_same net f g a ws (λ v p e k. same v p (has_later w v ws e) k))
  where
    here : (o : Option ℕ) → rows_to net (f w) w o ≡ rows_to net (g w) w o
    here None = refl
    here (Some s) = rows_same (f w) (g w) w s (places net) (λ p k. same w p (has_first w ws) k)

-- ---- one more row

-- the triggers, with these added for p
abbrev pub more_for : ℕ → List Trigger → (ℕ → List Trigger) → ℕ → List Trigger
more_for p ts f q = if p == q then union ts (f q) else f q

-- the triggers, with these added for p and w
abbrev pub more_at : ℕ → ℕ → List Trigger → (ℕ → ℕ → List Trigger) → ℕ → ℕ → List Trigger
more_at w p ts f v q = if v == w && p == q then union ts (f v q) else f v q

some_more : (ts us : List Trigger) → ts ≢ [] → is_some_trigger (union ts us) ≡ true
some_more ts us some = by (union ts us) refl
  where
    by : (all : List Trigger) → union ts us ≡ all → is_some_trigger all ≡ true
    by [] e = absurd (some (union_none ts us e).0)
    by (t ∷ all) e = refl

some_is : (ts : List Trigger) → ts ≢ [] → is_some_trigger ts ≡ true
some_is [] some = absurd (some refl)
some_is (t ∷ ts) some = refl

all_has : (P : ℕ → Type 0) (vs : List ℕ) (w : ℕ) → AllByRecursion P vs → has vs w ≡ true → P w
all_has P [] w all e = absurd (cc e)
all_has P (v ∷ vs) w all e =
    (elim (v == w) as (λ b. (v == w) ≡ b → (b || has vs w) ≡ true → P w) [
      | true ↦ λ q r. subst P (same_is v w q) all.0
      | false ↦ λ q r. all_has P vs w all.1 r
    ]) refl e

module _ (w s p : ℕ) (ts : List Trigger) (some : ts ≢ []) (rising : Ascend ts) where
  abbrev pub new_row : Pending
  new_row = record { to = w; prefix = p; session = s; triggers = ts }

  -- the row is behind the new one, and is of another prefix or neighbour
  abbrev IsAfter : Pending → Type 0
  IsAfter row = (is_row w p row ≡ false) × (is_behind w p row ≡ true)

  -- the row is in front of the new one
  abbrev IsBefore : Pending → Type 0
  IsBefore row = (is_row w p row ≡ false) × (is_behind w p row ≡ false)

  put_front : (rows : List Pending) → AllByRecursion IsAfter rows → put_row new_row rows ≡ new_row ∷ rows
  put_front [] after = refl
  put_front (row ∷ rows) after = rw (after.0.0, after.0.1) refl

  put_past : (front rows : List Pending) → AllByRecursion IsBefore front → put_row new_row (front ++ rows) ≡ front ++ put_row new_row rows
  put_past [] rows before = refl
  put_past (row ∷ front) rows before = rw (before.0.0, before.0.1) (ap (λ l. row ∷ l) (put_past front rows before.1))

  -- the rows of those behind w
  after_rest : (rows : List Pending) → AllByRecursion (λ (row : Pending). w < row.to) rows → AllByRecursion IsAfter rows
  after_rest [] all = tt
  after_rest (row ∷ rows) all = (behind row.to row.prefix all.0, after_rest rows all.1)
    where
      behind : (v q : ℕ) → w < v → ((v == w && q == p) ≡ false) × ((nat_lt w v || (w == v && nat_lt p q)) ≡ true)
      behind v q less =
          let apart : (v == w) ≡ false = grind (arith, nat_tests) in
          let test : nat_lt w v ≡ true = grind (arith, nat_tests) in
          (rw apart refl, rw test refl)

  -- the rows of w over the prefixes from a place on
  abbrev seg : (ℕ → List Trigger) → ℕ → ℕ → List Pending
  seg f start zero = []
  seg f start (suc n) = one_row w s start (f start) (seg f (start + 1) n)

  seg_is : (f : ℕ → List Trigger) (start n : ℕ) → rows_for f w s (range_with_len start n) ≡ seg f start n
  seg_is f start zero = refl
  seg_is f start (suc n) = row_step f w s start (range_with_len (start + 1) n) ∙ ap (one_row w s start (f start)) (seg_is f (start + 1) n)

  seg_same : (f g : ℕ → List Trigger) (start n : ℕ) → ((q : ℕ) → start ≤ q → f q ≡ g q) → seg f start n ≡ seg g start n
  seg_same f g start zero same = refl
  seg_same f g start (suc n) same =
      ap (λ us. one_row w s start us (seg f (start + 1) n)) (same start (omega arith))
      ∙ ap (one_row w s start (g start)) (seg_same f g (start + 1) n (λ q le. same q (omega arith)))

  after_seg : (f : ℕ → List Trigger) (rest : List Pending) (start n : ℕ) → p < start → AllByRecursion IsAfter rest → AllByRecursion IsAfter (seg f start n ++ rest)
  after_seg f rest start zero less after = after
  after_seg f rest start (suc n) less after =
      elim (is_some_trigger (f start)) as (λ b. AllByRecursion IsAfter ((if b then record { to = w; prefix = start; session = s; triggers = f start } ∷ seg f (start + 1) n else seg f (start + 1) n) ++ rest)) [
        | true ↦ (is_after, after_seg f rest (start + 1) n (omega arith) after)
        | false ↦ after_seg f rest (start + 1) n (omega arith) after
      ]
    where
      is_after : ((w == w && start == p) ≡ false) × ((nat_lt w w || (w == w && nat_lt p start)) ≡ true)
      is_after =
          let same : (w == w) ≡ true = same_refl w in
          let apart : (start == p) ≡ false = grind (arith, nat_tests) in
          let test : nat_lt p start ≡ true = grind (arith, nat_tests) in
          (rw (same, apart) refl, rw (same, test) (elim (nat_lt w w) as (λ b. (b || true) ≡ true) [ true ↦ refl | false ↦ refl ]))

  -- the row of p itself
  put_here : (us : List Trigger) (tail rest : List Pending) → AllByRecursion IsAfter (tail ++ rest) → put_row new_row (one_row w s p us tail ++ rest) ≡ one_row w s p (union ts us) tail ++ rest
  put_here [] tail rest after =
      put_front (tail ++ rest) after
      ∙ sym (ap (λ us. one_row w s p us tail ++ rest) (union_rest ts rising) ∙ ap (λ b. (if b then new_row ∷ tail else tail) ++ rest) (some_is ts some))
  put_here (u ∷ us) tail rest after =
      let same : (w == w && p == p) ≡ true = grind (arith, nat_tests) in
      rw same (sym (ap (λ b. (if b then record { to = w; prefix = p; session = s; triggers = union ts (u ∷ us) } ∷ tail else tail) ++ rest) (some_more ts (u ∷ us) some)))

  -- a row in front of it
  put_later : (q : ℕ) (us : List Trigger) (tail more rest : List Pending) → q < p → put_row new_row (tail ++ rest) ≡ more ++ rest → put_row new_row (one_row w s q us tail ++ rest) ≡ one_row w s q us more ++ rest
  put_later q [] tail more rest less later = later
  put_later q (u ∷ us) tail more rest less later =
      let same : (w == w) ≡ true = same_refl w in
      let apart : (q == p) ≡ false = grind (arith, nat_tests) in
      let low : nat_lt w w ≡ false = grind (arith, nat_tests) in
      let test : nat_lt p q ≡ false = grind (arith, nat_tests) in
      rw (same, apart, low, test) (ap (λ l. record { to = w; prefix = q; session = s; triggers = u ∷ us } ∷ l) later)

  put_seg : (f : ℕ → List Trigger) (rest : List Pending) (start n : ℕ) → start ≤ p → p < start + n → AllByRecursion IsAfter rest → put_row new_row (seg f start n ++ rest) ≡ seg (more_for p ts f) start n ++ rest
  put_seg f rest start zero from to after = absurd (omega arith)
  put_seg f rest start (suc n) from to after =
      (elim (p == start) as (λ b. (p == start) ≡ b → put_row new_row (one_row w s start (f start) (seg f (start + 1) n) ++ rest) ≡ one_row w s start (if b then union ts (f start) else f start) (seg (more_for p ts f) (start + 1) n) ++ rest) [
        | true ↦ λ e.
            let is : p ≡ start = same_is p start e in
            let tail = seg f (start + 1) n in
            subst (λ q. put_row new_row (one_row w s q (f start) tail ++ rest) ≡ one_row w s q (union ts (f start)) (seg (more_for p ts f) (start + 1) n) ++ rest) is
            (put_here (f start) tail rest (after_seg f rest (start + 1) n (omega arith) after)
            ∙ ap (λ l. one_row w s p (union ts (f start)) l ++ rest) (seg_same f (more_for p ts f) (start + 1) n (λ q le. sym (ap (λ b. if b then union ts (f q) else f q) (apart q (omega arith))))))
        | false ↦ λ e.
            let later : start + 1 ≤ p = grind (arith, nat_tests) in
            put_later start (f start) (seg f (start + 1) n) (seg (more_for p ts f) (start + 1) n) rest (omega arith)
            (put_seg f rest (start + 1) n later (omega arith) after)
      ]) refl
    where
      apart : (q : ℕ) → p < q → (p == q) ≡ false
      apart q less = grind (arith, nat_tests)

  -- among the rows of all neighbours
  module _ (net : Net) (a : ℕ → Option ℕ) (f : ℕ → ℕ → List Trigger) (session : a w ≡ Some s) (known : p < length net.prefixes) where
    above_here : (v : ℕ) (o : Option ℕ) (rest : List Pending) → w < v → AllByRecursion (λ (row : Pending). w < row.to) rest → AllByRecursion (λ (row : Pending). w < row.to) (rows_to net (f v) v o ++ rest)
    above_here v None rest above all = all
    above_here v (Some t) rest above all = over (filter (λ q. is_some_trigger (f v q)) (places net))
      where
        over : (ps : List ℕ) → AllByRecursion (λ (row : Pending). w < row.to) (map (pending_row (f v) v t) ps ++ rest)
        over [] = all
        over (q ∷ ps) = (above, over ps)

    rows_above : (vs : List ℕ) → AllByRecursion (λ v. w < v) vs → AllByRecursion (λ (row : Pending). w < row.to) (rows_over net f a vs)
    rows_above [] all = tt
    rows_above (v ∷ vs) all = above_here v (a v) (rows_over net f a vs) all.0 (rows_above vs all.1)

    rows_below : (v : ℕ) (o : Option ℕ) → v < w → AllByRecursion IsBefore (rows_to net (f v) v o)
    rows_below v None less = tt
    rows_below v (Some t) less = over (filter (λ q. is_some_trigger (f v q)) (places net))
      where
        is_before : (q : ℕ) → ((v == w && q == p) ≡ false) × ((nat_lt w v || (w == v && nat_lt p q)) ≡ false)
        is_before q =
            let apart : (v == w) ≡ false = grind (arith, nat_tests) in
            let back : (w == v) ≡ false = grind (arith, nat_tests) in
            let test : nat_lt w v ≡ false = grind (arith, nat_tests) in
            (rw apart refl, rw (test, back) refl)

        over : (ps : List ℕ) → AllByRecursion IsBefore (map (pending_row (f v) v t) ps)
        over [] = tt
        over (q ∷ ps) = (is_before q, over ps)

    put_own : (rest : List Pending) (o : Option ℕ) → o ≡ Some s → AllByRecursion IsAfter rest → put_row new_row (rows_to net (f w) w o ++ rest) ≡ rows_to net (more_for p ts (f w)) w o ++ rest
    unfolding places
    put_own rest None e after = absurd (cc e)
    put_own rest (Some t) e after =
        let same : t ≡ s = cc e in
        subst (λ t. put_row new_row (rows_to net (f w) w (Some t) ++ rest) ≡ rows_to net (more_for p ts (f w)) w (Some t) ++ rest) (sym same)
        (ap (λ l. put_row new_row (l ++ rest)) (seg_is (f w) 0 (length net.prefixes))
        ∙ (put_seg (f w) rest 0 (length net.prefixes) (omega arith) (omega arith) after
        ∙ ap (λ l. l ++ rest) (sym (seg_is (more_for p ts (f w)) 0 (length net.prefixes)))))

    -- the row is added to those of its neighbour and prefix
    pub put_over : (ws : List ℕ) → Rises ws → has ws w ≡ true → put_row new_row (rows_over net f a ws) ≡ rows_over net (more_at w p ts f) a ws
    put_over [] rises e = absurd (cc e)
    put_over (v ∷ vs) rises e =
        (elim (v == w) as (λ b. (v == w) ≡ b → (b || has vs w) ≡ true → put_row new_row (rows_to net (f v) v (a v) ++ rows_over net f a vs) ≡ rows_to net (λ q. if b && p == q then union ts (f v q) else f v q) v (a v) ++ rows_over net (more_at w p ts f) a vs) [
          | true ↦ λ q r. here (same_is v w q)
          | false ↦ λ q r.
              let above : v < w = all_has (λ x. v < x) vs w rises.0 r in
              put_past (rows_to net (f v) v (a v)) (rows_over net f a vs) (rows_below v (a v) above)
              ∙ ap (λ l. rows_to net (f v) v (a v) ++ l) (put_over vs rises.1 r)
        ]) refl e
      where
        others : AllByRecursion (λ x. w < x) vs → rows_over net f a vs ≡ rows_over net (more_at w p ts f) a vs
        others all = over_same net f (more_at w p ts f) a vs (λ x q there known. sym (ap (λ b. if b && p == q then union ts (f x q) else f x q) (apart x (all_has (λ y. w < y) vs x all there))))
          where
            apart : (x : ℕ) → w < x → (x == w) ≡ false
            apart x less = grind (arith, nat_tests)

        here : v ≡ w → put_row new_row (rows_to net (f v) v (a v) ++ rows_over net f a vs) ≡ rows_to net (more_for p ts (f v)) v (a v) ++ rows_over net (more_at w p ts f) a vs
        here is =
            let all : AllByRecursion (λ x. w < x) vs = subst (λ x. AllByRecursion (λ y. x < y) vs) is rises.0 in
            subst (λ x. put_row new_row (rows_to net (f x) x (a x) ++ rows_over net f a vs) ≡ rows_to net (more_for p ts (f x)) x (a x) ++ rows_over net (more_at w p ts f) a vs) (sym is)
            (put_own (rows_over net f a vs) (a w) session (after_rest (rows_over net f a vs) (rows_above vs all))
            ∙ ap (λ l. rows_to net (more_for p ts (f w)) w (a w) ++ l) (others all))

-- ---- updates of some prefixes are added to what is held back from w

module _ (net : Net) (a : ℕ → Option ℕ) (ws : List ℕ) (rises : Rises ws) (w s : ℕ) (near : has ws w ≡ true) (session : a w ≡ Some s)
    (ts : List Trigger) (rising : Ascend ts) (path : ℕ → Option (List ℕ)) (test : ℕ → Bool) (some : (p : ℕ) → test p ≡ true → ts ≢ []) where
  abbrev update : ℕ → Update
  update p = record { prefix = p; triggers = ts; path = path p }

  -- for each of these prefixes that passes, the triggers are added to those of w
  abbrev pub more_over : List ℕ → (ℕ → ℕ → List Trigger) → ℕ → ℕ → List Trigger
  more_over ps f v p = if v == w && (has ps p && test p) then union ts (f v p) else f v p

  nothing_more : (f : ℕ → ℕ → List Trigger) (v p : ℕ) → f v p ≡ more_over [] f v p
  nothing_more f v p = elim (v == w) as (λ b. f v p ≡ (if b && (false && test p) then union ts (f v p) else f v p)) [ true ↦ refl | false ↦ refl ]

  absent : (start n p : ℕ) → (start == p) ≡ true → has (range_with_len (start + 1) n) p ≡ false
  absent start n p e = gone (start + 1) n (let same : start ≡ p = same_is start p e in omega arith)
    where
      gone : (from m : ℕ) → p < from → has (range_with_len from m) p ≡ false
      gone from zero less = refl
      gone from (suc m) less =
          let apart : (from == p) ≡ false = grind (arith, nat_tests) in
          rw apart (gone (from + 1) m (omega arith))

  one_more : (f : ℕ → ℕ → List Trigger) (start n v p : ℕ) → test start ≡ true
      → more_over (range_with_len (start + 1) n) (more_at w start ts f) v p ≡ more_over (range_with_len start (suc n)) f v p
  one_more f start n v p passes = by (v == w) (start == p) refl
    where
      t : (start == p) ≡ true → test p ≡ true
      t e = ap test (sym (same_is start p e)) ∙ passes

      by : (b c : Bool) → (start == p) ≡ c
          → (if b && (has (range_with_len (start + 1) n) p && test p) then union ts (if b && c then union ts (f v p) else f v p) else (if b && c then union ts (f v p) else f v p))
          ≡ (if b && ((c || has (range_with_len (start + 1) n) p) && test p) then union ts (f v p) else f v p)
      by false c e = refl
      by true true e = rw (absent start n p e, t e) refl
      by true false e = refl

  none_more : (f : ℕ → ℕ → List Trigger) (start n v p : ℕ) → test start ≡ false
      → more_over (range_with_len (start + 1) n) f v p ≡ more_over (range_with_len start (suc n)) f v p
  none_more f start n v p fails = by (start == p) refl
    where
      t : (start == p) ≡ true → test p ≡ false
      t e = ap test (sym (same_is start p e)) ∙ fails

      by : (c : Bool) → (start == p) ≡ c
          → (if v == w && (has (range_with_len (start + 1) n) p && test p) then union ts (f v p) else f v p)
          ≡ (if v == w && ((c || has (range_with_len (start + 1) n) p) && test p) then union ts (f v p) else f v p)
      by true e = rw (absent start n p e, t e) refl
      by false e = refl

  put_range : (f : ℕ → ℕ → List Trigger) (start n : ℕ) → start + n ≤ length net.prefixes
      → put_all w s (map update (filter test (range_with_len start n))) (rows_over net f a ws) ≡ rows_over net (more_over (range_with_len start n) f) a ws
  put_range f start zero within = over_same net f (more_over [] f) a ws (λ v p e k. nothing_more f v p)
  put_range f start (suc n) within =
      (elim (test start) as (λ b. test start ≡ b → put_all w s (map update (cond b (start ∷ filter test (range_with_len (start + 1) n)) (filter test (range_with_len (start + 1) n)))) (rows_over net f a ws) ≡ rows_over net (more_over (range_with_len start (suc n)) f) a ws) [
        | true ↦ λ e.
            ap (put_all w s (map update (filter test (range_with_len (start + 1) n)))) (put_over w s start ts (some start e) rising net a f session (omega arith) ws rises near)
            ∙ (put_range (more_at w start ts f) (start + 1) n (omega arith)
            ∙ over_same net (more_over (range_with_len (start + 1) n) (more_at w start ts f)) (more_over (range_with_len start (suc n)) f) a ws (λ v p there known. one_more f start n v p e))
        | false ↦ λ e.
            put_range f (start + 1) n (omega arith)
            ∙ over_same net (more_over (range_with_len (start + 1) n) f) (more_over (range_with_len start (suc n)) f) a ws (λ v p there known. none_more f start n v p e)
      ]) refl

  -- an update of each prefix that passes
  pub put_passing : (f : ℕ → ℕ → List Trigger) → put_all w s (map update (filter test (places net))) (rows_over net f a ws) ≡ rows_over net (more_over (places net) f) a ws
  unfolding places
  put_passing f = put_range f 0 (length net.prefixes) (omega arith)

-- ---- the rows of one neighbour, and those of the others

-- a row of each prefix goes to w
rows_are : (net : Net) (f : ℕ → List Trigger) (w : ℕ) (o : Option ℕ) → AllByRecursion (λ (row : Pending). row.to ≡ w) (rows_to net f w o)
rows_are net f w None = tt
rows_are net f w (Some s) = over (filter (λ p. is_some_trigger (f p)) (places net))
  where
    over : (ps : List ℕ) → AllByRecursion (λ (row : Pending). row.to ≡ w) (map (pending_row f w s) ps)
    over [] = tt
    over (p ∷ ps) = (refl, over ps)

keep_none : {A : Type 0} (test : A → Bool) (xs : List A) → AllByRecursion (λ x. test x ≡ false) xs → filter test xs ≡ []
keep_none test [] all = refl
keep_none test (x ∷ xs) all = rw all.0 (keep_none test xs all.1)

keep_all : {A : Type 0} (test : A → Bool) (xs : List A) → AllByRecursion (λ x. test x ≡ true) xs → filter test xs ≡ xs
keep_all test [] all = refl
keep_all test (x ∷ xs) all = rw all.0 (ap (λ l. x ∷ l) (keep_all test xs all.1))

each : {A : Type 0} (P Q : A → Type 0) → ((x : A) → P x → Q x) → (xs : List A) → AllByRecursion P xs → AllByRecursion Q xs
each P Q step [] all = tt
each P Q step (x ∷ xs) all = (step x all.0, each P Q step xs all.1)

module _ (net : Net) (f : ℕ → List Trigger) (v : ℕ) (o : Option ℕ) (w : ℕ) where
  to_test : (b : Bool) → (v == w) ≡ b → AllByRecursion (λ row. is_to w row ≡ b) (rows_to net f v o)
  to_test b e = each (λ (row : Pending). row.to ≡ v) (λ row. is_to w row ≡ b) (λ row is. ap (λ n. n == w) is ∙ e) (rows_to net f v o) (rows_are net f v o)

  pub own_rows : (v == w) ≡ true → filter (is_to w) (rows_to net f v o) ≡ rows_to net f v o
  own_rows e = keep_all (is_to w) (rows_to net f v o) (to_test true e)

  pub other_rows : (v == w) ≡ false → filter (is_to w) (rows_to net f v o) ≡ []
  other_rows e = keep_none (is_to w) (rows_to net f v o) (to_test false e)

  pub without_own : (v == w) ≡ true → rows_without w (rows_to net f v o) ≡ []
  without_own e = keep_none (λ row. not (is_to w row)) (rows_to net f v o) (each (λ row. is_to w row ≡ true) (λ row. not (is_to w row) ≡ false) (λ row is. ap not is) (rows_to net f v o) (to_test true e))

  pub without_other : (v == w) ≡ false → rows_without w (rows_to net f v o) ≡ rows_to net f v o
  without_other e = keep_all (λ row. not (is_to w row)) (rows_to net f v o) (each (λ row. is_to w row ≡ false) (λ row. not (is_to w row) ≡ true) (λ row is. ap not is) (rows_to net f v o) (to_test false e))

filter_parts : {A : Type 0} (test : A → Bool) (xs ys : List A) → filter test (xs ++ ys) ≡ filter test xs ++ filter test ys
filter_parts test [] ys = refl
filter_parts test (x ∷ xs) ys =
    elim (test x) as (λ b. cond b (x ∷ filter test (xs ++ ys)) (filter test (xs ++ ys)) ≡ cond b (x ∷ filter test xs) (filter test xs) ++ filter test ys) [
      | true ↦ ap (λ l. x ∷ l) (filter_parts test xs ys)
      | false ↦ filter_parts test xs ys
    ]

pub without_parts : (w : ℕ) (xs ys : List Pending) → rows_without w (xs ++ ys) ≡ rows_without w xs ++ rows_without w ys
without_parts w xs ys = filter_parts (λ row. not (is_to w row)) xs ys

module _ (net : Net) (f : ℕ → ℕ → List Trigger) (a : ℕ → Option ℕ) (w : ℕ) where
  none_own : (ws : List ℕ) → AllByRecursion (λ v. (v == w) ≡ false) ws → filter (is_to w) (rows_over net f a ws) ≡ []
  none_own [] all = refl
  none_own (v ∷ ws) all =
      filter_parts (is_to w) (rows_to net (f v) v (a v)) (rows_over net f a ws)
      ∙ (ap (λ l. l ++ filter (is_to w) (rows_over net f a ws)) (other_rows net (f v) v (a v) w all.0) ∙ none_own ws all.1)

  -- the rows of w among those of all
  pub rows_of : (ws : List ℕ) → Rises ws → has ws w ≡ true → filter (is_to w) (rows_over net f a ws) ≡ rows_to net (f w) w (a w)
  rows_of [] rises e = absurd (cc e)
  rows_of (v ∷ ws) rises e =
      filter_parts (is_to w) (rows_to net (f v) v (a v)) (rows_over net f a ws)
      ∙ (elim (v == w) as (λ b. (v == w) ≡ b → (b || has ws w) ≡ true → filter (is_to w) (rows_to net (f v) v (a v)) ++ filter (is_to w) (rows_over net f a ws) ≡ rows_to net (f w) w (a w)) [
        | true ↦ λ q r.
            let is : v ≡ w = same_is v w q in
            ap (λ l. l ++ filter (is_to w) (rows_over net f a ws)) (own_rows net (f v) v (a v) w q)
            ∙ (ap (λ l. rows_to net (f v) v (a v) ++ l) (none_own ws (each (λ x. v < x) (λ x. (x == w) ≡ false) (λ x less. apart x (subst (λ y. y < x) is less)) ws rises.0))
            ∙ (append_nil (rows_to net (f v) v (a v)) ∙ ap (λ x. rows_to net (f x) x (a x)) is))
        | false ↦ λ q r.
            ap (λ l. l ++ filter (is_to w) (rows_over net f a ws)) (other_rows net (f v) v (a v) w q) ∙ rows_of ws rises.1 r
      ]) refl e
    where
      apart : (x : ℕ) → w < x → (x == w) ≡ false
      apart x less = grind (arith, nat_tests)

      append_nil : (xs : List Pending) → xs ++ [] ≡ xs
      append_nil [] = refl
      append_nil (x ∷ xs) = ap (λ l. x ∷ l) (append_nil xs)

-- ---- the first neighbours

or_last : (a b : Bool) → (a || b) ≡ (b || a)
or_last true true = refl
or_last true false = refl
or_last false true = refl
or_last false false = refl

or_group : (a b c : Bool) → (a || (b || c)) ≡ ((a || b) || c)
or_group true b c = refl
or_group false b c = refl

-- one more of them
pub has_more : (ws : List ℕ) (n w v : ℕ) → slice_get ws n ≡ Some w → has (take (suc n) ws) v ≡ (has (take n ws) v || w == v)
has_more [] n w v at = absurd (cc at)
has_more (x ∷ ws) zero w v at = or_last (x == v) false ∙ ap (λ y. y == v) (same_Some x w at)
has_more (x ∷ ws) (suc n) w v at = ap (λ b. x == v || b) (has_more ws n w v at) ∙ or_group (x == v) (has (take n ws) v) (w == v)

pub there : (ws : List ℕ) (n w : ℕ) → slice_get ws n ≡ Some w → has ws w ≡ true
there [] n w at = absurd (cc at)
there (x ∷ ws) zero w at = subst (λ y. has (y ∷ ws) w ≡ true) (sym (same_Some x w at)) (has_first w ws)
there (x ∷ ws) (suc n) w at = has_later x w ws (there ws n w at)

-- the new one is none of those before
pub not_yet : (ws : List ℕ) (n w : ℕ) → Rises ws → slice_get ws n ≡ Some w → has (take n ws) w ≡ false
not_yet [] n w rises at = absurd (cc at)
not_yet (x ∷ ws) zero w rises at = refl
not_yet (x ∷ ws) (suc n) w rises at =
    let above : x < w = all_has (λ y. x < y) ws w rises.0 (there ws n w at) in
    let apart : (x == w) ≡ false = grind (arith, nat_tests) in
    rw apart (not_yet ws n w rises.1 at)

-- ---- whether there is a row

abbrev is_filled : {A : Type 0} → List A → Bool
is_filled [] = false
is_filled (x ∷ xs) = true

any_kept : {A : Type 0} (test : A → Bool) (xs : List A) → list_any test xs ≡ is_filled (filter test xs)
any_kept test [] = refl
any_kept test (x ∷ xs) =
    elim (test x) as (λ b. (b || list_any test xs) ≡ is_filled (cond b (x ∷ filter test xs) (filter test xs))) [ true ↦ refl | false ↦ any_kept test xs ]

filled_map : {A B : Type 0} (g : A → B) (xs : List A) → is_filled (map g xs) ≡ is_filled xs
filled_map g [] = refl
filled_map g (x ∷ xs) = refl

-- there is one of w where a prefix has triggers
pub any_row : (net : Net) (f : ℕ → ℕ → List Trigger) (a : ℕ → Option ℕ) (w s : ℕ) (ws : List ℕ) → Rises ws → has ws w ≡ true → a w ≡ Some s
    → list_any (is_to w) (rows_over net f a ws) ≡ list_any (λ p. is_some_trigger (f w p)) (places net)
any_row net f a w s ws rises near session =
    any_kept (is_to w) (rows_over net f a ws)
    ∙ (ap is_filled (rows_of net f a w ws rises near ∙ ap (rows_to net (f w) w) session)
    ∙ (filled_map (pending_row (f w) w s) (filter (λ p. is_some_trigger (f w p)) (places net)) ∙ sym (any_kept (λ p. is_some_trigger (f w p)) (places net))))

-- what all rows of w list together
pub all_rows : (net : Net) (f : ℕ → List Trigger) (w s : ℕ) → all_of (map (λ (row : Pending). row.triggers) (rows_to net f w (Some s))) ≡ all_of (map f (places net))
unfolding union
all_rows net f w s = over (places net)
  where
    one : (ts : List Trigger) (p : ℕ) (rows : List Pending) → all_of (map (λ (row : Pending). row.triggers) (one_row w s p ts rows)) ≡ union ts (all_of (map (λ (row : Pending). row.triggers) rows))
    one [] p rows = refl
    one (t ∷ ts) p rows = refl

    over : (ps : List ℕ) → all_of (map (λ (row : Pending). row.triggers) (rows_for f w s ps)) ≡ all_of (map f ps)
    over [] = refl
    over (p ∷ ps) = ap (λ l. all_of (map (λ (row : Pending). row.triggers) l)) (row_step f w s p ps) ∙ (one (f p) p (rows_for f w s ps) ∙ ap (union (f p)) (over ps))

-- ---- the row at a place

row_at : (rows : List Pending) (i : ℕ) (row : Pending) → i < length rows → row ≡ slice_index_or rows i row → drop i rows ≡ row ∷ drop (suc i) rows
row_at [] i row inside is = absurd (omega arith)
row_at (first ∷ rows) zero row inside is = ap (λ x. x ∷ rows) (sym is)
row_at (first ∷ rows) (suc i) row inside is = row_at rows i row (omega arith) is

set_at : (rows : List Pending) (i : ℕ) (new : Pending) → i < length rows → take i rows ++ new ∷ drop (suc i) rows ≡ set rows i new
set_at [] i new inside = absurd (omega arith)
set_at (first ∷ rows) zero new inside = refl
set_at (first ∷ rows) (suc i) new inside = ap (λ l. first ∷ l) (set_at rows i new (omega arith))

any_default : (rows : List Pending) (i : ℕ) (a b : Pending) → i < length rows → slice_index_or rows i a ≡ slice_index_or rows i b
any_default [] i a b inside = absurd (omega arith)
any_default (first ∷ rows) zero a b inside = refl
any_default (first ∷ rows) (suc i) a b inside = any_default rows i a b (omega arith)

-- the row that is there gets the triggers added
pub put_there : (x : Pending) (rows : List Pending) (i : ℕ) (row : Pending) → i < length rows → row ≡ slice_index_or rows i row → is_row x.to x.prefix row ≡ true → put_row x rows ≡ take i rows ++ put_row x (drop i rows)
    → put_row x rows ≡ set rows i (with_more x.triggers (slice_index_or rows i x))
put_there x rows i row inside is test so_far =
    so_far
    ∙ (ap (λ l. take i rows ++ put_row x l) (row_at rows i row inside is)
    ∙ (ap (λ b. take i rows ++ (if b then with_more x.triggers row ∷ drop (suc i) rows else if is_behind x.to x.prefix row then x ∷ row ∷ drop (suc i) rows else row ∷ put_row x (drop (suc i) rows))) test
    ∙ (set_at rows i (with_more x.triggers row) inside
    ∙ ap (λ r. set rows i (with_more x.triggers r)) (is ∙ any_default rows i row x inside))))
