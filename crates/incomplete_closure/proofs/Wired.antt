-- Edges of the graph of reports: a set that no edge leaves is closed under the rows and under what is open.
use Rattle.std.proofs.Common.{ℕ, zero, suc, ◌+◌, ◌<◌, Bool, true, Option, Some, None, List, [], ◌∷◌, length, ◌≡◌, ◌⊎◌, inl, inr, refl, sym, ◌∙◌, ap, subst, arith, replicate}
use Rattle.std.specs.List.{AllByRecursion}
use Rattle.std.proofs.lemmas.List.{get_or-set_same, length-set, length-replicate}
use Rattle.topology.specs.declared.names.Trigger.{Trigger}
use Rattle.incomplete_closure.specs.declared.cut_rows.Row.{Row}
use Rattle.incomplete_closure.specs.declared.reports.Report.{Report}
use Rattle.incomplete_closure.specs.declared.opening.OpenTrigger.{OpenTrigger}
use Rattle.incomplete_closure.specs.Graphs.{led_from, linked, IsKept}
use Rattle.incomplete_closure.specs.Names.{number_of}
use Rattle.incomplete_closure.specs.Wiring.{next_rows, fanned, tied, wire_row, wire_rows, wire_reports, wire_down, wire_open, graph_of_rows}
use Rattle.incomplete_closure.proofs.Naming.{number_within}

-- ---- lengths

pub length_linked : (graph : List (List ℕ)) (from to : ℕ) → length (linked graph from to) ≡ length graph
length_linked graph from to = length-set graph from (to ∷ led_from graph from)

pub length_fanned : (graph : List (List ℕ)) (from : ℕ) (tos : List ℕ) → length (fanned graph from tos) ≡ length graph
length_fanned graph from [] = refl
length_fanned graph from (to ∷ tos) = length_fanned (linked graph from to) from tos ∙ length_linked graph from to

pub length_tied : (names : List Trigger) (graph : List (List ℕ)) (first : ℕ) (ts : List Trigger) → length (tied names graph first ts) ≡ length graph
length_tied names graph first [] = refl
length_tied names graph first (t ∷ ts) =
    let n = number_of names t in
    length_tied names (linked (linked graph first n) n first) first ts ∙ (length_linked (linked graph first n) n first ∙ length_linked graph first n)

pub length_row : (names : List Trigger) (graph : List (List ℕ)) (ts : List Trigger) (next : List ℕ) → length (wire_row names graph ts next) ≡ length graph
length_row names graph [] next = refl
length_row names graph (t ∷ ts) next = length_fanned (tied names graph (number_of names t) ts) (number_of names t) next ∙ length_tied names graph (number_of names t) ts

pub length_rows : (names : List Trigger) (graph : List (List ℕ)) (rows : List Row) → length (wire_rows names graph rows) ≡ length graph
length_rows names graph [] = refl
length_rows names graph (row ∷ later) = length_row names (wire_rows names graph later) row.triggers (next_rows names row.scope later) ∙ length_rows names graph later

length_reports : (names : List Trigger) (graph : List (List ℕ)) (rs : List Report) → length (wire_reports names graph rs) ≡ length graph
length_reports names graph [] = refl
length_reports names graph (r ∷ rs) = length_reports names (wire_rows names graph r.rows) rs ∙ length_rows names graph r.rows

length_down : (names : List Trigger) (graph : List (List ℕ)) (d : Option Trigger) (t : Trigger) → length (wire_down names graph d t) ≡ length graph
length_down names graph None t = refl
length_down names graph (Some s) t = length_linked graph (number_of names s) (number_of names t)

length_open : (names : List Trigger) (graph : List (List ℕ)) (os : List OpenTrigger) → length (wire_open names graph os) ≡ length graph
length_open names graph [] = refl
length_open names graph (o ∷ os) = length_open names (wire_down names graph o.down o.trigger) os ∙ length_down names graph o.down o.trigger

pub length_of_rows : (names : List Trigger) (rs : List Report) → length (graph_of_rows names rs) ≡ length names + 1
unfolding graph_of_rows
length_of_rows names rs = length_reports names (replicate (length names + 1) []) rs ∙ length-replicate (length names + 1) []

pub length_graph : (names : List Trigger) (rs : List Report) (os : List OpenTrigger) → length (wire_open names (graph_of_rows names rs) os) ≡ length names + 1
length_graph names rs os = length_open names (graph_of_rows names rs) os ∙ length_of_rows names rs

still_below : (v a b : ℕ) → b ≡ a → v < a → v < b
still_below v a b e h = omega arith

-- ---- one more edge

led_linked : (graph : List (List ℕ)) (from to v : ℕ) → (led_from (linked graph from to) v ≡ led_from graph v) ⊎ ((v ≡ from) × (led_from (linked graph from to) v ≡ to ∷ led_from graph from))
led_linked [] from to v = inl refl
led_linked (xs ∷ graph) zero to zero = inr (refl, refl)
led_linked (xs ∷ graph) zero to (suc v) = inl refl
led_linked (xs ∷ graph) (suc from) to zero = inl refl
led_linked (xs ∷ graph) (suc from) to (suc v) = up (led_linked graph from to v)
  where
    up : (led_from (linked graph from to) v ≡ led_from graph v) ⊎ ((v ≡ from) × (led_from (linked graph from to) v ≡ to ∷ led_from graph from))
        → (led_from (linked graph from to) v ≡ led_from graph v) ⊎ ((suc v ≡ suc from) × (led_from (linked graph from to) v ≡ to ∷ led_from graph from))
    up (inl e) = inl e
    up (inr e) = inr (ap suc e.0, e.1)

-- those of the set
abbrev pub AllIn : (ℕ → Bool) → List ℕ → Type 0
AllIn inside ws = AllByRecursion (λ w. inside w ≡ true) ws

-- what leads from one to the other
abbrev pub Leads : (ℕ → Bool) → ℕ → ℕ → Type 0
Leads inside from to = inside from ≡ true → inside to ≡ true

-- the second graph has more edges, and a set with this property keeps them inside
pub record Adds (inside : ℕ → Bool) (graph more : List (List ℕ)) (holds : Type 0) : Type 0 where
  pub before : IsKept inside more → IsKept inside graph
  pub says : IsKept inside more → holds
  pub keeps : IsKept inside graph → holds → IsKept inside more

module _ (inside : ℕ → Bool) where
  pub nothing_more : (graph : List (List ℕ)) → Adds inside graph graph (Unit {0})
  nothing_more graph = record { before = λ k. k; says = λ k. tt; keeps = λ k u. k }

  pub both_more : {graph middle more : List (List ℕ)} {P Q : Type 0} → Adds inside graph middle P → Adds inside middle more Q → Adds inside graph more (P × Q)
  both_more a b = record {
    before = λ k. a.before (b.before k);
    says = λ k. (a.says (b.before k), b.says k);
    keeps = λ k h. b.keeps (a.keeps k h.0) h.1;
  }

  pub linked_more : (graph : List (List ℕ)) (from to : ℕ) → from < length graph → Adds inside graph (linked graph from to) (Leads inside from to)
  linked_more graph from to up = record {
    before = λ k v e. older k v e (led_linked graph from to v);
    says = λ k e. (subst (AllIn inside) (get_or-set_same graph from (to ∷ led_from graph from) [] up) (k from e)).0;
    keeps = λ k l v e. newer k l v e (led_linked graph from to v);
  }
    where
      older : IsKept inside (linked graph from to) → (v : ℕ) → inside v ≡ true → (led_from (linked graph from to) v ≡ led_from graph v) ⊎ ((v ≡ from) × (led_from (linked graph from to) v ≡ to ∷ led_from graph from))
          → AllIn inside (led_from graph v)
      older k v e (inl is) = subst (AllIn inside) is (k v e)
      older k v e (inr is) = subst (λ z. AllIn inside (led_from graph z)) (sym is.0) (subst (AllIn inside) is.1 (k v e)).1

      newer : IsKept inside graph → Leads inside from to → (v : ℕ) → inside v ≡ true → (led_from (linked graph from to) v ≡ led_from graph v) ⊎ ((v ≡ from) × (led_from (linked graph from to) v ≡ to ∷ led_from graph from))
          → AllIn inside (led_from (linked graph from to) v)
      newer k l v e (inl is) = subst (AllIn inside) (sym is) (k v e)
      newer k l v e (inr is) = subst (AllIn inside) (sym is.1) (l (subst (λ z. inside z ≡ true) is.0 e), k from (subst (λ z. inside z ≡ true) is.0 e))

  fanned_more : (graph : List (List ℕ)) (from : ℕ) (tos : List ℕ) → from < length graph → Adds inside graph (fanned graph from tos) (AllByRecursion (Leads inside from) tos)
  fanned_more graph from [] up = nothing_more graph
  fanned_more graph from (to ∷ tos) up =
      both_more (linked_more graph from to up)
      (fanned_more (linked graph from to) from tos (still_below from (length graph) (length (linked graph from to)) (length_linked graph from to) up))

-- ---- rows, and what is open

module _ (inside : ℕ → Bool) (names : List Trigger) where
  -- edges both ways between the first trigger and each of these
  abbrev pub TiedIn : ℕ → List Trigger → Type 0
  TiedIn first ts = AllByRecursion (λ t. Leads inside first (number_of names t) × Leads inside (number_of names t) first) ts

  -- the row's triggers are tied, and lead to these rows
  abbrev pub RowWired : List Trigger → List ℕ → Type 0
  RowWired [] next = Unit {0}
  RowWired (t ∷ ts) next = TiedIn (number_of names t) ts × AllByRecursion (Leads inside (number_of names t)) next

  abbrev pub RowsWired : List Row → Type 0
  RowsWired [] = Unit {0}
  RowsWired (row ∷ later) = RowsWired later × RowWired row.triggers (next_rows names row.scope later)

  abbrev pub ReportsWired : List Report → Type 0
  ReportsWired rs = AllByRecursion (λ (r : Report). RowsWired r.rows) rs

  -- an edge from the Down to the open trigger
  abbrev pub DownWired : Option Trigger → Trigger → Type 0
  DownWired None t = Unit {0}
  DownWired (Some s) t = Leads inside (number_of names s) (number_of names t)

  abbrev pub OpenWired : List OpenTrigger → Type 0
  OpenWired os = AllByRecursion (λ (o : OpenTrigger). DownWired o.down o.trigger) os

  -- numbers are vertices
  is_vertex : (graph : List (List ℕ)) (t : Trigger) → length names < length graph → number_of names t < length graph
  is_vertex graph t up = let most = number_within names t in omega arith

  tied_more : (graph : List (List ℕ)) (first : ℕ) (ts : List Trigger) → length names < length graph → first < length graph → Adds inside graph (tied names graph first ts) (TiedIn first ts)
  tied_more graph first [] up here = nothing_more inside graph
  tied_more graph first (t ∷ ts) up here =
      let n = number_of names t in
      let one = length_linked graph first n in
      let two = length_linked (linked graph first n) n first ∙ one in
      both_more inside
      (both_more inside (linked_more inside graph first n here) (linked_more inside (linked graph first n) n first (still_below n (length graph) (length (linked graph first n)) one (is_vertex graph t up))))
      (tied_more (linked (linked graph first n) n first) first ts
      (still_below (length names) (length graph) (length (linked (linked graph first n) n first)) two up)
      (still_below first (length graph) (length (linked (linked graph first n) n first)) two here))

  row_more : (graph : List (List ℕ)) (ts : List Trigger) (next : List ℕ) → length names < length graph → Adds inside graph (wire_row names graph ts next) (RowWired ts next)
  row_more graph [] next up = nothing_more inside graph
  row_more graph (t ∷ ts) next up =
      let n = number_of names t in
      let here = is_vertex graph t up in
      both_more inside (tied_more graph n ts up here)
      (fanned_more inside (tied names graph n ts) n next (still_below n (length graph) (length (tied names graph n ts)) (length_tied names graph n ts) here))

  rows_more : (graph : List (List ℕ)) (rows : List Row) → length names < length graph → Adds inside graph (wire_rows names graph rows) (RowsWired rows)
  rows_more graph [] up = nothing_more inside graph
  rows_more graph (row ∷ later) up =
      both_more inside (rows_more graph later up)
      (row_more (wire_rows names graph later) row.triggers (next_rows names row.scope later)
      (still_below (length names) (length graph) (length (wire_rows names graph later)) (length_rows names graph later) up))

  reports_more : (graph : List (List ℕ)) (rs : List Report) → length names < length graph → Adds inside graph (wire_reports names graph rs) (ReportsWired rs)
  reports_more graph [] up = nothing_more inside graph
  reports_more graph (r ∷ rs) up =
      both_more inside (rows_more graph r.rows up)
      (reports_more (wire_rows names graph r.rows) rs (still_below (length names) (length graph) (length (wire_rows names graph r.rows)) (length_rows names graph r.rows) up))

  down_more : (graph : List (List ℕ)) (d : Option Trigger) (t : Trigger) → length names < length graph → Adds inside graph (wire_down names graph d t) (DownWired d t)
  down_more graph None t up = nothing_more inside graph
  down_more graph (Some s) t up = linked_more inside graph (number_of names s) (number_of names t) (is_vertex graph s up)

  open_more : (graph : List (List ℕ)) (os : List OpenTrigger) → length names < length graph → Adds inside graph (wire_open names graph os) (OpenWired os)
  open_more graph [] up = nothing_more inside graph
  open_more graph (o ∷ os) up =
      both_more inside (down_more graph o.down o.trigger up)
      (open_more (wire_down names graph o.down o.trigger) os
      (still_below (length names) (length graph) (length (wire_down names graph o.down o.trigger)) (length_down names graph o.down o.trigger) up))

  nothing_led : (n v : ℕ) → led_from (replicate n []) v ≡ []
  nothing_led zero v = refl
  nothing_led (suc n) zero = refl
  nothing_led (suc n) (suc v) = nothing_led n v

  blank_kept : (n : ℕ) → IsKept inside (replicate n [])
  blank_kept n v e = subst (AllIn inside) (sym (nothing_led n v)) tt

  one_below : (a b : ℕ) → b ≡ a + 1 → a < b
  one_below a b e = omega arith

  -- the edges that reports and open triggers add to the empty graph
  graph_more : (rs : List Report) (os : List OpenTrigger)
      → Adds inside (replicate (length names + 1) []) (wire_open names (graph_of_rows names rs) os) (ReportsWired rs × OpenWired os)
  unfolding graph_of_rows
  graph_more rs os =
      both_more inside
      (reports_more (replicate (length names + 1) []) rs (one_below (length names) (length (replicate (length names + 1) [])) (length-replicate (length names + 1) [])))
      (open_more (graph_of_rows names rs) os (one_below (length names) (length (graph_of_rows names rs)) (length_of_rows names rs)))

  pub kept_says : (rs : List Report) (os : List OpenTrigger) → IsKept inside (wire_open names (graph_of_rows names rs) os) → ReportsWired rs × OpenWired os
  kept_says rs os k = (graph_more rs os).says k

  pub says_kept : (rs : List Report) (os : List OpenTrigger) → ReportsWired rs → OpenWired os → IsKept inside (wire_open names (graph_of_rows names rs) os)
  says_kept rs os rows open_ones = (graph_more rs os).keeps (blank_kept (length names + 1)) (rows, open_ones)
