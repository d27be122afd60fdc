-- Tables of session rows.
use Rattle.std.proofs.Common.{ℕ, Bool, true, false, ◌&&◌, ◌||◌, ◌==◌, Option, Some, None, List, [], ◌∷◌, ◌++◌, Ordering, nat_cmp, ◌≡◌, refl, sym, ◌∙◌, ap, subst, cond, arith, if◌then◌else◌}
use Rattle.std.specs.Prelude.{is_some, option_and_then}
use Rattle.std.specs.Ordering.{is_eq, ordering_then}
use Rattle.std.specs.Option.{option_or}
use Rattle.std.specs.List.{list_any}
use Rattle.std.specs.Map.{lookup}
use Rattle.std.specs.BTreeMap.{is_at}
use Rattle.std.proofs.lemmas.Bool.Decides.{nat_tests}
use Rattle.std.proofs.lemmas.List.Folds.{find-append}
use Rattle.topology.specs.Lists.{has}
use Rattle.incomplete_closure.specs.declared.session_rows.SessionRow.{SessionRow}
use Rattle.incomplete_closure.specs.declared.session_table.SessionKey.{SessionKey}
use Rattle.incomplete_closure.specs.declared.session_table.SessionTable.{SessionTable}
use Rattle.incomplete_closure.specs.declared.reports.Report.{Report}
use Rattle.incomplete_closure.specs.Opening.{row_of, of_node}
use Rattle.incomplete_closure.specs.Tables.{has_node, is_key, row_at, IsTableOf}

-- ---- keys

-- by node, then neighbour, then session
abbrev pub by_parts : SessionKey → SessionKey → Ordering
by_parts j k = ordering_then (nat_cmp j.node k.node) (ordering_then (nat_cmp j.nbr k.nbr) (nat_cmp j.session k.session))

equal_parts : (a b c d e f : ℕ) → is_eq (ordering_then (nat_cmp a b) (ordering_then (nat_cmp c d) (nat_cmp e f))) ≡ (a == b && (c == d && e == f))
equal_parts a b c d e f = grind (arith, nat_tests)

-- a key by its parts
abbrev pub a_key : ℕ → ℕ → ℕ → SessionKey
a_key n v s = record { node = n; nbr = v; session = s }

lookup_same : {X : Type 0} (p q : SessionKey → Bool) → ((k : SessionKey) → p k ≡ q k) → (es : List (SessionKey × X)) → lookup p es ≡ lookup q es
lookup_same p q same [] = refl
lookup_same p q same (e ∷ es) = rw (same e.0) (ap (λ o. cond (q e.0) (Some e.1) o) (lookup_same p q same es))

turned : (a b c d e f : ℕ) → (a == b && (c == d && e == f)) ≡ (b == a && (d == c && f == e))
turned a b c d e f = grind (arith, nat_tests)

-- what is stored if the key was there
kept : (old : Option SessionRow) (same : Bool) (row : SessionRow) → (same ≡ true → is_some old ≡ true) → old ≡ option_or old (if same then Some row else None)
kept (Some x) same row h = refl
kept None true row h = absurd (cc (h refl))
kept None false row h = refl

-- what is added if it was not
added : (old : Option SessionRow) (same : Bool) (row : SessionRow) → (same ≡ true → old ≡ None) → cond same (Some row) old ≡ option_or old (if same then Some row else None)
added (Some x) true row h = absurd (cc (h refl))
added (Some x) false row h = refl
added None true row h = refl
added None false row h = refl

parts_are : (a b c d e f : ℕ) → (a == b && (c == d && e == f)) ≡ true → (a ≡ b) × (c ≡ d) × (e ≡ f)
parts_are a b c d e f h = (grind (arith, nat_tests), grind (arith, nat_tests), grind (arith, nat_tests))

module _ (by : SessionKey → SessionKey → Ordering) (is : (j k : SessionKey) → by j k ≡ by_parts j k) where
  at_key : (n v s : ℕ) (k : SessionKey) → is_at (by (a_key n v s)) k ≡ is_key n v s k
  at_key n v s k = ap is_eq (is (a_key n v s) k) ∙ equal_parts n k.node v k.nbr s k.session

  get_row : (n v s : ℕ) (es : List (SessionKey × SessionRow)) → lookup (is_at (by (a_key n v s))) es ≡ lookup (is_key n v s) es
  get_row n v s es = lookup_same (is_at (by (a_key n v s))) (is_key n v s) (at_key n v s) es

  pub put_kept : (node : ℕ) (row : SessionRow) (es : List (SessionKey × SessionRow)) → is_some (lookup (is_at (by (a_key node row.nbr row.session))) es) ≡ true
      → (n v s : ℕ) → lookup (is_key n v s) es ≡ option_or (lookup (is_key n v s) es) (if n == node && (row.nbr == v && row.session == s) then Some row else None)
  put_kept node row es there n v s =
      kept (lookup (is_key n v s) es) (n == node && (row.nbr == v && row.session == s)) row
      (λ e.
      let p = parts_are n node row.nbr v row.session s e in
      subst (λ z. is_some (lookup (is_key z v s) es) ≡ true) (sym p.0)
      (subst (λ z. is_some (lookup (is_key node z s) es) ≡ true) p.1
      (subst (λ z. is_some (lookup (is_key node row.nbr z) es) ≡ true) p.2
      (ap is_some (sym (get_row node row.nbr row.session es)) ∙ there))))

  pub put_added : (node : ℕ) (row : SessionRow) (old new : List (SessionKey × SessionRow))
      → ((q : SessionKey) → lookup (is_at (by q)) new ≡ cond (is_at (by (a_key node row.nbr row.session)) q) (Some row) (lookup (is_at (by q)) old))
      → is_some (lookup (is_at (by (a_key node row.nbr row.session))) old) ≡ false
      → (n v s : ℕ) → lookup (is_key n v s) new ≡ option_or (lookup (is_key n v s) old) (if n == node && (row.nbr == v && row.session == s) then Some row else None)
  put_added node row old new updates absent n v s =
      sym (get_row n v s new)
      ∙ (updates (a_key n v s)
      ∙ (rw (at_key node row.nbr row.session (a_key n v s), get_row n v s old, flip node n row.nbr v row.session s)
      (added (lookup (is_key n v s) old) (n == node && (row.nbr == v && row.session == s)) row
      (λ e.
      let p = parts_are n node row.nbr v row.session s e in
      none_is (lookup (is_key n v s) old)
      (subst (λ z. is_some (lookup (is_key z v s) old) ≡ false) (sym p.0)
      (subst (λ z. is_some (lookup (is_key node z s) old) ≡ false) p.1
      (subst (λ z. is_some (lookup (is_key node row.nbr z) old) ≡ false) p.2
      (ap is_some (sym (get_row node row.nbr row.session old)) ∙ absent))))))))
    where
      none_is : (o : Option SessionRow) → is_some o ≡ false → o ≡ None
      none_is None e = refl
      none_is (Some x) e = absurd (cc e)

      flip : (a b c d e f : ℕ) → (a == b && (c == d && e == f)) ≡ (b == a && (c == d && e == f))
      flip a b c d e f = grind (arith, nat_tests)

-- ---- a report is entered

-- a row moves from those to come into the table
pub row_moved : (a b : Option SessionRow) (here is : Bool) (x : SessionRow) (later : Option SessionRow) → b ≡ option_or a (if here && is then Some x else None)
    → option_or b (if here then later else None) ≡ option_or a (if here then cond is (Some x) later else None)
row_moved (Some y) b here is x later e = rw e refl
row_moved None b true true x later e = rw e refl
row_moved None b true false x later e = rw e refl
row_moved None b false is x later e = rw e refl

-- none is to come
pub none_left : (a : Option SessionRow) (here : Bool) → option_or a (if here then None else None) ≡ a
none_left (Some x) here = refl
none_left None true = refl
none_left None false = refl

-- ---- a report is added

find_one : (n : ℕ) (r : Report) → of_node (r ∷ []) n ≡ (if r.node == n then Some r else None)
find_one n r = refl

of_more : (before : List Report) (r : Report) (n : ℕ) → of_node (before ++ r ∷ []) n ≡ option_or (of_node before n) (if r.node == n then Some r else None)
of_more before r n = find-append (λ (x : Report). x.node == n) before (r ∷ [])

same_node : (a b : ℕ) → (a == b) ≡ true → a ≡ b
same_node a b e = grind (arith, nat_tests)

flipped : (a b : ℕ) → (a == b) ≡ (b == a)
flipped a b = grind (arith, nat_tests)

-- the node was there already
there : (o : Option Report) (here : Bool) (r : Report) → (here ≡ true → is_some o ≡ true) → option_or o (if here then Some r else None) ≡ o
there (Some x) here r h = refl
there None true r h = absurd (cc (h refl))
there None false r h = refl

pub added_again : (before : List Report) (table : SessionTable) (r : Report) → IsTableOf before table → has_node table r.node ≡ true → IsTableOf (before ++ r ∷ []) table
added_again before table r is had = record {
  nodes = λ n. is.nodes n ∙ ap is_some (sym (same n));
  rows = λ n v s. is.rows n v s ∙ ap (λ o. option_and_then (λ (x : Report). row_of x v s) o) (sym (same n));
}
  where
    same : (n : ℕ) → of_node (before ++ r ∷ []) n ≡ of_node before n
    same n =
        of_more before r n
        ∙ there (of_node before n) (r.node == n) r (λ e. subst (λ z. is_some (of_node before z) ≡ true) (same_node r.node n e) (sym (is.nodes r.node) ∙ had))

more_nodes : (o : Option Report) (here : Bool) (r : Report) → (here || is_some o) ≡ is_some (option_or o (if here then Some r else None))
more_nodes (Some x) true r = refl
more_nodes (Some x) false r = refl
more_nodes None true r = refl
more_nodes None false r = refl

more_rows : (o : Option Report) (here : Bool) (r : Report) (v s : ℕ) → (here ≡ true → is_some o ≡ false)
    → option_or (option_and_then (λ (x : Report). row_of x v s) o) (if here then row_of r v s else None) ≡ option_and_then (λ (x : Report). row_of x v s) (option_or o (if here then Some r else None))
more_rows (Some x) true r v s h = absurd (cc (h refl))
more_rows (Some x) false r v s h = none_left (row_of x v s) false
more_rows None true r v s h = refl
more_rows None false r v s h = refl

pub added_new : (before : List Report) (old new : SessionTable) (r : Report) → IsTableOf before old → has_node old r.node ≡ false
    → ((n : ℕ) → has_node new n ≡ (r.node == n || has_node old n))
    → ((n v s : ℕ) → row_at new n v s ≡ option_or (row_at old n v s) (if n == r.node then row_of r v s else None))
    → IsTableOf (before ++ r ∷ []) new
added_new before old new r is had nodes rows = record {
  nodes = λ n. nodes n ∙ (ap (λ b. r.node == n || b) (is.nodes n) ∙ (more_nodes (of_node before n) (r.node == n) r ∙ ap is_some (sym (of_more before r n))));
  rows = λ n v s.
      rows n v s
      ∙ (rw (is.rows n v s, flipped n r.node)
      (more_rows (of_node before n) (r.node == n) r v s (λ e. subst (λ z. is_some (of_node before z) ≡ false) (same_node r.node n e) (sym (is.nodes r.node) ∙ had))
      ∙ ap (λ o. option_and_then (λ (x : Report). row_of x v s) o) (sym (of_more before r n))));
}

pub none_yet : (table : SessionTable) → table.nodes.keys ≡ [] → table.rows.entries ≡ [] → IsTableOf [] table
none_yet table e f = record {
  nodes = λ n. ap (λ ks. has ks n) e;
  rows = λ n v s. ap (λ es. lookup (is_key n v s) es) f;
}

-- ---- sets of numbers

module _ (by : ℕ → ℕ → Ordering) (is : (a b : ℕ) → by a b ≡ nat_cmp a b) where
  equal_numbers : (a b : ℕ) → is_eq (nat_cmp a b) ≡ (b == a)
  equal_numbers a b = grind (arith, nat_tests)

  contains_has : (n : ℕ) (keys : List ℕ) → list_any (is_at (by n)) keys ≡ has keys n
  contains_has n [] = refl
  contains_has n (k ∷ keys) = rw (ap is_eq (is n k) ∙ equal_numbers n k) (ap (λ b. k == n || b) (contains_has n keys))

  cond_or : (b c : Bool) → cond b true c ≡ (b || c)
  cond_or true c = refl
  cond_or false c = refl

  -- the members of a set after a number was added
  pub put_has : (n : ℕ) (old new : List ℕ) → ((q : ℕ) → list_any (is_at (by q)) new ≡ cond (is_at (by n) q) true (list_any (is_at (by q)) old)) → (q : ℕ) → has new q ≡ (n == q || has old q)
  put_has n old new updates q =
      sym (contains_has q new) ∙ (updates q ∙ (rw (ap is_eq (is n q) ∙ equal_numbers n q, contains_has q old, flipped q n) (cond_or (n == q) (has old q))))
