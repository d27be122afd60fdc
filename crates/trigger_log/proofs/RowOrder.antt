-- The rows of held-back updates stay in order; and the place of a row.
use Rattle.std.proofs.Common.{ℕ, zero, suc, ◌<◌, Bool, true, false, cond, not, ◌==◌, ◌&&◌, ◌||◌, nat_lt, List, [], ◌∷◌, ◌++◌, ◌≡◌, refl, sym, ◌∙◌, ap, subst, arith, filter, drop, take, slice_index_or, length}
use Rattle.std.specs.Prelude.{if◌then◌else◌}
use Rattle.std.specs.List.{AllByRecursion}
use Rattle.std.proofs.lemmas.Bool.Decides.{nat_tests}
use Rattle.topology.specs.declared.items.Pending.{Pending}
use Rattle.trigger_log.specs.HeldLists.{is_row}
use Rattle.trigger_log.specs.Putting.{is_behind, is_to, put_row, rows_without, with_more, RowsRise}

-- the row belongs before that of prefix p and w
abbrev pub is_ahead : ℕ → ℕ → Pending → Bool
is_ahead w p row = nat_lt row.to w || (row.to == w && nat_lt row.prefix p)

all_weaker : (P Q : Pending → Type 0) → ((x : Pending) → P x → Q x) → (xs : List Pending) → AllByRecursion P xs → AllByRecursion Q xs
all_weaker P Q step [] all = tt
all_weaker P Q step (x ∷ xs) all = (step x all.0, all_weaker P Q step xs all.1)

-- ---- of three rows

later_still : (w p : ℕ) (b c : Pending) → is_behind w p b ≡ true → is_behind b.to b.prefix c ≡ true → is_behind w p c ≡ true
later_still w p b c one other = grind (arith, nat_tests)

earlier_still : (w p : ℕ) (a b : Pending) → is_behind a.to a.prefix b ≡ true → is_ahead w p b ≡ true → is_ahead w p a ≡ true
earlier_still w p a b one other = grind (arith, nat_tests)

-- a row that is neither this one nor behind it is ahead of it
pub else_ahead : (w p : ℕ) (row : Pending) → is_row w p row ≡ false → is_behind w p row ≡ false → is_ahead w p row ≡ true
else_ahead w p row other not_behind = grind (arith, nat_tests)

ahead_other : (w p : ℕ) (row : Pending) → is_ahead w p row ≡ true → is_row w p row ≡ false
ahead_other w p row ahead = grind (arith, nat_tests)

ahead_not_behind : (w p : ℕ) (row : Pending) → is_ahead w p row ≡ true → is_behind w p row ≡ false
ahead_not_behind w p row ahead = grind (arith, nat_tests)

behind_other : (w p : ℕ) (row : Pending) → is_behind w p row ≡ true → is_row w p row ≡ false
behind_other w p row behind = grind (arith, nat_tests)

-- ---- the order stays

all_put : (P : Pending → Type 0) (x : Pending) → ((row : Pending) → P row → P (with_more x.triggers row)) → P x → (rows : List Pending) → AllByRecursion P rows → AllByRecursion P (put_row x rows)
all_put P x more here [] all = (here, tt)
all_put P x more here (row ∷ rows) all =
    elim (is_row x.to x.prefix row) as (λ b. AllByRecursion P (if b then with_more x.triggers row ∷ rows else if is_behind x.to x.prefix row then x ∷ row ∷ rows else row ∷ put_row x rows)) [
      | true ↦ (more row all.0, all.1)
      | false ↦ elim (is_behind x.to x.prefix row) as (λ b. AllByRecursion P (if b then x ∷ row ∷ rows else row ∷ put_row x rows)) [
        | true ↦ (here, all)
        | false ↦ (all.0, all_put P x more here rows all.1)
      ]
    ]

pub put_rises : (x : Pending) (rows : List Pending) → RowsRise rows → RowsRise (put_row x rows)
put_rises x [] rise = (tt, tt)
put_rises x (row ∷ rows) rise =
    (elim (is_row x.to x.prefix row) as (λ b. is_row x.to x.prefix row ≡ b → RowsRise (if b then with_more x.triggers row ∷ rows else if is_behind x.to x.prefix row then x ∷ row ∷ rows else row ∷ put_row x rows)) [
      | true ↦ λ e. rise
      | false ↦ λ e. (elim (is_behind x.to x.prefix row) as (λ b. is_behind x.to x.prefix row ≡ b → RowsRise (if b then x ∷ row ∷ rows else row ∷ put_row x rows)) [
        | true ↦ λ d. ((d, all_weaker (λ later. is_behind row.to row.prefix later ≡ true) (λ later. is_behind x.to x.prefix later ≡ true) (λ later next. later_still x.to x.prefix row later d next) rows rise.0), rise)
        | false ↦ λ d. (
          all_put (λ later. is_behind row.to row.prefix later ≡ true) x (λ later next. next) (else_ahead x.to x.prefix row e d) rows rise.0,
          put_rises x rows rise.1,
        )
      ]) refl
    ]) refl

all_kept : (P : Pending → Type 0) (test : Pending → Bool) (rows : List Pending) → AllByRecursion P rows → AllByRecursion P (filter test rows)
all_kept P test [] all = tt
all_kept P test (row ∷ rows) all =
    elim (test row) as (λ b. AllByRecursion P (cond b (row ∷ filter test rows) (filter test rows))) [ true ↦ (all.0, all_kept P test rows all.1) | false ↦ all_kept P test rows all.1 ]

kept_rise : (test : Pending → Bool) (rows : List Pending) → RowsRise rows → RowsRise (filter test rows)
kept_rise test [] rise = tt
kept_rise test (row ∷ rows) rise =
    elim (test row) as (λ b. RowsRise (cond b (row ∷ filter test rows) (filter test rows))) [
      | true ↦ (all_kept (λ later. is_behind row.to row.prefix later ≡ true) test rows rise.0, kept_rise test rows rise.1)
      | false ↦ kept_rise test rows rise.1
    ]

pub without_rises : (w : ℕ) (rows : List Pending) → RowsRise rows → RowsRise (rows_without w rows)
without_rises w rows rise = kept_rise (λ row. not (is_to w row)) rows rise

-- ---- around the row at a place

one_of : (P : Pending → Type 0) (rows : List Pending) (i : ℕ) (row : Pending) → i < length rows → row ≡ slice_index_or rows i row → AllByRecursion P rows → P row
one_of P [] i row inside is all = absurd (omega arith)
one_of P (first ∷ rows) zero row inside is all = subst P (sym is) all.0
one_of P (first ∷ rows) (suc i) row inside is all = one_of P rows i row (omega arith) is all.1

-- a row at an earlier place is ahead
ahead_of : (rows : List Pending) (i : ℕ) (row : Pending) → RowsRise rows → i < length rows → row ≡ slice_index_or rows i row → AllByRecursion (λ r. is_ahead row.to row.prefix r ≡ true) (take i rows)
ahead_of [] i row rise inside is = absurd (omega arith)
ahead_of (first ∷ rows) zero row rise inside is = tt
ahead_of (first ∷ rows) (suc i) row rise inside is = (
  one_of (λ later. is_behind first.to first.prefix later ≡ true) rows i row (omega arith) is rise.0,
  ahead_of rows i row rise.1 (omega arith) is,
)

-- if a row is ahead, so are those before it
pub lower : (w p : ℕ) (rows : List Pending) (i : ℕ) (row : Pending) → RowsRise rows → i < length rows → row ≡ slice_index_or rows i row → is_ahead w p row ≡ true
    → AllByRecursion (λ r. is_ahead w p r ≡ true) (take (suc i) rows)
lower w p [] i row rise inside is ahead = absurd (omega arith)
lower w p (first ∷ rows) zero row rise inside is ahead = (subst (λ r. is_ahead w p r ≡ true) is ahead, tt)
lower w p (first ∷ rows) (suc i) row rise inside is ahead = (
  earlier_still w p first row (one_of (λ later. is_behind first.to first.prefix later ≡ true) rows i row (omega arith) is rise.0) ahead,
  lower w p rows i row rise.1 (omega arith) is ahead,
)

-- if a row is behind, so are those after it
pub upper : (w p : ℕ) (rows : List Pending) (i : ℕ) (row : Pending) → RowsRise rows → i < length rows → row ≡ slice_index_or rows i row → is_behind w p row ≡ true
    → AllByRecursion (λ r. is_behind w p r ≡ true) (drop i rows)
upper w p [] i row rise inside is behind = absurd (omega arith)
upper w p (first ∷ rows) zero row rise inside is behind =
    let here : is_behind w p first ≡ true = subst (λ r. is_behind w p r ≡ true) is behind in
    (here, all_weaker (λ later. is_behind first.to first.prefix later ≡ true) (λ later. is_behind w p later ≡ true) (λ later next. later_still w p first later here next) rows rise.0)
upper w p (first ∷ rows) (suc i) row rise inside is behind = upper w p rows i row rise.1 (omega arith) is behind

-- ---- where a row is inserted

-- behind those that are ahead
behind_those : (x : Pending) (rows : List Pending) (n : ℕ) → AllByRecursion (λ r. is_ahead x.to x.prefix r ≡ true) (take n rows) → put_row x rows ≡ take n rows ++ put_row x (drop n rows)
behind_those x rows zero all = refl
behind_those x [] (suc n) all = refl
behind_those x (row ∷ rows) (suc n) all =
    rw (ahead_other x.to x.prefix row all.0) (rw (ahead_not_behind x.to x.prefix row all.0) (ap (λ l. row ∷ l) (behind_those x rows n all.1)))

-- before those that are behind
before_those : (x : Pending) (rows : List Pending) → AllByRecursion (λ r. is_behind x.to x.prefix r ≡ true) rows → put_row x rows ≡ x ∷ rows
before_those x [] all = refl
before_those x (row ∷ rows) all = rw (behind_other x.to x.prefix row all.0) (rw all.0 refl)

pub put_between : (w p : ℕ) (rows : List Pending) (n : ℕ) → AllByRecursion (λ r. is_ahead w p r ≡ true) (take n rows) → AllByRecursion (λ r. is_behind w p r ≡ true) (drop n rows)
    → (x : Pending) → x.to ≡ w → x.prefix ≡ p → put_row x rows ≡ take n rows ++ x ∷ drop n rows
put_between w p rows n ahead behind x to prefix =
    let low = subst (λ v. AllByRecursion (λ r. is_ahead v x.prefix r ≡ true) (take n rows)) (sym to) (subst (λ q. AllByRecursion (λ r. is_ahead w q r ≡ true) (take n rows)) (sym prefix) ahead) in
    let high = subst (λ v. AllByRecursion (λ r. is_behind v x.prefix r ≡ true) (drop n rows)) (sym to) (subst (λ q. AllByRecursion (λ r. is_behind w q r ≡ true) (drop n rows)) (sym prefix) behind) in
    behind_those x rows n low ∙ ap (λ l. take n rows ++ l) (before_those x (drop n rows) high)

-- a row of the same neighbour and prefix as the one at a place comes after all before it
pub put_at : (x : Pending) (rows : List Pending) (i : ℕ) (row : Pending) → RowsRise rows → i < length rows → row ≡ slice_index_or rows i row → row.to ≡ x.to → row.prefix ≡ x.prefix
    → put_row x rows ≡ take i rows ++ put_row x (drop i rows)
put_at x rows i row rise inside is to prefix =
    behind_those x rows i
    (subst (λ v. AllByRecursion (λ r. is_ahead v x.prefix r ≡ true) (take i rows)) to
    (subst (λ q. AllByRecursion (λ r. is_ahead row.to q r ≡ true) (take i rows)) prefix (ahead_of rows i row rise inside is)))
