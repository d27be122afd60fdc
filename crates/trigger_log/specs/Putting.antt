-- One more update that is held back.
use Rattle.std.specs.Prelude.{ℕ, Bool, true, ◌≡◌, ◌==◌, ◌&&◌, ◌||◌, not, nat_lt, Option, Some, None, List, [], ◌∷◌, filter, flat_map, map, if◌then◌else◌}
use Rattle.std.specs.List.{AllByRecursion}
use Rattle.topology.specs.declared.names.Trigger.{Trigger}
use Rattle.topology.specs.declared.items.Pending.{Pending}
use Rattle.topology.specs.Triggers.{union, all_of}
use Rattle.topology.specs.Net.{Net}
use Rattle.path_vector.specs.declared.causes.Cause.{Cause}
use Rattle.path_vector.specs.declared.causes.Cause.TheVariants.{Down, Flush}
use Rattle.trigger_log.specs.Entries.{Update}
use Rattle.trigger_log.specs.Pending.{rows_to}
use Rattle.trigger_log.specs.HeldLists.{is_row}

-- the row comes after the place of a row for prefix p and w
abbrev pub is_behind : ℕ → ℕ → Pending → Bool
is_behind w p row = nat_lt w row.to || (w == row.to && nat_lt p row.prefix)

-- each row belongs before all that follow it
abbrev pub RowsRise : List Pending → Type 0
RowsRise [] = Unit {0}
RowsRise (row ∷ rows) = AllByRecursion (λ (later : Pending). is_behind row.to row.prefix later ≡ true) rows × RowsRise rows

-- the row with these triggers added
abbrev pub with_more : List Trigger → Pending → Pending
with_more triggers row = record row { triggers = union triggers row.triggers }

-- the triggers of x are added to the row of the same neighbour and prefix; if there is none, x is inserted
abbrev pub put_row : Pending → List Pending → List Pending
put_row x [] = x ∷ []
put_row x (row ∷ rows) =
    if is_row x.to x.prefix row then with_more x.triggers row ∷ rows
    else if is_behind x.to x.prefix row then x ∷ row ∷ rows
    else row ∷ put_row x rows

-- an update to w in session s, as a row of what is held back
abbrev pub row_of : ℕ → ℕ → Update → Pending
row_of w s x = record { to = w; prefix = x.prefix; session = s; triggers = x.triggers }

-- the updates to w in session s are added one by one
abbrev pub put_all : ℕ → ℕ → List Update → List Pending → List Pending
put_all w s [] rows = rows
put_all w s (x ∷ xs) rows = put_all w s xs (put_row (row_of w s x) rows)

-- the row is of w
abbrev pub is_to : ℕ → Pending → Bool
is_to w row = row.to == w

-- the rows of others than w
abbrev pub rows_without : ℕ → List Pending → List Pending
rows_without w rows = filter (λ row. not (is_to w row)) rows

-- the triggers of all updates held back from w, read from the rows
abbrev pub triggers_to : ℕ → List Pending → List Trigger
triggers_to w rows = all_of (map (λ (row : Pending). row.triggers) (filter (is_to w) rows))

-- the rows of these neighbours, each in its session and with the triggers of each prefix
abbrev pub rows_over : Net → (ℕ → ℕ → List Trigger) → (ℕ → Option ℕ) → List ℕ → List Pending
rows_over net triggers session ws = flat_map (λ w. rows_to net (triggers w) w (session w)) ws

-- the neighbour whose rows the cause removes
abbrev pub emptied : Cause → Option ℕ
emptied (Down v s) = Some v
emptied (Flush v) = Some v
emptied other = None
