-- Gathering open triggers: one more item, and the look-up of a session.
use Rattle.std.proofs.Common.{ℕ, Option, Some, None, List, [], ◌++◌, map, ◌≡◌, refl, sym, ◌∙◌, ap, append_assoc, true, false}
use Rattle.std.specs.Prelude.{is_some, option_and_then}
use Rattle.topology.specs.declared.items.Sent.{Sent}
use Rattle.topology.specs.declared.items.Pending.{Pending}
use Rattle.incomplete_closure.specs.declared.session_table.SessionTable.{SessionTable}
use Rattle.incomplete_closure.specs.declared.reports.Report.{Report}
use Rattle.incomplete_closure.specs.declared.opening.OpenTrigger.{OpenTrigger}
use Rattle.incomplete_closure.specs.Opening.{row_of, down_of, with_down, if_open, of_node, open_at, waiting_at}
use Rattle.incomplete_closure.specs.Tables.{has_node, row_at, IsTableOf}

-- what is open of an item of v
abbrev pub open_item : List Report → ℕ → Sent → List OpenTrigger
open_item reports v item = open_at (of_node reports item.to) v item

-- of an update that v holds back
abbrev pub open_row : List Report → ℕ → Pending → List OpenTrigger
open_row reports v row = waiting_at (of_node reports row.to) v row

none_is : {A : Type 0} (o : Option A) → is_some o ≡ false → o ≡ None
none_is None e = refl
none_is (Some x) e = absurd (cc e)

-- no report of the node
pub nowhere : (reports : List Report) (table : SessionTable) (v : ℕ) (item : Sent) → IsTableOf reports table → has_node table item.to ≡ false → open_item reports v item ≡ []
nowhere reports table v item is e = ap (λ o. open_at o v item) (none_is (of_node reports item.to) (sym (is.nodes item.to) ∙ e))

pub waits_nowhere : (reports : List Report) (table : SessionTable) (v : ℕ) (row : Pending) → IsTableOf reports table → has_node table row.to ≡ false → open_row reports v row ≡ []
waits_nowhere reports table v row is e = ap (λ o. waiting_at o v row) (none_is (of_node reports row.to) (sym (is.nodes row.to) ∙ e))

-- a report of the node
pub somewhere : (reports : List Report) (table : SessionTable) (v : ℕ) (item : Sent) → IsTableOf reports table → has_node table item.to ≡ true → open_item reports v item ≡ if_open (row_at table item.to v item.session) item
somewhere reports table v item is e =
    rw (is.rows item.to v item.session)
    ((elim (of_node reports item.to) as (λ o. is_some o ≡ true → open_at o v item ≡ if_open (option_and_then (λ (r : Report). row_of r v item.session) o) item) [
      | None ↦ λ f. absurd (cc f)
      | Some g ↦ λ f. refl
    ]) (sym (is.nodes item.to) ∙ e))

pub waits_somewhere : (reports : List Report) (table : SessionTable) (v : ℕ) (row : Pending) → IsTableOf reports table → has_node table row.to ≡ true
    → open_row reports v row ≡ map (with_down (down_of (row_at table row.to v row.session))) row.triggers
waits_somewhere reports table v row is e =
    rw (is.rows row.to v row.session)
    ((elim (of_node reports row.to) as (λ o. is_some o ≡ true → waiting_at o v row ≡ map (with_down (down_of (option_and_then (λ (r : Report). row_of r v row.session) o))) row.triggers) [
      | None ↦ λ f. absurd (cc f)
      | Some g ↦ λ f. refl
    ]) (sym (is.nodes row.to) ∙ e))

-- what was gathered, and what is still to come
pub one_more : {A : Type 0} (before now here later all : List A) → now ≡ before ++ here → before ++ (here ++ later) ≡ all → now ++ later ≡ all
one_more before now here later all e f = ap (λ xs. xs ++ later) e ∙ append_assoc before here later ∙ f
