-- Receipts: what they show of an item.
use Rattle.std.proofs.Common.{ℕ, zero, suc, ◌≤◌, inl, inr, Bool, nat_lt, Some, List, [], ◌∷◌, ◌++◌, map, slice_get, ◌≡◌, refl, sym, ◌∙◌, ap, ap₂, subst, arith, true, false}
use Rattle.std.specs.Prelude.{if◌then◌else◌}
use Rattle.std.proofs.lemmas.Bool.Decides.{nat_tests}
use Rattle.topology.specs.declared.items.Sent.{Sent}
use Rattle.incomplete_closure.specs.declared.session_table.SessionTable.{SessionTable}
use Rattle.incomplete_closure.specs.declared.receipts.Receipt.{Receipt}
use Rattle.incomplete_closure.specs.declared.reports.Report.{Report}
use Rattle.incomplete_closure.specs.Opening.{received_of, down_of, with_down}
use Rattle.incomplete_closure.specs.Receipts.{AreReceipts, IsReceipt, IsSettled}
use Rattle.incomplete_closure.specs.Tables.{has_node, row_at, IsTableOf}
use Rattle.incomplete_closure.proofs.Gathering.{open_item, nowhere, somewhere}

-- nothing is open of an item whose receiver has no report, or has received it
pub none_settled : (reports : List Report) (table : SessionTable) (v : ℕ) (item : Sent) → IsTableOf reports table → IsSettled table v item → open_item reports v item ≡ []
none_settled reports table v item is (inl none) = nowhere reports table v item is none
none_settled reports table v item is (inr has) = by (has_node table item.to) refl
  where
    by : (b : Bool) → has_node table item.to ≡ b → open_item reports v item ≡ []
    by false none = nowhere reports table v item is none
    by true there =
        let row = row_at table item.to v item.session in
        let late : nat_lt (received_of row) item.seq ≡ false = grind (arith, nat_tests, has) in
        somewhere reports table v item is there ∙ ap (λ b. if b then map (with_down (down_of row)) item.triggers else []) late

-- the receipt at a place
receipt_at : (table : SessionTable) (v : ℕ) (list : List Receipt) (place : ℕ) (one : Receipt) → AreReceipts table v list → slice_get list place ≡ Some one → IsReceipt table v one
receipt_at table v [] place one all is = absurd (cc is)
receipt_at table v (h ∷ list) zero one all is = let here : h ≡ one = cc is in subst (IsReceipt table v) here all.0
receipt_at table v (h ∷ list) (suc place) one all is = receipt_at table v list place one all.1 is

pub receipt_settles : (list : List Receipt) (place : ℕ) (one : Receipt) (item : Sent) → slice_get list place ≡ Some one → one.with.nbr ≡ item.to → one.with.session ≡ item.session → item.seq ≤ one.received
    → (table : SessionTable) (v : ℕ) → AreReceipts table v list → IsSettled table v item
receipt_settles list place one item is to session has table v all = by (receipt_at table v list place one all is)
  where
    by : IsReceipt table v one → IsSettled table v item
    by (inl none) = inl (ap (has_node table) (sym to) ∙ none)
    by (inr count) = inr (subst (λ n. item.seq ≤ n) (count ∙ ap₂ (λ w s. received_of (row_at table w v s)) to session) has)

-- one receipt more
pub one_receipt_more : (table : SessionTable) (v : ℕ) (list : List Receipt) (one : Receipt) → AreReceipts table v list → IsReceipt table v one → AreReceipts table v (list ++ one ∷ [])
one_receipt_more table v [] one all here = (here, tt)
one_receipt_more table v (h ∷ list) one all here = (all.0, one_receipt_more table v list one all.1 here)
