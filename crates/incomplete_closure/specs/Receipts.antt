-- What the reports tell of the sessions of a node at their other ends.
use Rattle.std.specs.Prelude.{ℕ, ◌≡◌, ◌≤◌, ◌⊎◌, false, List}
use Rattle.std.specs.List.{AllByRecursion}
use Rattle.topology.specs.declared.items.Sent.{Sent}
use Rattle.incomplete_closure.specs.declared.receipts.Receipt.{Receipt}
use Rattle.incomplete_closure.specs.declared.session_table.SessionTable.{SessionTable}
use Rattle.incomplete_closure.specs.Opening.{received_of}
use Rattle.incomplete_closure.specs.Tables.{has_node, row_at}

-- its node has no report, or the receipt is what the table has of its session with v
abbrev pub IsReceipt : SessionTable → ℕ → Receipt → Type 0
IsReceipt table v receipt = (has_node table receipt.with.nbr ≡ false) ⊎ (receipt.received ≡ received_of (row_at table receipt.with.nbr v receipt.with.session))

-- each of them is
abbrev pub AreReceipts : SessionTable → ℕ → List Receipt → Type 0
AreReceipts table v receipts = AllByRecursion (IsReceipt table v) receipts

-- the receiver of an item that v sent has no report, or has received it
abbrev pub IsSettled : SessionTable → ℕ → Sent → Type 0
IsSettled table v item = (has_node table item.to ≡ false) ⊎ (item.seq ≤ received_of (row_at table item.to v item.session))
