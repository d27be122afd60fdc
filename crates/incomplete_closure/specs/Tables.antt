-- Tables of session rows, by node, neighbour and session.
use Rattle.std.specs.Prelude.{ℕ, Bool, ◌==◌, ◌&&◌, ◌≡◌, Option, List, is_some, option_and_then}
use Rattle.std.specs.Map.{lookup}
use Rattle.topology.specs.Lists.{has}
use Rattle.incomplete_closure.specs.declared.session_rows.SessionRow.{SessionRow}
use Rattle.incomplete_closure.specs.declared.session_table.SessionKey.{SessionKey}
use Rattle.incomplete_closure.specs.declared.session_table.SessionTable.{SessionTable}
use Rattle.incomplete_closure.specs.declared.reports.Report.{Report}
use Rattle.incomplete_closure.specs.Opening.{row_of, of_node}

-- the table has the node
abbrev pub has_node : SessionTable → ℕ → Bool
has_node table node = has table.nodes.keys node

-- the key is that of this node, neighbour and session
abbrev pub is_key : ℕ → ℕ → ℕ → SessionKey → Bool
is_key node v s key = node == key.node && (v == key.nbr && s == key.session)

-- the row of the node's session s with v
abbrev pub row_at : SessionTable → ℕ → ℕ → ℕ → Option SessionRow
row_at table node v s = lookup (is_key node v s) table.rows.entries

-- the table has the first report of each node, and the first row of each of its sessions
pub record IsTableOf (reports : List Report) (table : SessionTable) : Type 0 where
  pub nodes : (node : ℕ) → has_node table node ≡ is_some (of_node reports node)
  pub rows : (node v s : ℕ) → row_at table node v s ≡ option_and_then (λ (r : Report). row_of r v s) (of_node reports node)
