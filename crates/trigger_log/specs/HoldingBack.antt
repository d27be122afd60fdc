-- What a log stores of the updates that its node holds back.
use Rattle.std.specs.Prelude.{ℕ, ◌<◌, ◌≡◌, List, [], ◌∷◌, filter, length, map, take, if◌then◌else◌}
use Rattle.std.specs.List.{AllByRecursion}
use Rattle.topology.specs.declared.names.Trigger.{Trigger}
use Rattle.topology.specs.declared.items.Pending.{Pending}
use Rattle.topology.specs.Lists.{has}
use Rattle.topology.specs.Net.{Net, neighbours, holds_back}
use Rattle.path_vector.specs.Rules.{Rules}
use Rattle.path_vector.specs.History.{History, held as held_now}
use Rattle.path_vector.specs.Offers.{offer}
use Rattle.trigger_log.specs.declared.held_back.HeldBack.{HeldBack}
use Rattle.trigger_log.specs.Entries.{Entry, Update, reads}
use Rattle.trigger_log.specs.Making.{Making}
use Rattle.trigger_log.specs.Pending.{empties, pending, pending_rows}
use Rattle.trigger_log.specs.Putting.{is_to, rows_over}

-- the neighbours from which node u holds back, and the updates that it holds back after these entries
pub record HoldsBack (rules : Rules) (net : Net) (u : ℕ) (h : List Entry) (held : HeldBack) : Type 0 where
  pub from : held.from.items ≡ filter (holds_back net u) (neighbours net u)
  pub rows : held.rows ≡ pending_rows rules net u h

-- what is held back from w of p while entry k is made after h: for the first n neighbours as after k; for the others as
-- before it, but emptied if k empties it
abbrev pub held_part : Making → ℕ → ℕ → ℕ → List Trigger
held_part m n w p =
    if has (take n (neighbours m.net m.node)) w then pending m.rules m.net m.node (m.entry ∷ m.before) w p
    else if empties m.entry.read.cause w then []
    else pending m.rules m.net m.node m.before w p

-- the rows say this
pub record HoldsPart (m : Making) (n : ℕ) (held : HeldBack) : Type 0 where
  pub from : held.from.items ≡ filter (holds_back m.net m.node) (neighbours m.net m.node)
  pub rows : held.rows ≡ rows_over m.net (held_part m n) (held_now (m.entry.read ∷ reads m.before)) (neighbours m.net m.node)

-- the prefixes of these rows are in the network
abbrev pub ArePlacedRows : Net → List Pending → Type 0
ArePlacedRows net rows = AllByRecursion (λ (row : Pending). row.prefix < length net.prefixes) rows

-- the update of a row: what w is offered after these entries, for the triggers of the row
abbrev pub row_update : Rules → Net → ℕ → History → Pending → ℕ → Update
row_update rules net u now row w = record { prefix = row.prefix; triggers = row.triggers; path = offer rules net u now row.prefix w }

-- the updates of the rows of w
abbrev pub row_updates : Rules → Net → ℕ → History → List Pending → ℕ → List Update
row_updates rules net u now rows w = map (λ row. row_update rules net u now row w) (filter (is_to w) rows)
