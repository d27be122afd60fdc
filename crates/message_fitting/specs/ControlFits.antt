-- Which ballots and control messages a node admits.
use Rattle.std.specs.Prelude.{ℕ, ◌+◌, ◌^◌, Bool, true, ◌&&◌, ◌||◌, ◌==◌, nat_lt, nat_le, Option, Some, None, List, [], ◌∷◌, length}
use Rattle.std.specs.List.{list_all, flat_map}
use Rattle.topology.specs.declared.ballots.Ballot.{Ballot}
use Rattle.topology.specs.declared.items.Pending.{Pending}
use Rattle.topology.specs.declared.items.Sent.{Sent}
use Rattle.topology.specs.declared.names.Scope.{Scope}
use Rattle.topology.specs.declared.names.Scope.TheVariants.{One, All, Nothing}
use Rattle.topology.specs.declared.names.Trigger.{Trigger}
use Rattle.topology.specs.Lists.{has}
use Rattle.topology.specs.Triggers.{earlier}
use Rattle.topology.specs.Net.{Net}
use Rattle.incomplete_closure.specs.Reports.{Row, SessionRow, Report}
use Rattle.incomplete_closure.specs.declared.values.Value.{Value}
use Rattle.paxos_core.specs.Facts.{Message as Ballots, Prepare, Promise, Accept, Accepted, Decision}
use Rattle.consolidator.specs.Messages.{Message, Reports, Agrees, epoch_of}
use Rattle.topology.specs.declared.limits.TheConstants.{MOST_EPOCHS, MOST_TRIGGERS, MOST_ENTRIES, MOST_UPDATES, MOST_SESSIONS, MOST_PENDING, MOST_MARKS}
use Rattle.message_fitting.specs.Marks.{item_marks, row_marks, total}
use Rattle.message_fitting.specs.Names.{are_nodes, is_number, list_fits, trigger_fits, triggers_fit}

-- an epoch that a cut may be of
abbrev pub epoch_fits : ℕ → Bool
epoch_fits e = nat_le 1 e && nat_le e MOST_EPOCHS

-- ---- values and ballots

-- x stands before the first of the list
abbrev pub leads : {A : Type 0} → (A → A → Bool) → A → List A → Bool
leads before x [] = true
leads before x (y ∷ ys) = before x y

-- each stands before the next one
abbrev pub in_order : {A : Type 0} → (A → A → Bool) → List A → Bool
in_order before [] = true
in_order before (x ∷ xs) = leads before x xs && in_order before xs

-- nodes of the network, ascending
abbrev pub nodes_fit : Net → List ℕ → Bool
nodes_fit net nodes = are_nodes net nodes && in_order nat_lt nodes

-- triggers of nodes of the network, ascending
abbrev pub all_fit : Net → List Trigger → Bool
all_fit net triggers = list_all (trigger_fits net) triggers && in_order earlier triggers

-- these triggers, no more than a value may have
abbrev pub incomplete_fits : Net → List Trigger → Bool
incomplete_fits net triggers = all_fit net triggers && nat_le (length triggers) MOST_TRIGGERS

abbrev pub value_fits : Net → Value → Bool
value_fits net v = nodes_fit net v.responding && incomplete_fits net v.incomplete

-- a ballot of a node of the network, with a round from 1
abbrev pub ballot_fits : Net → Ballot → Bool
ballot_fits net b = is_number b.round && has net.nodes b.node

-- what a promise names, if it names something
abbrev pub named_fits : Net → Option (Ballot × Value) → Bool
named_fits net None = true
named_fits net (Some named) = ballot_fits net named.0 && value_fits net named.1

-- a consolidator may send a message of this ballot
abbrev pub sender_fits : Net → ℕ → Ballot → Bool
sender_fits net from b = has net.consolidators from && ballot_fits net b

-- a decision may come from any node, all other messages from consolidators alone
abbrev pub ballots_fit : Net → ℕ → Ballots Value → Bool
ballots_fit net from (Prepare b) = sender_fits net from b
ballots_fit net from (Promise b named) = sender_fits net from b && named_fits net named
ballots_fit net from (Accept b v) = sender_fits net from b && value_fits net v
ballots_fit net from (Accepted b) = sender_fits net from b
ballots_fit net from (Decision v) = value_fits net v

-- ---- reports

-- a prefix of the network, all prefixes, or nothing
abbrev pub scope_fits : Net → Scope → Bool
scope_fits net (One p) = nat_lt p (length net.prefixes)
scope_fits net All = true
scope_fits net Nothing = true

-- an item for a node of the network, in a session and with a number from 1, with a list of triggers
abbrev pub listed_fits : Net → Sent → Bool
listed_fits net item = has net.nodes item.to && (is_number item.session && (is_number item.seq && list_fits net item.triggers))

-- the triggers of a row: none where it concerns no prefix, otherwise a list of triggers
abbrev pub row_lists_fit : Net → Scope → List Trigger → Bool
row_lists_fit net (One p) triggers = list_fits net triggers
row_lists_fit net All triggers = list_fits net triggers
row_lists_fit net Nothing triggers = length triggers == 0

-- the row of an entry: its triggers, its scope and its items name what the network has
abbrev pub row_fits : Net → Row → Bool
row_fits net row =
    row_lists_fit net row.scope row.triggers && (scope_fits net row.scope && list_all (listed_fits net) row.sent)

-- all items of the rows
abbrev pub items_of : List Row → List Sent
items_of rows = flat_map (λ (row : Row). row.sent) rows

-- the rows and their items are no more than a node may have
abbrev pub rows_are_few : List Row → Bool
rows_are_few rows = nat_le (length rows) MOST_ENTRIES && nat_le (length (items_of rows)) MOST_UPDATES

abbrev pub rows_fit : Net → List Row → Bool
rows_fit net rows = list_all (row_fits net) rows && rows_are_few rows

-- there are triggers, or there is no Down
abbrev pub down_fits : Net → Option (List Trigger) → Bool
down_fits net None = true
down_fits net (Some triggers) = triggers_fit net triggers

-- the row of a session with a node of the network, from 1
abbrev pub session_fits : Net → SessionRow → Bool
session_fits net row =
    has net.nodes row.nbr && (is_number row.session && (nat_lt row.received (2 ^ 32) && down_fits net row.down))

-- by neighbour, then by session
abbrev pub sooner : SessionRow → SessionRow → Bool
sooner a b = nat_lt a.nbr b.nbr || (a.nbr == b.nbr && nat_lt a.session b.session)

-- the rows ascend, and are no more than a report may have
abbrev pub sessions_ascend : List SessionRow → Bool
sessions_ascend rows = in_order sooner rows && nat_le (length rows) MOST_SESSIONS

abbrev pub sessions_fit : Net → List SessionRow → Bool
sessions_fit net rows = list_all (session_fits net) rows && sessions_ascend rows

-- what is held back from a node of the network: an update of a prefix of the network, in a session from 1, with a list of
-- triggers
abbrev pub waiting_fits : Net → Pending → Bool
waiting_fits net row =
    has net.nodes row.to && (nat_lt row.prefix (length net.prefixes) && (is_number row.session && list_fits net row.triggers))

-- by neighbour, then by prefix
abbrev pub waits_sooner : Pending → Pending → Bool
waits_sooner a b = nat_lt a.to b.to || (a.to == b.to && nat_lt a.prefix b.prefix)

-- the rows of updates held back ascend, and are no more than a report may have
abbrev pub waiting_ascends : List Pending → Bool
waiting_ascends rows = in_order waits_sooner rows && nat_le (length rows) MOST_PENDING

abbrev pub pending_fits : Net → List Pending → Bool
pending_fits net rows = list_all (waiting_fits net) rows && waiting_ascends rows

-- the triggers that a row and its items list, counted once for each list
abbrev pub marks_of_row : Row → ℕ
marks_of_row row = length row.triggers + item_marks row.sent

-- the triggers that all rows of entries list
abbrev pub marks_of_rows : List Row → ℕ
marks_of_rows rows = total marks_of_row rows

-- the triggers that a report lists
abbrev pub report_marks : Report → ℕ
report_marks r = marks_of_rows r.rows + row_marks r.pending

-- the rows of each sort fit, and together they list no more triggers than a report may
abbrev pub report_fits : Net → Report → Bool
report_fits net r =
    rows_fit net r.rows && (sessions_fit net r.sessions && (pending_fits net r.pending && nat_le (report_marks r) MOST_MARKS))

-- ---- messages

-- a report is one of its sender
abbrev pub body_fits : Net → ℕ → Message → Bool
body_fits net from (Reports r) = r.node == from && report_fits net r
body_fits net from (Agrees e m) = ballots_fit net from m

-- a message of a node of the network, about an epoch that a cut may be of
abbrev pub message_fits : Net → ℕ → Message → Bool
message_fits net from m = has net.nodes from && (epoch_fits (epoch_of m) && body_fits net from m)
