-- The fields of frames.
use Rattle.std.specs.Prelude.{ℕ, Bool, true, false, not, ◌&&◌, ◌||◌, ◌==◌, ◌+◌, nat_lt, nat_le, List, [], ◌∷◌, ◌++◌, length, Option, Some, None, if◌then◌else◌}
use Rattle.std.specs.Int.{w8, w16, w32, w64}
use Rattle.topology.specs.Lists.{has}
use Rattle.topology.specs.Triggers.{earlier, same_trigger}
use Rattle.topology.specs.declared.names.Trigger.{Trigger}
use Rattle.topology.specs.declared.names.Scope.{Scope}
use Rattle.topology.specs.declared.names.Scope.TheVariants.{One, All, Nothing}
use Rattle.topology.specs.declared.ballots.Ballot.{Ballot}
use Rattle.topology.specs.declared.items.Sent.{Sent}
use Rattle.topology.specs.declared.limits.TheConstants.{HIGHEST_EPOCH, HIGHEST_NODE, HIGHEST_PREFERENCE, MOST_ENTRIES, MOST_NODES, MOST_PREFIXES, MOST_SESSIONS, MOST_TRAIL, MOST_TRIGGERS, MOST_UPDATES}
use Rattle.incomplete_closure.specs.declared.cut_rows.Row.{Row}
use Rattle.incomplete_closure.specs.declared.session_rows.SessionRow.{SessionRow}
use Rattle.incomplete_closure.specs.declared.reports.Report.{Report}
use Rattle.incomplete_closure.specs.declared.values.Value.{Value}
use Rattle.epoch_packet.specs.declared.packets.Packet.{Packet}
use Rattle.epoch_packet.specs.declared.walks.Mode.{Mode}
use Rattle.epoch_packet.specs.declared.walks.Mode.TheVariants.{Stable, Transient}
use Rattle.epoch_packet.specs.declared.walks.End.{End}
use Rattle.epoch_packet.specs.declared.walks.End.TheVariants.{Delivered, Expired, Stuck}
use Rattle.wire_frames.specs.Formats.{Format, tested, number, ordered, pair, led, Meaning, meant, optional, Series, listed}

-- ---- numbers

-- a node
unfoldable pub node : Format ℕ
node = number w16 1 HIGHEST_NODE

-- the place of a prefix in the order of the file
unfoldable pub prefix : Format ℕ
prefix = number w16 0 255

-- a session, the number of an update or a packet, a counter, or a round
unfoldable pub positive : Format ℕ
positive = number w32 1 4294967295

-- an epoch
unfoldable pub epoch : Format ℕ
epoch = number w32 1 HIGHEST_EPOCH

-- an epoch, or 0 for none
unfoldable pub epoch_or_none : Format ℕ
epoch_or_none = number w32 0 HIGHEST_EPOCH

-- a preference
unfoldable pub preference : Format ℕ
preference = number w32 0 HIGHEST_PREFERENCE

-- any number of two bytes
unfoldable pub any16 : Format ℕ
any16 = number w16 0 65535

-- any number of four bytes
unfoldable pub any32 : Format ℕ
any32 = number w32 0 4294967295

-- any number of eight bytes
unfoldable pub any64 : Format ℕ
any64 = number w64 0 18446744073709551615

-- how many elements follow, in one byte
unfoldable pub few : ℕ → Format ℕ
few most = number w8 0 most

-- how many elements follow, in two bytes
unfoldable pub many : ℕ → Format ℕ
many most = number w16 0 most

-- ---- choices

-- every value may be used
abbrev pub each : {B : Type 0} → B → Bool
each y = true

-- 1 means true
abbrev pub flag_meaning : Meaning ℕ Bool
flag_meaning = record { make = λ n. n == 1; parts = λ b. if b then 1 else 0; only = each }

-- 1 means true
unfoldable pub flag : Format Bool
flag = meant (number w8 0 1) flag_meaning

-- the number of a scope: its prefix, 65535 for all, or 65534 for nothing
abbrev pub scope_number : Scope → ℕ
scope_number (One p) = p
scope_number All = 65535
scope_number Nothing = 65534

-- the scope is a prefix at a possible place, or all
abbrev pub is_scope : Scope → Bool
is_scope (One p) = nat_le p 255
is_scope All = true
is_scope Nothing = false

-- the number of a scope
abbrev pub scope_meaning : Meaning ℕ Scope
scope_meaning = record { make = λ n. if n == 65535 then All else One n; parts = scope_number; only = is_scope }

-- a prefix, or all
unfoldable pub scope : Format Scope
scope = meant (tested w16 (λ n. nat_le n 255 || n == 65535)) scope_meaning

-- 0 on the stable tables, 1 off them
abbrev pub mode_number : Mode → ℕ
mode_number Stable = 0
mode_number Transient = 1

-- a mode as its number
abbrev pub mode_meaning : Meaning ℕ Mode
mode_meaning = record { make = λ n. if n == 0 then Stable else Transient; parts = mode_number; only = each }

-- the mode of a packet
unfoldable pub mode : Format Mode
mode = meant (number w8 0 1) mode_meaning

-- 1 delivered, 2 expired, 3 stuck
abbrev pub end_number : End → ℕ
end_number Delivered = 1
end_number Expired = 2
end_number Stuck = 3

-- an end as its number
abbrev pub end_meaning : Meaning ℕ End
end_meaning = record { make = λ n. if n == 1 then Delivered else if n == 2 then Expired else Stuck; parts = end_number; only = each }

-- the end of a walk
unfoldable pub end : Format End
end = meant (number w8 1 3) end_meaning

-- ---- names made of several numbers

-- a node and a counter
abbrev pub trigger_meaning : Meaning (ℕ × ℕ) Trigger
trigger_meaning = record { make = λ p. record { node = p.0; count = p.1 }; parts = λ t. (t.node, t.count); only = each }

-- a node and a counter
unfoldable pub trigger : Format Trigger
trigger = meant (pair node positive) trigger_meaning

-- a value below all triggers
abbrev pub no_trigger : Trigger
no_trigger = record { node = 0; count = 0 }

-- the first trigger of a list
abbrev pub first_of : List Trigger → Trigger
first_of [] = no_trigger
first_of (t ∷ ts) = t

-- the list has one trigger
abbrev pub is_one : List Trigger → Bool
is_one [] = false
is_one (t ∷ []) = true
is_one (t ∷ s ∷ ts) = false

-- the list has exactly this trigger
abbrev pub is_alone : Trigger → List Trigger → Bool
is_alone t [] = false
is_alone t (s ∷ []) = same_trigger s t
is_alone t (s ∷ u ∷ ts) = false

-- a trigger as the list that has just it
abbrev pub one_meaning : Meaning Trigger (List Trigger)
one_meaning = record { make = λ t. t ∷ []; parts = first_of; only = is_one }

-- a list of one trigger; other lists have no spelling in this format
unfoldable pub one_trigger : Format (List Trigger)
one_trigger = meant trigger one_meaning

-- a round and a node
abbrev pub ballot_meaning : Meaning (ℕ × ℕ) Ballot
ballot_meaning = record { make = λ p. record { round = p.0; node = p.1 }; parts = λ b. (b.round, b.node); only = each }

-- a round and a node
unfoldable pub ballot : Format Ballot
ballot = meant (pair positive node) ballot_meaning

-- the neighbour, the session and the number of an item that lists exactly this trigger
abbrev pub sent_meaning : Trigger → Meaning (ℕ × (ℕ × ℕ)) Sent
sent_meaning t = record {
  make = λ p. record { to = p.0; session = p.1.0; seq = p.1.1; triggers = t ∷ [] };
  parts = λ item. (item.to, (item.session, item.seq));
  only = λ item. is_alone t item.triggers;
}

-- an item of an entry with this trigger: the neighbour, the session and the number
unfoldable pub sent : Trigger → Format Sent
sent t = meant (pair node (pair positive positive)) (sent_meaning t)

-- ---- lists of nodes

-- nodes in any order
abbrev pub in_any_order : {S : Type 0} → Series S ℕ
in_any_order = record { at = λ s. node; step = λ s n. s; spells = node.spells }

-- each node is above the one before it
abbrev pub rising : Series ℕ ℕ
rising = record { at = λ last. ordered node (nat_lt last); step = λ last n. n; spells = node.spells }

-- no node occurs twice
abbrev pub different : Series (List ℕ) ℕ
different = record { at = λ seen. ordered node (λ n. not (has seen n)); step = λ seen n. seen ++ n ∷ []; spells = node.spells }

-- the nodes that a packet carries
unfoldable pub nodes : Format (List ℕ)
nodes = listed (few MOST_TRAIL) (in_any_order {S = ℕ}) 0

-- the neighbours whose link is up
unfoldable pub links : Format (List ℕ)
links = listed (few 63) rising 0

-- an empty list of nodes means no path
abbrev pub path_of : List ℕ → Option (List ℕ)
path_of [] = None
path_of (n ∷ ns) = Some (n ∷ ns)

-- the nodes of a path, none without one
abbrev pub nodes_of : Option (List ℕ) → List ℕ
nodes_of None = []
nodes_of (Some ns) = ns

-- a path has at least one node
abbrev pub is_path : Option (List ℕ) → Bool
is_path None = true
is_path (Some []) = false
is_path (Some (n ∷ ns)) = true

-- a path as its nodes
abbrev pub path_meaning : Meaning (List ℕ) (Option (List ℕ))
path_meaning = record { make = path_of; parts = nodes_of; only = is_path }

-- a path, or none
unfoldable pub path : Format (Option (List ℕ))
path = meant (listed (few MOST_NODES) different []) path_meaning

-- paths, one after another
abbrev pub paths_in_order : {S : Type 0} → Series S (Option (List ℕ))
paths_in_order = record { at = λ s. path; step = λ s p. s; spells = path.spells }

-- the paths of a table, by prefix
unfoldable pub paths : Format (List (Option (List ℕ)))
paths = listed (many MOST_PREFIXES) (paths_in_order {S = ℕ}) 0

-- ---- values

-- each trigger is above the one before it
abbrev pub rising_triggers : Series Trigger Trigger
rising_triggers = record { at = λ last. ordered trigger (earlier last); step = λ last t. t; spells = trigger.spells }

-- the nodes that responded and the incomplete triggers
abbrev pub value_meaning : Meaning (List ℕ × List Trigger) Value
value_meaning = record {
  make = λ p. record { responding = p.0; incomplete = p.1 };
  parts = λ v. (v.responding, v.incomplete);
  only = each;
}

-- a value: the nodes that responded, and the incomplete triggers
unfoldable pub value : Format Value
value = meant (pair (listed (few MOST_NODES) rising 0) (listed (many MOST_TRIGGERS) rising_triggers no_trigger)) value_meaning

-- a ballot and the value accepted in it, or nothing
unfoldable pub named : Format (Option (Ballot × Value))
named = optional (pair ballot value)

-- ---- reports

-- the items of an entry with this trigger, one after another
abbrev pub items : Series Trigger Sent
items = record { at = sent; step = λ t item. t; spells = (sent no_trigger).spells }

-- the trigger, the scope and the items of an entry that lists one trigger
abbrev pub row_meaning : Meaning (Trigger × (Scope × List Sent)) Row
row_meaning = record {
  make = λ p. record { triggers = p.0 ∷ []; scope = p.1.0; sent = p.1.1 };
  parts = λ r. (first_of r.triggers, (r.scope, r.sent));
  only = λ r. is_one r.triggers;
}

-- how many items a row has, after rows with `before` items in all; together at most 16384
unfoldable pub more_items : ℕ → Format ℕ
more_items before = tested w16 (λ n. nat_le (before + n) MOST_UPDATES)

-- an entry of the cut, after rows with `before` items in all
unfoldable pub row : ℕ → Format Row
row before = meant (led trigger (λ t. pair scope (listed (more_items before) items t))) row_meaning

-- rows; the state is the number of items so far
abbrev pub rows : Series ℕ Row
rows = record { at = row; step = λ before r. before + length r.sent; spells = (row 0).spells }

-- a session: the neighbour and its number
abbrev pub session_key : Format (ℕ × ℕ)
session_key = pair node positive

-- a is below b: by neighbour, then by number
abbrev pub above : (ℕ × ℕ) → (ℕ × ℕ) → Bool
above a b = nat_lt a.0 b.0 || (a.0 == b.0 && nat_lt a.1 b.1)

-- the neighbour and the number of a session, the updates received, and the trigger of its Down
abbrev pub session_row_meaning : Meaning ((ℕ × ℕ) × (ℕ × Option Trigger)) SessionRow
session_row_meaning = record {
  make = λ p. record { nbr = p.0.0; session = p.0.1; received = p.1.0; down = p.1.1 };
  parts = λ r. ((r.nbr, r.session), (r.received, r.down));
  only = each;
}

-- a session that was ever held, which must be above the last one
unfoldable pub session_row : (ℕ × ℕ) → Format SessionRow
session_row last = meant (pair (ordered session_key (above last)) (pair any32 (optional trigger))) session_row_meaning

-- session rows, ascending
abbrev pub session_rows : Series (ℕ × ℕ) SessionRow
session_rows = record { at = session_row; step = λ last r. (r.nbr, r.session); spells = (session_row (0, 0)).spells }

-- the node, the epoch, the rows and the sessions of a report without pending rows
abbrev pub report_meaning : Meaning (ℕ × (ℕ × (List Row × List SessionRow))) Report
report_meaning = record {
  make = λ p. record { node = p.0; epoch = p.1.0; rows = p.1.1.0; sessions = p.1.1.1; pending = [] };
  parts = λ r. (r.node, (r.epoch, (r.rows, r.sessions)));
  only = λ r. length r.pending == 0;
}

-- the report of a cut whose rows each list one trigger
unfoldable pub report : Format Report
report = meant (pair node (pair epoch (pair (listed (many MOST_ENTRIES) rows 0) (listed (many MOST_SESSIONS) session_rows (0, 0))))) report_meaning

-- ---- packets

-- what a packet carries after its mode
abbrev pub carried : Format (ℕ × (Bool × (ℕ × (List ℕ × List ℕ))))
carried = pair any16 (pair flag (pair any64 (pair nodes nodes)))

-- the parts of a packet, in the order of its spelling
abbrev pub packet_meaning : Meaning (ℕ × (ℕ × (ℕ × (Mode × (ℕ × (Bool × (ℕ × (List ℕ × List ℕ)))))))) Packet
packet_meaning = record {
  make = λ p. record {
    id = p.0;
    prefix = p.1.0;
    epoch = p.1.1.0;
    mode = p.1.1.1.0;
    budget = p.1.1.1.1.0;
    reached = p.1.1.1.1.1.0;
    visited = p.1.1.1.1.1.1.0;
    trail = p.1.1.1.1.1.1.1.0;
    route = p.1.1.1.1.1.1.1.1;
  };
  parts = λ q. (q.id, (q.prefix, (q.epoch, (q.mode, (q.budget, (q.reached, (q.visited, (q.trail, q.route))))))));
  only = each;
}

-- a packet
unfoldable pub packet : Format Packet
packet = meant (pair positive (pair prefix (pair epoch_or_none (pair mode carried)))) packet_meaning
