-- The words of the entries of a log.
use Rattle.std.specs.Prelude.{ℕ, Option, Some, None, List, [], ◌∷◌, ◌++◌, codes, slice_get}
use Rattle.std.specs.List.{flat_map}
use Rattle.std.specs.Fmt.{decimal}
use Rattle.topology.specs.declared.names.Trigger.{Trigger}
use Rattle.topology.specs.declared.names.Scope.{Scope}
use Rattle.topology.specs.declared.names.Scope.TheVariants.{One, All, Nothing}
use Rattle.topology.specs.declared.items.Sent.{Sent}
use Rattle.topology.specs.declared.prefixes.Prefix.{Prefix}
use Rattle.topology.specs.Net.{Net}
use Rattle.path_vector.specs.declared.causes.Cause.{Cause}
use Rattle.path_vector.specs.declared.causes.Cause.TheVariants.{Originate, Withdraw, Recv, Down, Up, Ready, Prefer, Flush}
use Rattle.path_vector.specs.History.{Change}
use Rattle.schedule_file.specs.Spelling.{prefix_text}
use Rattle.view_words.specs.Lines.{ended, listed}

-- the node and its counter, with a point between them
abbrev pub trigger_text : Trigger → List ℕ
trigger_text t = decimal t.node ++ codes "." ++ decimal t.count

-- triggers, joined by commas; a hyphen where there are none
abbrev pub triggers_text : List Trigger → List ℕ
triggers_text triggers = listed trigger_text triggers

-- a prefix of the network
abbrev pub known_prefix : Option Prefix → List ℕ
known_prefix None = []
known_prefix (Some prefix) = prefix_text prefix

-- the prefix at this place of the file, all of them, or a hyphen for none
abbrev pub scope_text : Net → Scope → List ℕ
scope_text net (One p) = known_prefix (slice_get net.prefixes p)
scope_text net All = codes "all"
scope_text net Nothing = codes "-"

-- the nodes behind the first, each after a hyphen
abbrev pub further_nodes : List ℕ → List ℕ
further_nodes nodes = flat_map (λ n. codes "-" ++ decimal n) nodes

-- the nodes of a path as it was received, joined by hyphens
abbrev pub received_nodes : List ℕ → List ℕ
received_nodes [] = []
received_nodes (n ∷ nodes) = decimal n ++ further_nodes nodes

-- a path as it was received, or none
abbrev pub received_path : Option (List ℕ) → List ℕ
received_path None = codes "none"
received_path (Some nodes) = received_nodes nodes

-- a neighbour and a session
abbrev pub session_text : ℕ → ℕ → List ℕ
session_text v s = decimal v ++ codes "/" ++ decimal s

-- what happened
abbrev pub cause_text : Cause → List ℕ
cause_text Originate = codes "originate"
cause_text Withdraw = codes "withdraw"
cause_text (Recv v s seq path) = codes "recv " ++ session_text v s ++ codes "/" ++ decimal seq ++ codes " " ++ received_path path
cause_text (Down v s) = codes "down " ++ session_text v s
cause_text (Up v s) = codes "up " ++ session_text v s
cause_text (Ready v s) = codes "ready " ++ session_text v s
cause_text (Prefer v x) = codes "prefer " ++ decimal v ++ codes " " ++ decimal x
cause_text (Flush v) = codes "flush " ++ decimal v

-- an item that was sent
abbrev pub item_text : Sent → List ℕ
item_text item = codes " > " ++ session_text item.to item.session ++ codes "/" ++ decimal item.seq

-- the line of an entry: its node, its place in the log, from 1, its triggers, scope and cause, and
-- all that it sent
abbrev pub line_of : Net → ℕ → ℕ → List Trigger → Change → List Sent → List ℕ
line_of net node index triggers read items =
    ended (codes "log " ++ decimal node ++ codes " " ++ decimal index ++ codes ": " ++ triggers_text triggers
    ++ codes " " ++ scope_text net read.scope ++ codes " " ++ cause_text read.cause ++ flat_map item_text items)
