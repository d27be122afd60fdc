-- Names of a network, and numbers.
use Rattle.std.specs.Prelude.{ℕ, ◌^◌, Bool, true, false, ◌&&◌, nat_le, nat_lt, List, [], ◌∷◌, length}
use Rattle.topology.specs.declared.names.Trigger.{Trigger}
use Rattle.topology.specs.Lists.{has}
use Rattle.topology.specs.Net.{Net}
use Rattle.topology.specs.declared.limits.TheConstants.{MOST_TRIGGERS}

-- all of them are nodes of the network
abbrev pub are_nodes : Net → List ℕ → Bool
are_nodes net [] = true
are_nodes net (n ∷ ns) = has net.nodes n && are_nodes net ns

-- a number that is counted from 1, of four bytes
abbrev pub is_number : ℕ → Bool
is_number n = nat_le 1 n && nat_lt n (2 ^ 32)

-- a trigger is one of a node of the network, counted from 1
abbrev pub trigger_fits : Net → Trigger → Bool
trigger_fits net t = has net.nodes t.node && is_number t.count

-- a list with a trigger, each of a node of the network
abbrev pub triggers_fit : Net → List Trigger → Bool
triggers_fit net [] = false
triggers_fit net (t ∷ []) = trigger_fits net t
triggers_fit net (t ∷ s ∷ ts) = trigger_fits net t && triggers_fit net (s ∷ ts)

-- such a list, with no more triggers than a list may have
abbrev pub list_fits : Net → List Trigger → Bool
list_fits net ts = nat_le (length ts) MOST_TRIGGERS && triggers_fit net ts
