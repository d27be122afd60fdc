-- What each call of a topology adds, and when it refuses.
use Rattle.std.specs.Prelude.{ℕ, Bool, not, ◌&&◌, ◌==◌, nat_le, List, [], ◌∷◌, ◌++◌, length, Option, Some, None, Result, IsErrOf, IsOkUnless, if◌then◌else◌}
use Rattle.std.specs.List.{list_any}
use Rattle.topology.specs.Lists.{has}
use Rattle.topology.specs.Net.{Net, linked, prefers, has_prefix, is_hold}
use Rattle.topology.specs.declared.links.Link.{Link}
use Rattle.topology.specs.declared.links.Pref.{Pref}
use Rattle.topology.specs.declared.links.Hold.{Hold}
use Rattle.topology.specs.declared.names.Scheme.{Scheme}
use Rattle.topology.specs.declared.names.Scheme.TheVariants.{Deflect, Detour, Backup}
use Rattle.topology.specs.declared.prefixes.Prefix.{Prefix}
use Rattle.topology.specs.declared.building.BuildError.{BuildError}
use Rattle.topology.specs.declared.building.BuildError.TheVariants.{DuplicateNode, UnknownNode, DuplicateLink, SelfLink, DuplicatePrefix, TooMany, NoMemory, NoLink}
use Rattle.topology.specs.declared.limits.TheConstants.{MOST_CONSOLIDATORS, MOST_LINKS, MOST_NODES, MOST_PREFIXES}

-- the empty network: at most 128 moves off the stable tables, and scheme Deflect
abbrev pub nothing : Net
nothing = record { nodes = []; consolidators = []; links = []; preferences = []; prefixes = []; holds = []; hops = 128; scheme = Deflect }

-- the network with the node added at the end, also to the consolidators if it is one
abbrev pub with_node : Net → ℕ → Bool → Net
with_node net id consolidator = record net {
  nodes = net.nodes ++ id ∷ [];
  consolidators = if consolidator then net.consolidators ++ id ∷ [] else net.consolidators;
}

abbrev pub with_link : Net → Link → Net
with_link net link = record net { links = net.links ++ link ∷ [] }

abbrev pub with_prefix : Net → Prefix → Net
with_prefix net p = record net { prefixes = net.prefixes ++ p ∷ [] }

-- the preference replaces one of the same two nodes, or else goes to the end
abbrev pub put_preference : Pref → List Pref → List Pref
put_preference pref [] = pref ∷ []
put_preference pref (p ∷ ps) = if prefers pref.a pref.b p then pref ∷ ps else p ∷ put_preference pref ps

abbrev pub with_pref : Net → Pref → Net
with_pref net pref = record net { preferences = put_preference pref net.preferences }

-- the hold goes to the end, unless there is one of the same two nodes
abbrev pub put_hold : Hold → List Hold → List Hold
put_hold hold holds = if list_any (is_hold hold.a hold.b) holds then holds else holds ++ hold ∷ []

abbrev pub with_hold : Net → Hold → Net
with_hold net hold = record net { holds = put_hold hold net.holds }

abbrev pub with_hops : Net → ℕ → Net
with_hops net hops = record net { hops = hops }

abbrev pub with_scheme : Net → Scheme → Net
with_scheme net scheme = record net { scheme = scheme }

-- why a node is not added: the first reason that holds
abbrev pub node_refusal : Net → ℕ → Bool → Option BuildError
node_refusal net id consolidator =
    if has net.nodes id then Some DuplicateNode
    else if nat_le MOST_NODES (length net.nodes) then Some TooMany
    else if consolidator && nat_le MOST_CONSOLIDATORS (length net.consolidators) then Some TooMany
    else None

-- why a link is not added: the first reason that holds
abbrev pub link_refusal : Net → ℕ → ℕ → Option BuildError
link_refusal net a b =
    if not (has net.nodes a) then Some (UnknownNode a)
    else if not (has net.nodes b) then Some (UnknownNode b)
    else if a == b then Some SelfLink
    else if linked net a b then Some DuplicateLink
    else if nat_le MOST_LINKS (length net.links) then Some TooMany
    else None

-- why a preference or a hold is not added: the first reason that holds
abbrev pub pref_refusal : Net → ℕ → ℕ → Option BuildError
pref_refusal net a b =
    if not (has net.nodes a) then Some (UnknownNode a)
    else if not (has net.nodes b) then Some (UnknownNode b)
    else if a == b then Some SelfLink
    else if not (linked net a b) then Some NoLink
    else None

-- why a prefix is not added: the first reason that holds
abbrev pub prefix_refusal : Net → Prefix → Option BuildError
prefix_refusal net p =
    if has_prefix net p then Some DuplicatePrefix
    else if nat_le MOST_PREFIXES (length net.prefixes) then Some TooMany
    else None

-- why a scheme is not set: the node of a detour is not in the network
abbrev pub scheme_refusal : Net → Scheme → Option BuildError
scheme_refusal net Deflect = None
scheme_refusal net (Detour n) = if has net.nodes n then None else Some (UnknownNode n)
scheme_refusal net Backup = None

-- the call fails with the refusal where there is one, else it succeeds unless memory runs out
abbrev pub AnswersBy : {T : Type 0} → Result T BuildError → Option BuildError → Type 0
AnswersBy result None = IsOkUnless result NoMemory
AnswersBy result (Some refusal) = IsErrOf result refusal

-- the number of each refusal, as users see it
abbrev pub number_of : BuildError → ℕ
number_of DuplicateNode = 1
number_of (UnknownNode id) = 2
number_of DuplicateLink = 3
number_of SelfLink = 4
number_of DuplicatePrefix = 5
number_of TooMany = 6
number_of NoMemory = 7
number_of NoLink = 8
