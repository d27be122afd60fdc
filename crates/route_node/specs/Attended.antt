-- What a user is promised about a node of a network that is read from a source.
use Rattle.std.specs.Prelude.{ℕ, Bool, true, false, ◌≡◌, ◌≤◌, ◌<◌, ◌⊎◌, Some, option_map, List, ◌∷◌, length}
use Rattle.std.specs.Io.KnownBytes.{IsAtEnd}
use Rattle.topology.specs.declared.status.Status.{Status}
use Rattle.topology.specs.declared.status.Status.TheVariants.{Done, Usage, NoMemory, BadSchedule, Limit, ReadFault, WriteFault, LinkFault, BadFrame, NoSuchNode, DiskFault, BadJournal, BadTables, Inconsistent}
use Rattle.topology.specs.declared.status.BadKind.{BadKind}
use Rattle.topology.specs.declared.status.LimitKind.TheVariants as kind
use Rattle.topology.specs.Lists.{has}
use Rattle.topology.specs.Net.{Net}
use Rattle.route_io.specs.Causes.{RoseIf}
use Rattle.route_io.specs.Links.{Dials, IsSure, OnlyDials}
use Rattle.route_io.specs.Views.{SourceView, LinkView}
use Rattle.path_vector.specs.GaoRexford.{gao_rexford}
use Rattle.topology.specs.declared.limits.TheConstants.{MOST_BYTES}
use Rattle.schedule_file.specs.Grammar.{IsTopologyFile}
use Rattle.schedule_file.specs.Refusals.{FirstBadOfTopology}
use Rattle.route_node.specs.Served.{Served, TooLongAnswers}
use Rattle.route_node.specs.Who.{afresh}

-- the number of the node that runs, and the address of its peer
pub record Endpoint : Type 0 where
  pub id : ℕ
  pub address : List ℕ

-- the endpoint of these parts
abbrev pub endpoint : ℕ → List ℕ → Endpoint
endpoint id address = record { id = id; address = address }

-- the bytes are a file of this network, and are not too many
pub record IsNetwork (bytes : List ℕ) (net : Net) : Type 0 where
  pub short : length bytes ≤ MOST_BYTES
  pub file : IsTopologyFile bytes net

-- the source was read to its end, no read failed, and the bytes that it gave are a file of this network
pub record Gives (source source' : SourceView) (net : Net) : Type 0 where
  pub bytes : List ℕ
  pub known : (told : List ℕ) → source.left ≡ Some told → bytes ≡ told
  pub network : IsNetwork bytes net
  pub at_end : IsAtEnd source'.left
  pub quiet : source'.faults ≡ source.faults

-- the run ended before the first frame: nothing was read from the link or written to it
abbrev pub EndsBefore : Status → LinkView → LinkView → Type 0
EndsBefore status link link' =
    ((status ≡ NoMemory) ⊎ ((status ≡ ReadFault) ⊎ (status ≡ LinkFault))) × OnlyDials link link'

-- the link after the address was dialled and nothing else was done
abbrev pub once_dialled : LinkView → List ℕ → LinkView
once_dialled link address = record link { dialled = option_map (λ before. address ∷ before) link.dialled }

-- the statuses with which it may end
abbrev pub ends_attending : Status → Bool
ends_attending Done = true
ends_attending Usage = false
ends_attending NoMemory = true
ends_attending (BadSchedule line bad) = true
ends_attending (Limit kind.Journal number) = false
ends_attending (Limit other number) = true
ends_attending ReadFault = true
ends_attending WriteFault = false
ends_attending LinkFault = true
ends_attending (BadFrame offset fault) = true
ends_attending (NoSuchNode node) = true
ends_attending DiskFault = false
ends_attending (BadJournal offset fault) = false
ends_attending (BadTables line) = false
ends_attending (Inconsistent line kind) = false

-- the statuses with which it ends before the address is dialled
abbrev pub ends_undialled : Status → Bool
ends_undialled Done = false
ends_undialled Usage = true
ends_undialled NoMemory = false
ends_undialled (BadSchedule line bad) = true
ends_undialled (Limit kind.Bytes number) = true
ends_undialled (Limit other number) = false
ends_undialled ReadFault = true
ends_undialled WriteFault = true
ends_undialled LinkFault = false
ends_undialled (BadFrame offset fault) = false
ends_undialled (NoSuchNode node) = true
ends_undialled DiskFault = true
ends_undialled (BadJournal offset fault) = true
ends_undialled (BadTables line) = true
ends_undialled (Inconsistent line kind) = true

-- the statuses with which it ends over the link
abbrev pub ends_over : Status → Bool
ends_over Done = true
ends_over Usage = false
ends_over NoMemory = false
ends_over (BadSchedule line bad) = false
ends_over (Limit kind.Bytes number) = false
ends_over (Limit other number) = true
ends_over ReadFault = false
ends_over WriteFault = false
ends_over LinkFault = false
ends_over (BadFrame offset fault) = true
ends_over (NoSuchNode node) = false
ends_over DiskFault = false
ends_over (BadJournal offset fault) = false
ends_over (BadTables line) = false
ends_over (Inconsistent line kind) = false

-- the statuses with which it ends after the address was dialled
abbrev pub ends_dialled : Status → Bool
ends_dialled Done = true
ends_dialled Usage = false
ends_dialled NoMemory = false
ends_dialled (BadSchedule line bad) = false
ends_dialled (Limit kind.Bytes number) = false
ends_dialled (Limit other number) = true
ends_dialled ReadFault = false
ends_dialled WriteFault = false
ends_dialled LinkFault = true
ends_dialled (BadFrame offset fault) = true
ends_dialled (NoSuchNode node) = false
ends_dialled DiskFault = false
ends_dialled (BadJournal offset fault) = false
ends_dialled (BadTables line) = false
ends_dialled (Inconsistent line kind) = false

-- the statuses at which the file was read to its end
abbrev pub ends_read : Status → Bool
ends_read Done = true
ends_read Usage = false
ends_read NoMemory = false
ends_read (BadSchedule line bad) = true
ends_read (Limit kind.Bytes number) = false
ends_read (Limit other number) = true
ends_read ReadFault = false
ends_read WriteFault = false
ends_read LinkFault = true
ends_read (BadFrame offset fault) = true
ends_read (NoSuchNode node) = true
ends_read DiskFault = false
ends_read (BadJournal offset fault) = false
ends_read (BadTables line) = false
ends_read (Inconsistent line kind) = false

-- how the node ends, given the source and the link before and after
pub record Attended (here : Endpoint) (source source' : SourceView) (link link' : LinkView) (status : Status) : Type 0 where
  -- never Usage, and no status of a sink
  pub formed : ends_attending status ≡ true
  -- if the network has the node, the address is dialled and the frames are answered, unless a read or the dial fails or
  -- memory runs out before
  pub served : (bytes : List ℕ) → source.left ≡ Some bytes → (net : Net) → IsNetwork bytes net → has net.nodes here.id ≡ true
      → Served (afresh gao_rexford net here.id) (once_dialled link here.address) link' status ⊎ EndsBefore status link link'
  -- if it has not, the missing node is named, unless a read fails or memory runs out
  pub missing : (bytes : List ℕ) → source.left ≡ Some bytes → (net : Net) → IsNetwork bytes net → has net.nodes here.id ≡ false
      → (status ≡ NoSuchNode here.id) ⊎ ((status ≡ NoMemory) ⊎ (status ≡ ReadFault))
  -- a file outside the grammar is refused, and its first bad line named
  pub refused : (bytes : List ℕ) → source.left ≡ Some bytes → length bytes ≤ MOST_BYTES → (line : ℕ) (bad : BadKind)
      → FirstBadOfTopology bytes line bad → (status ≡ BadSchedule line bad) ⊎ ((status ≡ NoMemory) ⊎ (status ≡ ReadFault))
  -- so is a file that is too long
  pub too_long : (bytes : List ℕ) → source.left ≡ Some bytes → MOST_BYTES < length bytes
      → (status ≡ Limit kind.Bytes MOST_BYTES) ⊎ ((status ≡ NoMemory) ⊎ (status ≡ ReadFault))
  -- an end over the link is one of a node of the network
  pub over : ends_over status ≡ true → (bytes : List ℕ) → source.left ≡ Some bytes
      → (net : Net) × IsNetwork bytes net × (has net.nodes here.id ≡ true)
  -- BadSchedule: this line is the first outside the grammar, with this fault
  pub bad_schedule : (line : ℕ) (bad : BadKind) → status ≡ BadSchedule line bad
      → (bytes : List ℕ) → source.left ≡ Some bytes → FirstBadOfTopology bytes line bad
  -- NoSuchNode: the network has no node with the number
  pub no_such_node : (node : ℕ) → status ≡ NoSuchNode node
      → (node ≡ here.id) × ((bytes : List ℕ) → source.left ≡ Some bytes → (net : Net) × IsNetwork bytes net × (has net.nodes here.id ≡ false))
  -- Limit on bytes: the file is too long
  pub limit : (number : ℕ) → status ≡ Limit kind.Bytes number
      → (bytes : List ℕ) → source.left ≡ Some bytes → (number ≡ MOST_BYTES) × (MOST_BYTES < length bytes)
  -- ReadFault, LinkFault: a call of that side failed; at every other status none did
  pub read_fault : RoseIf (status ≡ ReadFault) source.faults source'.faults
  pub link_fault : RoseIf (status ≡ LinkFault) link.faults link'.faults
  -- LinkFault on a sure link: the answers of a node of the network exceed the room, which is told
  pub sure : IsSure link → status ≡ LinkFault
      → (net : Net) × ((bytes : List ℕ) → source.left ≡ Some bytes → IsNetwork bytes net) × (has net.nodes here.id ≡ true)
      × TooLongAnswers (afresh gao_rexford net here.id) link
  -- the link is not touched before the network and the number are known
  pub undialled : ends_undialled status ≡ true → link' ≡ link
  -- the address is dialled exactly once, before the first frame
  pub dialled : ends_dialled status ≡ true → Dials link link' here.address
  -- at every status nothing else is dialled
  pub dialled_at_most : Dials link link' here.address ⊎ (link'.dialled ≡ link.dialled)
  -- nothing is left of the file once it was read
  pub read : ends_read status ≡ true → IsAtEnd source'.left
