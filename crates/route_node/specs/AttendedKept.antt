-- What a user is promised about a node of a network that is read from a source, if the node keeps its frames in a file.
use Rattle.std.specs.Prelude.{ℕ, Bool, true, false, ◌≡◌, ◌≤◌, ◌<◌, ◌⊎◌, Some, List, length, Result, Ok, Err}
use Rattle.std.specs.Io.KnownBytes.{IsAtEnd}
use Rattle.topology.specs.declared.status.Status.{Status}
use Rattle.topology.specs.declared.status.Status.TheVariants.{Done, Usage, NoMemory, BadSchedule, Limit, ReadFault, WriteFault, LinkFault, BadFrame, NoSuchNode, DiskFault, BadJournal, BadTables, Inconsistent}
use Rattle.topology.specs.declared.frame_faults.FrameFault.{FrameFault}
use Rattle.topology.specs.declared.status.BadKind.{BadKind}
use Rattle.topology.specs.declared.status.LimitKind.TheVariants as kind
use Rattle.topology.specs.Lists.{has}
use Rattle.topology.specs.Net.{Net}
use Rattle.route_io.specs.Causes.{RoseIf}
use Rattle.route_io.specs.Links.{Dials, IsSure, OnlyDials}
use Rattle.route_io.specs.Views.{SourceView, LinkView}
use Rattle.acceptor_journal.specs.Views.{DiskView}
use Rattle.acceptor_journal.specs.Journals.{KeepsTelling}
use Rattle.acceptor_journal.specs.Records.{Back}
use Rattle.path_vector.specs.GaoRexford.{gao_rexford}
use Rattle.topology.specs.declared.limits.TheConstants.{MOST_BYTES}
use Rattle.schedule_file.specs.Refusals.{FirstBadOfTopology}
use Rattle.wire_frames.specs.declared.frames.Frame.{Frame}
use Rattle.route_node.specs.declared.restoring.Kept.{Kept}
use Rattle.route_node.specs.Attended.{IsNetwork, once_dialled}
use Rattle.route_node.specs.Records.{AreRestored, ComesBack}
use Rattle.route_node.specs.Restored.{IsRestored, OpensFirst, Restored}
use Rattle.route_node.specs.Served.{TooLongAnswers, status_of}
use Rattle.route_node.specs.ServedKept.{ServedKept}
use Rattle.route_node.specs.Streams.{stream, Ending, End, StreamComesTo}
use Rattle.route_node.specs.Who.{afresh, again}

-- the number of the node that runs, the address of its peer, and the name of its journal's file
pub record KeptEndpoint : Type 0 where
  pub id : ℕ
  pub address : List ℕ
  pub file : List ℕ

-- the endpoint of these parts
abbrev pub kept_endpoint : ℕ → List ℕ → List ℕ → KeptEndpoint
kept_endpoint id address file = record { id = id; address = address; file = file }

-- the source of the network, the link to the peer, and the disk with the journal
pub record Outside : Type 0 where
  pub source : SourceView
  pub link : LinkView
  pub disk : DiskView

-- the three together
abbrev pub outside : SourceView → LinkView → DiskView → Outside
outside source link disk = record { source = source; link = link; disk = disk }

-- the statuses with which it may end
abbrev pub ends_attending_kept : Status → Bool
ends_attending_kept Done = true
ends_attending_kept Usage = false
ends_attending_kept NoMemory = true
ends_attending_kept (BadSchedule line bad) = true
ends_attending_kept (Limit other number) = true
ends_attending_kept ReadFault = true
ends_attending_kept WriteFault = false
ends_attending_kept LinkFault = true
ends_attending_kept (BadFrame offset fault) = true
ends_attending_kept (NoSuchNode node) = true
ends_attending_kept DiskFault = true
ends_attending_kept (BadJournal offset fault) = true
ends_attending_kept (BadTables line) = false
ends_attending_kept (Inconsistent line kind) = false

-- the statuses at which the file with the network was read to its end
abbrev pub ends_read_kept : Status → Bool
ends_read_kept Done = true
ends_read_kept (BadSchedule line bad) = true
ends_read_kept (Limit kind.Bytes number) = false
ends_read_kept (Limit other number) = true
ends_read_kept LinkFault = true
ends_read_kept (BadFrame offset fault) = true
ends_read_kept (NoSuchNode node) = true
ends_read_kept DiskFault = true
ends_read_kept (BadJournal offset fault) = true
ends_read_kept other = false

-- the statuses with which only a node of the network ends
abbrev pub ends_behind : Status → Bool
ends_behind (BadSchedule line bad) = false
ends_behind (NoSuchNode node) = false
ends_behind other = ends_read_kept other

-- the statuses with which it ends before the journal is opened
abbrev pub ends_unopened : Status → Bool
ends_unopened (BadSchedule line bad) = true
ends_unopened (Limit kind.Bytes number) = true
ends_unopened ReadFault = true
ends_unopened (NoSuchNode node) = true
ends_unopened other = false

-- the statuses with which it ends over the link
abbrev pub ends_answering : Status → Bool
ends_answering Done = true
ends_answering (BadFrame offset fault) = true
ends_answering (Limit kind.Frames number) = true
ends_answering (Limit kind.Journal number) = true
ends_answering other = false

-- the node was restarted, then the address was dialled, then the frames were answered; each step happens only after the
-- one before
pub record RunsKept (net : Net) (here : KeptEndpoint) (old new : Outside) (status : Status) : Type 0 where
  -- the disk after the journal was read back, and the result of reading it
  pub mid : DiskView
  pub answer : Result Kept Status
  pub restored : Restored net here.id old.disk answer mid
  pub opened : (kept : Kept) → answer ≡ Ok kept → OpensFirst here.file old.disk mid
  -- if the node was not restarted, the run ends like this, and the link is not touched
  pub not_back : (why : Status) → answer ≡ Err why → (status ≡ why) × (new.link ≡ old.link) × (new.disk ≡ mid)
  -- if it was, the dial fails, or the frames are answered
  pub back : (kept : Kept) → answer ≡ Ok kept
      → ((status ≡ LinkFault) × OnlyDials old.link new.link × (new.disk ≡ mid))
      ⊎ ((records : List Frame) → IsRestored net kept here.id records
      → ServedKept (again gao_rexford net here.id records) (once_dialled old.link here.address) new.link mid new.disk status)

-- it ended before: memory ran out or a read failed, and the link and the disk were not touched
abbrev pub EndsUnopened : Status → Outside → Outside → Type 0
EndsUnopened status old new = ((status ≡ NoMemory) ⊎ (status ≡ ReadFault)) × (new.link ≡ old.link) × (new.disk ≡ old.disk)

-- memory ran out, or a call of the source, the link or the disk failed
abbrev pub BreaksOffKept : Status → Type 0
BreaksOffKept status = (status ≡ NoMemory) ⊎ ((status ≡ ReadFault) ⊎ ((status ≡ LinkFault) ⊎ (status ≡ DiskFault)))

-- how the node ends, given its outside before and after
pub record AttendedKept (here : KeptEndpoint) (old new : Outside) (status : Status) : Type 0 where
  -- never Usage, and no status of a sink
  pub formed : ends_attending_kept status ≡ true
  -- if the network has the node, the node is restarted from its journal, the address is dialled, and the frames are
  -- answered
  pub kept : (bytes : List ℕ) → old.source.left ≡ Some bytes → (net : Net) → IsNetwork bytes net → has net.nodes here.id ≡ true
      → RunsKept net here old new status ⊎ EndsUnopened status old new
  -- if the network has the node, the node takes the records of the file, and the bytes over the link end like this,
  -- then the run ends like this, unless it breaks off
  pub complete : (bytes : List ℕ) → old.source.left ≡ Some bytes → (net : Net) → IsNetwork bytes net → has net.nodes here.id ≡ true
      → (file : List ℕ) → old.disk.content ≡ Some file → (records : List Frame)
      → ComesBack (afresh gao_rexford net here.id) (Back file) records End
      → (incoming : List ℕ) → old.link.incoming ≡ Some incoming → (frames : List Frame) (ending : Ending)
      → StreamComesTo (again gao_rexford net here.id records) incoming frames ending
      → (status ≡ status_of (length (stream frames)) ending) ⊎ BreaksOffKept status
  -- if the network has not, the missing node is named, unless a read fails or memory runs out
  pub missing : (bytes : List ℕ) → old.source.left ≡ Some bytes → (net : Net) → IsNetwork bytes net → has net.nodes here.id ≡ false
      → (status ≡ NoSuchNode here.id) ⊎ ((status ≡ NoMemory) ⊎ (status ≡ ReadFault))
  -- a file outside the grammar is refused, and its first bad line named
  pub refused : (bytes : List ℕ) → old.source.left ≡ Some bytes → length bytes ≤ MOST_BYTES → (line : ℕ) (bad : BadKind)
      → FirstBadOfTopology bytes line bad → (status ≡ BadSchedule line bad) ⊎ ((status ≡ NoMemory) ⊎ (status ≡ ReadFault))
  -- so is a file that is too long
  pub too_long : (bytes : List ℕ) → old.source.left ≡ Some bytes → MOST_BYTES < length bytes
      → (status ≡ Limit kind.Bytes MOST_BYTES) ⊎ ((status ≡ NoMemory) ⊎ (status ≡ ReadFault))
  -- an end at the journal or over the link is one of a node of the network
  pub over : ends_behind status ≡ true → (bytes : List ℕ) → old.source.left ≡ Some bytes
      → (net : Net) × IsNetwork bytes net × (has net.nodes here.id ≡ true)
  -- BadSchedule: this line is the first outside the grammar, with this fault
  pub bad_schedule : (line : ℕ) (bad : BadKind) → status ≡ BadSchedule line bad
      → (bytes : List ℕ) → old.source.left ≡ Some bytes → FirstBadOfTopology bytes line bad
  -- NoSuchNode: the network has no node with the number
  pub no_such_node : (node : ℕ) → status ≡ NoSuchNode node
      → (node ≡ here.id) × ((bytes : List ℕ) → old.source.left ≡ Some bytes → (net : Net) × IsNetwork bytes net × (has net.nodes here.id ≡ false))
  -- Limit on bytes: the file is too long
  pub limit : (number : ℕ) → status ≡ Limit kind.Bytes number
      → (bytes : List ℕ) → old.source.left ≡ Some bytes → (number ≡ MOST_BYTES) × (MOST_BYTES < length bytes)
  -- ReadFault, LinkFault, DiskFault: a call of that side failed; at every other status none did
  pub read_fault : RoseIf (status ≡ ReadFault) old.source.faults new.source.faults
  pub link_fault : RoseIf (status ≡ LinkFault) old.link.faults new.link.faults
  pub disk_fault : RoseIf (status ≡ DiskFault) old.disk.faults new.disk.faults
  -- LinkFault on a sure link: the answers of the restarted node exceed the room, which is told
  pub sure : IsSure old.link → status ≡ LinkFault
      → (net : Net) × ((bytes : List ℕ) → old.source.left ≡ Some bytes → IsNetwork bytes net) × (has net.nodes here.id ≡ true)
      × (records : List Frame) × AreRestored (afresh gao_rexford net here.id) records
      × TooLongAnswers (again gao_rexford net here.id records) old.link
  -- the disk and the link are not touched before the network and the number are known
  pub unopened : ends_unopened status ≡ true → (new.link ≡ old.link) × (new.disk ≡ old.disk)
  -- nor is the link before the journal was read back
  pub undialled : (offset : ℕ) (fault : FrameFault) → status ≡ BadJournal offset fault → new.link ≡ old.link
  -- the address is dialled exactly once, before the first frame
  pub dialled : ends_answering status ≡ true → Dials old.link new.link here.address
  -- at every status nothing else is dialled
  pub dialled_at_most : Dials old.link new.link here.address ⊎ (new.link.dialled ≡ old.link.dialled)
  -- nothing is left of the file with the network once it was read
  pub read : ends_read_kept status ≡ true → IsAtEnd new.source.left
  -- what the disk told before it tells after
  pub telling : KeepsTelling old.disk new.disk
