-- What a user is promised about a node that is restarted from the records of its journal.
use Rattle.std.specs.Prelude.{ℕ, Bool, true, false, ◌≡◌, ◌⊎◌, Option, Some, None, List, ◌∷◌, ◌++◌, Result, Ok, Err}
use Rattle.topology.specs.declared.frame_faults.FrameFault.{FrameFault}
use Rattle.topology.specs.declared.status.LimitKind.{LimitKind}
use Rattle.topology.specs.declared.status.LimitKind.TheVariants as count
use Rattle.topology.specs.declared.status.Status.{Status}
use Rattle.topology.specs.declared.status.Status.TheVariants.{Done, Usage, NoMemory, BadSchedule, Limit, ReadFault, WriteFault, LinkFault, BadFrame, NoSuchNode, DiskFault, BadJournal, BadTables, Inconsistent}
use Rattle.topology.specs.Lists.{has}
use Rattle.topology.specs.Net.{Net}
use Rattle.path_vector.specs.GaoRexford.{gao_rexford}
use Rattle.route_io.specs.Causes.{RoseIf}
use Rattle.acceptor_journal.specs.Views.{DiskAct, Opened, DiskView}
use Rattle.acceptor_journal.specs.Images.{IsDurable, LeavesOnly}
use Rattle.acceptor_journal.specs.JournalFiles.{IsJournalFile}
use Rattle.acceptor_journal.specs.Journals.{KeepsTelling}
use Rattle.acceptor_journal.specs.Durable.{HasKept, IsOrOneMore}
use Rattle.acceptor_journal.specs.Records.{Back, place_behind}
use Rattle.node_core.specs.Standing.{StandsFor}
use Rattle.wire_frames.specs.declared.frames.Frame.{Frame}
use Rattle.route_node.specs.declared.restoring.Kept.{Kept}
use Rattle.route_node.specs.Records.{AreRestored, ComesBack, status_back}
use Rattle.route_node.specs.Streams.{Ending, End, Refused, Stopped}
use Rattle.route_node.specs.Who.{afresh, begun, spellings}

-- it is node u of the network after these frames, a crash and a restart; and its journal is at the gate after their
-- records
pub record IsRestored (net : Net) (kept : Kept) (u : ℕ) (frames : List Frame) : Type 0 where
  pub is_node : has net.nodes u ≡ true
  pub taken : AreRestored (afresh gao_rexford net u) frames
  pub stands : StandsFor (record {}) gao_rexford net u kept.node (begun gao_rexford net u (Some frames))
  pub gate : kept.journal ≡ place_behind (spellings frames)

-- it is a restarted node of the network
pub record MayServe (net : Net) (kept : Kept) : Type 0 where
  pub node : ℕ
  pub frames : List Frame
  pub restored : IsRestored net kept node frames

-- the statuses with which it may end
abbrev pub ends_restoring : Status → Bool
ends_restoring Done = false
ends_restoring Usage = false
ends_restoring NoMemory = true
ends_restoring (BadSchedule line kind) = false
ends_restoring (Limit count.Bytes number) = false
ends_restoring (Limit count.Frames number) = false
ends_restoring (Limit count.Journal number) = false
ends_restoring (Limit kind number) = true
ends_restoring ReadFault = false
ends_restoring WriteFault = false
ends_restoring LinkFault = false
ends_restoring (BadFrame offset fault) = false
ends_restoring (NoSuchNode node) = false
ends_restoring DiskFault = true
ends_restoring (BadJournal offset fault) = true
ends_restoring (BadTables line) = false
ends_restoring (Inconsistent line kind) = false

-- the status of an answer, if it is an error
abbrev pub status_in : Result Kept Status → Option Status
status_in (Ok kept) = None
status_in (Err status) = Some status

-- the status of an error is one of those
abbrev pub IsFormed : Result Kept Status → Type 0
IsFormed (Ok kept) = Unit {0}
IsFormed (Err status) = ends_restoring status ≡ true

-- the file was opened with this name before anything else
abbrev pub OpensFirst : List ℕ → DiskView → DiskView → Type 0
OpensFirst name old new =
    (before : List DiskAct) → old.acts ≡ Some before → (made : List DiskAct) × (new.acts ≡ Some (made ++ Opened name ∷ before))

-- the file is unchanged: at no moment does a crash leave another file, and a read gives no other file
pub record LeavesFile (old new : DiskView) : Type 0 where
  pub moments : (file : List ℕ) → IsDurable old file → LeavesOnly old new (λ image. image ≡ file)
  pub content : new.content ≡ old.content

-- node u of the network is restarted from the records of the file, given the disk before and after
pub record Restored (net : Net) (u : ℕ) (old : DiskView) (answer : Result Kept Status) (new : DiskView) : Type 0 where
  pub formed : IsFormed answer
  -- at each moment a crash leaves the records that were there, or these and at most one more, in a file of a journal
  pub moments : (file : List ℕ) → IsDurable old file → IsJournalFile file
      → LeavesOnly old new (λ image. IsOrOneMore (Back file) (Back image) × IsJournalFile image)
  -- Ok: the node is that of some frames, a crash and a restart
  pub restored : (kept : Kept) → answer ≡ Ok kept → (frames : List Frame) × IsRestored net kept u frames
  -- the frames are those of the records, if a read is told
  pub back : (kept : Kept) → answer ≡ Ok kept → (file : List ℕ) → old.content ≡ Some file
      → (frames : List Frame) × ComesBack (afresh gao_rexford net u) (Back file) frames End × IsRestored net kept u frames
  -- and a crash leaves only these records, with the journal at the closed gate after them
  pub kept : (kept : Kept) → answer ≡ Ok kept → (file : List ℕ) → IsDurable old file → IsJournalFile file → HasKept kept.journal new (Back file)
  -- BadJournal: the record at this offset is the first that is refused, with this fault; the file is unchanged
  pub bad_journal : (offset : ℕ) (fault : FrameFault) → answer ≡ Err (BadJournal offset fault)
      → LeavesFile old new × ((file : List ℕ) → old.content ≡ Some file
      → (frames : List Frame) × ComesBack (afresh gao_rexford net u) (Back file) frames (Refused fault) × (offset ≡ place_behind (spellings frames)))
  -- Limit: the next record would exceed this limit; the file is unchanged
  pub limit : (kind : LimitKind) (number : ℕ) → answer ≡ Err (Limit kind number)
      → LeavesFile old new × ((file : List ℕ) → old.content ≡ Some file
      → (frames : List Frame) × ComesBack (afresh gao_rexford net u) (Back file) frames (Stopped (record { kind = kind; number = number })))
  -- DiskFault: a call of the disk failed; at every other status none did
  pub disk_fault : RoseIf (answer ≡ Err DiskFault) old.faults new.faults
  -- it ends as the records say, unless memory runs out or a call of the disk fails
  pub complete : (file : List ℕ) → old.content ≡ Some file → (frames : List Frame) (ending : Ending)
      → ComesBack (afresh gao_rexford net u) (Back file) frames ending
      → (status_in answer ≡ status_back (place_behind (spellings frames)) ending) ⊎ ((answer ≡ Err NoMemory) ⊎ (answer ≡ Err DiskFault))
  -- what the disk told before it tells after
  pub telling : KeepsTelling old new
