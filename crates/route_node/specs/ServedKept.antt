-- What a user is promised about a node that keeps its frames in a journal.
use Rattle.std.specs.Prelude.{ℕ, ◌≡◌, ◌⊎◌, Option, Some, None, List, [], ◌∷◌, ◌++◌}
use Rattle.topology.specs.declared.status.Status.{Status}
use Rattle.topology.specs.declared.status.Status.TheVariants.{NoMemory, DiskFault}
use Rattle.topology.specs.Lists.{Begins}
use Rattle.route_io.specs.Causes.{RoseIf}
use Rattle.route_io.specs.Views.{LinkView}
use Rattle.acceptor_journal.specs.Views.{DiskView}
use Rattle.acceptor_journal.specs.Images.{LeavesNow, LeavesOnly}
use Rattle.acceptor_journal.specs.JournalFiles.{IsJournalFile}
use Rattle.acceptor_journal.specs.Journals.{KeepsTelling}
use Rattle.acceptor_journal.specs.Durable.{HasKept}
use Rattle.acceptor_journal.specs.Records.{Back, place_behind}
use Rattle.wire_frames.specs.declared.frames.Frame.{Frame}
use Rattle.route_node.specs.Served.{AnswersUpTo, Served}
use Rattle.route_node.specs.Streams.{stream, AreTaken}
use Rattle.route_node.specs.Who.{Who, spellings}

-- a journal that began with the first frames and has since taken the others: a crash leaves these records and a closed
-- gate after them, at the place that the frames give
abbrev pub HasKeptBehind : Option (List Frame) → List Frame → DiskView → List (List ℕ) → Type 0
HasKeptBehind None frames disk records = ⊥
HasKeptBehind (Some first) frames disk records = HasKept (place_behind (spellings (frames ++ first))) disk records

-- what comes, if it is told, begins with these frames, which are taken
pub record AreInFront (who : Who) (incoming : Option (List ℕ)) (frames : List Frame) : Type 0 where
  pub in_front : (bytes : List ℕ) → incoming ≡ Some bytes → Begins (stream frames) bytes
  pub taken : AreTaken who frames

-- the file has these records, followed by some frames with which the rest begins and that are taken
pub record KeepsFront (who : Who) (incoming : Option (List ℕ)) (records : List (List ℕ)) (image : List ℕ) : Type 0 where
  pub frames : List Frame
  pub front : AreInFront who incoming frames
  pub back : Back image ≡ records ++ spellings frames
  pub journal : IsJournalFile image

-- the statuses after which the file may have one frame more than the answers show
abbrev pub MayBeAhead : Status → Type 0
MayBeAhead status = (status ≡ NoMemory) ⊎ (status ≡ DiskFault)

-- the file has these records, then these frames, and then one more that comes next and is taken
pub record KeepsOneMore (who : Who) (incoming : Option (List ℕ)) (records : List (List ℕ)) (frames : List Frame) (image : List ℕ) : Type 0 where
  pub next : Frame
  pub front : AreInFront who incoming (next ∷ frames)
  pub back : Back image ≡ records ++ spellings (next ∷ frames)

-- what is kept at the end, and what was written: these frames are kept, all answers to those before the newest were
-- written, and the first part of the answers to the newest
pub record KeepsAtEnd (who : Who) (link link' : LinkView) (records : List (List ℕ)) (disk' : DiskView) (status : Status) : Type 0 where
  pub frames : List Frame
  pub answered : AnswersUpTo who frames link link' status
  pub kept : (image : List ℕ) → LeavesNow disk' image
      → (Back image ≡ records ++ spellings frames) ⊎ (MayBeAhead status × KeepsOneMore who link.incoming records frames image)

-- how a node with a journal ends, given the link and the disk before and after
pub record ServedKept (who : Who) (link link' : LinkView) (disk disk' : DiskView) (status : Status) : Type 0 where
  -- over the link it ends as a restarted node does
  pub served : Served who link link' status
  -- at each moment a crash leaves the records that were there, followed by the first of the frames that come and are
  -- taken
  pub moments : (records : List (List ℕ)) → HasKeptBehind who.records [] disk records → LeavesOnly disk disk' (KeepsFront who link.incoming records)
  -- at the end it leaves the frames that were answered, or one more if the run broke off
  pub exit : (records : List (List ℕ)) → HasKeptBehind who.records [] disk records → KeepsAtEnd who link link' records disk' status
  -- DiskFault: a call of the disk failed; at every other status none did
  pub disk_fault : RoseIf (status ≡ DiskFault) disk.faults disk'.faults
  -- what the disk told before it tells after
  pub telling : KeepsTelling disk disk'
