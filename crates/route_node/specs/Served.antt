-- What a user is promised about a node that answers the frames of a link.
use Rattle.std.specs.Prelude.{ℕ, Bool, true, false, ◌≡◌, ◌<◌, ◌⊎◌, is_some, Option, Some, None, List, [], ◌∷◌, ◌++◌, length}
use Rattle.std.specs.List.{list_all}
use Rattle.std.specs.Io.KnownBytes.{Appends, IsAtEnd}
use Rattle.topology.specs.declared.status.Status.{Status}
use Rattle.topology.specs.declared.status.Status.TheVariants.{Done, Usage, NoMemory, BadSchedule, Limit, ReadFault, WriteFault, LinkFault, BadFrame, NoSuchNode, DiskFault, BadJournal, BadTables, Inconsistent}
use Rattle.topology.specs.declared.status.LimitKind.{LimitKind}
use Rattle.topology.specs.declared.status.LimitKind.TheVariants as count
use Rattle.topology.specs.declared.frame_faults.FrameFault.{FrameFault}
use Rattle.topology.specs.Lists.{Begins}
use Rattle.route_io.specs.Causes.{RoseIf}
use Rattle.route_io.specs.Links.{IsSure, room_left}
use Rattle.route_io.specs.Views.{StreamAct, LinkView}
use Rattle.wire_frames.specs.declared.frames.Frame.{Frame}
use Rattle.wire_frames.specs.Frames.{fits as has_spelling}
use Rattle.route_node.specs.Prompt.{IsPrompt}
use Rattle.route_node.specs.Who.{Who}
use Rattle.route_node.specs.Writing.{OneWriteEach}
use Rattle.route_node.specs.Streams.{stream, replies, answers, AreTaken, Ending, End, Refused, Stopped, StreamComesTo}

-- the statuses with which a node over a link may end, with or without a journal
abbrev pub ends_serving : Bool → Status → Bool
ends_serving keeps Done = true
ends_serving keeps Usage = false
ends_serving keeps NoMemory = true
ends_serving keeps (BadSchedule line kind) = false
ends_serving keeps (Limit count.Bytes number) = false
ends_serving keeps (Limit count.Journal number) = keeps
ends_serving keeps (Limit kind number) = true
ends_serving keeps ReadFault = false
ends_serving keeps WriteFault = false
ends_serving keeps LinkFault = true
ends_serving keeps (BadFrame offset fault) = true
ends_serving keeps (NoSuchNode node) = false
ends_serving keeps DiskFault = keeps
ends_serving keeps (BadJournal offset fault) = false
ends_serving keeps (BadTables line) = false
ends_serving keeps (Inconsistent line kind) = false

-- the status of a stream that ends like this at this offset
abbrev pub status_of : ℕ → Ending → Status
status_of offset End = Done
status_of offset (Refused fault) = BadFrame offset fault
status_of offset (Stopped reached) = Limit reached.kind reached.number

-- the run broke off: memory ran out, or a call of the link failed, or, with a journal, one of the disk
abbrev pub BreaksOff : Option (List Frame) → Status → Type 0
BreaksOff None status = (status ≡ NoMemory) ⊎ (status ≡ LinkFault)
BreaksOff (Some records) status = (status ≡ NoMemory) ⊎ ((status ≡ LinkFault) ⊎ (status ≡ DiskFault))

-- all answers to the frames were written; each has a spelling, and was written by one write, whole and in order, if the
-- link had room for them all
pub record Answered (who : Who) (frames : List Frame) (link link' : LinkView) : Type 0 where
  pub spelled : list_all has_spelling (replies who frames) ≡ true
  pub wrote : Appends link.outgoing link'.outgoing (answers who frames)
  pub one_write_each : OneWriteEach (replies who frames) link link'

-- the bytes begin with frames that are taken; the first part of the answers to them was written, and each of these
-- answers has a spelling
pub record WroteFront (who : Who) (bytes : List ℕ) (link link' : LinkView) : Type 0 where
  pub frames : List Frame
  pub rest : List ℕ
  pub in_front : bytes ≡ stream frames ++ rest
  pub taken : AreTaken who frames
  pub spelled : list_all has_spelling (replies who frames) ≡ true
  pub some : List ℕ
  pub begins : Begins some (answers who frames)
  pub wrote : Appends link.outgoing link'.outgoing some

-- what comes begins with frames that are taken, and the answers to them exceed the room that is left; both only as far
-- as they are told
pub record TooLongAnswers (who : Who) (link : LinkView) : Type 0 where
  pub frames : List Frame
  pub in_front : (bytes : List ℕ) → link.incoming ≡ Some bytes → Begins (stream frames) bytes
  pub taken : AreTaken who frames
  pub left : ℕ
  pub room : room_left link ≡ Some left
  pub longer : left < length (answers who frames)

-- all frames but the newest
abbrev pub older : List Frame → List Frame
older [] = []
older (f ∷ before) = before

-- the statuses of a run that did not break off
abbrev pub is_whole : Status → Bool
is_whole Done = true
is_whole (BadFrame offset fault) = true
is_whole (Limit kind number) = true
is_whole other = false

-- what comes begins with these frames, which are taken. All answers to those before the newest were written, and the
-- first part of the answers to the newest. If the run did not break off, what comes has no other frames
pub record AnswersUpTo (who : Who) (frames : List Frame) (link link' : LinkView) (status : Status) : Type 0 where
  pub in_front : (bytes : List ℕ) → link.incoming ≡ Some bytes → Begins (stream frames) bytes
  pub taken : AreTaken who frames
  pub some : List ℕ
  pub wrote : Appends link.outgoing link'.outgoing some
  pub front : Begins some (answers who frames)
  pub behind : Begins (answers who (older frames)) some
  pub whole : is_whole status ≡ true → (bytes : List ℕ) → link.incoming ≡ Some bytes → (ending : Ending) × StreamComesTo who bytes frames ending

-- how a node ends, given the link before and after
pub record Served (who : Who) (link link' : LinkView) (status : Status) : Type 0 where
  pub formed : ends_serving (is_some who.records) status ≡ true
  -- Done: what came over the link was a list of frames that the node took, and its answers to them were written
  pub done : status ≡ Done → (bytes : List ℕ) → link.incoming ≡ Some bytes
      → (frames : List Frame) × StreamComesTo who bytes frames End × Answered who frames link link'
  -- BadFrame: what begins at this offset is refused with this fault, and the answers to the frames before were written
  pub bad_frame : (offset : ℕ) (fault : FrameFault) → status ≡ BadFrame offset fault → (bytes : List ℕ) → link.incoming ≡ Some bytes
      → (frames : List Frame) × StreamComesTo who bytes frames (Refused fault) × (offset ≡ length (stream frames))
      × Answered who frames link link'
  -- Limit: the next frame would exceed this limit, and the answers to the frames before were written
  pub limit : (kind : LimitKind) (number : ℕ) → status ≡ Limit kind number → (bytes : List ℕ) → link.incoming ≡ Some bytes
      → (frames : List Frame) × StreamComesTo who bytes frames (Stopped (record { kind = kind; number = number }))
      × Answered who frames link link'
  -- LinkFault: a call of the link failed; at every other status none did
  pub link_fault : RoseIf (status ≡ LinkFault) link.faults link'.faults
  -- a call of a sure link fails only if answers exceed the room
  pub sure : IsSure link → status ≡ LinkFault → TooLongAnswers who link
  -- at every status, what was written is the first part of the answers
  pub front : (bytes : List ℕ) → link.incoming ≡ Some bytes → WroteFront who bytes link link'
  -- the run ends as the bytes say, unless it breaks off
  pub complete : (bytes : List ℕ) → link.incoming ≡ Some bytes → (frames : List Frame) (ending : Ending)
      → StreamComesTo who bytes frames ending
      → (status ≡ status_of (length (stream frames)) ending) ⊎ BreaksOff who.records status
  -- at every status, no read was made before the frames received by then were answered, if the link tells its acts
  pub prompt : (before : List StreamAct) → link.acts ≡ Some before
      → (since : List StreamAct) × (link'.acts ≡ Some (since ++ before)) × IsPrompt who since
  -- nothing is left to come once it is done
  pub read : status ≡ Done → IsAtEnd link'.incoming
  -- no call changes how much the link can take
  pub same_room : link'.room ≡ link.room
  -- no call dials
  pub same_dialled : link'.dialled ≡ link.dialled
