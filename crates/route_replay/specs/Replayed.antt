-- What a user is promised of a schedule that is replayed.
use Rattle.std.specs.Prelude.{◌≢◌, ℕ, Bool, true, false, not, MatchBool, ◌≡◌, ◌≤◌, ◌<◌, ◌⊎◌, Option, Some, None, List, [], length}
use Rattle.std.specs.Io.KnownBytes.{Appends, IsAtEnd}
use Rattle.topology.specs.Lists.{Begins}
use Rattle.topology.specs.declared.status.Status.{Status}
use Rattle.topology.specs.declared.status.Status.TheVariants.{Done, Usage, NoMemory, BadSchedule, Limit, ReadFault, WriteFault, LinkFault, BadFrame, NoSuchNode, DiskFault, BadJournal, BadTables, Inconsistent}
use Rattle.topology.specs.declared.status.BadKind.{BadKind}
use Rattle.topology.specs.declared.status.LimitKind.{LimitKind}
use Rattle.topology.specs.declared.status.LimitKind.TheVariants.{Bytes, Events, Epochs, Triggers, Entries, Updates, Control, Packets, Frames, Marks, Journal}
use Rattle.route_io.specs.Causes.{RoseIf, AppendsFront}
use Rattle.route_io.specs.Views.{SourceView, SinkView}
use Rattle.path_vector.specs.GaoRexford.{gao_rexford}
use Rattle.chronicle.specs.declared.events.Event.{Event}
use Rattle.world_core.specs.Throughout.{HoldsThroughout}
use Rattle.node_core.specs.NodeLimits.{Reached}
use Rattle.schedule_file.specs.declared.lines.Line.{Line}
use Rattle.schedule_file.specs.Spelling.{words_by_line}
use Rattle.schedule_file.specs.Grammar.{Reads, net_of, directives_of}
use Rattle.schedule_file.specs.Refusals.{FirstBad}
use Rattle.topology.specs.declared.limits.TheConstants.{MOST_BYTES}
use Rattle.route_replay.specs.Probed.{AreProbed}
use Rattle.route_replay.specs.Text.{text, texts, stop, events_of}
use Rattle.route_replay.specs.Turns.{WritesInTurn}

-- what the lines of a file come to: the text of their run, up to the directive that a limit stops,
-- and that limit, where one does
pub record IsRun (bytes : List ℕ) (lines : List Line) (written : List ℕ) (stopped : Option Reached) : Type 0 where
  pub read : Reads [] (words_by_line bytes) lines
  pub text : text gao_rexford (net_of lines) [] (directives_of lines) ≡ written
  pub stop : stop gao_rexford (net_of lines) [] (directives_of lines) ≡ stopped

-- the lines are read from the bytes, and this is what they come to
pub record FileRun (bytes : List ℕ) : Type 0 where
  pub lines : List Line
  pub written : List ℕ
  pub stopped : Option Reached
  pub is_run : IsRun bytes lines written stopped

-- the run behind the text of the lines: all their events, up to the directive that a limit stops
abbrev pub behind : List Line → List Event
behind lines = events_of gao_rexford (net_of lines) [] (directives_of lines)

-- nothing was written, or a front of the text of the file
abbrev pub WroteFront : List ℕ → Option (List ℕ) → Option (List ℕ) → Type 0
WroteFront bytes held held' =
    (held' ≡ held) ⊎ ((run : FileRun bytes) × (some : List ℕ) × Begins some run.written × Appends held held' some)

-- no write was made, or those that were are each of the text of one directive alone, behind all the text of the directives
-- before
abbrev pub WroteInTurn : List ℕ → SinkView → SinkView → Type 0
WroteInTurn bytes sink sink' =
    (sink'.writes ≡ sink.writes)
    ⊎ ((run : FileRun bytes) × WritesInTurn sink sink' (texts gao_rexford (net_of run.lines) [] (directives_of run.lines)))

-- a limit of the run, and not of the file
abbrev pub is_of_run : LimitKind → Bool
is_of_run Bytes = false
is_of_run Events = true
is_of_run Epochs = true
is_of_run Triggers = true
is_of_run Entries = true
is_of_run Updates = true
is_of_run Control = true
is_of_run Packets = true
is_of_run Frames = true
is_of_run Marks = true
is_of_run Journal = true

-- the statuses with which a replay may end
abbrev pub ends_replay : Status → Bool
ends_replay Done = true
ends_replay Usage = false
ends_replay NoMemory = true
ends_replay (BadSchedule line kind) = true
ends_replay (Limit Frames number) = false
ends_replay (Limit Journal number) = false
ends_replay (Limit kind number) = true
ends_replay ReadFault = true
ends_replay WriteFault = true
ends_replay LinkFault = false
ends_replay (BadFrame offset fault) = false
ends_replay (NoSuchNode node) = false
ends_replay DiskFault = false
ends_replay (BadJournal offset fault) = false
ends_replay (BadTables line) = false
ends_replay (Inconsistent line kind) = false

-- the statuses before which nothing is run
abbrev pub ends_early : Status → Bool
ends_early Done = false
ends_early Usage = true
ends_early NoMemory = false
ends_early (BadSchedule line kind) = true
ends_early (Limit kind number) = not (is_of_run kind)
ends_early ReadFault = true
ends_early WriteFault = false
ends_early LinkFault = true
ends_early (BadFrame offset fault) = true
ends_early (NoSuchNode node) = true
ends_early DiskFault = true
ends_early (BadJournal offset fault) = true
ends_early (BadTables line) = true
ends_early (Inconsistent line kind) = true

-- the statuses before which the file was read to its end
abbrev pub ends_read : Status → Bool
ends_read Done = true
ends_read Usage = false
ends_read NoMemory = false
ends_read (BadSchedule line kind) = true
ends_read (Limit kind number) = is_of_run kind
ends_read ReadFault = false
ends_read WriteFault = true
ends_read LinkFault = false
ends_read (BadFrame offset fault) = false
ends_read (NoSuchNode node) = false
ends_read DiskFault = false
ends_read (BadJournal offset fault) = false
ends_read (BadTables line) = false
ends_read (Inconsistent line kind) = false

-- the run would take that count above its number, and the text of the directives before was written
abbrev pub StopsRun : List ℕ → Reached → Option (List ℕ) → Option (List ℕ) → Type 0
StopsRun bytes reached held held' = (run : FileRun bytes) × (run.stopped ≡ Some reached) × Appends held held' run.written

-- why a limit is named: the file is too long, or it stops the run
abbrev pub IsLimit : List ℕ → LimitKind → ℕ → Option (List ℕ) → Option (List ℕ) → Type 0
IsLimit bytes kind number held held' =
    MatchBool (is_of_run kind) (StopsRun bytes (record { kind = kind; number = number }) held held')
    ((number ≡ MOST_BYTES) × (MOST_BYTES < length bytes))

-- how a replay ends, on a source and a sink as they were and as they are then
pub record Replayed (source source' : SourceView) (sink sink' : SinkView) (status : Status) : Type 0 where
  -- never Usage, and nothing of a link or a frame
  pub formed : ends_replay status ≡ true
  -- Done: no limit stopped the run of the file, and its whole text was written
  pub done : status ≡ Done → (bytes : List ℕ) → source.left ≡ Some bytes
      → (run : FileRun bytes) × (run.stopped ≡ None) × Appends sink.held sink'.held run.written
  -- at each moment of the run behind the text the network is sound: the cuts of an epoch fit together, and without their
  -- incomplete entries they are at rest; all tables of one epoch come from one chosen value, and every published path continues
  -- as the next node's published path of that epoch, if it has one; no packet visits a node twice on one epoch's stable tables,
  -- and none makes more transient moves than the hop limit; and each table is published in the step that completes what it is
  -- made of
  pub throughout : ends_read status ≡ true → (bytes : List ℕ) → source.left ≡ Some bytes
      → (run : FileRun bytes) → HoldsThroughout gao_rexford (net_of run.lines) (behind run.lines)
  -- so it is, whatever the end, where anything was written
  pub so_far : sink'.held ≢ sink.held → (bytes : List ℕ) → source.left ≡ Some bytes
      → (run : FileRun bytes) → HoldsThroughout gao_rexford (net_of run.lines) (behind run.lines)
  -- where anything was written, each probe in the text shows a walk that comes to its end: as delivered exactly where links
  -- that are up at its turn connect its node with an owner, else as stuck
  pub probed : sink'.held ≢ sink.held → (bytes : List ℕ) → source.left ≡ Some bytes
      → (run : FileRun bytes) → AreProbed gao_rexford (net_of run.lines) [] (directives_of run.lines)
  -- BadSchedule: the line is the first outside the grammar, and this is what is wrong with it
  pub bad_schedule : (line : ℕ) (kind : BadKind) → status ≡ BadSchedule line kind
      → (bytes : List ℕ) → source.left ≡ Some bytes → FirstBad bytes line kind
  -- Limit: the count would pass its number
  pub limit : (kind : LimitKind) (number : ℕ) → status ≡ Limit kind number
      → (bytes : List ℕ) → source.left ≡ Some bytes → IsLimit bytes kind number sink.held sink'.held
  -- ReadFault, WriteFault: a call of that side failed; after every other answer none has
  pub read_fault : RoseIf (status ≡ ReadFault) source.faults source'.faults
  pub write_fault : RoseIf (status ≡ WriteFault) sink.faults sink'.faults
  -- a write fault cuts the text off
  pub cut_off : status ≡ WriteFault → (bytes : List ℕ) → source.left ≡ Some bytes
      → (run : FileRun bytes) × AppendsFront sink.held sink'.held run.written
  -- whatever the end, what was written is a front of the text of the file
  pub front : (bytes : List ℕ) → source.left ≡ Some bytes → WroteFront bytes sink.held sink'.held
  -- and where the sink tells its writes, it was written directive by directive: the text of each before that of the next
  pub in_turn : (bytes : List ℕ) → source.left ≡ Some bytes → WroteInTurn bytes sink sink'
  -- and nothing was written where nothing was run
  pub silent : ends_early status ≡ true → sink'.held ≡ sink.held
  -- nothing is left of the file once it was parsed
  pub read : ends_read status ≡ true → IsAtEnd source'.left
  -- a file of the grammar is run to its end, or up to the limit that stops it, unless a side fails or memory runs out
  pub complete : (bytes : List ℕ) → source.left ≡ Some bytes → length bytes ≤ MOST_BYTES → (run : FileRun bytes)
      → (run.stopped ≡ None → (status ≡ Done) ⊎ ((status ≡ NoMemory) ⊎ ((status ≡ ReadFault) ⊎ (status ≡ WriteFault))))
      × ((reached : Reached) → run.stopped ≡ Some reached
      → (status ≡ Limit reached.kind reached.number) ⊎ ((status ≡ NoMemory) ⊎ ((status ≡ ReadFault) ⊎ (status ≡ WriteFault))))
  -- a file outside the grammar is refused by its first bad line, unless a read fails or memory runs out
  pub refused : (bytes : List ℕ) → source.left ≡ Some bytes → length bytes ≤ MOST_BYTES → (line : ℕ) (kind : BadKind)
      → FirstBad bytes line kind → (status ≡ BadSchedule line kind) ⊎ ((status ≡ NoMemory) ⊎ (status ≡ ReadFault))
  -- so is a file that is too long, by its length
  pub too_long : (bytes : List ℕ) → source.left ≡ Some bytes → MOST_BYTES < length bytes
      → (status ≡ Limit Bytes MOST_BYTES) ⊎ ((status ≡ NoMemory) ⊎ (status ≡ ReadFault))
  -- no call changes how much the sink can hold
  pub same_room : sink'.room ≡ sink.room
