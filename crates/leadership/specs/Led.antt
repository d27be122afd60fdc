-- What a user is promised about a script that is run.
use Rattle.std.specs.Prelude.{ℕ, Bool, true, false, not, MatchBool, ◌≡◌, ◌≤◌, ◌<◌, ◌⊎◌, Option, Some, None, List, [], length}
use Rattle.std.specs.Io.KnownBytes.{Appends, IsAtEnd}
use Rattle.topology.specs.Lists.{ascending, Begins}
use Rattle.topology.specs.declared.status.Status.{Status}
use Rattle.topology.specs.declared.status.Status.TheVariants.{Done, Usage, NoMemory, BadSchedule, Limit, ReadFault, WriteFault, LinkFault, BadFrame, NoSuchNode, DiskFault, BadJournal, BadTables, Inconsistent}
use Rattle.topology.specs.declared.status.BadKind.{BadKind}
use Rattle.topology.specs.declared.status.LimitKind.{LimitKind}
use Rattle.topology.specs.declared.status.LimitKind.TheVariants.{Bytes, Events, Epochs, Triggers, Entries, Updates, Control, Packets, Frames, Marks, Journal}
use Rattle.route_io.specs.Causes.{RoseIf, AppendsFront}
use Rattle.route_io.specs.Views.{SourceView, SinkView}
use Rattle.topology.specs.declared.limits.TheConstants.{MOST_BYTES}
use Rattle.leadership.specs.Agreed.{IsAgreed}
use Rattle.leadership.specs.Scripts.{directives_of, first_bad, members_of}
use Rattle.leadership.specs.Text.{events_of, stop, text}

-- the members of a script, ascending
abbrev pub members : List ℕ → List ℕ
members bytes = ascending (members_of bytes)

-- no line of the bytes is bad, and this is the text of their run, up to the directive at which a limit stops it, and
-- that limit, if there is one
pub record ScriptRun (bytes : List ℕ) : Type 0 where
  pub good : first_bad bytes ≡ None
  pub written : List ℕ
  pub stopped : Option (LimitKind × ℕ)
  pub text : text (members bytes) [] (directives_of bytes) ≡ written
  pub stop : stop (members bytes) [] (directives_of bytes) ≡ stopped

-- nothing was written, or the first part of the script's text
abbrev pub WroteFront : List ℕ → Option (List ℕ) → Option (List ℕ) → Type 0
WroteFront bytes held held' =
    (held' ≡ held) ⊎ ((run : ScriptRun bytes) × (some : List ℕ) × Begins some run.written × Appends held held' some)

-- the limit is one of the run, and not of the script
abbrev pub is_of_run : LimitKind → Bool
is_of_run Bytes = false
is_of_run Events = true
is_of_run Epochs = true
is_of_run Triggers = true
is_of_run Entries = true
is_of_run Updates = true
is_of_run Control = true
is_of_run Packets = true
is_of_run Frames = true
is_of_run Marks = true
is_of_run Journal = true

-- a count of the script or of its run that has a limit
abbrev pub is_counted : LimitKind → Bool
is_counted Bytes = true
is_counted Events = true
is_counted Epochs = false
is_counted Triggers = false
is_counted Entries = false
is_counted Updates = false
is_counted Control = true
is_counted Packets = false
is_counted Frames = false
is_counted Marks = false
is_counted Journal = false

-- the statuses with which it may end
abbrev pub ends_lead : Status → Bool
ends_lead Done = true
ends_lead Usage = false
ends_lead NoMemory = true
ends_lead (BadSchedule line kind) = true
ends_lead (Limit kind number) = is_counted kind
ends_lead ReadFault = true
ends_lead WriteFault = true
ends_lead LinkFault = false
ends_lead (BadFrame offset fault) = false
ends_lead (NoSuchNode node) = false
ends_lead DiskFault = false
ends_lead (BadJournal offset fault) = false
ends_lead (BadTables line) = false
ends_lead (Inconsistent line kind) = false

-- the statuses at which nothing was run
abbrev pub ends_early : Status → Bool
ends_early Done = false
ends_early Usage = true
ends_early NoMemory = false
ends_early (BadSchedule line kind) = true
ends_early (Limit kind number) = not (is_of_run kind)
ends_early ReadFault = true
ends_early WriteFault = false
ends_early LinkFault = true
ends_early (BadFrame offset fault) = true
ends_early (NoSuchNode node) = true
ends_early DiskFault = true
ends_early (BadJournal offset fault) = true
ends_early (BadTables line) = true
ends_early (Inconsistent line kind) = true

-- the statuses at which the script was read to its end
abbrev pub ends_read : Status → Bool
ends_read Done = true
ends_read Usage = false
ends_read NoMemory = false
ends_read (BadSchedule line kind) = true
ends_read (Limit kind number) = is_of_run kind
ends_read ReadFault = false
ends_read WriteFault = true
ends_read LinkFault = false
ends_read (BadFrame offset fault) = false
ends_read (NoSuchNode node) = false
ends_read DiskFault = false
ends_read (BadJournal offset fault) = false
ends_read (BadTables line) = false
ends_read (Inconsistent line kind) = false

-- the run would exceed this limit, and the text of the directives before was written
abbrev pub StopsRun : List ℕ → LimitKind × ℕ → Option (List ℕ) → Option (List ℕ) → Type 0
StopsRun bytes limit held held' = (run : ScriptRun bytes) × (run.stopped ≡ Some limit) × Appends held held' run.written

-- why a limit is named: the script is too long, or the limit stops the run
abbrev pub IsLimit : List ℕ → LimitKind → ℕ → Option (List ℕ) → Option (List ℕ) → Type 0
IsLimit bytes kind number held held' =
    MatchBool (is_of_run kind) (StopsRun bytes (kind, number) held held')
    ((number ≡ MOST_BYTES) × (MOST_BYTES < length bytes))

-- how it ends, given the source and the sink before and after
pub record Led (source source' : SourceView) (sink sink' : SinkView) (status : Status) : Type 0 where
  -- never Usage, and no status of a link, a frame or a network
  pub formed : ends_lead status ≡ true
  -- Done: no limit stopped the run, and its whole text was written
  pub done : status ≡ Done → (bytes : List ℕ) → source.left ≡ Some bytes
      → (run : ScriptRun bytes) × (run.stopped ≡ None) × Appends sink.held sink'.held run.written
  -- in the run of that text any two chosen values of an epoch are equal
  pub agreed : ends_read status ≡ true → (bytes : List ℕ) → source.left ≡ Some bytes
      → (run : ScriptRun bytes) → IsAgreed (members bytes) (events_of (members bytes) [] (directives_of bytes))
  -- BadSchedule: this line is the first bad one, with this fault
  pub bad_script : (line : ℕ) (kind : BadKind) → status ≡ BadSchedule line kind
      → (bytes : List ℕ) → source.left ≡ Some bytes → first_bad bytes ≡ Some (line, kind)
  -- Limit: the count would exceed its limit
  pub limit : (kind : LimitKind) (number : ℕ) → status ≡ Limit kind number
      → (bytes : List ℕ) → source.left ≡ Some bytes → IsLimit bytes kind number sink.held sink'.held
  -- ReadFault, WriteFault: a call of that side failed; at every other status none did
  pub read_fault : RoseIf (status ≡ ReadFault) source.faults source'.faults
  pub write_fault : RoseIf (status ≡ WriteFault) sink.faults sink'.faults
  -- at a write fault the text is cut off
  pub cut_off : status ≡ WriteFault → (bytes : List ℕ) → source.left ≡ Some bytes
      → (run : ScriptRun bytes) × AppendsFront sink.held sink'.held run.written
  -- at every status, what was written is the first part of the text
  pub front : (bytes : List ℕ) → source.left ≡ Some bytes → WroteFront bytes sink.held sink'.held
  -- nothing was written if nothing was run
  pub silent : ends_early status ≡ true → sink'.held ≡ sink.held
  -- nothing is left of the script once it was read
  pub read : ends_read status ≡ true → IsAtEnd source'.left
  -- a script of the grammar is run to its end, or to the limit that stops it, unless a side fails or memory runs out
  pub complete : (bytes : List ℕ) → source.left ≡ Some bytes → length bytes ≤ MOST_BYTES → (run : ScriptRun bytes)
      → (run.stopped ≡ None → (status ≡ Done) ⊎ ((status ≡ NoMemory) ⊎ ((status ≡ ReadFault) ⊎ (status ≡ WriteFault))))
      × ((kind : LimitKind) (number : ℕ) → run.stopped ≡ Some (kind, number)
      → (status ≡ Limit kind number) ⊎ ((status ≡ NoMemory) ⊎ ((status ≡ ReadFault) ⊎ (status ≡ WriteFault))))
  -- a script outside the grammar is refused, and its first bad line named, unless a read fails or memory runs out
  pub refused : (bytes : List ℕ) → source.left ≡ Some bytes → length bytes ≤ MOST_BYTES → (line : ℕ) (kind : BadKind)
      → first_bad bytes ≡ Some (line, kind) → (status ≡ BadSchedule line kind) ⊎ ((status ≡ NoMemory) ⊎ (status ≡ ReadFault))
  -- so is a script that is too long
  pub too_long : (bytes : List ℕ) → source.left ≡ Some bytes → MOST_BYTES < length bytes
      → (status ≡ Limit Bytes MOST_BYTES) ⊎ ((status ≡ NoMemory) ⊎ (status ≡ ReadFault))
  -- no call changes how much the sink can hold
  pub same_room : sink'.room ≡ sink.room
