-- The line that says why a run ended before its time.
use Rattle.std.specs.Prelude.{ℕ, ◌≡◌, ◌≤◌, ◌⊎◌, List, [], ◌∷◌, ◌++◌, codes}
use Rattle.std.specs.Fmt.{decimal}
use Rattle.std.specs.Io.KnownBytes.{Appends}
use Rattle.topology.specs.declared.status.Status.{Status}
use Rattle.topology.specs.declared.status.Status.TheVariants.{Done, Usage, NoMemory, BadSchedule, Limit, ReadFault, WriteFault, LinkFault, BadFrame, NoSuchNode, DiskFault, BadJournal, BadTables, Inconsistent}
use Rattle.topology.specs.declared.frame_faults.FrameFault.{FrameFault}
use Rattle.topology.specs.declared.frame_faults.FrameFault.TheVariants.{Sequence}
use Rattle.topology.specs.Words.{audit_words, bad_words, fault_words, limit_words}
use Rattle.route_io.specs.Causes.{Rose, AppendsFront}
use Rattle.route_io.specs.Views.{SinkView}

-- the number that an update out of turn was to have, and the one that it has; nothing of other faults
abbrev pub fault_numbers : FrameFault → List ℕ
fault_numbers (Sequence expected got) = codes " expected " ++ decimal expected ++ codes " got " ++ decimal got
fault_numbers other = []

-- the words of the line, without its end
abbrev pub note_words : Status → List ℕ
note_words Done = []
note_words Usage = codes "usage: consensus_routing replay | load NUMBER | node ID ADDRESS | node ID ADDRESS FILE | audit | lead"
note_words NoMemory = codes "no memory"
note_words (BadSchedule line kind) = codes "bad schedule: line " ++ decimal line ++ codes ": " ++ bad_words kind
note_words (Limit kind number) = codes "limit: " ++ limit_words kind ++ codes " " ++ decimal number
note_words ReadFault = codes "read fault"
note_words WriteFault = codes "write fault"
note_words LinkFault = codes "link fault"
note_words (BadFrame offset fault) = codes "bad frame: offset " ++ decimal offset ++ codes ": " ++ fault_words fault ++ fault_numbers fault
note_words (NoSuchNode node) = codes "no such node: " ++ decimal node
note_words DiskFault = codes "disk fault"
note_words (BadJournal offset fault) = codes "bad journal: offset " ++ decimal offset ++ codes ": " ++ fault_words fault ++ fault_numbers fault
note_words (BadTables line) = codes "bad tables: line " ++ decimal line
note_words (Inconsistent line kind) = codes "inconsistent: line " ++ decimal line ++ codes ": " ++ audit_words kind

-- a line and its end, where there are words
abbrev pub line_of : List ℕ → List ℕ
line_of [] = []
line_of (c ∷ words) = c ∷ words ++ 10 ∷ []

-- one line where the run ended before its time, nothing where it is done
abbrev pub note_line : Status → List ℕ
note_line status = line_of (note_words status)

-- what came of the notes after a run that ended so
pub record Noted (notes notes' : SinkView) (status : Status) : Type 0 where
  -- the line was written behind what they held, and none of their calls failed; or one failed, and a
  -- front of the line was written
  pub told : (Appends notes.held notes'.held (note_line status) × (notes'.faults ≡ notes.faults))
      ⊎ (AppendsFront notes.held notes'.held (note_line status) × Rose notes.faults notes'.faults)
  -- the count of their faults never falls
  pub counts : notes.faults ≤ notes'.faults
  -- no call changes how much they can hold
  pub same_room : notes'.room ≡ notes.room
