-- What a user is promised about a text that is audited.
use Rattle.std.specs.Prelude.{ℕ, ◌≡◌, ◌≤◌, ◌<◌, ◌⊎◌, Bool, true, false, Option, Some, None, List, length, codes, ◌++◌, ◌∷◌, []}
use Rattle.std.specs.Io.KnownBytes.{Appends, IsAtEnd}
use Rattle.topology.specs.declared.prefixes.Prefix.{Prefix}
use Rattle.topology.specs.declared.status.LimitKind.{LimitKind}
use Rattle.topology.specs.declared.status.LimitKind.TheVariants.{Bytes}
use Rattle.topology.specs.declared.status.Status.{Status}
use Rattle.topology.specs.declared.status.Status.TheVariants.{Done, Usage, NoMemory, BadSchedule, Limit, ReadFault, WriteFault, LinkFault, BadFrame, NoSuchNode, DiskFault, BadJournal, BadTables, Inconsistent}
use Rattle.topology.specs.Lists.{Begins}
use Rattle.topology.specs.Paths.{differ}
use Rattle.route_io.specs.Causes.{RoseIf, AppendsFront}
use Rattle.route_io.specs.Views.{SourceView, SinkView}
use Rattle.topology.specs.declared.limits.TheConstants.{MOST_BYTES}
use Rattle.topology.specs.declared.status.AuditKind.{AuditKind}
use Rattle.table_audit.specs.Rows.{first_bad}
use Rattle.table_audit.specs.Tables.{rows_of, first_misspelled}
use Rattle.table_audit.specs.Walks.{FollowsRows}

-- the line for a text of which no row is bad
abbrev pub consistent_line : List ℕ
consistent_line = codes "consistent" ++ 10 ∷ []

-- the first bad row of a text: its line and its fault
abbrev pub bad_row : List ℕ → Option (ℕ × AuditKind)
bad_row bytes = first_bad (rows_of bytes) (rows_of bytes)

-- no line is misspelled, and no row is bad
pub record IsConsistent (bytes : List ℕ) : Type 0 where
  pub spelled : first_misspelled bytes ≡ None
  pub good : bad_row bytes ≡ None

-- no line is misspelled, and the first bad row is in this line
pub record IsInconsistent (bytes : List ℕ) (line : ℕ) (kind : AuditKind) : Type 0 where
  pub spelled : first_misspelled bytes ≡ None
  pub bad : bad_row bytes ≡ Some (line, kind)

-- nothing was written, or the first part of the line for consistent rows
abbrev pub WroteFront : List ℕ → Option (List ℕ) → Option (List ℕ) → Type 0
WroteFront bytes held held' =
    (held' ≡ held) ⊎ (IsConsistent bytes × (some : List ℕ) × Begins some consistent_line × Appends held held' some)

-- the statuses with which an audit may end
abbrev pub ends_audit : Status → Bool
ends_audit Done = true
ends_audit Usage = false
ends_audit NoMemory = true
ends_audit (BadSchedule line kind) = false
ends_audit (Limit kind number) = true
ends_audit ReadFault = true
ends_audit WriteFault = true
ends_audit LinkFault = false
ends_audit (BadFrame offset fault) = false
ends_audit (NoSuchNode node) = false
ends_audit DiskFault = false
ends_audit (BadJournal offset fault) = false
ends_audit (BadTables line) = true
ends_audit (Inconsistent line kind) = true

-- the statuses at which something may have been written
abbrev pub ends_late : Status → Bool
ends_late Done = true
ends_late WriteFault = true
ends_late other = false

-- the statuses at which the text was read to its end
abbrev pub ends_read : Status → Bool
ends_read Done = true
ends_read WriteFault = true
ends_read (BadTables line) = true
ends_read (Inconsistent line kind) = true
ends_read other = false

-- how an audit ends, given the source and the sink before and after
pub record Audited (source source' : SourceView) (sink sink' : SinkView) (status : Status) : Type 0 where
  -- never Usage, and no status of a schedule, a link, a frame, a network or a journal
  pub formed : ends_audit status ≡ true
  -- Done: no row is bad, and the line that says so was written completely
  pub done : status ≡ Done → (bytes : List ℕ) → source.left ≡ Some bytes
      → IsConsistent bytes × Appends sink.held sink'.held consistent_line
  -- then following the second nodes of the rows of one epoch and prefix visits no node twice
  pub loop_free : status ≡ Done → (bytes : List ℕ) → source.left ≡ Some bytes
      → (epoch : ℕ) (prefix : Prefix) (nodes : List ℕ) → FollowsRows (rows_of bytes) epoch prefix nodes → differ nodes ≡ true
  -- BadTables: this is the first misspelled line
  pub bad_tables : (line : ℕ) → status ≡ BadTables line
      → (bytes : List ℕ) → source.left ≡ Some bytes → first_misspelled bytes ≡ Some line
  -- Inconsistent: no line is misspelled, and the first bad row is in this line and has this fault
  pub inconsistent : (line : ℕ) (kind : AuditKind) → status ≡ Inconsistent line kind
      → (bytes : List ℕ) → source.left ≡ Some bytes → IsInconsistent bytes line kind
  -- Limit: the text is too long
  pub limit : (kind : LimitKind) (number : ℕ) → status ≡ Limit kind number → (kind ≡ Bytes) × (number ≡ MOST_BYTES)
      × ((bytes : List ℕ) → source.left ≡ Some bytes → MOST_BYTES < length bytes)
  -- ReadFault, WriteFault: a call of that side failed; at every other status none did
  pub read_fault : RoseIf (status ≡ ReadFault) source.faults source'.faults
  pub write_fault : RoseIf (status ≡ WriteFault) sink.faults sink'.faults
  -- at a write fault the line may be cut off
  pub cut_off : status ≡ WriteFault → (bytes : List ℕ) → source.left ≡ Some bytes
      → IsConsistent bytes × AppendsFront sink.held sink'.held consistent_line
  -- at every status, what was written is the first part of that line, and the text is consistent
  pub front : (bytes : List ℕ) → source.left ≡ Some bytes → WroteFront bytes sink.held sink'.held
  -- nothing was written if the text was not found consistent
  pub silent : ends_late status ≡ false → sink'.held ≡ sink.held
  -- nothing is left of the text once its rows were read
  pub read : ends_read status ≡ true → IsAtEnd source'.left
  -- a consistent text is found consistent, unless a side fails or memory runs out
  pub complete : (bytes : List ℕ) → source.left ≡ Some bytes → length bytes ≤ MOST_BYTES → IsConsistent bytes
      → (status ≡ Done) ⊎ ((status ≡ NoMemory) ⊎ ((status ≡ ReadFault) ⊎ (status ≡ WriteFault)))
  -- a text with a misspelled line is refused, and its first one named, unless a read fails or memory runs out
  pub refused : (bytes : List ℕ) → source.left ≡ Some bytes → length bytes ≤ MOST_BYTES → (line : ℕ)
      → first_misspelled bytes ≡ Some line → (status ≡ BadTables line) ⊎ ((status ≡ NoMemory) ⊎ (status ≡ ReadFault))
  -- so is a text with a bad row
  pub found : (bytes : List ℕ) → source.left ≡ Some bytes → length bytes ≤ MOST_BYTES → (line : ℕ) (kind : AuditKind)
      → IsInconsistent bytes line kind → (status ≡ Inconsistent line kind) ⊎ ((status ≡ NoMemory) ⊎ (status ≡ ReadFault))
  -- so is a text that is too long
  pub too_long : (bytes : List ℕ) → source.left ≡ Some bytes → MOST_BYTES < length bytes
      → (status ≡ Limit Bytes MOST_BYTES) ⊎ ((status ≡ NoMemory) ⊎ (status ≡ ReadFault))
  -- no call changes how much the sink can hold
  pub same_room : sink'.room ≡ sink.room
