-- Calls of a journal on one disk, one after another, with crashes between and inside them. Lists are newest first.
use Rattle.std.specs.Prelude.{ℕ, ◌≡◌, true, Option, Some, None, List, [], ◌∷◌, ◌++◌, option_map, Result, Ok, Err}
use Rattle.acceptor_journal.specs.Views.{Settled, DiskView}
use Rattle.acceptor_journal.specs.Images.{LeavesNow, LeftSince, IsDurable}
use Rattle.acceptor_journal.specs.JournalFiles.{HoldsKept}
use Rattle.acceptor_journal.specs.Places.{Place}
use Rattle.acceptor_journal.specs.Journals.{Opens, Reads, Finishes, Appends}
use Rattle.acceptor_journal.specs.declared.journal.JournalEnd.{JournalEnd}
use Rattle.acceptor_journal.specs.declared.journal.JournalEnd.TheVariants.{NoMemory, Fault, Full}

-- a call with its answer, or a crash that leaves this file, between two calls or inside one
pub data Call : Type 0 where
  Open : (name : List ℕ) → (answer : Result Place JournalEnd) → Call
  Next : (answer : Result (Option (List ℕ)) JournalEnd) → Call
  Finish : (answer : Result ℕ JournalEnd) → Call
  Append : (bytes : List ℕ) → (answer : Result ℕ JournalEnd) → Call
  Crash : (image : List ℕ) → Call
  CrashIn : (call : Call) → (image : List ℕ) → Call

-- the result of the last opening: nothing that can be called, a reader, or a journal at its gate
pub data Stage : Type 0 where
  Closed : Stage
  Reading : (reader : Place) → Stage
  Appending : (gate : ℕ) → Stage

-- a call, and the disk and the stage before and after it
pub record Transition : Type 0 where
  pub call : Call
  pub old : DiskView
  pub new : DiskView
  pub had : Stage
  pub has : Stage

-- ---- which calls are made

-- what can be called after an answer
abbrev pub reader_of : Result Place JournalEnd → Stage
reader_of (Ok reader) = Reading reader
reader_of (Err end) = Closed

abbrev pub keeper_of : Result ℕ JournalEnd → Stage
keeper_of (Ok gate) = Appending gate
keeper_of (Err end) = Closed

-- the disk after a crash: it has this file and no other
abbrev pub restarted : List ℕ → DiskView → DiskView
restarted image old = record old { content = Some image; acts = option_map (λ before. Settled image ∷ before) old.acts }

-- the call meets its conditions and keeps its contract; a crash leaves one of the files that it may leave at that
-- moment
abbrev pub Keeps : Call → Stage → DiskView → DiskView → Stage → Type 0
Keeps (Open name answer) had old new has = Opens name old answer new × (has ≡ reader_of answer)
Keeps (Next answer) (Reading reader) old new (Reading next) = Reads reader old answer next new
Keeps (Next answer) had old new has = ⊥
Keeps (Finish answer) (Reading reader) old new has = (reader.ended ≡ true) × Finishes reader.at old answer new × (has ≡ keeper_of answer)
Keeps (Finish answer) had old new has = ⊥
Keeps (Append bytes answer) (Appending gate) old new has = Appends gate bytes old answer new × (has ≡ keeper_of answer)
Keeps (Append bytes answer) had old new has = ⊥
Keeps (Crash image) had old new has = LeavesNow old image × (new ≡ restarted image old) × (has ≡ Closed)
Keeps (CrashIn call image) had old new has =
    (mid : DiskView) × (next : Stage) × Keeps call had old mid next × LeftSince old mid image × (new ≡ restarted image old) × (has ≡ Closed)

-- the disk after these calls, and what can be called then
abbrev pub disk_after : DiskView → List Transition → DiskView
disk_after first [] = first
disk_after first (step ∷ earlier) = step.new

abbrev pub stage_after : List Transition → Stage
stage_after [] = Closed
stage_after (step ∷ earlier) = step.has

-- each call is made on the disk that the one before left, and on the result of the last opening; nothing else is done
-- to the disk
abbrev pub IsHistory : DiskView → List Transition → Type 0
IsHistory first [] = Unit {0}
IsHistory first (step ∷ earlier) =
    Keeps step.call step.had step.old step.new step.has × (step.old ≡ disk_after first earlier) × (step.had ≡ stage_after earlier) × IsHistory first earlier

-- ---- what must be kept, read from the calls and their answers

-- the records with the one that this answer gives, if any
abbrev pub with_given : List (List ℕ) → Result (Option (List ℕ)) JournalEnd → List (List ℕ)
with_given records (Ok (Some bytes)) = records ++ bytes ∷ []
with_given records (Ok None) = records
with_given records (Err end) = records

-- the records that the reader of the last opening has given
abbrev pub given_so_far : List Call → List (List ℕ)
given_so_far [] = []
given_so_far (Open name answer ∷ before) = []
given_so_far (Next answer ∷ before) = with_given (given_so_far before) answer
given_so_far (Finish answer ∷ before) = given_so_far before
given_so_far (Append bytes answer ∷ before) = given_so_far before
given_so_far (Crash image ∷ before) = given_so_far before
given_so_far (CrashIn call image ∷ before) = given_so_far before

-- the records that the reader of the last successful finish had given, and those whose append returned Ok since
abbrev pub kept : List Call → List (List ℕ)
kept [] = []
kept (Open name answer ∷ before) = kept before
kept (Next answer ∷ before) = kept before
kept (Finish (Ok gate) ∷ before) = given_so_far before
kept (Finish (Err end) ∷ before) = kept before
kept (Append bytes (Ok gate) ∷ before) = kept before ++ bytes ∷ []
kept (Append bytes (Err end) ∷ before) = kept before
kept (Crash image ∷ before) = kept before
kept (CrashIn call image ∷ before) = kept before

-- the record that this call appends
abbrev pub under_way : Call → Option (List ℕ)
under_way (Open name answer) = None
under_way (Next answer) = None
under_way (Finish answer) = None
under_way (Append bytes answer) = Some bytes
under_way (Crash image) = None
under_way (CrashIn call image) = under_way call

-- this record, or else the other
abbrev pub or_else : Option (List ℕ) → Option (List ℕ) → Option (List ℕ)
or_else None other = other
or_else (Some bytes) other = Some bytes

-- the record whose append returned Fault or NoMemory, or was cut off by a crash, if no finish has returned Ok since.
-- There is at most one: after such an append no other is made before a finish
abbrev pub pending : List Call → Option (List ℕ)
pending [] = None
pending (Open name answer ∷ before) = pending before
pending (Next answer ∷ before) = pending before
pending (Finish (Ok gate) ∷ before) = None
pending (Finish (Err end) ∷ before) = pending before
pending (Append bytes (Ok gate) ∷ before) = pending before
pending (Append bytes (Err Full) ∷ before) = pending before
pending (Append bytes (Err Fault) ∷ before) = Some bytes
pending (Append bytes (Err NoMemory) ∷ before) = Some bytes
pending (Crash image ∷ before) = pending before
pending (CrashIn call image ∷ before) = or_else (under_way call) (pending before)

-- the one further record that may be there during this call: the one that it appends, or the pending one
abbrev pub further : Call → List Call → Option (List ℕ)
further call before = or_else (under_way call) (pending before)

-- the calls alone
abbrev pub calls : List Transition → List Call
calls [] = []
calls (step ∷ earlier) = step.call ∷ calls earlier

-- whatever was called, and whenever a crash comes, the records that are read back are those to be kept, or these and
-- the one further record; and a journal can go on with the file that is left
pub record KeepsRecords (first : DiskView) (history : List Transition) : Type 0 where
  -- at each moment of each call
  pub inside : (later earlier : List Transition) (step : Transition) → history ≡ later ++ step ∷ earlier → (image : List ℕ) → LeftSince step.old step.new image
      → HoldsKept (kept (calls earlier)) (further step.call (calls earlier)) image
  -- and after the last call
  pub now : (image : List ℕ) → LeavesNow (disk_after first history) image → HoldsKept (kept (calls history)) (pending (calls history)) image

-- this holds of all calls on a disk whose file was empty at first
abbrev pub EachHistoryKeepsRecords : Type 0
EachHistoryKeepsRecords = (first : DiskView) (history : List Transition) → IsDurable first [] → IsHistory first history → KeepsRecords first history

-- what a program does is such a history: here an opening, a reading to the end of a file without records, a finish, and
-- an append, after which its record is kept
pub record IsFirstAppend (bytes : List ℕ) (first last : DiskView) : Type 0 where
  pub history : List Transition
  pub is : IsHistory first history
  pub ends : disk_after first history ≡ last
  pub keeps : kept (calls history) ≡ bytes ∷ []

abbrev pub CallsInARowAreAHistory : Type 0
CallsInARowAreAHistory =
    (name bytes : List ℕ) (first opened_then read_then finished_then last : DiskView) (reader ended : Place) (gate next : ℕ)
    → Opens name first (Ok reader) opened_then → Reads reader opened_then (Ok None) ended read_then
    → Finishes ended.at read_then (Ok gate) finished_then → Appends gate bytes finished_then (Ok next) last → IsFirstAppend bytes first last
