-- What the calls of a journal do to a disk, whatever its file.
use Rattle.std.specs.Prelude.{ℕ, ◌+◌, ◌^◌, ◌<◌, ◌≤◌, max, ◌≡◌, ◌⊎◌, ◌↔◌, true, false, Option, Some, None, List, [], ◌∷◌, ◌++◌, length, take, drop, get_or, Result, Ok, IsErr, IsErrOf}
use Rattle.route_io.specs.Causes.{RoseIf, StaysTold}
use Rattle.acceptor_journal.specs.Views.{DiskView}
use Rattle.acceptor_journal.specs.Images.{LeavesNow, LeavesOnly, ReadsAnImage, IsDurable}
use Rattle.acceptor_journal.specs.Disks.{opened, synced, written}
use Rattle.acceptor_journal.specs.Records.{Back, body}
use Rattle.acceptor_journal.specs.Places.{Place}
use Rattle.acceptor_journal.specs.declared.journal.JournalEnd.{JournalEnd}
use Rattle.acceptor_journal.specs.declared.journal.JournalEnd.TheVariants.{Fault, Full}
use Rattle.acceptor_journal.specs.declared.journal.TheConstants.{MOST_JOURNAL_BYTES}

-- ---- what a journal does to a file

-- a reader before the first byte
abbrev pub at_start : Place
at_start = record { at = 0; ended = false }

-- what a reader at this place of a file gives, and where it is then: the next record, and the place after it; or None,
-- if there is no further record
abbrev pub IsNext : List ℕ → ℕ → Option (List ℕ) → Place → Type 0
IsNext file at (Some bytes) next =
    (Back (drop at file) ≡ bytes ∷ Back (drop next.at file)) × (next ≡ record { at = at + (5 + length bytes); ended = false })
    × (next.at < length file)
IsNext file at None next = (Back (drop at file) ≡ []) × (next ≡ record { at = at; ended = true })

-- the file with a closed gate at this place
abbrev pub shut : ℕ → List ℕ → List ℕ
shut at file = take at file ++ 0 ∷ drop (at + 1) file

-- the same file except for the gate at this place, which may be any byte, and may be missing if there was none. A gate
-- that was closed stays closed
pub record ButForGate (at : ℕ) (file image : List ℕ) : Type 0 where
  pub front : take at image ≡ take at file
  pub behind : drop (at + 1) image ≡ drop (at + 1) file
  pub no_shorter : length file ≤ length image
  pub no_longer : length image ≤ max (length file) (at + 1)
  pub stays_shut : get_or file at 1 ≡ 0 → image ≡ file

-- the file with a record of these bytes at this place, with this gate byte, and a closed gate after it
abbrev pub with_record : ℕ → ℕ → List ℕ → List ℕ → List ℕ
with_record gate at bytes file = take at file ++ gate ∷ (body bytes ++ 0 ∷ drop (at + (6 + length bytes)) file)

-- up to the gate at this place the file is the same; or the gate may be any byte, and the record after it is whole
abbrev pub IsMidway : ℕ → List ℕ → List ℕ → List ℕ → Type 0
IsMidway at bytes file image =
    (take (at + 1) image ≡ take (at + 1) file) ⊎ ((gate : ℕ) × (image ≡ with_record gate at bytes file))

-- ---- what the calls promise

-- what each call keeps: a read gives a file that a crash may leave, and content that was told is still told
pub record KeepsTelling (old new : DiskView) : Type 0 where
  pub reads : ReadsAnImage old → ReadsAnImage new
  pub told : StaysTold old.content new.content

-- a call that opened the file
pub record Opens (name : List ℕ) (old : DiskView) (answer : Result Place JournalEnd) (new : DiskView) : Type 0 where
  -- Ok: the file was opened with this name, its content was made durable, and nothing else was done
  pub ok : (reader : Place) → answer ≡ Ok reader → (reader ≡ at_start) × (new ≡ synced (opened name old))
  -- at no moment does a crash leave a file that it could not have left before
  pub moments : ReadsAnImage old → LeavesOnly old new (LeavesNow old)
  pub telling : KeepsTelling old new
  pub not_full : ¬ IsErrOf answer Full
  pub fault : RoseIf (IsErrOf answer Fault) old.faults new.faults

-- a call that read from this place on
pub record Reads (reader : Place) (old : DiskView) (answer : Result (Option (List ℕ)) JournalEnd) (next : Place) (new : DiskView) : Type 0 where
  -- Ok: the next record, or that there is none
  pub ok : (given : Option (List ℕ)) → answer ≡ Ok given → (file : List ℕ) → old.content ≡ Some file → IsNext file reader.at given next
  -- and nothing was done
  pub same : (given : Option (List ℕ)) → answer ≡ Ok given → new ≡ old
  -- a record moves the place forward, whatever the disk tells
  pub forward : (bytes : List ℕ) → answer ≡ Ok (Some bytes) → (next.at ≡ reader.at + (5 + length bytes)) × (next.at < 2 ^ 64)
  -- None leaves the place, and says that there are no more records; no other answer says so
  pub at_end : answer ≡ Ok None → next ≡ record { at = reader.at; ended = true }
  pub ended : next.ended ≡ true → (answer ≡ Ok None) ⊎ (IsErr answer × (next ≡ reader))
  pub unmoved : IsErr answer → next ≡ reader
  pub moments : ReadsAnImage old → LeavesOnly old new (LeavesNow old)
  pub telling : KeepsTelling old new
  pub not_full : ¬ IsErrOf answer Full
  pub fault : RoseIf (IsErrOf answer Fault) old.faults new.faults

-- a call that closed the gate at this place
pub record Finishes (at : ℕ) (old : DiskView) (answer : Result ℕ JournalEnd) (new : DiskView) : Type 0 where
  -- Ok: the journal is at this gate
  pub place : (gate : ℕ) → answer ≡ Ok gate → gate ≡ at
  -- at most the gate was written, and then everything was made durable
  pub does : (gate : ℕ) → answer ≡ Ok gate → (new ≡ synced old) ⊎ (new ≡ synced (written at (0 ∷ []) old))
  -- what is read is the file with the gate closed; no other byte has changed
  pub content : (gate : ℕ) → answer ≡ Ok gate → (file : List ℕ) → old.content ≡ Some file → at ≤ length file → new.content ≡ Some (shut at file)
  -- a crash leaves this and nothing else, if it left what was read before the call
  pub ok : (gate : ℕ) → answer ≡ Ok gate → (file : List ℕ) → IsDurable old file → at ≤ length file → IsDurable new (shut at file)
  -- and at each moment of the call it leaves the file, except for the gate
  pub moments : (file : List ℕ) → IsDurable old file → at ≤ length file → LeavesOnly old new (ButForGate at file)
  pub telling : KeepsTelling old new
  pub not_full : ¬ IsErrOf answer Full
  pub fault : RoseIf (IsErrOf answer Fault) old.faults new.faults

-- a call that appended these bytes after the gate at this place
pub record Appends (at : ℕ) (bytes : List ℕ) (old : DiskView) (answer : Result ℕ JournalEnd) (new : DiskView) : Type 0 where
  -- Ok: the journal is at the gate after the record
  pub place : (gate : ℕ) → answer ≡ Ok gate → gate ≡ at + (5 + length bytes)
  -- the record was written with a closed gate after it and made durable, and then its gate was
  pub does : (gate : ℕ) → answer ≡ Ok gate → new ≡ synced (written at (1 ∷ []) (synced (written (at + 1) (body bytes ++ 0 ∷ []) old)))
  -- what is read is the file with the record, its gate open, and a closed gate after it
  pub content : (gate : ℕ) → answer ≡ Ok gate → (file : List ℕ) → old.content ≡ Some file → at < length file → new.content ≡ Some (with_record 1 at bytes file)
  -- a crash leaves this and nothing else, if it left what was read before the call
  pub ok : (gate : ℕ) → answer ≡ Ok gate → (file : List ℕ) → IsDurable old file → at < length file → IsDurable new (with_record 1 at bytes file)
  -- at each moment of the call it leaves the gate as before, or the whole record after it
  pub moments : (file : List ℕ) → IsDurable old file → at < length file → LeavesOnly old new (IsMidway at bytes file)
  -- Full: exactly where the closed gate after the record would end above the limit; then nothing is done
  pub full : IsErrOf answer Full ↔ (MOST_JOURNAL_BYTES < at + (6 + length bytes))
  pub full_same : IsErrOf answer Full → new ≡ old
  pub telling : KeepsTelling old new
  pub fault : RoseIf (IsErrOf answer Fault) old.faults new.faults
