-- The effect of a journal's calls on a disk where a crash leaves what a read gives, with a file that a journal wrote.
use Rattle.std.specs.Prelude.{ℕ, ◌≡◌, ◌⊎◌, true, Option, Some, None, List, [], ◌∷◌, ◌++◌, length, Result, Ok, Err, IsErr}
use Rattle.acceptor_journal.specs.Views.{DiskView}
use Rattle.acceptor_journal.specs.Images.{LeavesOnly, IsDurable}
use Rattle.acceptor_journal.specs.Records.{Back, place_behind}
use Rattle.acceptor_journal.specs.JournalFiles.{Fronts, HoldsKept, IsClosed, IsJournalFile}
use Rattle.acceptor_journal.specs.Places.{Place}
use Rattle.acceptor_journal.specs.Journals.{Opens, Reads, Finishes, Appends}
use Rattle.acceptor_journal.specs.declared.journal.JournalEnd.{JournalEnd}
use Rattle.acceptor_journal.specs.declared.journal.JournalEnd.TheVariants.{Full}

-- these records are the first of the file, and this is the place after them
pub record ReadUpTo (at : ℕ) (given : List (List ℕ)) (file : List ℕ) : Type 0 where
  pub front : List ℕ
  pub rest : List ℕ
  pub fronts : Fronts given front
  pub is : file ≡ front ++ rest
  pub place : at ≡ length front
  pub back : Back file ≡ given ++ Back rest

-- the file is durable, and the reader has given these records of it; all of them, if it has ended
pub record HasRead (reader : Place) (disk : DiskView) (file : List ℕ) (given : List (List ℕ)) : Type 0 where
  pub durable : IsDurable disk file
  pub up_to : ReadUpTo reader.at given file
  pub ended : reader.ended ≡ true → Back file ≡ given

-- a file of these records and a closed gate is durable, and this is the place of that gate
pub record HasKept (gate : ℕ) (disk : DiskView) (records : List (List ℕ)) : Type 0 where
  pub file : List ℕ
  pub durable : IsDurable disk file
  pub closed : IsClosed records file
  pub place : gate ≡ place_behind records

-- these records, or these and one more
abbrev pub IsOrOneMore : List (List ℕ) → List (List ℕ) → Type 0
IsOrOneMore records back = (back ≡ records) ⊎ ((bytes : List ℕ) × (back ≡ records ++ bytes ∷ []))

-- ---- the effect of each call

-- a call that opened the file
pub record OpensFile (file : List ℕ) (old : DiskView) (answer : Result Place JournalEnd) (new : DiskView) : Type 0 where
  -- at each moment a crash leaves the same file
  pub moments : LeavesOnly old new (λ image. image ≡ file)
  pub durable : IsDurable new file
  -- Ok: nothing is read yet
  pub reader : (reader : Place) → answer ≡ Ok reader → HasRead reader new file []

-- a call that read the next record after these
pub record ReadsFile (file : List ℕ) (given : List (List ℕ)) (old : DiskView) (answer : Result (Option (List ℕ)) JournalEnd) (next : Place) (new : DiskView) : Type 0 where
  pub moments : LeavesOnly old new (λ image. image ≡ file)
  pub durable : IsDurable new file
  -- a record; or None, and these were all; or a failure, after which the reader is unchanged
  pub more : (bytes : List ℕ) → answer ≡ Ok (Some bytes) → HasRead next new file (given ++ bytes ∷ [])
  pub all : answer ≡ Ok None → HasRead next new file given × (next.ended ≡ true) × (Back file ≡ given)
  pub again : IsErr answer → HasRead next new file given

-- a call that closed the gate after these records, which are all that the file had
pub record FinishesFile (file : List ℕ) (records : List (List ℕ)) (old : DiskView) (answer : Result ℕ JournalEnd) (new : DiskView) : Type 0 where
  -- at each moment a crash leaves a file of the same records, or of these and one more
  pub moments : LeavesOnly old new (λ image. IsOrOneMore records (Back image) × IsJournalFile image)
  -- Ok: the file has these records, and the journal is after them
  pub kept : (gate : ℕ) → answer ≡ Ok gate → HasKept gate new records

-- a call that appended a record of these bytes after these records
pub record AppendsRecord (records : List (List ℕ)) (bytes : List ℕ) (old : DiskView) (answer : Result ℕ JournalEnd) (new : DiskView) : Type 0 where
  -- at each moment a crash leaves a file of the records before, or of these and the new one
  pub moments : LeavesOnly old new (HoldsKept records (Some bytes))
  -- Ok: the file has these records and the new one, and the journal is after it
  pub kept : (gate : ℕ) → answer ≡ Ok gate → HasKept gate new (records ++ bytes ∷ [])
  -- Full: nothing was done
  pub full : answer ≡ Err Full → new ≡ old

-- ---- the laws: each call that keeps its contract has this effect

abbrev pub EachOpening : Type 0
EachOpening =
    (name file : List ℕ) (old new : DiskView) (answer : Result Place JournalEnd) → Opens name old answer new → IsDurable old file → OpensFile file old answer new

abbrev pub EachReading : Type 0
EachReading =
    (reader next : Place) (file : List ℕ) (given : List (List ℕ)) (old new : DiskView) (answer : Result (Option (List ℕ)) JournalEnd)
    → Reads reader old answer next new → HasRead reader old file given → ReadsFile file given old answer next new

abbrev pub EachFinish : Type 0
EachFinish =
    (reader : Place) (file : List ℕ) (given : List (List ℕ)) (old new : DiskView) (answer : Result ℕ JournalEnd)
    → Finishes reader.at old answer new → HasRead reader old file given → reader.ended ≡ true → IsJournalFile file → FinishesFile file given old answer new

abbrev pub EachAppend : Type 0
EachAppend =
    (gate : ℕ) (records : List (List ℕ)) (bytes : List ℕ) (old new : DiskView) (answer : Result ℕ JournalEnd)
    → Appends gate bytes old answer new → HasKept gate old records → AppendsRecord records bytes old answer new
