-- What a file that a journal wrote looks like, at any moment.
use Rattle.std.specs.Prelude.{ℕ, ◌^◌, ◌<◌, ◌≤◌, ◌≡◌, ◌⊎◌, Option, Some, None, List, [], ◌∷◌, ◌++◌, length}
use Rattle.acceptor_journal.specs.Records.{Back, IsKept, body, place_behind}

-- these bytes read as these records, whatever follows
pub record Fronts (records : List (List ℕ)) (front : List ℕ) : Type 0 where
  pub long : length front ≡ place_behind records
  pub reads : (byte : ℕ) (rest : List ℕ) → Back (front ++ byte ∷ rest) ≡ records ++ Back (byte ∷ rest)

-- these records, then a closed gate, then anything
pub record IsClosed (records : List (List ℕ)) (file : List ℕ) : Type 0 where
  pub front : List ℕ
  pub rest : List ℕ
  pub fronts : Fronts records front
  pub is : file ≡ front ++ 0 ∷ rest

-- no record, and at most one byte: the first gate was not written yet, or is torn
pub record IsBegun (records : List (List ℕ)) (file : List ℕ) : Type 0 where
  pub none : records ≡ []
  pub short : length file ≤ 1

-- these records, then a gate of any byte, then a further record, whole, and a closed gate after it
pub record IsStaged (records : List (List ℕ)) (further file : List ℕ) : Type 0 where
  pub front : List ℕ
  pub gate : ℕ
  pub rest : List ℕ
  pub fronts : Fronts records front
  pub small : length further < 2 ^ 32
  pub is : file ≡ front ++ gate ∷ (body further ++ 0 ∷ rest)

-- a file of these records, to which the further one, if there is one, may have been appended
abbrev pub IsJournalOf : List (List ℕ) → Option (List ℕ) → List ℕ → Type 0
IsJournalOf records None file = IsClosed records file ⊎ IsBegun records file
IsJournalOf records (Some further) file = (IsClosed records file ⊎ IsBegun records file) ⊎ IsStaged records further file

-- a file that a journal wrote, at whatever moment a crash left it: of some records, and at most one more
pub record IsJournalFile (file : List ℕ) : Type 0 where
  pub records : List (List ℕ)
  pub further : Option (List ℕ)
  pub shape : IsJournalOf records further file

-- the records that are read back are these, or these and the further one; and a journal can go on with the file
pub record HoldsKept (records : List (List ℕ)) (further : Option (List ℕ)) (file : List ℕ) : Type 0 where
  pub kept : IsKept records further (Back file)
  pub journal : IsJournalFile file
