-- The records of a journal's file. Each has a gate byte, four bytes with its length, the highest first, and its bytes.
use Rattle.std.specs.Prelude.{ℕ, zero, suc, ◌+◌, ◌==◌, ◌&&◌, ◌≡◌, ◌⊎◌, nat_lt, Bool, if◌then◌else◌, Option, Some, None, List, [], ◌∷◌, ◌++◌, length, take, drop}
use Rattle.std.specs.Int.{w32, to_be_bytes, from_be_bytes}

-- the length that the first four bytes spell
abbrev pub length_in : List ℕ → ℕ
length_in bytes = from_be_bytes w32 (take 4 bytes)

-- after a gate there are a length, as many bytes, and at least one more byte
abbrev pub is_whole : List ℕ → Bool
is_whole behind = nat_lt (4 + length_in behind) (length behind)

-- the bytes of that record
abbrev pub bytes_in : List ℕ → List ℕ
bytes_in behind = take (length_in behind) (drop 4 behind)

-- the records from here on, where the first n bytes still belong to the record before. There is a record if the gate is
-- 1 and what follows it is whole; otherwise the list ends
unfoldable pub records_behind : ℕ → List ℕ → List (List ℕ)
records_behind n [] = []
records_behind (suc n) (b ∷ rest) = records_behind n rest
records_behind zero (gate ∷ rest) =
    if (gate == 1) && is_whole rest then bytes_in rest ∷ records_behind (4 + length_in rest) rest else []

-- the records of a file, read from its first byte on. The place of a record is that of its gate byte. A record may have
-- no bytes; the journal does not interpret them
abbrev pub Back : List ℕ → List (List ℕ)
Back file = records_behind 0 file

-- what follows the gate of the record of these bytes
abbrev pub body : List ℕ → List ℕ
body bytes = to_be_bytes w32 (length bytes) ++ bytes

-- how many bytes these records take, which is the place of the gate after them
abbrev pub place_behind : List (List ℕ) → ℕ
place_behind [] = 0
place_behind (r ∷ records) = (5 + length r) + place_behind records

-- the records that are read back are these, or these and the further one
abbrev pub IsKept : List (List ℕ) → Option (List ℕ) → List (List ℕ) → Type 0
IsKept records None back = back ≡ records
IsKept records (Some further) back = (back ≡ records) ⊎ (back ≡ records ++ further ∷ [])
