-- A packet that was found among the numbers of all packets.
use Rattle.std.specs.Prelude.{ℕ, ◌≡◌, ◌==◌, Option, Some, None, List, position}
use Rattle.run_record.specs.declared.walks.Found.{Found}

-- the place is the first one of its number; nothing, if none was found
abbrev pub IsFound : Option Found → List ℕ → Type 0
IsFound None numbers = Unit {0}
IsFound (Some found) numbers = position (λ n. found.number == n) numbers ≡ Some found.place
