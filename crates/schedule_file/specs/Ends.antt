-- The meaning of each end of a parse.
use Rattle.std.specs.Prelude.{ℕ, ◌≡◌, List, Result, Ok, Err}
use Rattle.topology.specs.declared.status.BadKind.{BadKind}
use Rattle.schedule_file.specs.declared.table.Part.{Part}
use Rattle.schedule_file.specs.declared.parser.ParseEnd.{ParseEnd}
use Rattle.schedule_file.specs.declared.parser.ParseEnd.TheVariants.{NoMemory, Bad}
use Rattle.schedule_file.specs.Refusals.{FirstBadIn}

-- a named line is the first bad one, with its fault; NoMemory may come at any time
abbrev pub SaysWhy : Part → List ℕ → ParseEnd → Type 0
SaysWhy behind bytes NoMemory = Unit {0}
SaysWhy behind bytes (Bad line kind) = FirstBadIn behind bytes line kind

abbrev pub IsWantOfMemory : ParseEnd → Type 0
IsWantOfMemory NoMemory = Unit {0}
IsWantOfMemory (Bad line kind) = ⊥

-- this line is named with this fault, or memory ran out
abbrev pub IsBadOrMemory : {T : Type 0} → ℕ → BadKind → Result T ParseEnd → Type 0
IsBadOrMemory number bad (Ok done) = ⊥
IsBadOrMemory number bad (Err NoMemory) = Unit {0}
IsBadOrMemory number bad (Err (Bad line kind)) = (line ≡ number) × (kind ≡ bad)
