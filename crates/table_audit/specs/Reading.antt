-- Reading rows word by word.
use Rattle.std.specs.Prelude.{ℕ, ◌≡◌, ◌&&◌, nat_lt, Option, Some, None, List, [], ◌∷◌, ◌++◌, length, if◌then◌else◌}
use Rattle.schedule_file.specs.Table.{spells_field}
use Rattle.schedule_file.specs.Table.Field.{NodeNumber}
use Rattle.schedule_file.specs.Words.{number_of}
use Rattle.topology.specs.declared.limits.TheConstants.{MOST_NODES}
use Rattle.table_audit.specs.declared.reading.RowsEnd.{RowsEnd}
use Rattle.table_audit.specs.declared.reading.RowsEnd.TheVariants.{NoMemory, Misspelled}
use Rattle.table_audit.specs.Tables.{first_misspelled}

-- these nodes, followed by those that the words spell
abbrev pub nodes_behind : List ℕ → List (List ℕ) → Option (List ℕ)
nodes_behind nodes [] = Some nodes
nodes_behind nodes (word ∷ words) =
    if spells_field NodeNumber word && nat_lt (length nodes) MOST_NODES
    then nodes_behind (nodes ++ number_of word ∷ []) words
    else None

-- a named line is the first misspelled one; NoMemory may come at any time
abbrev pub SaysWhy : List ℕ → RowsEnd → Type 0
SaysWhy bytes NoMemory = Unit {0}
SaysWhy bytes (Misspelled line) = first_misspelled bytes ≡ Some line
