-- Which lines of a text are rows of printed tables, and which of them are misspelled.
use Rattle.std.specs.Prelude.{ℕ, suc, ◌-◌, ◌==◌, ◌&&◌, nat_le, Bool, true, false, Option, Some, None, List, [], ◌∷◌, length, map, take, codes, bytes_eq, slice_index_or, if◌then◌else◌}
use Rattle.std.specs.List.{list_all}
use Rattle.topology.specs.declared.prefixes.Prefix.{Prefix}
use Rattle.schedule_file.specs.Spelling.{words_by_line}
use Rattle.schedule_file.specs.Table.{spells_field}
use Rattle.schedule_file.specs.Table.Field.{NodeNumber, EpochNumber, Masked}
use Rattle.schedule_file.specs.Words.{number_of, prefix_of}
use Rattle.table_audit.specs.declared.lines.Says.{Says}
use Rattle.table_audit.specs.declared.lines.Says.TheVariants.{Nothing, Row, Misspelled}
use Rattle.topology.specs.declared.limits.TheConstants.{MOST_NODES}
use Rattle.table_audit.specs.declared.rows.AuditRow.{AuditRow}

-- the list is empty
abbrev pub is_empty : {A : Type 0} → List A → Bool
is_empty [] = true
is_empty (x ∷ xs) = false

-- a word that ends with a colon (58), without it
abbrev pub before_colon : List ℕ → Option (List ℕ)
before_colon word = if slice_index_or word (length word - 1) 0 == 58 then Some (take (length word - 1) word) else None

-- there is a word, and it spells an epoch
abbrev pub spells_epoch : Option (List ℕ) → Bool
spells_epoch None = false
spells_epoch (Some word) = spells_field EpochNumber word

-- the words after the node say that the table was not published: the epoch with a colon, and "unpublished"
abbrev pub is_unpublished : (epoch word : List ℕ) → Bool
is_unpublished epoch word = spells_epoch (before_colon epoch) && bytes_eq word (codes "unpublished")

-- the path that words spell: empty for none, or 1 to 64 numbers of nodes
abbrev pub path_in : List (List ℕ) → Option (List ℕ)
path_in [] = None
path_in (word ∷ words) =
    if bytes_eq word (codes "none") then (if is_empty words then Some [] else None)
    else if list_all (spells_field NodeNumber) (word ∷ words) && nat_le (length (word ∷ words)) MOST_NODES
    then Some (map number_of (word ∷ words))
    else None

-- the row of these parts, if the path is spelled
abbrev pub row_by : (line node epoch : ℕ) → Prefix → Option (List ℕ) → Says
row_by line node epoch prefix None = Misspelled
row_by line node epoch prefix (Some path) =
    Row (record { line = line; node = node; epoch = epoch; prefix = prefix; path = path })

abbrev pub row_for : (line node epoch : ℕ) → Option (List ℕ) → List (List ℕ) → Says
row_for line node epoch None words = Misspelled
row_for line node epoch (Some word) words =
    if spells_field Masked word then row_by line node epoch (prefix_of word) (path_in words) else Misspelled

-- what the words after "table" say in this line: a node, an epoch, a prefix with a colon and a path; or a node, an
-- epoch with a colon, and that the table was not published
abbrev pub says_behind : (line : ℕ) → List (List ℕ) → Says
says_behind line (node ∷ epoch ∷ word ∷ words) =
    if spells_field NodeNumber node
    then (if is_unpublished epoch word then (if is_empty words then Nothing else Misspelled)
    else if spells_field EpochNumber epoch then row_for line (number_of node) (number_of epoch) (before_colon word) words
    else Misspelled)
    else Misspelled
says_behind line other = Misspelled

-- what the words of a line say; a line that begins with another word says nothing
abbrev pub says : (line : ℕ) → List (List ℕ) → Says
says line [] = Nothing
says line (word ∷ words) = if bytes_eq word (codes "table") then says_behind line words else Nothing

-- the row in front of the later ones
abbrev pub with_row : Says → List AuditRow → List AuditRow
with_row Nothing later = later
with_row (Row row) later = row ∷ later
with_row Misspelled later = later

-- the rows of these lines, of which the first has this number
abbrev pub rows_from : (line : ℕ) → List (List (List ℕ)) → List AuditRow
rows_from line [] = []
rows_from line (words ∷ lines) = with_row (says line words) (rows_from (suc line) lines)

-- this line if it is misspelled, else a later one
abbrev pub misspelled_or : (line : ℕ) → Says → Option ℕ → Option ℕ
misspelled_or line Nothing later = later
misspelled_or line (Row row) later = later
misspelled_or line Misspelled later = Some line

-- the first of these lines that is misspelled
abbrev pub first_misspelled_from : (line : ℕ) → List (List (List ℕ)) → Option ℕ
first_misspelled_from line [] = None
first_misspelled_from line (words ∷ lines) =
    misspelled_or line (says line words) (first_misspelled_from (suc line) lines)

-- the rows of a text
unfoldable pub rows_of : List ℕ → List AuditRow
rows_of bytes = rows_from 1 (words_by_line bytes)

-- its first misspelled line: it begins with the word table, but is not a line of a table
unfoldable pub first_misspelled : List ℕ → Option ℕ
first_misspelled bytes = first_misspelled_from 1 (words_by_line bytes)
