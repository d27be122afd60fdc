-- The words of tables.
use Rattle.std.specs.Prelude.{ℕ, Option, List, ◌++◌, codes}
use Rattle.std.specs.Fmt.{decimal}
use Rattle.topology.specs.declared.prefixes.Prefix.{Prefix}
use Rattle.schedule_file.specs.Spelling.{prefix_text}
use Rattle.view_words.specs.Lines.{ended}
use Rattle.view_words.specs.Routes.{path_text}

-- a node and an epoch
abbrev pub table_head : ℕ → ℕ → List ℕ
table_head u e = codes "table " ++ decimal u ++ codes " " ++ decimal e

-- a prefix, as it stands in its lines
abbrev pub prefix_name : Prefix → List ℕ
prefix_name prefix = codes " " ++ prefix_text prefix ++ codes ":"

-- the path of a prefix in the table of e at u
abbrev pub table_line : ℕ → ℕ → Prefix → Option (List ℕ) → List ℕ
table_line u e prefix path = ended (table_head u e ++ codes " " ++ prefix_text prefix ++ codes ":" ++ path_text path)

-- u has published no table of e
abbrev pub unpublished_line : ℕ → ℕ → List ℕ
unpublished_line u e = ended (table_head u e ++ codes ": unpublished")
