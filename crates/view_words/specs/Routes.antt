-- The words of routes.
use Rattle.std.specs.Prelude.{ℕ, Option, Some, None, List, ◌++◌, codes}
use Rattle.std.specs.List.{flat_map}
use Rattle.std.specs.Fmt.{decimal}
use Rattle.topology.specs.declared.prefixes.Prefix.{Prefix}
use Rattle.schedule_file.specs.Spelling.{prefix_text}
use Rattle.view_words.specs.Lines.{ended}

-- the nodes of a path, each after a space
abbrev pub nodes_text : List ℕ → List ℕ
nodes_text nodes = flat_map (λ n. codes " " ++ decimal n) nodes

-- a path, or none
abbrev pub path_text : Option (List ℕ) → List ℕ
path_text None = codes " none"
path_text (Some nodes) = nodes_text nodes

-- the route of one node to one prefix
abbrev pub rib_line : ℕ → Prefix → Option (List ℕ) → List ℕ
rib_line node prefix path =
    ended (codes "rib " ++ decimal node ++ codes " " ++ prefix_text prefix ++ codes ":" ++ path_text path)
