-- The spelling of the parts of a line.
use Rattle.std.specs.Prelude.{ℕ, ◌<◌, ◌/◌, ◌%◌, ◌^◌, List, ◌++◌, map, codes}
use Rattle.std.specs.Fmt.{decimal}
use Rattle.text_lines.specs.Lines.{lines_of, left_of}
use Rattle.text_lines.specs.Words.{words_of}
use Rattle.topology.specs.declared.links.Relation.{Relation}
use Rattle.topology.specs.declared.links.Relation.TheVariants.{Customer, Provider, Peer, Any}
use Rattle.topology.specs.declared.prefixes.Prefix.{Prefix as Range}
use Rattle.topology.specs.Net.{IsPrefix}

-- the words of each line of a file; none if a line is empty or only a comment
abbrev pub words_by_line : List ℕ → List (List (List ℕ))
words_by_line bytes = map (λ line. words_of (left_of line)) (lines_of bytes)

-- four numbers joined by points, a slash and the length
unfoldable pub prefix_text : Range → List ℕ
prefix_text p =
    decimal (p.bits / 2 ^ 24 % 256) ++ codes "." ++ decimal (p.bits / 2 ^ 16 % 256) ++ codes "." ++ decimal (p.bits / 2 ^ 8 % 256)
    ++ codes "." ++ decimal (p.bits % 256) ++ codes "/" ++ decimal p.len

-- the relation of the second end of a link to the first
abbrev pub relation_text : Relation → List ℕ
relation_text Customer = codes "customer"
relation_text Provider = codes "provider"
relation_text Peer = codes "peer"
relation_text Any = codes "any"

-- the number of a node is from 1 to 65535
abbrev pub IsNumber : ℕ → Type 0
IsNumber n = (0 < n) × (n < 2 ^ 16)

-- the bits are an address, and no bit is set beyond the length
abbrev pub IsRange : Range → Type 0
IsRange p = (p.bits < 2 ^ 32) × IsPrefix p
