-- What single words spell, as tests and values of the word.
use Rattle.std.specs.Prelude.{ℕ, Bool, ◌&&◌, ◌||◌, ◌==◌, ◌+◌, ◌*◌, ◌-◌, ◌%◌, ◌^◌, nat_le, nat_lt, List, [], ◌∷◌, map, codes, bytes_eq, get_or, if◌then◌else◌}
use Rattle.std.specs.List.{list_any, slice_split}
use Rattle.std.specs.Fmt.{decimal}
use Rattle.std.specs.Str.Parse.{digits_value}
use Rattle.topology.specs.declared.links.Relation.{Relation}
use Rattle.topology.specs.declared.links.Relation.TheVariants.{Customer, Provider, Peer, Any}
use Rattle.topology.specs.declared.prefixes.Prefix.{Prefix as Range}
use Rattle.schedule_file.specs.Spelling.{prefix_text}

-- the word at a place; empty if there is none
abbrev pub word_at : ℕ → List (List ℕ) → List ℕ
word_at place words = get_or words place []

-- the word is one of the list
abbrev pub has_word : List (List ℕ) → List ℕ → Bool
has_word words word = list_any (bytes_eq word) words

-- the number that the digits make; of no meaning for other words
abbrev pub number_of : List ℕ → ℕ
number_of word = digits_value 10 word

-- the number of the word at a place
abbrev pub number_at : ℕ → List (List ℕ) → ℕ
number_at place words = number_of (word_at place words)

-- the word is the decimal spelling of a number from low to high
unfoldable pub spells_number : ℕ → ℕ → List ℕ → Bool
spells_number low high word = bytes_eq word (decimal (number_of word)) && (nat_le low (number_of word) && nat_le (number_of word) high)

-- the numbers of a prefix, cut at the points (46) and the slash (47)
abbrev pub parts_of : List ℕ → List ℕ
parts_of word = map number_of (slice_split (λ b. b == 46 || b == 47) word)

-- four numbers, the highest first, and the length; of no meaning for other lists
abbrev pub prefix_by : List ℕ → Range
prefix_by (a ∷ b ∷ c ∷ d ∷ len ∷ []) = record { bits = ((a * 256 + b) * 256 + c) * 256 + d; len = len }
prefix_by other = record { bits = 0; len = 0 }

abbrev pub prefix_of : List ℕ → Range
prefix_of word = prefix_by (parts_of word)

-- the bits are an address, and no bit is set beyond the length
abbrev pub is_range : Range → Bool
is_range p = nat_lt p.bits (2 ^ 32) && (nat_le p.len 32 && p.bits % 2 ^ (32 - p.len) == 0)

-- the word is the spelling of a prefix
unfoldable pub spells_prefix : List ℕ → Bool
spells_prefix word = bytes_eq word (prefix_text (prefix_of word)) && is_range (prefix_of word)

-- the relation that the word names; of no meaning for other words
abbrev pub relation_of : List ℕ → Relation
relation_of word =
    if bytes_eq word (codes "customer") then Customer
    else if bytes_eq word (codes "provider") then Provider
    else if bytes_eq word (codes "peer") then Peer
    else Any
