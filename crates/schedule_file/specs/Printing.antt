-- The text that `print` writes for a schedule, and what it means that a text is read as the same schedule.
use Rattle.std.specs.Prelude.{ℕ, ◌≡◌, List, [], ◌∷◌, ◌++◌, map, Option, Some, None, option_map, unwrap_or, slice_get, find, codes, if◌then◌else◌}
use Rattle.std.specs.List.{flat_map, join_with_byte}
use Rattle.topology.specs.declared.links.Link.{Link}
use Rattle.topology.specs.declared.links.Pref.{Pref}
use Rattle.topology.specs.declared.links.Hold.{Hold}
use Rattle.topology.specs.declared.prefixes.Prefix.{Prefix as Range}
use Rattle.topology.specs.Lists.{has, ascending}
use Rattle.topology.specs.Net.{Net, neighbours, prefers, holds_back}
use Rattle.schedule_file.specs.declared.lines.Line.{Line}
use Rattle.schedule_file.specs.declared.lines.Line.TheVariants.{Begin, Declares, Directs}
use Rattle.schedule_file.specs.declared.lines.Declaration.TheVariants as declares
use Rattle.schedule_file.specs.declared.directives.Directive.{Directive}
use Rattle.schedule_file.specs.declared.lines.Numbered.{Numbered}
use Rattle.schedule_file.specs.declared.lines.Schedule.{Schedule}
use Rattle.schedule_file.specs.Spelling.{words_by_line}
use Rattle.schedule_file.specs.Directives.{renamed}
use Rattle.schedule_file.specs.Lines.{line_words}
use Rattle.schedule_file.specs.Grammar.{Reads, net_of, directives_of}

-- the words with a space (32) before each
abbrev pub spaced : List (List ℕ) → List ℕ
spaced words = flat_map (λ word. 32 ∷ word) words

-- the words of a line joined by spaces, and a newline
abbrev pub line_text : Line → List ℕ
line_text line = join_with_byte 32 (line_words line) ++ codes "\n"

-- a node, a link, a prefix, a preference and a hold as they are declared
abbrev pub node_line : Net → ℕ → Line
node_line net id = Declares (declares.Node id (has net.consolidators id))

abbrev pub link_line : Link → Line
link_line link = Declares (declares.Link link.a link.b link.relation)

abbrev pub prefix_line : Range → Line
prefix_line p = Declares (declares.Prefix p)

abbrev pub pref_line : Pref → Line
pref_line pref = Declares (declares.Pref pref.a pref.b pref.value)

abbrev pub hold_line : Hold → Line
hold_line hold = Declares (declares.Hold hold.a hold.b)

-- the lines for the hop limit and for the scheme, which are written even if the file had none
abbrev pub hops_line : Net → Line
hops_line net = Declares (declares.Hops net.hops)

abbrev pub scheme_line : Net → Line
scheme_line net = Declares (declares.Transient net.scheme)

abbrev pub packet_lines : Net → List Line
packet_lines net = hops_line net ∷ scheme_line net ∷ []

-- the preference of u for v with this value, where there is one
abbrev pub pref_with : ℕ → ℕ → Option ℕ → List Pref
pref_with u v None = []
pref_with u v (Some value) = record { a = u; b = v; value = value } ∷ []

-- the preference of u for v, if one was added
abbrev pub added : Net → ℕ → ℕ → List Pref
added net u v = pref_with u v (option_map (λ pref. pref.value) (find (prefers u v) net.preferences))

-- all preferences, ascending by node and then by neighbour
abbrev pub sorted_preferences : Net → List Pref
sorted_preferences net = flat_map (λ u. flat_map (added net u) (neighbours net u)) (ascending net.nodes)

-- the hold of u towards w, if there is one
abbrev pub held : Net → ℕ → ℕ → List Hold
held net u w = if holds_back net u w then record { a = u; b = w } ∷ [] else []

-- all holds, ascending by node and then by neighbour
abbrev pub sorted_holds : Net → List Hold
sorted_holds net = flat_map (λ u. flat_map (held net u) (neighbours net u)) (ascending net.nodes)

-- the prefix at a place in file order; any prefix where there is none
abbrev pub prefix_at : Net → ℕ → Range
prefix_at net place = unwrap_or (slice_get net.prefixes place) (record { bits = 0; len = 0 })

-- the directive with the prefix itself
abbrev pub prefixed : Net → Directive ℕ → Directive Range
prefixed net directive = renamed (prefix_at net) directive

-- the line of a directive
abbrev pub directive_line : Net → Numbered → Line
directive_line net numbered = Directs (prefixed net numbered.directive)

-- the lines up to begin: nodes, links and prefixes in file order, the preferences, the holds, then the hop limit and
-- the scheme
abbrev pub network_lines : Net → List Line
network_lines net =
    map (node_line net) net.nodes ++ map link_line net.links ++ map prefix_line net.prefixes ++ map pref_line (sorted_preferences net) ++ map hold_line (sorted_holds net) ++ packet_lines net

-- all lines
abbrev pub printed_lines : Net → List Numbered → List Line
printed_lines net directives = network_lines net ++ (Begin ∷ map (directive_line net) directives)

-- what is written
unfoldable pub printed : Net → List Numbered → List ℕ
printed net directives = flat_map line_text (printed_lines net directives)

-- the same network; preferences and holds are looked up by their two nodes, so their order does not matter
pub record SameNet (net other : Net) : Type 0 where
  pub nodes : other.nodes ≡ net.nodes
  pub consolidators : other.consolidators ≡ net.consolidators
  pub links : other.links ≡ net.links
  pub prefixes : other.prefixes ≡ net.prefixes
  pub preferences : (u v : ℕ) → find (prefers u v) other.preferences ≡ find (prefers u v) net.preferences
  pub holds : (u w : ℕ) → holds_back other u w ≡ holds_back net u w
  pub hops : other.hops ≡ net.hops
  pub scheme : other.scheme ≡ net.scheme

-- the directives without the line numbers
abbrev pub unnumbered : List Numbered → List (Directive ℕ)
unnumbered directives = map (λ numbered. numbered.directive) directives

-- the same schedule, except for the line numbers
pub record IsSame (schedule other : Schedule) : Type 0 where
  pub topology : SameNet schedule.topology other.topology
  pub directives : unnumbered other.lines.items ≡ unnumbered schedule.lines.items

-- the bytes are a file of this schedule, except for the line numbers, which are those in the bytes
pub record IsFileAgain (bytes : List ℕ) (schedule : Schedule) : Type 0 where
  pub lines : List Line
  pub reads : Reads [] (words_by_line bytes) lines
  pub topology : SameNet schedule.topology (net_of lines)
  pub directives : unnumbered (directives_of lines) ≡ unnumbered schedule.lines.items
