-- Which lines make a schedule: each line is spelled, and may follow those before it.
use Rattle.std.specs.Prelude.{ℕ, suc, Bool, true, false, not, ◌≡◌, ◌&&◌, is_none, IsTrue, Option, Some, None, List, [], ◌∷◌, ◌++◌, length, map, if◌then◌else◌}
use Rattle.std.specs.List.{All}
use Rattle.topology.specs.declared.prefixes.Prefix.{Prefix as Range}
use Rattle.topology.specs.declared.building.BuildError.{BuildError}
use Rattle.topology.specs.declared.building.BuildError.TheVariants as building
use Rattle.topology.specs.declared.status.BadKind.{BadKind}
use Rattle.topology.specs.declared.status.BadKind.TheVariants as bad
use Rattle.topology.specs.Lists.{has}
use Rattle.topology.specs.Net.{Net, linked, has_prefix, same_prefix}
use Rattle.topology.specs.Building.{nothing, with_node, with_link, with_pref, with_hold, with_prefix, with_hops, with_scheme, node_refusal, link_refusal, pref_refusal, prefix_refusal, scheme_refusal}
use Rattle.schedule_file.specs.declared.lines.Line.{Line}
use Rattle.schedule_file.specs.declared.lines.Line.TheVariants.{Blank, Begin, Declares, Directs}
use Rattle.schedule_file.specs.declared.lines.Declaration.{Declaration}
use Rattle.schedule_file.specs.declared.lines.Declaration.TheVariants.{Node, Link, Pref, Hold, Prefix, Hops, Transient}
use Rattle.schedule_file.specs.declared.directives.Directive.{Directive}
use Rattle.schedule_file.specs.declared.directives.Rest.{Rest}
use Rattle.schedule_file.specs.declared.directives.Rest.TheVariants.{Origin, Single, Pair, Prefer, Propose, Inject}
use Rattle.schedule_file.specs.declared.lines.Numbered.{Numbered}
use Rattle.schedule_file.specs.declared.lines.Schedule.{Schedule}
use Rattle.schedule_file.specs.Spelling.{words_by_line}
use Rattle.schedule_file.specs.Lines.{DirectsInRange, Spells}
use Rattle.schedule_file.specs.declared.table.Part.{Part}
use Rattle.schedule_file.specs.declared.table.Part.TheVariants.{Network, Run, Over}
use Rattle.schedule_file.specs.Directives.{rest_of, renamed}
use Rattle.schedule_file.specs.Table.{may_declare, may_direct}

-- lists of lines are newest first

-- what a declaration adds to the network; a hop limit or scheme replaces the earlier one
abbrev pub with_declaration : Declaration → Net → Net
with_declaration (Node id consolidator) net = with_node net id consolidator
with_declaration (Link a b relation) net = with_link net (record { a = a; b = b; relation = relation })
with_declaration (Pref a b value) net = with_pref net (record { a = a; b = b; value = value })
with_declaration (Hold a b) net = with_hold net (record { a = a; b = b })
with_declaration (Prefix p) net = with_prefix net p
with_declaration (Hops hops) net = with_hops net hops
with_declaration (Transient scheme) net = with_scheme net scheme

-- what a line adds to the network
abbrev pub with_line : Line → Net → Net
with_line Blank net = net
with_line Begin net = net
with_line (Declares declaration) net = with_declaration declaration net
with_line (Directs directive) net = net

-- the network that the lines describe
abbrev pub net_of : List Line → Net
net_of [] = nothing
net_of (line ∷ earlier) = with_line line (net_of earlier)

-- one of the lines is begin
abbrev pub begun : List Line → Bool
begun [] = false
begun (Blank ∷ earlier) = begun earlier
begun (Begin ∷ earlier) = true
begun (Declares declaration ∷ earlier) = begun earlier
begun (Directs directive ∷ earlier) = begun earlier

-- which lines may follow these, if `behind` are the lines allowed after begin
abbrev pub part_in : Part → List Line → Part
part_in behind earlier = if begun earlier then behind else Network

-- the line may stand in this part; begin ends the first part
abbrev pub stands : Part → Line → Bool
stands part Blank = true
stands part Begin = may_declare part
stands part (Declares declaration) = may_declare part
stands part (Directs directive) = may_direct part

-- the fault for each refusal of the network; NoMemory is not a fault of the line
abbrev pub kind_of : BuildError → Option BadKind
kind_of building.DuplicateNode = Some bad.DuplicateNode
kind_of (building.UnknownNode id) = Some bad.UnknownNode
kind_of building.DuplicateLink = Some bad.DuplicateLink
kind_of building.SelfLink = Some bad.SelfLink
kind_of building.DuplicatePrefix = Some bad.DuplicatePrefix
kind_of building.TooMany = Some bad.TooMany
kind_of building.NoMemory = None
kind_of building.NoLink = Some bad.NoLink

abbrev pub fault_from : Option BuildError → Option BadKind
fault_from None = None
fault_from (Some refusal) = kind_of refusal

-- the first fault of a node and a prefix that must be declared
abbrev pub origin_fault : Net → ℕ → Range → Option BadKind
origin_fault net node p =
    if not (has net.nodes node) then Some bad.UnknownNode
    else if not (has_prefix net p) then Some bad.UnknownPrefix
    else None

-- the first fault of a node that must be declared
abbrev pub node_fault : Net → ℕ → Option BadKind
node_fault net node = if not (has net.nodes node) then Some bad.UnknownNode else None

-- the first fault of two different nodes with a link
abbrev pub pair_fault : Net → ℕ → ℕ → Option BadKind
pair_fault net a b = fault_from (pref_refusal net a b)

-- the first fault of a node and its neighbour; a node has no link with itself, so equal ends are no separate fault
abbrev pub neighbour_fault : Net → ℕ → ℕ → Option BadKind
neighbour_fault net node nbr =
    if not (has net.nodes node) then Some bad.UnknownNode
    else if not (has net.nodes nbr) then Some bad.UnknownNode
    else if not (linked net node nbr) then Some bad.NoLink
    else None

-- the first fault of the names of a declaration: an unknown node, equal ends, no link, a duplicate, too many
abbrev pub declared_fault : Net → Declaration → Option BadKind
declared_fault net (Node id consolidator) = fault_from (node_refusal net id consolidator)
declared_fault net (Link a b relation) = fault_from (link_refusal net a b)
declared_fault net (Pref a b value) = fault_from (pref_refusal net a b)
declared_fault net (Hold a b) = fault_from (pref_refusal net a b)
declared_fault net (Prefix p) = fault_from (prefix_refusal net p)
declared_fault net (Hops hops) = None
declared_fault net (Transient scheme) = fault_from (scheme_refusal net scheme)

-- the first fault of the names among these words: an unknown node, an unknown prefix, equal ends, no link
abbrev pub rest_fault : Net → Rest Range → Option BadKind
rest_fault net (Origin node p) = origin_fault net node p
rest_fault net (Single node) = node_fault net node
rest_fault net (Pair a b) = pair_fault net a b
rest_fault net (Prefer node nbr value) = neighbour_fault net node nbr
rest_fault net (Propose node epoch) = node_fault net node
rest_fault net (Inject packet node p) = origin_fault net node p
rest_fault net other = None

-- the first fault of the names of a directive
abbrev pub directed_fault : Net → Directive Range → Option BadKind
directed_fault net directive = rest_fault net (rest_of directive)

-- the first fault of the names of a line
abbrev pub name_fault : Net → Line → Option BadKind
name_fault net Blank = None
name_fault net Begin = None
name_fault net (Declares declaration) = declared_fault net declaration
name_fault net (Directs directive) = directed_fault net directive

-- the line may follow these
abbrev pub allowed : Part → List Line → Line → Bool
allowed behind earlier line = stands (part_in behind earlier) line && is_none (name_fault (net_of earlier) line)

-- the place of the prefix in file order, from 0
abbrev pub place_in : Range → List Range → ℕ
place_in p [] = 0
place_in p (q ∷ qs) = if same_prefix p q then 0 else suc (place_in p qs)

-- the directive with the place of its prefix
abbrev pub directive_of : Net → Directive Range → Directive ℕ
directive_of net directive = renamed (λ p. place_in p net.prefixes) directive

-- the directives of a line
abbrev pub directed : Net → Line → List (Directive ℕ)
directed net Blank = []
directed net Begin = []
directed net (Declares declaration) = []
directed net (Directs directive) = directive_of net directive ∷ []

-- the directives of the lines, the oldest first, each with the number of its line
abbrev pub directives_of : List Line → List Numbered
directives_of [] = []
directives_of (line ∷ earlier) =
    directives_of earlier ++ map (λ d. record { line = suc (length earlier); directive = d }) (directed (net_of earlier) line)

-- the texts are spelled, one by one, by lines that may follow the earlier ones, and `all` are the lines then; a text
-- without words is Blank
abbrev pub ReadsIn : Part → List Line → List (List (List ℕ)) → List Line → Type 0
ReadsIn behind earlier [] all = all ≡ earlier
ReadsIn behind earlier (words ∷ others) all =
    (line : Line) × Spells words line × IsTrue (allowed behind earlier line) × ReadsIn behind (line ∷ earlier) others all

-- the same for a schedule, which has a second part
abbrev pub Reads : List Line → List (List (List ℕ)) → List Line → Type 0
Reads earlier texts all = ReadsIn Run earlier texts all

-- the bytes are the file of this schedule, if such lines may follow begin
abbrev pub IsRead : Part → List ℕ → Schedule → Type 0
IsRead behind bytes schedule =
    (lines : List Line) × ReadsIn behind [] (words_by_line bytes) lines × (schedule.topology ≡ net_of lines) × (schedule.lines.items ≡ directives_of lines)

-- the bytes are the file of this schedule
abbrev pub IsFile : List ℕ → Schedule → Type 0
IsFile bytes schedule = IsRead Run bytes schedule

-- the bytes are the file of this network alone: after begin no line has words
abbrev pub IsTopologyFile : List ℕ → Net → Type 0
IsTopologyFile bytes net = (lines : List Line) × ReadsIn Over [] (words_by_line bytes) lines × (net ≡ net_of lines)

-- the directive is that of a line whose numbers are in range and whose names are in the network
pub record IsDirected (net : Net) (d : Directive ℕ) : Type 0 where
  pub line : Directive Range
  pub same : d ≡ directive_of net line
  pub in_range : DirectsInRange line
  pub named : directed_fault net line ≡ None

abbrev pub AreDirected : Net → List Numbered → Type 0
AreDirected net lines = All (λ (d : Numbered). IsDirected net d.directive) lines
