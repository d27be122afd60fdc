-- The table of the grammar: each word that begins a line, how many words such a line has, on which side of begin it
-- stands, and which words may follow the first.
use Rattle.std.specs.Prelude.{ℕ, Bool, true, false, ◌&&◌, nat_le, is_some, List, [], ◌∷◌, ◌++◌, map, Option, Some, None, codes, bytes_eq, if◌then◌else◌}
use Rattle.std.specs.List.{find}
use Rattle.topology.specs.declared.status.BadKind.{BadKind}
use Rattle.topology.specs.declared.status.BadKind.TheVariants.{UnknownWord, WrongCount, BadNumber, BadPrefix}
use Rattle.schedule_file.specs.declared.directives.Directive.{Directive}
use Rattle.schedule_file.specs.declared.directives.Directive.TheVariants as directive
use Rattle.schedule_file.specs.declared.table.Keyword.{Keyword}
use Rattle.schedule_file.specs.declared.table.Keyword.TheVariants.{Node, Link, Pref, Hold, Prefix, Hops, Transient, Begin, Origin, Single, Pair, Prefer, Propose, Drain, Control, Inject, Hop, Show}
use Rattle.schedule_file.specs.declared.table.PlainView.{PlainView}
use Rattle.schedule_file.specs.declared.table.PlainView.TheVariants as plain
use Rattle.schedule_file.specs.declared.table.EpochView.{EpochView}
use Rattle.schedule_file.specs.declared.table.EpochView.TheVariants.{Cut, Closure, Tables}
use Rattle.schedule_file.specs.declared.table.View.{View}
use Rattle.schedule_file.specs.declared.table.View.TheVariants.{Plain, OfEpoch, Walk}
use Rattle.schedule_file.specs.declared.table.SchemeName.{SchemeName}
use Rattle.schedule_file.specs.declared.table.SchemeName.TheVariants.{Deflect, Detour, Backup}
use Rattle.schedule_file.specs.declared.table.Part.{Part}
use Rattle.schedule_file.specs.declared.table.Part.TheVariants.{Network, Run, Over}
use Rattle.schedule_file.specs.declared.table.Shape.{Shape}
use Rattle.topology.specs.declared.limits.TheConstants.{HIGHEST_NODE, HIGHEST_PREFERENCE, HIGHEST_HOPS, MOST_TIMES, HIGHEST_MESSAGE, HIGHEST_PACKET, HIGHEST_EPOCH}
use Rattle.schedule_file.specs.Directives.{first_word, origin_events, node_events, pair_events}
use Rattle.schedule_file.specs.Words.{has_word, word_at, spells_number, spells_prefix}

-- the word of a view of the run so far
abbrev pub plain_text : PlainView → List ℕ
plain_text plain.Rib = codes "rib"
plain_text plain.Log = codes "log"
plain_text plain.Control = codes "ctl"

-- the word of a view of one epoch
abbrev pub epoch_text : EpochView → List ℕ
epoch_text Cut = codes "cut"
epoch_text Closure = codes "closure"
epoch_text Tables = codes "tables"

-- the word after show
abbrev pub view_text : View → List ℕ
view_text (Plain view) = plain_text view
view_text (OfEpoch view) = epoch_text view
view_text Walk = codes "walk"

abbrev pub views : List View
views = Plain plain.Rib ∷ Plain plain.Log ∷ Plain plain.Control ∷ OfEpoch Cut ∷ OfEpoch Closure ∷ OfEpoch Tables ∷ Walk ∷ []

-- the view that the word after show names
abbrev pub view_in : List ℕ → Option View
view_in word = find (λ view. bytes_eq word (view_text view)) views

-- the word of a scheme for packets off the stable tables
abbrev pub scheme_text : SchemeName → List ℕ
scheme_text Deflect = codes "deflect"
scheme_text Detour = codes "detour"
scheme_text Backup = codes "backup"

abbrev pub schemes : List SchemeName
schemes = Deflect ∷ Detour ∷ Backup ∷ []

-- the scheme that the word after transient names
abbrev pub scheme_in : List ℕ → Option SchemeName
scheme_in word = find (λ name. bytes_eq word (scheme_text name)) schemes

-- the first words of these directives; what names a prefix does not matter
abbrev pub first_words : List (Directive ℕ) → List (List ℕ)
first_words ds = map first_word ds

-- the words that begin a line of this kind
abbrev pub keyword_words : Keyword → List (List ℕ)
keyword_words Node = codes "node" ∷ []
keyword_words Link = codes "link" ∷ []
keyword_words Pref = codes "pref" ∷ []
keyword_words Hold = codes "hold" ∷ []
keyword_words Prefix = codes "prefix" ∷ []
keyword_words Hops = codes "hops" ∷ []
keyword_words Transient = codes "transient" ∷ []
keyword_words Begin = codes "begin" ∷ []
keyword_words Origin = first_words (origin_events 0 0)
keyword_words Single = first_words (node_events 0)
keyword_words Pair = first_words (pair_events 0 0)
keyword_words Prefer = first_words (directive.Prefer 0 0 0 ∷ [])
keyword_words Propose = first_words (directive.Propose 0 0 ∷ [])
keyword_words Drain = first_words (directive.Drain 0 ∷ [])
keyword_words Control = first_words (directive.Control 0 ∷ [])
keyword_words Inject = first_words (directive.Inject 0 0 0 ∷ [])
keyword_words Hop = first_words (directive.Hop 0 None ∷ [])
keyword_words Show = first_words (directive.ShowRib ∷ [])

-- the first of them, which is the only one for all but events
abbrev pub keyword_text : Keyword → List ℕ
keyword_text keyword = word_at 0 (keyword_words keyword)

-- the keywords of the first part, with begin
abbrev pub network_keywords : List Keyword
network_keywords = Node ∷ Link ∷ Pref ∷ Hold ∷ Prefix ∷ Hops ∷ Transient ∷ Begin ∷ []

-- those of the second part that only names follow
abbrev pub event_keywords : List Keyword
event_keywords = Origin ∷ Single ∷ Pair ∷ []

-- the others of the second part
abbrev pub order_keywords : List Keyword
order_keywords = Prefer ∷ Propose ∷ Drain ∷ Control ∷ Inject ∷ Hop ∷ Show ∷ []

abbrev pub keywords : List Keyword
keywords = network_keywords ++ (event_keywords ++ order_keywords)

-- the kind of line that begins with this word
abbrev pub keyword_in : List ℕ → Option Keyword
keyword_in word = find (λ keyword. has_word (keyword_words keyword) word) keywords

-- a line before begin, with from `least` to `most` words
abbrev pub declares : ℕ → ℕ → Shape
declares least most = record { directs = false; least = least; most = most }

-- a line after begin, with from `least` to `most` words
abbrev pub directs : ℕ → ℕ → Shape
directs least most = record { directs = true; least = least; most = most }

-- the shape of lines of this kind; the first word counts
abbrev pub shape_of : Keyword → Shape
shape_of Node = declares 2 3
shape_of Link = declares 4 4
shape_of Pref = declares 4 4
shape_of Hold = declares 3 3
shape_of Prefix = declares 2 2
shape_of Hops = declares 2 2
shape_of Transient = declares 2 3
shape_of Begin = declares 1 1
shape_of Origin = directs 3 3
shape_of Single = directs 2 2
shape_of Pair = directs 3 3
shape_of Prefer = directs 4 4
shape_of Propose = directs 3 3
shape_of Drain = directs 2 2
shape_of Control = directs 2 3
shape_of Inject = directs 4 4
shape_of Hop = directs 2 3
shape_of Show = directs 2 3

-- lines that describe the network may stand in this part
abbrev pub may_declare : Part → Bool
may_declare Network = true
may_declare Run = false
may_declare Over = false

-- lines that say what happens may stand in this part
abbrev pub may_direct : Part → Bool
may_direct Network = false
may_direct Run = true
may_direct Over = false

-- a line of this shape may stand in this part
abbrev pub may_stand : Part → Shape → Bool
may_stand part shape = if shape.directs then may_direct part else may_declare part

-- a line of this shape may have so many words
abbrev pub may_have : Shape → ℕ → Bool
may_have shape count = nat_le shape.least count && nat_le count shape.most

-- what a word after the first can be
pub data Field : Type 0 where
  NodeNumber : Field
  Value : Field
  HopLimit : Field
  Times : Field
  MessageNumber : Field
  PacketNumber : Field
  Masked : Field
  OneOf : List (List ℕ) → Field
  Viewed : Field
  Schemed : Field
  EpochNumber : Field

abbrev pub relations : List (List ℕ)
relations = codes "customer" ∷ codes "provider" ∷ codes "peer" ∷ codes "any" ∷ []

-- the fields after show: the view, and what the view needs
abbrev pub view_fields : Option View → List Field
view_fields None = Viewed ∷ []
view_fields (Some (Plain view)) = Viewed ∷ []
view_fields (Some (OfEpoch view)) = Viewed ∷ EpochNumber ∷ []
view_fields (Some Walk) = Viewed ∷ PacketNumber ∷ []

-- the fields after transient: the scheme, and what the scheme needs
abbrev pub scheme_fields : Option SchemeName → List Field
scheme_fields None = Schemed ∷ []
scheme_fields (Some Deflect) = Schemed ∷ []
scheme_fields (Some Detour) = Schemed ∷ NodeNumber ∷ []
scheme_fields (Some Backup) = Schemed ∷ []

-- the fields after the first word, for these words
abbrev pub fields : Keyword → List (List ℕ) → List Field
fields Node (id ∷ []) = NodeNumber ∷ []
fields Node words = NodeNumber ∷ OneOf (codes "consolidator" ∷ []) ∷ []
fields Link words = NodeNumber ∷ NodeNumber ∷ OneOf relations ∷ []
fields Pref words = NodeNumber ∷ NodeNumber ∷ Value ∷ []
fields Hold words = NodeNumber ∷ NodeNumber ∷ []
fields Prefix words = Masked ∷ []
fields Hops words = HopLimit ∷ []
fields Transient words = scheme_fields (scheme_in (word_at 0 words))
fields Begin words = []
fields Origin words = NodeNumber ∷ Masked ∷ []
fields Single words = NodeNumber ∷ []
fields Pair words = NodeNumber ∷ NodeNumber ∷ []
fields Prefer words = NodeNumber ∷ NodeNumber ∷ Value ∷ []
fields Propose words = NodeNumber ∷ EpochNumber ∷ []
fields Drain words = Times ∷ []
fields Control (number ∷ []) = MessageNumber ∷ []
fields Control words = OneOf (codes "all" ∷ []) ∷ Times ∷ []
fields Inject words = PacketNumber ∷ NodeNumber ∷ Masked ∷ []
fields Hop (packet ∷ []) = PacketNumber ∷ []
fields Hop words = PacketNumber ∷ Times ∷ []
fields Show words = view_fields (view_in (word_at 0 words))

-- the word may stand in this field
abbrev pub spells_field : Field → List ℕ → Bool
spells_field NodeNumber word = spells_number 1 HIGHEST_NODE word
spells_field Value word = spells_number 0 HIGHEST_PREFERENCE word
spells_field HopLimit word = spells_number 0 HIGHEST_HOPS word
spells_field Times word = spells_number 1 MOST_TIMES word
spells_field MessageNumber word = spells_number 1 HIGHEST_MESSAGE word
spells_field PacketNumber word = spells_number 1 HIGHEST_PACKET word
spells_field Masked word = spells_prefix word
spells_field (OneOf words) word = has_word words word
spells_field Viewed word = is_some (view_in word)
spells_field Schemed word = is_some (scheme_in word)
spells_field EpochNumber word = spells_number 1 HIGHEST_EPOCH word

-- the fault of any other word in the field
abbrev pub fault_of : Field → BadKind
fault_of NodeNumber = BadNumber
fault_of Value = BadNumber
fault_of HopLimit = BadNumber
fault_of Times = BadNumber
fault_of MessageNumber = BadNumber
fault_of PacketNumber = BadNumber
fault_of Masked = BadPrefix
fault_of (OneOf words) = UnknownWord
fault_of Viewed = UnknownWord
fault_of Schemed = UnknownWord
fault_of EpochNumber = BadNumber

-- the first fault from the left; missing or additional words are a wrong number of words
abbrev pub first_fault : List Field → List (List ℕ) → Option BadKind
first_fault [] [] = None
first_fault [] (word ∷ words) = Some WrongCount
first_fault (field ∷ fields) [] = Some WrongCount
first_fault (field ∷ fields) (word ∷ words) = if spells_field field word then first_fault fields words else Some (fault_of field)
