-- How lines are spelled.
use Rattle.std.specs.Prelude.{ℕ, true, false, ◌≡◌, ◌≤◌, Some, None, List, [], ◌∷◌, codes}
use Rattle.std.specs.Fmt.{decimal}
use Rattle.topology.specs.declared.names.Scheme.{Scheme}
use Rattle.topology.specs.declared.prefixes.Prefix.{Prefix as Range}
use Rattle.topology.specs.declared.names.Scheme.TheVariants.{Deflect, Detour, Backup}
use Rattle.schedule_file.specs.declared.lines.Line.{Line}
use Rattle.schedule_file.specs.declared.lines.Line.TheVariants.{Blank, Begin, Declares, Directs}
use Rattle.schedule_file.specs.declared.lines.Declaration.{Declaration}
use Rattle.schedule_file.specs.declared.lines.Declaration.TheVariants.{Node, Link, Pref, Hold, Prefix, Hops, Transient}
use Rattle.schedule_file.specs.declared.directives.Directive.{Directive}
use Rattle.schedule_file.specs.declared.directives.Rest.{Rest}
use Rattle.schedule_file.specs.declared.directives.Rest.TheVariants.{Origin, Single, Pair, Prefer, Propose, Drain, Control, ControlAll, Inject, Hop, Show, ShowEpoch, ShowWalk}
use Rattle.schedule_file.specs.declared.table.Keyword.{Keyword}
use Rattle.schedule_file.specs.declared.table.Keyword.TheVariants as keyword
use Rattle.schedule_file.specs.declared.table.View.TheVariants.{Walk}
use Rattle.schedule_file.specs.declared.table.SchemeName.TheVariants as name
use Rattle.topology.specs.declared.limits.TheConstants.{HIGHEST_PREFERENCE, HIGHEST_HOPS, MOST_TIMES, HIGHEST_MESSAGE, HIGHEST_PACKET, HIGHEST_EPOCH}
use Rattle.schedule_file.specs.Spelling.{prefix_text, relation_text, IsNumber, IsRange}
use Rattle.schedule_file.specs.Directives.{first_word, rest_of}
use Rattle.schedule_file.specs.Table.{keyword_text, plain_text, epoch_text, view_text, scheme_text}

-- the kind of line that declares this
abbrev pub declaring : Declaration → Keyword
declaring (Node id consolidator) = keyword.Node
declaring (Link a b relation) = keyword.Link
declaring (Pref a b value) = keyword.Pref
declaring (Hold a b) = keyword.Hold
declaring (Prefix p) = keyword.Prefix
declaring (Hops hops) = keyword.Hops
declaring (Transient scheme) = keyword.Transient

-- the words of a scheme
abbrev pub scheme_words : Scheme → List (List ℕ)
scheme_words Deflect = scheme_text name.Deflect ∷ []
scheme_words (Detour node) = scheme_text name.Detour ∷ decimal node ∷ []
scheme_words Backup = scheme_text name.Backup ∷ []

-- the words of a declaration after the first
abbrev pub declared_words : Declaration → List (List ℕ)
declared_words (Node id false) = decimal id ∷ []
declared_words (Node id true) = decimal id ∷ codes "consolidator" ∷ []
declared_words (Link a b relation) = decimal a ∷ decimal b ∷ relation_text relation ∷ []
declared_words (Pref a b value) = decimal a ∷ decimal b ∷ decimal value ∷ []
declared_words (Hold a b) = decimal a ∷ decimal b ∷ []
declared_words (Prefix p) = prefix_text p ∷ []
declared_words (Hops hops) = decimal hops ∷ []
declared_words (Transient scheme) = scheme_words scheme

-- the kind of line that goes on so
abbrev pub directing : {P : Type 0} → Rest P → Keyword
directing (Origin node p) = keyword.Origin
directing (Single node) = keyword.Single
directing (Pair a b) = keyword.Pair
directing (Prefer node nbr value) = keyword.Prefer
directing (Propose node epoch) = keyword.Propose
directing (Drain times) = keyword.Drain
directing (Control number) = keyword.Control
directing (ControlAll times) = keyword.Control
directing (Inject packet node p) = keyword.Inject
directing (Hop packet times) = keyword.Hop
directing (Show view) = keyword.Show
directing (ShowEpoch view epoch) = keyword.Show
directing (ShowWalk packet) = keyword.Show

-- the words after the first word of a directive's line
abbrev pub rest_words : Rest Range → List (List ℕ)
rest_words (Origin node p) = decimal node ∷ prefix_text p ∷ []
rest_words (Single node) = decimal node ∷ []
rest_words (Pair a b) = decimal a ∷ decimal b ∷ []
rest_words (Prefer node nbr value) = decimal node ∷ decimal nbr ∷ decimal value ∷ []
rest_words (Propose node epoch) = decimal node ∷ decimal epoch ∷ []
rest_words (Drain times) = decimal times ∷ []
rest_words (Control number) = decimal number ∷ []
rest_words (ControlAll times) = codes "all" ∷ decimal times ∷ []
rest_words (Inject packet node p) = decimal packet ∷ decimal node ∷ prefix_text p ∷ []
rest_words (Hop packet None) = decimal packet ∷ []
rest_words (Hop packet (Some times)) = decimal packet ∷ decimal times ∷ []
rest_words (Show view) = plain_text view ∷ []
rest_words (ShowEpoch view epoch) = epoch_text view ∷ decimal epoch ∷ []
rest_words (ShowWalk packet) = view_text Walk ∷ decimal packet ∷ []

-- the words that spell a line
abbrev pub line_words : Line → List (List ℕ)
line_words Blank = []
line_words Begin = keyword_text keyword.Begin ∷ []
line_words (Declares declaration) = keyword_text (declaring declaration) ∷ declared_words declaration
line_words (Directs directive) = first_word directive ∷ rest_words (rest_of directive)

-- the node of a scheme is in range
abbrev pub SchemeInRange : Scheme → Type 0
SchemeInRange Deflect = Unit {0}
SchemeInRange (Detour node) = IsNumber node
SchemeInRange Backup = Unit {0}

-- each number of a declaration is within its range
abbrev pub DeclaresInRange : Declaration → Type 0
DeclaresInRange (Node id consolidator) = IsNumber id
DeclaresInRange (Link a b relation) = IsNumber a × IsNumber b
DeclaresInRange (Pref a b value) = IsNumber a × IsNumber b × (value ≤ HIGHEST_PREFERENCE)
DeclaresInRange (Hold a b) = IsNumber a × IsNumber b
DeclaresInRange (Prefix p) = IsRange p
DeclaresInRange (Hops hops) = hops ≤ HIGHEST_HOPS
DeclaresInRange (Transient scheme) = SchemeInRange scheme

-- each number of these words is within its range
abbrev pub RestInRange : Rest Range → Type 0
RestInRange (Origin node p) = IsNumber node × IsRange p
RestInRange (Single node) = IsNumber node
RestInRange (Pair a b) = IsNumber a × IsNumber b
RestInRange (Prefer node nbr value) = IsNumber node × IsNumber nbr × (value ≤ HIGHEST_PREFERENCE)
RestInRange (Propose node epoch) = IsNumber node × (1 ≤ epoch) × (epoch ≤ HIGHEST_EPOCH)
RestInRange (Drain times) = (1 ≤ times) × (times ≤ MOST_TIMES)
RestInRange (Control number) = (1 ≤ number) × (number ≤ HIGHEST_MESSAGE)
RestInRange (ControlAll times) = (1 ≤ times) × (times ≤ MOST_TIMES)
RestInRange (Inject packet node p) = (1 ≤ packet) × (packet ≤ HIGHEST_PACKET) × IsNumber node × IsRange p
RestInRange (Hop packet None) = (1 ≤ packet) × (packet ≤ HIGHEST_PACKET)
RestInRange (Hop packet (Some times)) = (1 ≤ packet) × (packet ≤ HIGHEST_PACKET) × (1 ≤ times) × (times ≤ MOST_TIMES)
RestInRange (Show view) = Unit {0}
RestInRange (ShowEpoch view epoch) = (1 ≤ epoch) × (epoch ≤ HIGHEST_EPOCH)
RestInRange (ShowWalk packet) = (1 ≤ packet) × (packet ≤ HIGHEST_PACKET)

-- each number of a directive is within its range
abbrev pub DirectsInRange : Directive Range → Type 0
DirectsInRange directive = RestInRange (rest_of directive)

abbrev pub InRange : Line → Type 0
InRange Blank = Unit {0}
InRange Begin = Unit {0}
InRange (Declares declaration) = DeclaresInRange declaration
InRange (Directs directive) = DirectsInRange directive

-- these words are the spelling of the line
pub record Spells (words : List (List ℕ)) (line : Line) : Type 0 where
  pub spelled : words ≡ line_words line
  pub in_range : InRange line
