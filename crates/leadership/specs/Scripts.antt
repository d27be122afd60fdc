-- Which lines make a script, and the fault of the first line that does not fit.
use Rattle.std.specs.Prelude.{ℕ, suc, ◌==◌, ◌||◌, nat_le, Bool, true, false, not, Option, Some, None, List, [], ◌∷◌, ◌++◌, length, find, codes, bytes_eq, option_map, if◌then◌else◌}
use Rattle.std.specs.Option.{option_or}
use Rattle.topology.specs.Lists.{has}
use Rattle.topology.specs.declared.status.BadKind.{BadKind}
use Rattle.topology.specs.declared.status.BadKind.TheVariants.{UnknownWord, NotHere, WrongCount, BadNumber, UnknownNode, DuplicateNode, TooMany}
use Rattle.topology.specs.declared.limits.TheConstants.{HIGHEST_EPOCH, HIGHEST_MESSAGE, HIGHEST_NODE, HIGHEST_VALUE, MOST_MEMBERS, MOST_TIMES}
use Rattle.schedule_file.specs.Spelling.{words_by_line}
use Rattle.schedule_file.specs.Words.{number_at, spells_number}
use Rattle.leadership.specs.declared.events.LeadEvent.TheVariants as event
use Rattle.leadership.specs.declared.scripts.Keyword.{Keyword}
use Rattle.leadership.specs.declared.scripts.Keyword.TheVariants.{Member, Begin, Lead, Offer, Control, Crash, Restart, Show}
use Rattle.leadership.specs.declared.scripts.Directive.{Directive}
use Rattle.leadership.specs.declared.scripts.Directive.TheVariants.{Event, Deliveries, ShowChosen}
use Rattle.leadership.specs.declared.scripts.Line.{Line}
use Rattle.leadership.specs.declared.scripts.Line.TheVariants as line
use Rattle.leadership.specs.declared.scripts.Numbered.{Numbered}
use Rattle.leadership.specs.Fits.{fits}

-- ---- words

-- the first word of a line of this kind
abbrev pub keyword_text : Keyword → List ℕ
keyword_text Member = codes "member"
keyword_text Begin = codes "begin"
keyword_text Lead = codes "lead"
keyword_text Offer = codes "offer"
keyword_text Control = codes "ctl"
keyword_text Crash = codes "crash"
keyword_text Restart = codes "restart"
keyword_text Show = codes "show"

abbrev pub keywords : List Keyword
keywords = Member ∷ Begin ∷ Lead ∷ Offer ∷ Control ∷ Crash ∷ Restart ∷ Show ∷ []

abbrev pub keyword_in : List ℕ → Option Keyword
keyword_in word = find (λ (k : Keyword). bytes_eq word (keyword_text k)) keywords

-- lines of this kind stand after begin
abbrev pub directs : Keyword → Bool
directs Member = false
directs Begin = false
directs Lead = true
directs Offer = true
directs Control = true
directs Crash = true
directs Restart = true
directs Show = true

-- such a line may have n words, the first one included
abbrev pub may_have : Keyword → ℕ → Bool
may_have Member n = n == 2
may_have Begin n = n == 1
may_have Lead n = n == 3
may_have Offer n = n == 4
may_have Control n = n == 2 || n == 3
may_have Crash n = n == 2
may_have Restart n = n == 2
may_have Show n = n == 2 || n == 3

-- what a word after the first can be: a number in a range, or this word
pub data Field : Type 0 where
  Number : (low high : ℕ) → Field
  Word : (word : List ℕ) → Field

abbrev pub node_number : Field
node_number = Number 1 HIGHEST_NODE

abbrev pub epoch_number : Field
epoch_number = Number 1 HIGHEST_EPOCH

-- the fields after the first word, for these words
abbrev pub fields : Keyword → List (List ℕ) → List Field
fields Member words = node_number ∷ []
fields Begin words = []
fields Lead words = node_number ∷ epoch_number ∷ []
fields Offer words = node_number ∷ epoch_number ∷ Number 0 HIGHEST_VALUE ∷ []
fields Control (number ∷ []) = Number 1 HIGHEST_MESSAGE ∷ []
fields Control words = Word (codes "all") ∷ Number 1 MOST_TIMES ∷ []
fields Crash words = node_number ∷ []
fields Restart words = node_number ∷ []
fields Show words = Word (codes "chosen") ∷ []

-- the word may stand in this field
abbrev pub spells : Field → List ℕ → Bool
spells (Number low high) word = spells_number low high word
spells (Word one) word = bytes_eq word one

-- the fault of any other word in the field
abbrev pub fault_of : Field → BadKind
fault_of (Number low high) = BadNumber
fault_of (Word one) = UnknownWord

-- the first fault from the left; missing or additional words are a wrong number of words
abbrev pub first_fault : List Field → List (List ℕ) → Option BadKind
first_fault [] [] = None
first_fault [] (word ∷ words) = Some WrongCount
first_fault (field ∷ fields) [] = Some WrongCount
first_fault (field ∷ fields) (word ∷ words) =
    if spells field word then first_fault fields words else Some (fault_of field)

-- ---- lines

-- the meaning of a line, if its words have no fault
abbrev pub line_by : Keyword → List (List ℕ) → Line
line_by Member words = line.Member (number_at 0 words)
line_by Begin words = line.Begin
line_by Lead words = line.Directs (Event (event.Lead (number_at 0 words) (number_at 1 words)))
line_by Offer words = line.Directs (Event (event.Offer (number_at 0 words) (number_at 1 words) (number_at 2 words)))
line_by Control (number ∷ []) = line.Directs (Event (event.Control (number_at 0 (number ∷ []))))
line_by Control words = line.Directs (Deliveries (number_at 1 words))
line_by Crash words = line.Directs (Event (event.Crash (number_at 0 words)))
line_by Restart words = line.Directs (Event (event.Restart (number_at 0 words)))
line_by Show words = line.Directs ShowChosen

-- the meaning of these words; a line without words has none
abbrev pub line_of : List (List ℕ) → Option Line
line_of [] = None
line_of (word ∷ words) = option_map (λ (k : Keyword). line_by k words) (keyword_in word)

-- what the earlier lines declared, and whether begin was among them
pub record Before : Type 0 where
  pub members : List ℕ
  pub begun : Bool

abbrev pub nothing : Before
nothing = record { members = []; begun = false }

-- the line stands on its side of begin
abbrev pub is_here : (begun : Bool) → Keyword → Bool
is_here begun keyword = if directs keyword then begun else not begun

-- the line stands on the wrong side of begin, or has too few or too many words
abbrev pub form_fault : (begun : Bool) → Keyword → List (List ℕ) → Option BadKind
form_fault begun keyword words =
    if not (is_here begun keyword) then Some NotHere
    else if not (may_have keyword (suc (length words))) then Some WrongCount
    else None

-- the first fault of a line that begins with this keyword, or with no keyword
abbrev pub fault_by : (begun : Bool) → Option Keyword → List (List ℕ) → Option BadKind
fault_by begun None words = Some UnknownWord
fault_by begun (Some keyword) words = option_or (form_fault begun keyword words) (first_fault (fields keyword words) words)

-- the first fault of a line before its names are looked up
abbrev pub word_fault : (begun : Bool) → List (List ℕ) → Option BadKind
word_fault begun [] = None
word_fault begun (word ∷ words) = fault_by begun (keyword_in word) words

-- a declared member must be new, and at most the seventh
abbrev pub member_fault : (members : List ℕ) → ℕ → Option BadKind
member_fault members u =
    if has members u then Some DuplicateNode
    else if nat_le MOST_MEMBERS (length members) then Some TooMany
    else None

-- the directive names only declared members
abbrev pub is_known : (members : List ℕ) → Directive → Bool
is_known members (Event e) = fits members e
is_known members (Deliveries times) = true
is_known members ShowChosen = true

-- the fault of the names of a line
abbrev pub name_fault : (members : List ℕ) → Line → Option BadKind
name_fault members (line.Member u) = member_fault members u
name_fault members line.Begin = None
name_fault members (line.Directs d) = if is_known members d then None else Some UnknownNode

abbrev pub names_fault : (members : List ℕ) → Option Line → Option BadKind
names_fault members None = None
names_fault members (Some said) = name_fault members said

-- the fault of a line of these words: the first fault of the words, or else of the names
abbrev pub fault : Before → List (List ℕ) → Option BadKind
fault before words = option_or (word_fault before.begun words) (names_fault before.members (line_of words))

-- ---- scripts

-- what a line adds to what was declared
abbrev pub with_line : Option Line → Before → Before
with_line None before = before
with_line (Some (line.Member u)) before = record { members = before.members ++ u ∷ []; begun = before.begun }
with_line (Some line.Begin) before = record { members = before.members; begun = true }
with_line (Some (line.Directs d)) before = before

-- what the lines declare
abbrev pub declared : Before → List (List (List ℕ)) → Before
declared before [] = before
declared before (words ∷ lines) = declared (with_line (line_of words) before) lines

-- the directive of a line with this number, if it has one
abbrev pub asked : (number : ℕ) → Option Line → List Numbered
asked number None = []
asked number (Some (line.Member u)) = []
asked number (Some line.Begin) = []
asked number (Some (line.Directs d)) = record { line = number; directive = d } ∷ []

-- the directives of these lines, of which the first has this number
abbrev pub directives_from : (number : ℕ) → List (List (List ℕ)) → List Numbered
directives_from number [] = []
directives_from number (words ∷ lines) = asked number (line_of words) ++ directives_from (suc number) lines

-- the members of a text's script, in the order of declaration, and its directives, if no line is bad
unfoldable pub members_of : List ℕ → List ℕ
members_of bytes = (declared nothing (words_by_line bytes)).members

unfoldable pub directives_of : List ℕ → List Numbered
directives_of bytes = directives_from 1 (words_by_line bytes)

-- this line if it is bad, else a later one
abbrev pub bad_or : (number : ℕ) → Option BadKind → Option (ℕ × BadKind) → Option (ℕ × BadKind)
bad_or number None later = later
bad_or number (Some kind) later = Some (number, kind)

-- the first bad one of these lines, after what was declared before; the first line has this number
abbrev pub first_bad_from : (number : ℕ) → Before → List (List (List ℕ)) → Option (ℕ × BadKind)
first_bad_from number before [] = None
first_bad_from number before (words ∷ lines) =
    bad_or number (fault before words) (first_bad_from (suc number) (with_line (line_of words) before) lines)

-- the first bad line of a text, and its fault
unfoldable pub first_bad : List ℕ → Option (ℕ × BadKind)
first_bad bytes = first_bad_from 1 nothing (words_by_line bytes)
