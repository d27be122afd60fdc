-- What the reader of a script promises.
use Rattle.std.specs.Prelude.{ℕ, ◌≡◌, true, Bool, Option, Some, None, Result, Ok, Err, List, ◌++◌, IsTrue}
use Rattle.std.specs.List.{All}
use Rattle.topology.specs.Paths.{differ}
use Rattle.topology.specs.declared.status.BadKind.{BadKind}
use Rattle.leadership.specs.declared.parser.Draft.{Draft}
use Rattle.leadership.specs.declared.parser.ScriptEnd.{ScriptEnd}
use Rattle.leadership.specs.declared.parser.ScriptEnd.TheVariants.{NoMemory, Bad}
use Rattle.leadership.specs.declared.scripts.Keyword.{Keyword}
use Rattle.leadership.specs.declared.scripts.Line.{Line}
use Rattle.leadership.specs.declared.scripts.Numbered.{Numbered}
use Rattle.leadership.specs.Scripts.{Before, asked, fields, first_bad, first_fault, form_fault, is_known, line_by, with_line}

-- the reader returns the line of a keyword and the words after it, or their first fault
abbrev pub ReadsAs : Keyword → List (List ℕ) → Result Line BadKind → Type 0
ReadsAs keyword words (Ok said) = (said ≡ line_by keyword words) × (first_fault (fields keyword words) words ≡ None)
ReadsAs keyword words (Err kind) = first_fault (fields keyword words) words ≡ Some kind

-- the check of a line's form returns no fault, or the first one
abbrev pub HasForm : {T : Type 0} → (begun : Bool) → Keyword → List (List ℕ) → Result T BadKind → Type 0
HasForm begun keyword words (Ok done) = form_fault begun keyword words ≡ None
HasForm begun keyword words (Err kind) = form_fault begun keyword words ≡ Some kind

-- what the draft has read so far
abbrev pub before_of : Draft → Before
before_of draft = record { members = draft.members.nodes; begun = draft.begun }

-- each directive names only members
abbrev pub AllKnown : (members : List ℕ) → List Numbered → Type 0
AllKnown members directives = All (λ (d : Numbered). IsTrue (is_known members d.directive)) directives

-- the draft after the line with this number
pub record Takes (old : Draft) (number : ℕ) (said : Option Line) (new : Draft) : Type 0 where
  pub before : before_of new ≡ with_line said (before_of old)
  pub directives : new.directives.items ≡ old.directives.items ++ asked number said
  pub apart : differ old.members.nodes ≡ true → differ new.members.nodes ≡ true
  pub known : AllKnown old.members.nodes old.directives.items → AllKnown new.members.nodes new.directives.items

-- a named line is the first bad one, with its fault; NoMemory may come at any time
abbrev pub SaysWhy : List ℕ → ScriptEnd → Type 0
SaysWhy bytes NoMemory = Unit {0}
SaysWhy bytes (Bad number kind) = first_bad bytes ≡ Some (number, kind)
