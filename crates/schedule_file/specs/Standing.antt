-- What the parser holds after some lines, and what its steps promise.
use Rattle.std.specs.Prelude.{ℕ, suc, ◌≡◌, IsTrue, Option, Some, None, Result, Ok, Err, List, [], ◌∷◌, length}
use Rattle.topology.specs.declared.building.BuildError.{BuildError}
use Rattle.topology.specs.declared.building.BuildError.TheVariants as building
use Rattle.topology.specs.declared.status.BadKind.{BadKind}
use Rattle.topology.specs.declared.status.BadKind.TheVariants as bad
use Rattle.topology.specs.declared.prefixes.Prefix.{Prefix as Range}
use Rattle.topology.specs.Net.{Net}
use Rattle.schedule_file.specs.declared.lines.Line.{Line}
use Rattle.schedule_file.specs.declared.directives.Rest.{Rest}
use Rattle.schedule_file.specs.declared.directives.Rest.TheVariants.{Origin, Inject}
use Rattle.schedule_file.specs.declared.parser.Draft.{Draft}
use Rattle.schedule_file.specs.declared.table.Part.{Part}
use Rattle.schedule_file.specs.declared.table.Keyword.{Keyword}
use Rattle.schedule_file.specs.declared.words.Words.{Words}
use Rattle.schedule_file.specs.declared.names.Refusal.{Refusal}
use Rattle.schedule_file.specs.declared.names.Refusal.TheVariants.{NoMemory, Bad}
use Rattle.schedule_file.specs.Spelling.{words_by_line}
use Rattle.schedule_file.specs.Lines.{Spells}
use Rattle.schedule_file.specs.Words.{word_at}
use Rattle.schedule_file.specs.Grammar.{net_of, place_in, part_in, directives_of, allowed, name_fault, ReadsIn}
use Rattle.schedule_file.specs.Table.{keyword_text, fields, first_fault}
use Rattle.schedule_file.specs.Refusals.{refusal, form_fault, line_by}

-- lists of lines are newest first

-- the words are these: their count, and the first four
pub record Holds (words : Words) (all : List (List ℕ)) : Type 0 where
  pub counted : words.count ≡ length all
  pub one : words.first.now ≡ word_at 0 all
  pub two : words.second.now ≡ word_at 1 all
  pub three : words.third.now ≡ word_at 2 all
  pub four : words.fourth.now ≡ word_at 3 all

-- the reader returns the line of a keyword, its first word and the words after it, or their first fault
abbrev pub ReadsFrom : Keyword → List ℕ → List (List ℕ) → Result Line BadKind → Type 0
ReadsFrom keyword word words (Ok line) = (line ≡ line_by keyword word words) × (first_fault (fields keyword words) words ≡ None)
ReadsFrom keyword word words (Err kind) = first_fault (fields keyword words) words ≡ Some kind

-- the same for a keyword of one first word
abbrev pub ReadsAs : Keyword → List (List ℕ) → Result Line BadKind → Type 0
ReadsAs keyword words result = ReadsFrom keyword (keyword_text keyword) words result

-- the place of the prefix among these words, if there is one
abbrev pub place_of : Net → Rest Range → ℕ
place_of net (Origin node p) = place_in p net.prefixes
place_of net (Inject packet node p) = place_in p net.prefixes
place_of net other = 0

-- the check of a line's form returns no fault, or the first one
abbrev pub HasForm : {T : Type 0} → Part → Keyword → List (List ℕ) → Result T BadKind → Type 0
HasForm part keyword words (Ok done) = form_fault part keyword words ≡ None
HasForm part keyword words (Err kind) = form_fault part keyword words ≡ Some kind

-- the refusal of the line for each refusal of the network
abbrev pub refusal_of : BuildError → Refusal
refusal_of building.DuplicateNode = Bad bad.DuplicateNode
refusal_of (building.UnknownNode id) = Bad bad.UnknownNode
refusal_of building.DuplicateLink = Bad bad.DuplicateLink
refusal_of building.SelfLink = Bad bad.SelfLink
refusal_of building.DuplicatePrefix = Bad bad.DuplicatePrefix
refusal_of building.TooMany = Bad bad.TooMany
refusal_of building.NoMemory = NoMemory
refusal_of building.NoLink = Bad bad.NoLink

-- the refusal names the fault, unless memory ran out
abbrev pub NamesFault : Refusal → Option BadKind → Type 0
NamesFault NoMemory fault = Unit {0}
NamesFault (Bad kind) fault = fault ≡ Some kind

-- the draft has the network, the directives and the part of these lines
pub record IsAfter (draft : Draft) (earlier : List Line) : Type 0 where
  pub topology : draft.schedule.topology ≡ net_of earlier
  pub lines : draft.schedule.lines.items ≡ directives_of earlier
  pub start : draft.part ≡ part_in draft.behind earlier

-- if the draft stands for some lines, this line may follow them, and the new draft stands for all of them
abbrev pub Takes : Draft → ℕ → Line → Draft → Type 0
Takes old number line new =
    (earlier : List Line) → IsAfter old earlier → number ≡ suc (length earlier) → IsTrue (allowed old.behind earlier line) × IsAfter new (line ∷ earlier)

-- if the draft stands for some lines, this is the fault of the line's names
abbrev pub Refuses : Draft → Line → Refusal → Type 0
Refuses old line why = (earlier : List Line) → IsAfter old earlier → NamesFault why (name_fault (net_of earlier) line)

-- if the draft stands for some lines, these words spell a line that may follow them, and the new draft stands for all
-- of them
abbrev pub TakesLine : Draft → ℕ → List (List ℕ) → Draft → Type 0
TakesLine old number words new =
    (earlier : List Line) → IsAfter old earlier → number ≡ suc (length earlier)
    → (line : Line) × Spells words line × IsTrue (allowed old.behind earlier line) × IsAfter new (line ∷ earlier)

-- if the draft stands for some lines, this is the fault of a line of these words
abbrev pub RefusesLine : Draft → List (List ℕ) → Refusal → Type 0
RefusesLine old words why = (earlier : List Line) → IsAfter old earlier → NamesFault why (refusal old.behind earlier words)

-- the text is spelled by lines, and the new draft stands for all of them
abbrev pub TakesText : Draft → List ℕ → Draft → Type 0
TakesText old text new = (lines : List Line) × ReadsIn old.behind [] (words_by_line text) lines × IsAfter new lines
