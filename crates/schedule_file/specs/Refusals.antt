-- The fault of a line, and the first bad line of a file.
use Rattle.std.specs.Prelude.{ℕ, zero, suc, true, false, not, ◌≡◌, IsTrue, Option, Some, None, List, [], ◌∷◌, length, if◌then◌else◌}
use Rattle.std.specs.Option.{option_or}
use Rattle.topology.specs.declared.names.Scheme.TheVariants as scheme
use Rattle.topology.specs.declared.status.BadKind.{BadKind}
use Rattle.topology.specs.declared.status.BadKind.TheVariants.{UnknownWord, NotHere, WrongCount}
use Rattle.schedule_file.specs.declared.lines.Line.{Line}
use Rattle.schedule_file.specs.declared.lines.Line.TheVariants as form
use Rattle.schedule_file.specs.declared.lines.Declaration.TheVariants as declares
use Rattle.schedule_file.specs.declared.directives.Directive.TheVariants as directs
use Rattle.schedule_file.specs.declared.directives.Rest.TheVariants as rest
use Rattle.schedule_file.specs.declared.table.Keyword.{Keyword}
use Rattle.schedule_file.specs.declared.table.Keyword.TheVariants.{Node, Link, Pref, Hold, Prefix, Hops, Transient, Begin, Origin, Single, Pair, Prefer, Propose, Drain, Control, Inject, Hop, Show}
use Rattle.schedule_file.specs.declared.table.Part.{Part}
use Rattle.schedule_file.specs.declared.table.Part.TheVariants.{Run, Over}
use Rattle.schedule_file.specs.declared.table.View.{View}
use Rattle.schedule_file.specs.declared.table.View.TheVariants.{Plain, OfEpoch, Walk}
use Rattle.schedule_file.specs.declared.table.SchemeName.{SchemeName}
use Rattle.schedule_file.specs.declared.table.SchemeName.TheVariants.{Deflect, Detour, Backup}
use Rattle.schedule_file.specs.Spelling.{words_by_line}
use Rattle.schedule_file.specs.Lines.{Spells}
use Rattle.schedule_file.specs.Words.{word_at, number_at, prefix_of, relation_of}
use Rattle.schedule_file.specs.Directives.{plain_directive, epoch_directive, directive_by}
use Rattle.schedule_file.specs.Table.{keyword_in, view_in, scheme_in, shape_of, may_stand, may_have, fields, first_fault}
use Rattle.schedule_file.specs.Grammar.{allowed, part_in, name_fault, net_of}

-- the first fault of a line's form: it stands on the wrong side of begin, or has too few or too many words
abbrev pub form_fault : Part → Keyword → List (List ℕ) → Option BadKind
form_fault part keyword words =
    if not (may_stand part (shape_of keyword)) then Some NotHere
    else if not (may_have (shape_of keyword) (suc (length words))) then Some WrongCount
    else None

-- the first fault of a line that begins with this keyword, or with no keyword
abbrev pub fault_by : Part → Option Keyword → List (List ℕ) → Option BadKind
fault_by part None words = Some UnknownWord
fault_by part (Some keyword) words = option_or (form_fault part keyword words) (first_fault (fields keyword words) words)

-- the first fault of a line before its names are looked up
abbrev pub word_fault : Part → List (List ℕ) → Option BadKind
word_fault part [] = None
word_fault part (word ∷ words) = fault_by part (keyword_in word) words

-- the line of a view; any line if the word names none
abbrev pub shown_by : Option View → List (List ℕ) → Line
shown_by None words = form.Blank
shown_by (Some (Plain view)) words = form.Directs (plain_directive view)
shown_by (Some (OfEpoch view)) words = form.Directs (epoch_directive view (number_at 1 words))
shown_by (Some Walk) words = form.Directs (directs.ShowWalk (number_at 1 words))

-- the line of a scheme; any line if the word names none
abbrev pub set_by : Option SchemeName → List (List ℕ) → Line
set_by None words = form.Blank
set_by (Some Deflect) words = form.Declares (declares.Transient scheme.Deflect)
set_by (Some Detour) words = form.Declares (declares.Transient (scheme.Detour (number_at 1 words)))
set_by (Some Backup) words = form.Declares (declares.Transient scheme.Backup)

-- the line of a keyword, its first word and the words after it; any line if one of these may not stand there
abbrev pub line_by : Keyword → List ℕ → List (List ℕ) → Line
line_by Node word (id ∷ mark ∷ others) = form.Declares (declares.Node (number_at 0 (id ∷ mark ∷ others)) true)
line_by Node word words = form.Declares (declares.Node (number_at 0 words) false)
line_by Link word words = form.Declares (declares.Link (number_at 0 words) (number_at 1 words) (relation_of (word_at 2 words)))
line_by Pref word words = form.Declares (declares.Pref (number_at 0 words) (number_at 1 words) (number_at 2 words))
line_by Hold word words = form.Declares (declares.Hold (number_at 0 words) (number_at 1 words))
line_by Prefix word words = form.Declares (declares.Prefix (prefix_of (word_at 0 words)))
line_by Hops word words = form.Declares (declares.Hops (number_at 0 words))
line_by Transient word words = set_by (scheme_in (word_at 0 words)) words
line_by Begin word words = form.Begin
line_by Origin word words = form.Directs (directive_by word (rest.Origin (number_at 0 words) (prefix_of (word_at 1 words))))
line_by Single word words = form.Directs (directive_by word (rest.Single (number_at 0 words)))
line_by Pair word words = form.Directs (directive_by word (rest.Pair (number_at 0 words) (number_at 1 words)))
line_by Prefer word words = form.Directs (directs.Prefer (number_at 0 words) (number_at 1 words) (number_at 2 words))
line_by Propose word words = form.Directs (directs.Propose (number_at 0 words) (number_at 1 words))
line_by Drain word words = form.Directs (directs.Drain (number_at 0 words))
line_by Control word (all ∷ times ∷ others) = form.Directs (directs.ControlAll (number_at 1 (all ∷ times ∷ others)))
line_by Control word words = form.Directs (directs.Control (number_at 0 words))
line_by Inject word words = form.Directs (directs.Inject (number_at 0 words) (number_at 1 words) (prefix_of (word_at 2 words)))
line_by Hop word (packet ∷ times ∷ others) = form.Directs (directs.Hop (number_at 0 (packet ∷ times ∷ others)) (Some (number_at 1 (packet ∷ times ∷ others))))
line_by Hop word words = form.Directs (directs.Hop (number_at 0 words) None)
line_by Show word words = shown_by (view_in (word_at 0 words)) words

-- the line that begins with a keyword; any line without one
abbrev pub line_from : Option Keyword → List ℕ → List (List ℕ) → Line
line_from None word words = form.Blank
line_from (Some keyword) word words = line_by keyword word words

-- the line of these words
abbrev pub line_of : List (List ℕ) → Line
line_of [] = form.Blank
line_of (word ∷ words) = line_from (keyword_in word) word words

-- the fault of a line of these words after the earlier ones: the first fault of the words, or else of the names
unfoldable pub refusal : Part → List Line → List (List ℕ) → Option BadKind
refusal behind earlier words = option_or (word_fault (part_in behind earlier) words) (name_fault (net_of earlier) (line_of words))

-- after the earlier lines the first n texts are spelled by allowed lines, and the next one is bad
abbrev pub BadAt : Part → List Line → List (List (List ℕ)) → ℕ → BadKind → Type 0
BadAt behind earlier [] n kind = ⊥
BadAt behind earlier (words ∷ others) zero kind = refusal behind earlier words ≡ Some kind
BadAt behind earlier (words ∷ others) (suc n) kind =
    (line : Line) × Spells words line × IsTrue (allowed behind earlier line) × BadAt behind (line ∷ earlier) others n kind

-- the line with this number, from 1, is the first bad one, with this fault
abbrev pub FirstBadIn : Part → List ℕ → ℕ → BadKind → Type 0
FirstBadIn behind bytes number kind = (n : ℕ) × (number ≡ suc n) × BadAt behind [] (words_by_line bytes) n kind

-- the same for a schedule
abbrev pub FirstBad : List ℕ → ℕ → BadKind → Type 0
FirstBad bytes number kind = FirstBadIn Run bytes number kind

-- the same for a network alone
abbrev pub FirstBadOfTopology : List ℕ → ℕ → BadKind → Type 0
FirstBadOfTopology bytes number kind = FirstBadIn Over bytes number kind
