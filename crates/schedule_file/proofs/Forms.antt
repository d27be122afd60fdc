-- What is read of a line's first words, and what this says of all its words.
use Rattle.std.proofs.Common.{◌≡◌, ℕ, ◌<◌, true, List, [], ◌∷◌, sym, ap, ◌∙◌, subst, arith}
use Rattle.std.specs.Prelude.{Option, Some, None, Result, Ok, Err, IfOk, IfErr}
use Rattle.std.specs.Option.{option_or}
use Rattle.topology.specs.declared.status.BadKind.{BadKind}
use Rattle.topology.specs.declared.status.BadKind.TheVariants.{UnknownWord}
use Rattle.schedule_file.specs.declared.lines.Line.{Line}
use Rattle.schedule_file.specs.declared.words.Words.{Words}
use Rattle.schedule_file.specs.declared.table.Keyword.{Keyword}
use Rattle.schedule_file.specs.declared.table.Part.{Part}
use Rattle.schedule_file.specs.Table.{keyword_in, fields, first_fault}
use Rattle.schedule_file.specs.Refusals.{form_fault, fault_by, word_fault, line_by, line_from, line_of}
use Rattle.schedule_file.specs.Lines.{Spells}
use Rattle.schedule_file.specs.Grammar.{stands}
use Rattle.schedule_file.specs.Standing.{Holds, ReadsFrom}
use Rattle.schedule_file.proofs.Shapes.{found}

-- the words have a first one, with all that was read of them
pub record HasFirst (words : Words) (all : List (List ℕ)) : Type 0 where
  pub rest : List (List ℕ)
  pub are : all ≡ words.first.now ∷ rest
  pub held : Holds words (words.first.now ∷ rest)

pub has_first : (words : Words) (all : List (List ℕ)) → Holds words all → 0 < words.count → HasFirst words all
has_first words [] h some = absurd (omega (arith, h.counted))
has_first words (w ∷ ws) h some =
    let are = ap (λ v. v ∷ ws) (sym h.one) in
    record { rest = ws; are = are; held = subst (Holds words) are h }

-- the first word is not a keyword
pub other_first : (words : Words) (all : List (List ℕ)) (part : Part) → Holds words all → 0 < words.count → keyword_in words.first.now ≡ None → word_fault part all ≡ Some UnknownWord
other_first words all part h some none =
    let f = has_first words all h some in
    ap (word_fault part) f.are ∙ ap (λ k. fault_by part k f.rest) none

-- the first word is a keyword, and the fault is in the form of the line or in a later word
by_first : (words : Words) (all : List (List ℕ)) (part : Part) (k : Keyword) (f : HasFirst words all) → keyword_in words.first.now ≡ Some k → word_fault part all ≡ option_or (form_fault part k f.rest) (first_fault (fields k f.rest) f.rest)
by_first words all part k f e = ap (word_fault part) f.are ∙ ap (λ found. fault_by part found f.rest) e

-- the line begins with a keyword, and its form has no fault
pub record Ready (words : Words) (part : Part) (k : Keyword) : Type 0 where
  pub some : 0 < words.count
  pub named : keyword_in words.first.now ≡ Some k
  pub good : (word : List ℕ) (rest : List (List ℕ)) → Holds words (word ∷ rest) → form_fault part k rest ≡ None

pub form_first : (words : Words) (all : List (List ℕ)) (part : Part) (kind : BadKind) (k : Keyword) → Holds words all → 0 < words.count → keyword_in words.first.now ≡ Some k → ((word : List ℕ) (rest : List (List ℕ)) → Holds words (word ∷ rest) → form_fault part k rest ≡ Some kind) → word_fault part all ≡ Some kind
form_first words all part kind k h some e bad =
    let f = has_first words all h some in
    by_first words all part k f e ∙ ap (λ fault. option_or fault (first_fault (fields k f.rest) f.rest)) (bad words.first.now f.rest f.held)

fields_first : (words : Words) (all : List (List ℕ)) (part : Part) (fault : Option BadKind) (k : Keyword) → Holds words all → Ready words part k → ((word : List ℕ) (rest : List (List ℕ)) → Holds words (word ∷ rest) → first_fault (fields k rest) rest ≡ fault) → word_fault part all ≡ fault
fields_first words all part fault k h ready decides =
    let f = has_first words all h ready.some in
    by_first words all part k f ready.named
    ∙ ap (λ form. option_or form (first_fault (fields k f.rest) f.rest)) (ready.good words.first.now f.rest f.held)
    ∙ decides words.first.now f.rest f.held

line_first : (words : Words) (all : List (List ℕ)) (part : Part) (k : Keyword) (line : Line) → Holds words all → Ready words part k → ((word : List ℕ) (rest : List (List ℕ)) → Holds words (word ∷ rest) → line ≡ line_by k word rest) → line ≡ line_of all
line_first words all part k line h ready is =
    let f = has_first words all h ready.some in
    is words.first.now f.rest f.held ∙ sym (ap line_of f.are ∙ ap (λ found. line_from found words.first.now f.rest) ready.named)

-- the reader's answer for a keyword is the answer for the whole line
abbrev Answer : Words → Keyword → Result Line BadKind → Type 0
Answer words k result = (word : List ℕ) (rest : List (List ℕ)) → Holds words (word ∷ rest) → ReadsFrom k word rest result

pub reads_line : (words : Words) (part : Part) (k : Keyword) (result : Result Line BadKind) → Ready words part k → Answer words k result → IfOk result (λ line. (all : List (List ℕ)) → Holds words all → Spells all line)
reads_line words part k (Ok line) ready reads = λ all held.
    let good = fields_first words all part None k held ready (λ word rest h. (reads word rest h).1) in
    subst (Spells all) (sym (line_first words all part k line held ready (λ word rest h. (reads word rest h).0))) (found part all good).spells
reads_line words part k (Err kind) ready reads = tt

pub reads_place : (words : Words) (part : Part) (k : Keyword) (result : Result Line BadKind) → Ready words part k → Answer words k result → IfOk result (λ line. (all : List (List ℕ)) → Holds words all → stands part line ≡ true)
reads_place words part k (Ok line) ready reads = λ all held.
    let good = fields_first words all part None k held ready (λ word rest h. (reads word rest h).1) in
    ap (stands part) (line_first words all part k line held ready (λ word rest h. (reads word rest h).0)) ∙ (found part all good).here
reads_place words part k (Err kind) ready reads = tt

pub reads_fault : (words : Words) (part : Part) (k : Keyword) (result : Result Line BadKind) → Ready words part k → Answer words k result → IfErr result (λ kind. (all : List (List ℕ)) → Holds words all → word_fault part all ≡ Some kind)
reads_fault words part k (Ok line) ready reads = tt
reads_fault words part k (Err kind) ready reads = λ all held. fields_first words all part (Some kind) k held ready reads
