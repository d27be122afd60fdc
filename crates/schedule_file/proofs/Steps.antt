-- Words have no fault exactly where they spell an allowed line; and how one more line changes what the parser holds.
use Rattle.std.proofs.Common.{◌≡◌, ℕ, true, false, List, refl, sym, ap, ◌∙◌, subst}
use Rattle.std.specs.Prelude.{Option, Some, None, is_none, IsTrue}
use Rattle.std.specs.Option.{option_or}
use Rattle.std.proofs.lemmas.Bool.{and_parts, and_from, false≢true}
use Rattle.std.proofs.lemmas.Option.{none-some}
use Rattle.topology.specs.declared.status.BadKind.{BadKind}
use Rattle.schedule_file.specs.declared.lines.Line.{Line}
use Rattle.schedule_file.specs.declared.table.Part.{Part}
use Rattle.schedule_file.specs.declared.parser.Draft.{Draft}
use Rattle.schedule_file.specs.Lines.{Spells}
use Rattle.schedule_file.specs.Grammar.{part_in, net_of, stands, name_fault, allowed}
use Rattle.schedule_file.specs.Refusals.{word_fault, line_of, refusal}
use Rattle.schedule_file.specs.declared.names.Refusal.{Refusal}
use Rattle.schedule_file.specs.declared.names.Refusal.TheVariants.{Bad}
use Rattle.schedule_file.specs.Standing.{NamesFault, Refuses, RefusesLine}
use Rattle.schedule_file.proofs.Spellings.{fine_words, line_read}
use Rattle.schedule_file.proofs.Shapes.{found}

neither : {A : Type 0} (x y : Option A) → option_or x y ≡ None → (x ≡ None) × (y ≡ None)
neither None y e = (refl, e)
neither (Some a) y e = absurd (none-some a (sym e))

is_none_of : {A : Type 0} (x : Option A) → x ≡ None → is_none x ≡ true
is_none_of x e = ap is_none e

pub none_of : {A : Type 0} (x : Option A) → is_none x ≡ true → x ≡ None
none_of None e = refl
none_of (Some a) e = let q : false ≡ true = e in absurd (false≢true q)

-- the faults of words that spell a line in its part are those of its names
pub names_decide : (behind : Part) (earlier : List Line) (words : List (List ℕ)) (line : Line) → Spells words line → stands (part_in behind earlier) line ≡ true → refusal behind earlier words ≡ name_fault (net_of earlier) line
unfolding refusal
names_decide behind earlier words line h s =
    ap (λ fault. option_or fault (name_fault (net_of earlier) (line_of words))) (fine_words (part_in behind earlier) words line h s) ∙ ap (name_fault (net_of earlier)) (line_read words line h)

-- a fault of the words is the first
pub words_decide : (behind : Part) (earlier : List Line) (words : List (List ℕ)) (kind : BadKind) → word_fault (part_in behind earlier) words ≡ Some kind → refusal behind earlier words ≡ Some kind
unfolding refusal
words_decide behind earlier words kind e = ap (λ fault. option_or fault (name_fault (net_of earlier) (line_of words))) e

no_word_fault : (behind : Part) (earlier : List Line) (words : List (List ℕ)) → refusal behind earlier words ≡ None → word_fault (part_in behind earlier) words ≡ None
unfolding refusal
no_word_fault behind earlier words e = (neither (word_fault (part_in behind earlier) words) (name_fault (net_of earlier) (line_of words)) e).0

pub allowed_from : (behind : Part) (earlier : List Line) (line : Line) → stands (part_in behind earlier) line ≡ true → name_fault (net_of earlier) line ≡ None → allowed behind earlier line ≡ true
allowed_from behind earlier line s e = and_from (stands (part_in behind earlier) line) (is_none (name_fault (net_of earlier) line)) s (is_none_of (name_fault (net_of earlier) line) e)

-- words without a fault spell an allowed line
pub allowed_line : (behind : Part) (earlier : List Line) (words : List (List ℕ)) → refusal behind earlier words ≡ None → (line : Line) × Spells words line × IsTrue (allowed behind earlier line)
allowed_line behind earlier words e =
    let at = found (part_in behind earlier) words (no_word_fault behind earlier words e) in
    (line_of words, at.spells, allowed_from behind earlier (line_of words) at.here (sym (names_decide behind earlier words (line_of words) at.spells at.here) ∙ e))

-- words that spell an allowed line have no fault
pub nothing_wrong : (behind : Part) (earlier : List Line) (words : List (List ℕ)) (line : Line) → Spells words line → IsTrue (allowed behind earlier line) → refusal behind earlier words ≡ None
nothing_wrong behind earlier words line h may =
    let p = and_parts (stands (part_in behind earlier) line) (is_none (name_fault (net_of earlier) line)) may in
    names_decide behind earlier words line h p.0 ∙ none_of (name_fault (net_of earlier) line) p.1

pub refused_none : (behind : Part) (earlier : List Line) (words : List (List ℕ)) → (line : Line) × Spells words line × IsTrue (allowed behind earlier line) → refusal behind earlier words ≡ None
refused_none behind earlier words h = nothing_wrong behind earlier words h.0 h.1 h.2

-- if a step refuses the line, the line has this fault after all lines that the draft stands for
pub words_refused : (draft : Draft) (words : List (List ℕ)) (kind : BadKind) (why : Refusal) → why ≡ Bad kind → word_fault draft.part words ≡ Some kind → RefusesLine draft words why
words_refused draft words kind why same e = λ earlier after.
    subst (λ w. NamesFault w (refusal draft.behind earlier words)) (sym same) (words_decide draft.behind earlier words kind (ap (λ p. word_fault p words) (sym after.start) ∙ e))

pub names_refused : (draft : Draft) (words : List (List ℕ)) (line : Line) (why : Refusal) → Spells words line → stands draft.part line ≡ true → Refuses draft line why → RefusesLine draft words why
names_refused draft words line why h s refuses = λ earlier after.
    subst (NamesFault why) (sym (names_decide draft.behind earlier words line h (ap (λ p. stands p line) (sym after.start) ∙ s))) (refuses earlier after)
