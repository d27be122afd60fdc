-- Lines read one after another: what the first one decides, and that a text is read in only one way.
use Rattle.std.proofs.Common.{◌≡◌, ℕ, zero, suc, ◌+◌, List, [], ◌∷◌, length, sym, ap, subst, refl, ◌∙◌, arith}
use Rattle.std.specs.Prelude.{Some, IsTrue, map, slice_range}
use Rattle.std.proofs.lemmas.Option.{none-some, same_Some}
use Rattle.text_lines.specs.declared.lines.Line.{Line as Span}
use Rattle.text_lines.specs.Lines.{left_of, line_at}
use Rattle.text_lines.specs.Words.{words_of}
use Rattle.text_lines.specs.Readings.{Reading, IsNextLine, lines_left}
use Rattle.topology.specs.declared.status.BadKind.{BadKind}
use Rattle.topology.specs.Net.{Net}
use Rattle.schedule_file.specs.declared.lines.Line.{Line}
use Rattle.schedule_file.specs.declared.lines.Schedule.{Schedule}
use Rattle.schedule_file.specs.declared.table.Part.{Part}
use Rattle.schedule_file.specs.declared.table.Part.TheVariants.{Run, Over}
use Rattle.schedule_file.specs.Spelling.{words_by_line}
use Rattle.schedule_file.specs.Lines.{Spells}
use Rattle.schedule_file.specs.Grammar.{allowed, ReadsIn, Reads, net_of, directives_of, IsFile, IsTopologyFile}
use Rattle.schedule_file.specs.Refusals.{refusal, BadAt, FirstBadIn, FirstBad, FirstBadOfTopology}
use Rattle.schedule_file.proofs.Spellings.{one_line}
use Rattle.schedule_file.proofs.Steps.{nothing_wrong}

-- reading what is left after the earlier lines gives what reading the whole text from the start gives
pub record Continues (behind : Part) (earlier : List Line) (rest whole : List (List (List ℕ))) : Type 0 where
  pub reads : (all : List Line) → ReadsIn behind earlier rest all → ReadsIn behind [] whole all
  pub fails : (n : ℕ) (kind : BadKind) → BadAt behind earlier rest n kind → BadAt behind [] whole (length earlier + n) kind

pub continues_at_start : (behind : Part) (whole : List (List (List ℕ))) → Continues behind [] whole whole
continues_at_start behind whole = record { reads = λ all h. h; fails = λ n kind h. (let e : 0 + n ≡ n = omega arith in rw e h) }

pub continues_more : (behind : Part) (earlier : List Line) (line : Line) (words : List (List ℕ)) (others whole : List (List (List ℕ))) → Continues behind earlier (words ∷ others) whole → Spells words line → IsTrue (allowed behind earlier line) → Continues behind (line ∷ earlier) others whole
continues_more behind earlier line words others whole h spelled may = record {
  reads = λ all r. h.reads all (line, spelled, may, r);
  fails = λ n kind f. (let e : suc (length earlier) + n ≡ length earlier + suc n = omega arith in rw e (h.fails (suc n) kind (line, spelled, may, f)));
}

-- the line at a place is the first bad one, if its words have a fault
pub bad_here : (behind : Part) (earlier : List Line) (words : List (List ℕ)) (others whole : List (List (List ℕ))) (kind : BadKind) → Continues behind earlier (words ∷ others) whole → refusal behind earlier words ≡ Some kind → BadAt behind [] whole (length earlier) kind
bad_here behind earlier words others whole kind h e = let f : length earlier + 0 ≡ length earlier = omega arith in rw f at (h.fails 0 kind e)

-- a text is read in only one way
pub one_reading : (behind : Part) (earlier : List Line) (texts : List (List (List ℕ))) (all more : List Line) → ReadsIn behind earlier texts all → ReadsIn behind earlier texts more → all ≡ more
one_reading behind earlier [] all more h k = h ∙ sym k
one_reading behind earlier (words ∷ others) all more h k =
    let same = one_line words h.0 k.0 h.1 k.1 in
    one_reading behind (h.0 ∷ earlier) others all more h.3 (subst (λ l. ReadsIn behind (l ∷ earlier) others more) (sym same) k.3)

-- a text that is read has no first bad line
pub no_bad : (behind : Part) (earlier : List Line) (texts : List (List (List ℕ))) (all : List Line) (n : ℕ) (kind : BadKind) → ReadsIn behind earlier texts all → BadAt behind earlier texts n kind → ⊥
no_bad behind earlier [] all n kind h k = k
no_bad behind earlier (words ∷ others) all zero kind h k = none-some kind (sym (nothing_wrong behind earlier words h.0 h.1 h.2) ∙ k)
no_bad behind earlier (words ∷ others) all (suc n) kind h k =
    let same = one_line words h.0 k.0 h.1 k.1 in
    no_bad behind (h.0 ∷ earlier) others all n kind h.3 (subst (λ l. BadAt behind (l ∷ earlier) others n kind) (sym same) k.3)

-- a text has at most one first bad line, with one fault
pub one_bad : (behind : Part) (earlier : List Line) (texts : List (List (List ℕ))) (m n : ℕ) (kind last : BadKind) → BadAt behind earlier texts m kind → BadAt behind earlier texts n last → (m ≡ n) × (kind ≡ last)
one_bad behind earlier [] m n kind last a b = absurd a
one_bad behind earlier (words ∷ others) zero zero kind last a b = (refl, same_Some kind last (sym a ∙ b))
one_bad behind earlier (words ∷ others) zero (suc n) kind last a b = absurd (none-some kind (sym (nothing_wrong behind earlier words b.0 b.1 b.2) ∙ a))
one_bad behind earlier (words ∷ others) (suc m) zero kind last a b = absurd (none-some last (sym (nothing_wrong behind earlier words a.0 a.1 a.2) ∙ b))
one_bad behind earlier (words ∷ others) (suc m) (suc n) kind last a b =
    let same = one_line words a.0 b.0 a.1 b.1 in
    let more = one_bad behind (a.0 ∷ earlier) others m n kind last a.3 (subst (λ l. BadAt behind (l ∷ earlier) others n last) (sym same) b.3) in
    (ap suc more.0, more.1)

pub no_bad_line : (earlier : List Line) (texts : List (List (List ℕ))) (all : List Line) (n : ℕ) (kind : BadKind) → Reads earlier texts all → BadAt Run earlier texts n kind → ⊥
no_bad_line earlier texts all n kind h k = no_bad Run earlier texts all n kind h k

-- the same of whole files
pub one_list : (behind : Part) (text : List ℕ) (lines others : List Line) → ReadsIn behind [] (words_by_line text) lines → ReadsIn behind [] (words_by_line text) others → lines ≡ others
one_list behind text lines others h k = one_reading behind [] (words_by_line text) lines others h k

pub same_lines : (text : List ℕ) (lines others : List Line) → Reads [] (words_by_line text) lines → Reads [] (words_by_line text) others → lines ≡ others
same_lines text lines others h k = one_list Run text lines others h k

pub same_topology : (text : List ℕ) (schedule other : Schedule) → IsFile text schedule → IsFile text other → schedule.topology ≡ other.topology
same_topology text schedule other h k = h.2 ∙ ap net_of (same_lines text h.0 k.0 h.1 k.1) ∙ sym k.2

pub same_directives : (text : List ℕ) (schedule other : Schedule) → IsFile text schedule → IsFile text other → schedule.lines.items ≡ other.lines.items
same_directives text schedule other h k = h.3 ∙ ap directives_of (same_lines text h.0 k.0 h.1 k.1) ∙ sym k.3

pub same_network : (text : List ℕ) (net other : Net) → IsTopologyFile text net → IsTopologyFile text other → net ≡ other
same_network text net other h k = h.2 ∙ ap net_of (one_list Over text h.0 k.0 h.1 k.1) ∙ sym k.2

-- lines that were read have no first bad one
pub none_first : (behind : Part) (text : List ℕ) (lines : List Line) (number : ℕ) (kind : BadKind) → ReadsIn behind [] (words_by_line text) lines → FirstBadIn behind text number kind → ⊥
none_first behind text lines number kind h k = no_bad behind [] (words_by_line text) lines k.0 kind h k.2

pub no_file : (text : List ℕ) (schedule : Schedule) (number : ℕ) (kind : BadKind) → IsFile text schedule → FirstBad text number kind → ⊥
no_file text schedule number kind h k = none_first Run text h.0 number kind h.1 k

pub no_topology : (text : List ℕ) (net : Net) (number : ℕ) (kind : BadKind) → IsTopologyFile text net → FirstBadOfTopology text number kind → ⊥
no_topology text net number kind h k = none_first Over text h.0 number kind h.1 k

pub one_first_in : (behind : Part) (text : List ℕ) (number other : ℕ) (kind last : BadKind) → FirstBadIn behind text number kind → FirstBadIn behind text other last → (number ≡ other) × (kind ≡ last)
one_first_in behind text number other kind last h k =
    let same = one_bad behind [] (words_by_line text) h.0 k.0 kind last h.2 k.2 in
    (h.1 ∙ ap suc same.0 ∙ sym k.1, same.1)

pub one_first : (text : List ℕ) (number other : ℕ) (kind last : BadKind) → FirstBad text number kind → FirstBad text other last → (number ≡ other) × (kind ≡ last)
one_first text number other kind last h k = one_first_in Run text number other kind last h k

pub same_number : (behind : Part) (text : List ℕ) (number other : ℕ) (kind last : BadKind) → FirstBadIn behind text number kind → FirstBadIn behind text other last → number ≡ other
same_number behind text number other kind last h k = (one_first_in behind text number other kind last h k).0

pub same_kind : (behind : Part) (text : List ℕ) (number other : ℕ) (kind last : BadKind) → FirstBadIn behind text number kind → FirstBadIn behind text other last → kind ≡ last
same_kind behind text number other kind last h k = (one_first_in behind text number other kind last h k).1

-- the next line of the text is the first of those that are left
pub line_here : (behind : Part) (earlier : List Line) (lines next : Reading) (text : List ℕ) (span : Span) (whole : List (List (List ℕ))) → lines.text ≡ text → IsNextLine lines span → lines_left lines ≡ line_at lines.text lines.given ∷ lines_left next → Continues behind earlier (map (λ line. words_of (left_of line)) (lines_left lines)) whole → Continues behind earlier (words_of (slice_range text span.start span.end) ∷ map (λ line. words_of (left_of line)) (lines_left next)) whole
line_here behind earlier lines next text span whole same is left h =
    let bytes : slice_range text span.start span.end ≡ left_of (line_at lines.text lines.given) = ap (λ t. slice_range t span.start span.end) (sym same) ∙ is.bytes in
    subst (λ texts. Continues behind earlier texts whole) (ap (map (λ line. words_of (left_of line))) left ∙ ap (λ b. words_of b ∷ map (λ line. words_of (left_of line)) (lines_left next)) (sym bytes)) h

pub starts : (behind : Part) (reading : Reading) (text : List ℕ) → reading ≡ record { text = text; given = 0 } → Continues behind [] (map (λ line. words_of (left_of line)) (lines_left reading)) (words_by_line text)
starts behind reading text e = subst (λ r. Continues behind [] (map (λ line. words_of (left_of line)) (lines_left r)) (words_by_line text)) (sym e) (continues_at_start behind (words_by_line text))

-- at the end of the text all lines are read
pub reads_all : (behind : Part) (earlier : List Line) (reading : Reading) (text : List ℕ) → lines_left reading ≡ [] → Continues behind earlier (map (λ line. words_of (left_of line)) (lines_left reading)) (words_by_line text) → ReadsIn behind [] (words_by_line text) earlier
reads_all behind earlier reading text e h =
    let at_end = subst (λ lines. Continues behind earlier (map (λ line. words_of (left_of line)) lines) (words_by_line text)) e h in
    at_end.reads earlier refl
