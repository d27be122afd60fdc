-- The lines of a script, read one after another.
use Rattle.std.proofs.Common.{◌≡◌, ◌≢◌, ℕ, suc, ◌<◌, Bool, true, false, ◌||◌, ◌==◌, Option, Some, None, Result, Ok, Err, List, [], ◌∷◌, ◌++◌, map, get_or, append_assoc, refl, sym, ap, ◌∙◌, subst, arith}
use Rattle.std.specs.Prelude.{OnOk, option_map, slice_range, find, bytes_eq}
use Rattle.std.specs.Option.{option_or}
use Rattle.std.proofs.lemmas.Bool.{cond-false}
use Rattle.text_lines.specs.declared.lines.Line.{Line as Span}
use Rattle.text_lines.specs.Lines.{left_of, line_at}
use Rattle.text_lines.specs.Words.{words_of}
use Rattle.text_lines.specs.Readings.{Reading, IsNextLine, lines_left}
use Rattle.topology.specs.Lists.{ascending, has}
use Rattle.topology.specs.declared.status.BadKind.{BadKind}
use Rattle.topology.specs.declared.status.BadKind.TheVariants.{UnknownWord}
use Rattle.topology.proofs.Ascending.{has-ascending}
use Rattle.topology.proofs.Sets.{has-append}
use Rattle.schedule_file.specs.declared.words.Words.{Words}
use Rattle.schedule_file.specs.Spelling.{words_by_line}
use Rattle.schedule_file.specs.Standing.{Holds}
use Rattle.leadership.proofs.Values.{other_word}
use Rattle.leadership.specs.declared.events.LeadEvent.{LeadEvent}
use Rattle.leadership.specs.declared.events.LeadEvent.TheVariants as event
use Rattle.leadership.specs.declared.scripts.Directive.{Directive}
use Rattle.leadership.specs.declared.scripts.Directive.TheVariants.{Event, Deliveries, ShowChosen}
use Rattle.leadership.specs.declared.scripts.Keyword.{Keyword}
use Rattle.leadership.specs.declared.scripts.Line.{Line}
use Rattle.leadership.specs.declared.scripts.Numbered.{Numbered}
use Rattle.leadership.specs.Fits.{fits}
use Rattle.leadership.specs.Parsing.{AllKnown}
use Rattle.leadership.specs.Scripts.{Before, asked, bad_or, declared, directives_from, directives_of, fault, fault_by, fields, first_bad, first_bad_from, first_fault, form_fault, is_known, keyword_in, keyword_text, keywords, line_by, line_of, members_of, nothing, with_line, word_fault}

-- ---- first words

none_passes : {X : Type 0} (p : X → Bool) (xs : List X) → ((x : X) → p x ≡ false) → find p xs ≡ None
none_passes p [] h = refl
none_passes p (x ∷ xs) h = cond-false (p x) (Some x) (find p xs) (h x) ∙ none_passes p xs h

pub no_keyword : (word : List ℕ) → ((k : Keyword) → word ≢ keyword_text k) → keyword_in word ≡ None
no_keyword word none = none_passes (λ k. bytes_eq word (keyword_text k)) keywords (λ k. other_word word (keyword_text k) (none k))

-- the words have a first one, with all that was read of them
record HasFirst (words : Words) (all : List (List ℕ)) : Type 0 where
  rest : List (List ℕ)
  are : all ≡ words.first.now ∷ rest
  held : Holds words (words.first.now ∷ rest)

has_first : (words : Words) (all : List (List ℕ)) → Holds words all → 0 < words.count → HasFirst words all
has_first words [] h some = absurd (omega (arith, h.counted))
has_first words (w ∷ ws) h some =
    let are = ap (λ v. v ∷ ws) (sym h.one) in
    record { rest = ws; are = are; held = subst (Holds words) are h }

-- no words
pub no_words : (words : Words) (all : List (List ℕ)) → Holds words all → words.count ≡ 0 → all ≡ []
no_words words [] h none = refl
no_words words (w ∷ ws) h none = absurd (omega (arith, h.counted, none))

module _ (words : Words) (all : List (List ℕ)) (begun : Bool) (h : Holds words all) (some : 0 < words.count) where
  -- the first word is not a keyword
  pub other_first : keyword_in words.first.now ≡ None → word_fault begun all ≡ Some UnknownWord
  other_first none =
      let f = has_first words all h some in
      ap (word_fault begun) f.are ∙ ap (λ k. fault_by begun k f.rest) none

  module _ (k : Keyword) (named : keyword_in words.first.now ≡ Some k) where
    by_first : (f : HasFirst words all) → word_fault begun all ≡ option_or (form_fault begun k f.rest) (first_fault (fields k f.rest) f.rest)
    by_first f = ap (word_fault begun) f.are ∙ ap (λ found. fault_by begun found f.rest) named

    pub form_first : (kind : BadKind) → ((word : List ℕ) (rest : List (List ℕ)) → Holds words (word ∷ rest) → form_fault begun k rest ≡ Some kind) → word_fault begun all ≡ Some kind
    form_first kind bad =
        let f = has_first words all h some in
        by_first f ∙ ap (λ fault. option_or fault (first_fault (fields k f.rest) f.rest)) (bad words.first.now f.rest f.held)

    module _ (good : (word : List ℕ) (rest : List (List ℕ)) → Holds words (word ∷ rest) → form_fault begun k rest ≡ None) where
      pub fields_first : (fault : Option BadKind) → ((word : List ℕ) (rest : List (List ℕ)) → Holds words (word ∷ rest) → first_fault (fields k rest) rest ≡ fault) → word_fault begun all ≡ fault
      fields_first fault decides =
          let f = has_first words all h some in
          by_first f
          ∙ (ap (λ form. option_or form (first_fault (fields k f.rest) f.rest)) (good words.first.now f.rest f.held)
          ∙ decides words.first.now f.rest f.held)

      pub line_first : (said : Line) → ((word : List ℕ) (rest : List (List ℕ)) → Holds words (word ∷ rest) → said ≡ line_by k rest) → Some said ≡ line_of all
      line_first said is =
          let f = has_first words all h some in
          ap (λ (l : Line). Some l) (is words.first.now f.rest f.held) ∙ sym (ap line_of f.are ∙ ap (λ (found : Option Keyword). option_map (λ (j : Keyword). line_by j f.rest) found) named)

-- ---- names

or_true : (a b : Bool) → a ≡ true → (a || b) ≡ true
or_true a b h = rw h refl

fits_more : (members : List ℕ) (u : ℕ) (e : LeadEvent) → fits members e ≡ true → fits (members ++ u ∷ []) e ≡ true
fits_more members u (event.Lead v d) h = has-append members u v ∙ or_true (has members v) (u == v) h
fits_more members u (event.Offer v d x) h = has-append members u v ∙ or_true (has members v) (u == v) h
fits_more members u (event.Control number) h = refl
fits_more members u (event.Crash v) h = has-append members u v ∙ or_true (has members v) (u == v) h
fits_more members u (event.Restart v) h = has-append members u v ∙ or_true (has members v) (u == v) h

known_more : (members : List ℕ) (u : ℕ) (d : Directive) → is_known members d ≡ true → is_known (members ++ u ∷ []) d ≡ true
known_more members u (Event e) h = fits_more members u e h
known_more members u (Deliveries times) h = refl
known_more members u ShowChosen h = refl

-- a directive that names only members names only members of a longer list
pub all_known_more : (members : List ℕ) (u : ℕ) (directives : List Numbered) → AllKnown members directives → AllKnown (members ++ u ∷ []) directives
all_known_more members u directives h = λ i d lt. known_more members u (get_or directives i d).directive (h i d lt)

-- ---- scripts

-- the words of the next line of the text are the first of those that are left
pub words_here : (lines next : Reading) (text : List ℕ) (span : Span) → lines.text ≡ text → IsNextLine lines span → lines_left lines ≡ line_at lines.text lines.given ∷ lines_left next
    → map (λ line. words_of (left_of line)) (lines_left lines) ≡ words_of (slice_range text span.start span.end) ∷ map (λ line. words_of (left_of line)) (lines_left next)
words_here lines next text span same is left =
    let bytes : slice_range text span.start span.end ≡ left_of (line_at lines.text lines.given) = ap (λ t. slice_range t span.start span.end) (sym same) ∙ is.bytes in
    ap (map (λ line. words_of (left_of line))) left ∙ ap (λ b. words_of b ∷ map (λ line. words_of (left_of line)) (lines_left next)) (sym bytes)

-- a line is taken
pub declared_step : (old new : Before) (words : List (List ℕ)) (left rest : List (List (List ℕ))) (whole : Before) → left ≡ words ∷ rest → new ≡ with_line (line_of words) old → declared old left ≡ whole → declared new rest ≡ whole
declared_step old new words left rest whole is takes so_far = ap (λ b. declared b rest) takes ∙ (ap (declared old) (sym is) ∙ so_far)

pub directives_step : (old new : List Numbered) (number : ℕ) (words : List (List ℕ)) (left rest : List (List (List ℕ))) (whole : List Numbered) → left ≡ words ∷ rest → new ≡ old ++ asked number (line_of words)
    → old ++ directives_from number left ≡ whole → new ++ directives_from (suc number) rest ≡ whole
directives_step old new number words left rest whole is takes so_far =
    ap (λ ds. ds ++ directives_from (suc number) rest) takes
    ∙ (append_assoc old (asked number (line_of words)) (directives_from (suc number) rest)
    ∙ (ap (λ ls. old ++ directives_from number ls) (sym is) ∙ so_far))

pub bad_step : (old new : Before) (number : ℕ) (words : List (List ℕ)) (left rest : List (List (List ℕ))) (whole : Option (ℕ × BadKind)) → left ≡ words ∷ rest → new ≡ with_line (line_of words) old → fault old words ≡ None
    → first_bad_from number old left ≡ whole → first_bad_from (suc number) new rest ≡ whole
bad_step old new number words left rest whole is takes fine so_far =
    ap (λ b. first_bad_from (suc number) b rest) takes
    ∙ (sym (ap (λ o. bad_or number o (first_bad_from (suc number) (with_line (line_of words) old) rest)) fine)
    ∙ (ap (first_bad_from number old) (sym is) ∙ so_far))

-- or it is the first bad line
pub bad_here : (old : Before) (number : ℕ) (words : List (List ℕ)) (left rest : List (List (List ℕ))) (whole : Option (ℕ × BadKind)) (kind : BadKind) → left ≡ words ∷ rest → fault old words ≡ Some kind
    → first_bad_from number old left ≡ whole → whole ≡ Some (number, kind)
bad_here old number words left rest whole kind is bad so_far =
    sym so_far ∙ (ap (first_bad_from number old) is ∙ ap (λ o. bad_or number o (first_bad_from (suc number) (with_line (line_of words) old) rest)) bad)

module _ (reading : Reading) (text : List ℕ) (same : reading ≡ record { text = text; given = 0 }) where
  -- at the start of the text
  pub declared_start : (before : Before) → before ≡ nothing → declared before (map (λ line. words_of (left_of line)) (lines_left reading)) ≡ declared nothing (words_by_line text)
  declared_start before none = rw (same, none) refl

  pub directives_start : (directives : List Numbered) → directives ≡ [] → directives ++ directives_from (suc reading.given) (map (λ line. words_of (left_of line)) (lines_left reading)) ≡ directives_of text
  unfolding directives_of
  directives_start directives none = rw (same, none) refl

  pub bad_start : (before : Before) → before ≡ nothing → first_bad_from (suc reading.given) before (map (λ line. words_of (left_of line)) (lines_left reading)) ≡ first_bad text
  unfolding first_bad
  bad_start before none = rw (same, none) refl

-- ---- members, ascending

fits_ascending : (members : List ℕ) (e : LeadEvent) → fits members e ≡ true → fits (ascending members) e ≡ true
fits_ascending members (event.Lead v d) h = has-ascending members v ∙ h
fits_ascending members (event.Offer v d x) h = has-ascending members v ∙ h
fits_ascending members (event.Control number) h = refl
fits_ascending members (event.Crash v) h = has-ascending members v ∙ h
fits_ascending members (event.Restart v) h = has-ascending members v ∙ h

known_ascending : (members : List ℕ) (d : Directive) → is_known members d ≡ true → is_known (ascending members) d ≡ true
known_ascending members (Event e) h = fits_ascending members e h
known_ascending members (Deliveries times) h = refl
known_ascending members ShowChosen h = refl

pub all_known_ascending : (members : List ℕ) (directives : List Numbered) → AllKnown members directives → AllKnown (ascending members) directives
all_known_ascending members directives h = λ i d lt. known_ascending members (get_or directives i d).directive (h i d lt)

-- what holds for each number holds for this one
pub for_this : {T E : Type 0} (P : ℕ → Type 0) (r : Result T E) (number : ℕ) → OnOk r ((n : ℕ) → P n) → OnOk r (P number)
for_this P (Ok x) number h = h number
for_this P (Err x) number h = tt

-- at the end of the text
pub members_end : (before : Before) (left : List (List (List ℕ))) (text : List ℕ) → left ≡ [] → declared before left ≡ declared nothing (words_by_line text) → before.members ≡ members_of text
unfolding members_of
members_end before left text none so_far = ap (λ (b : Before). b.members) (sym (ap (declared before) none) ∙ so_far)
