-- A text of spelled lines is cut into these lines, and each line into its words.
use Rattle.std.proofs.Common.{◌≡◌, ℕ, ◌<◌, ◌≤◌, ◌^◌, ◌/◌, ◌%◌, ◌==◌, ◌||◌, Bool, true, false, List, [], ◌∷◌, ◌++◌, append_assoc, refl, ap, ◌∙◌, arith}
use Rattle.std.specs.Prelude.{Some, None, map, nat_lt}
use Rattle.std.specs.List.{list_any, flat_map, join_with_byte, All, AllByRecursion}
use Rattle.std.specs.Fmt.{decimal}
use Rattle.std.specs.Str.Parse.{AllDigits}
use Rattle.std.proofs.lemmas.Bool.{or_parts, or_from, ne_eqb}
use Rattle.std.proofs.lemmas.Bool.Decides.{nat_tests}
use Rattle.std.proofs.lemmas.List.Elements.{All-nil, All-cons}
use Rattle.std.proofs.lemmas.List.Folds.{list_any-append}
use Rattle.std.proofs.lemmas.Str.Parse.{digit_from_value}
use Rattle.text_lines.specs.Lines.{left_of}
use Rattle.text_lines.specs.Words.{separates, has_bytes, words_of, IsWord}
use Rattle.text_lines.proofs.Joined.{decimal_is_word, joined_words}
use Rattle.text_lines.proofs.Leaving.{left_plain}
use Rattle.text_lines.proofs.Placed.{line_cut}
use Rattle.topology.specs.declared.names.Scheme.{Scheme}
use Rattle.topology.specs.declared.names.Scheme.TheVariants.{Deflect, Detour, Backup}
use Rattle.topology.specs.declared.prefixes.Prefix.{Prefix as Range}
use Rattle.topology.specs.declared.links.Relation.{Relation}
use Rattle.topology.specs.declared.links.Relation.TheVariants.{Customer, Provider, Peer, Any}
use Rattle.schedule_file.specs.declared.lines.Line.{Line}
use Rattle.schedule_file.specs.declared.lines.Line.TheVariants.{Blank, Begin, Declares, Directs}
use Rattle.schedule_file.specs.declared.lines.Declaration.{Declaration}
use Rattle.schedule_file.specs.declared.lines.Declaration.TheVariants.{Node, Link, Pref, Hold, Prefix, Hops, Transient}
use Rattle.schedule_file.specs.declared.directives.Directive.{Directive}
use Rattle.schedule_file.specs.declared.directives.Directive.TheVariants.{Originate}
use Rattle.schedule_file.specs.declared.directives.Rest.{Rest}
use Rattle.schedule_file.specs.declared.directives.Rest.TheVariants.{Origin, Single, Pair, Prefer, Propose, Drain, Control, ControlAll, Inject, Hop, Show, ShowEpoch, ShowWalk}
use Rattle.schedule_file.specs.declared.table.Keyword.{Keyword}
use Rattle.schedule_file.specs.declared.table.Keyword.TheVariants as keyword
use Rattle.schedule_file.specs.declared.table.PlainView.{PlainView}
use Rattle.schedule_file.specs.declared.table.PlainView.TheVariants.{Rib}
use Rattle.schedule_file.specs.declared.table.EpochView.{EpochView}
use Rattle.schedule_file.specs.declared.table.EpochView.TheVariants.{Cut}
use Rattle.schedule_file.specs.Spelling.{words_by_line, prefix_text, relation_text, IsNumber, IsRange}
use Rattle.schedule_file.specs.Table.{keyword_text, plain_text, epoch_text}
use Rattle.schedule_file.specs.Directives.{first_word, rest_of}
use Rattle.schedule_file.specs.Lines.{declaring, scheme_words, declared_words, rest_words, line_words, SchemeInRange, DeclaresInRange, RestInRange, InRange}
use Rattle.schedule_file.specs.Printing.{line_text}
use Rattle.schedule_file.proofs.Numbers.{decimal_digits}
use Rattle.schedule_file.proofs.Addresses.{text_by_parts, from_second, from_third, from_fourth}

-- digits, letters, points and slashes are 46 or more
abbrev low : ℕ → Bool
low b = nat_lt b 46

abbrev Lacking : (ℕ → Bool) → List ℕ → Type 0
Lacking p word = list_any p word ≡ false

record Plain (word : List ℕ) : Type 0 where
  some : has_bytes word ≡ true
  high : Lacking low word

lacking-append : (p : ℕ → Bool) (xs ys : List ℕ) → Lacking p xs → Lacking p ys → Lacking p (xs ++ ys)
lacking-append p xs ys h k = list_any-append p xs ys ∙ or_from (list_any p xs) (list_any p ys) h k

-- if a test fails for every byte from 46 on, no byte of a plain word passes it
lacks : (p : ℕ → Bool) → ((b : ℕ) → 46 ≤ b → p b ≡ false) → (word : List ℕ) → Lacking low word → Lacking p word
lacks p never [] h = refl
lacks p never (b ∷ word) h =
    let parts = or_parts (low b) (list_any low word) h in
    let above : 46 ≤ b = (let e = parts.0 in grind (arith, nat_tests)) in
    or_from (p b) (list_any p word) (never b above) (lacks p never word parts.1)

digits_high : (ds : List ℕ) → AllDigits 10 ds → Lacking low ds
digits_high [] h = refl
digits_high (d ∷ ds) h =
    let range = digit_from_value d h.0 in
    or_from (low d) (list_any low ds) (grind (arith, nat_tests)) (digits_high ds h.1)

decimal_high : (n : ℕ) → n < 2 ^ 64 → Lacking low (decimal n)
decimal_high n h = digits_high (decimal n) (decimal_digits n h)

plain_decimal : (n : ℕ) → n < 2 ^ 64 → Plain (decimal n)
plain_decimal n h = record { some = (decimal_is_word n h).0; high = decimal_high n h }

plain_number : (n : ℕ) → IsNumber n → Plain (decimal n)
plain_number n h = plain_decimal n (omega (arith, h.1))

has_more : (xs ys : List ℕ) → has_bytes xs ≡ true → has_bytes (xs ++ ys) ≡ true
has_more [] ys h = absurd (cc)
has_more (x ∷ xs) ys h = refl

part_high : (n mark : ℕ) (rest : List ℕ) → n < 256 → low mark ≡ false → Lacking low rest → Lacking low (decimal n ++ mark ∷ rest)
part_high n mark rest h m k = lacking-append low (decimal n) (mark ∷ rest) (decimal_high n (omega arith)) (or_from (low mark) (list_any low rest) m k)

plain_prefix : (p : Range) → IsRange p → Plain (prefix_text p)
plain_prefix p h =
    let a = p.bits / 2 ^ 24 % 256 in
    let high = part_high a 46 (from_second p.bits p.len) (omega arith) refl
    (part_high (p.bits / 2 ^ 16 % 256) 46 (from_third p.bits p.len) (omega arith) refl
    (part_high (p.bits / 2 ^ 8 % 256) 46 (from_fourth p.bits p.len) (omega arith) refl
    (part_high (p.bits % 256) 47 (decimal p.len) (omega arith) refl (decimal_high p.len (omega (arith, h.1.short)))))) in
    rw (text_by_parts p) (record { some = has_more (decimal a) (46 ∷ from_second p.bits p.len) (decimal_is_word a (omega arith)).0; high = high })

plain_relation : (r : Relation) → Plain (relation_text r)
plain_relation Customer = record { some = refl; high = refl }
plain_relation Provider = record { some = refl; high = refl }
plain_relation Peer = record { some = refl; high = refl }
plain_relation Any = record { some = refl; high = refl }

plain_keyword : (k : Keyword) → Plain (keyword_text k)
plain_keyword keyword.Node = record { some = refl; high = refl }
plain_keyword k = record { some = refl; high = refl }

plain_first : (d : Directive Range) → Plain (first_word d)
plain_first (Originate node p) = record { some = refl; high = refl }
plain_first d = record { some = refl; high = refl }

plain_view : (view : PlainView) → Plain (plain_text view)
plain_view Rib = record { some = refl; high = refl }
plain_view view = record { some = refl; high = refl }

plain_epoch_view : (view : EpochView) → Plain (epoch_text view)
plain_epoch_view Cut = record { some = refl; high = refl }
plain_epoch_view view = record { some = refl; high = refl }

abbrev AllPlain : List (List ℕ) → Type 0
AllPlain words = AllByRecursion Plain words

scheme_plain : (scheme : Scheme) → SchemeInRange scheme → AllPlain (scheme_words scheme)
scheme_plain Deflect h = (record { some = refl; high = refl }, tt)
scheme_plain (Detour node) h = (record { some = refl; high = refl }, (plain_number node h, tt))
scheme_plain Backup h = (record { some = refl; high = refl }, tt)

declared_plain : (d : Declaration) → DeclaresInRange d → AllPlain (declared_words d)
declared_plain (Node id false) h = (plain_number id h, tt)
declared_plain (Node id true) h = (plain_number id h, (record { some = refl; high = refl }, tt))
declared_plain (Link a b relation) h = (plain_number a h.0, (plain_number b h.1, (plain_relation relation, tt)))
declared_plain (Pref a b value) h = (plain_number a h.0, (plain_number b h.1, (plain_decimal value (omega (arith, h.2)), tt)))
declared_plain (Hold a b) h = (plain_number a h.0, (plain_number b h.1, tt))
declared_plain (Prefix p) h = (plain_prefix p h, tt)
declared_plain (Hops hops) h = (plain_decimal hops (omega (arith, h)), tt)
declared_plain (Transient scheme) h = scheme_plain scheme h

rest_plain : (r : Rest Range) → RestInRange r → AllPlain (rest_words r)
rest_plain (Origin node p) h = (plain_number node h.0, (plain_prefix p h.1, tt))
rest_plain (Single node) h = (plain_number node h, tt)
rest_plain (Pair a b) h = (plain_number a h.0, (plain_number b h.1, tt))
rest_plain (Prefer node nbr value) h = (plain_number node h.0, (plain_number nbr h.1, (plain_decimal value (omega (arith, h.2)), tt)))
rest_plain (Propose node epoch) h = (plain_number node h.0, (plain_decimal epoch (omega (arith, h.2)), tt))
rest_plain (Drain times) h = (plain_decimal times (omega (arith, h.1)), tt)
rest_plain (Control number) h = (plain_decimal number (omega (arith, h.1)), tt)
rest_plain (ControlAll times) h = (record { some = refl; high = refl }, (plain_decimal times (omega (arith, h.1)), tt))
rest_plain (Inject packet node p) h = (plain_decimal packet (omega (arith, h.1)), (plain_number node h.2, (plain_prefix p h.3, tt)))
rest_plain (Hop packet None) h = (plain_decimal packet (omega (arith, h.1)), tt)
rest_plain (Hop packet (Some times)) h = (plain_decimal packet (omega (arith, h.1)), (plain_decimal times (omega (arith, h.3)), tt))
rest_plain (Show view) h = (plain_view view, tt)
rest_plain (ShowEpoch view epoch) h = (plain_epoch_view view, (plain_decimal epoch (omega (arith, h.1)), tt))
rest_plain (ShowWalk packet) h = (record { some = refl; high = refl }, (plain_decimal packet (omega (arith, h.1)), tt))

line_plain : (line : Line) → InRange line → AllPlain (line_words line)
line_plain Blank h = tt
line_plain Begin h = (plain_keyword keyword.Begin, tt)
line_plain (Declares d) h = (plain_keyword (declaring d), declared_plain d h)
line_plain (Directs d) h = (plain_first d, rest_plain (rest_of d) h)

-- plain words are words
never_separates : (b : ℕ) → 46 ≤ b → separates b ≡ false
never_separates b h = or_from (b == 32) (b == 9) (ne_eqb b 32 (λ e. omega arith)) (ne_eqb b 9 (λ e. omega arith))

are_words : (words : List (List ℕ)) → AllPlain words → All IsWord words
are_words [] h = All-nil IsWord
are_words (word ∷ words) h = All-cons IsWord word words (h.0.some, lacks separates never_separates word h.0.high) (are_words words h.1)

-- joined by spaces they have no newline, no comment and no carriage return
joined_lacks : (p : ℕ → Bool) → ((b : ℕ) → 46 ≤ b → p b ≡ false) → p 32 ≡ false → (words : List (List ℕ)) → AllPlain words → Lacking p (join_with_byte 32 words)
joined_lacks p never space [] h = refl
joined_lacks p never space (word ∷ []) h = lacks p never word h.0.high
joined_lacks p never space (word ∷ next ∷ words) h =
    lacking-append p word (32 ∷ join_with_byte 32 (next ∷ words)) (lacks p never word h.0.high)
    (or_from (p 32) (list_any p (join_with_byte 32 (next ∷ words))) space (joined_lacks p never space (next ∷ words) h.1))

never_newline : (b : ℕ) → 46 ≤ b → (b == 10) ≡ false
never_newline b h = ne_eqb b 10 (λ e. omega arith)

never_comment : (b : ℕ) → 46 ≤ b → (b == 35 || b == 13) ≡ false
never_comment b h = or_from (b == 35) (b == 13) (ne_eqb b 35 (λ e. omega arith)) (ne_eqb b 13 (λ e. omega arith))

-- the first line of a text is its spelling
line_there : (line : Line) (rest : List ℕ) → InRange line → words_by_line (line_text line ++ rest) ≡ line_words line ∷ words_by_line rest
line_there line rest h =
    let words = line_words line in
    let plain = line_plain line h in
    let joined = join_with_byte 32 words in
    let cut = line_cut joined rest (joined_lacks (λ b. b == 10) never_newline refl words plain) in
    let left = left_plain joined (joined_lacks (λ b. b == 35 || b == 13) never_comment refl words plain) in
    ap words_by_line (append_assoc joined (10 ∷ []) rest)
    ∙ ap (map (λ line. words_of (left_of line))) cut
    ∙ ap (λ first. first ∷ words_by_line rest) (ap words_of left ∙ joined_words words (are_words words plain))

-- a text of lines has the words of these lines
pub lines_there : (lines : List Line) → AllByRecursion InRange lines → words_by_line (flat_map line_text lines) ≡ map line_words lines
lines_there [] h = refl
lines_there (line ∷ lines) h = line_there line (flat_map line_text lines) h.0 ∙ ap (λ others. line_words line ∷ others) (lines_there lines h.1)
