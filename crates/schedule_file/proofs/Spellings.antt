-- A line in its part has no fault in its words, and is read back from them. So words spell only one line.
use Rattle.std.proofs.Common.{◌≡◌, ℕ, suc, ◌≤◌, true, false, List, [], ◌∷◌, length, refl, sym, ap, ap₂, ◌∙◌, arith}
use Rattle.std.specs.Prelude.{Some, None, codes}
use Rattle.std.specs.Option.{option_or}
use Rattle.std.specs.Fmt.{decimal}
use Rattle.topology.specs.declared.names.Scheme.TheVariants as scheme
use Rattle.schedule_file.specs.declared.lines.Line.{Line}
use Rattle.schedule_file.specs.declared.lines.Line.TheVariants.{Blank, Begin, Declares, Directs}
use Rattle.schedule_file.specs.declared.lines.Declaration.{Declaration}
use Rattle.schedule_file.specs.declared.lines.Declaration.TheVariants.{Node, Link, Pref, Hold, Prefix, Hops, Transient}
use Rattle.topology.specs.declared.prefixes.Prefix.{Prefix as Range}
use Rattle.schedule_file.specs.declared.directives.Directive.{Directive}
use Rattle.schedule_file.specs.declared.directives.Directive.TheVariants.{Originate}
use Rattle.schedule_file.specs.declared.directives.Rest.{Rest}
use Rattle.schedule_file.specs.declared.directives.Rest.TheVariants.{Origin, Single, Pair, Prefer, Propose, Drain, Control, ControlAll, Inject, Hop, Show, ShowEpoch, ShowWalk}
use Rattle.schedule_file.specs.declared.table.Keyword.{Keyword}
use Rattle.schedule_file.specs.declared.table.Part.{Part}
use Rattle.schedule_file.specs.declared.table.Keyword.TheVariants as keyword
use Rattle.schedule_file.specs.declared.table.EpochView.TheVariants.{Cut, Closure, Tables}
use Rattle.schedule_file.specs.declared.table.PlainView.{PlainView}
use Rattle.schedule_file.specs.declared.table.PlainView.TheVariants.{Rib}
use Rattle.schedule_file.specs.declared.table.View.TheVariants.{Plain, OfEpoch}
use Rattle.schedule_file.specs.Spelling.{prefix_text, relation_text, IsNumber}
use Rattle.schedule_file.specs.Directives.{first_word, rest_of, directive_by}
use Rattle.schedule_file.specs.Lines.{declaring, declared_words, directing, rest_words, line_words, DeclaresInRange, RestInRange, InRange, Spells}
use Rattle.schedule_file.specs.Words.{number_of, prefix_of, relation_of}
use Rattle.schedule_file.specs.Table.{Field, may_direct, keyword_in, keyword_text, plain_text, epoch_text, view_in, shape_of, may_stand, may_have, fields, view_fields, spells_field, first_fault, relations}
use Rattle.schedule_file.specs.Table.Field.{NodeNumber, Value, HopLimit, Times, MessageNumber, PacketNumber, Masked, OneOf, Viewed, Schemed, EpochNumber}
use Rattle.schedule_file.specs.Grammar.{stands}
use Rattle.schedule_file.specs.Refusals.{fault_by, word_fault, shown_by, line_by, line_from, line_of}
use Rattle.schedule_file.proofs.Numbers.{decimal_value}
use Rattle.schedule_file.proofs.Passing.{spells_decimal, spells_text, prefix_of_text, relation_of_text, relation_known, has_only}
use Rattle.schedule_file.proofs.Fields.{fine, good_form}
use Rattle.schedule_file.proofs.Keywords.{keyword_found, directive_found, view_found}

node_fine : (n : ℕ) → IsNumber n → spells_field NodeNumber (decimal n) ≡ true
node_fine n h = spells_decimal 1 65535 n (omega (arith, h.0)) (omega (arith, h.1)) (omega (arith, h.1))

value_fine : (n : ℕ) → n ≤ 1000000 → spells_field Value (decimal n) ≡ true
value_fine n h = spells_decimal 0 1000000 n (omega arith) h (omega arith)

times_fine : (n : ℕ) → 1 ≤ n → n ≤ 1000000 → spells_field Times (decimal n) ≡ true
times_fine n h k = spells_decimal 1 1000000 n h k (omega arith)

message_fine : (n : ℕ) → 1 ≤ n → n ≤ 1000000 → spells_field MessageNumber (decimal n) ≡ true
message_fine n h k = spells_decimal 1 1000000 n h k (omega arith)

hops_fine : (n : ℕ) → n ≤ 65535 → spells_field HopLimit (decimal n) ≡ true
hops_fine n h = spells_decimal 0 65535 n (omega arith) h (omega arith)

packet_fine : (n : ℕ) → 1 ≤ n → n ≤ 4294967295 → spells_field PacketNumber (decimal n) ≡ true
packet_fine n h k = spells_decimal 1 4294967295 n h k (omega arith)

epoch_fine : (n : ℕ) → 1 ≤ n → n ≤ 32 → spells_field EpochNumber (decimal n) ≡ true
epoch_fine n h k = spells_decimal 1 32 n h k (omega arith)

-- words that spell their fields
one_fine : (f : Field) (a : List ℕ) → spells_field f a ≡ true → first_fault (f ∷ []) (a ∷ []) ≡ None
one_fine f a h = fine f [] a [] h

two_fine : (f g : Field) (a b : List ℕ) → spells_field f a ≡ true → spells_field g b ≡ true → first_fault (f ∷ g ∷ []) (a ∷ b ∷ []) ≡ None
two_fine f g a b h k = fine f (g ∷ []) a (b ∷ []) h ∙ one_fine g b k

three_fine : (f g x : Field) (a b c : List ℕ) → spells_field f a ≡ true → spells_field g b ≡ true → spells_field x c ≡ true → first_fault (f ∷ g ∷ x ∷ []) (a ∷ b ∷ c ∷ []) ≡ None
three_fine f g x a b c h k l = fine f (g ∷ x ∷ []) a (b ∷ c ∷ []) h ∙ two_fine g x b c k l

-- a keyword is followed by a permitted number of words, each of which may stand there
record Fine (k : Keyword) (words : List (List ℕ)) : Type 0 where
  counted : may_have (shape_of k) (suc (length words)) ≡ true
  fine_words : first_fault (fields k words) words ≡ None

fine_declaration : (d : Declaration) → DeclaresInRange d → Fine (declaring d) (declared_words d)
fine_declaration (Node id false) h = record { counted = refl; fine_words = one_fine NodeNumber (decimal id) (node_fine id h) }
fine_declaration (Node id true) h = record {
  counted = refl;
  fine_words = two_fine NodeNumber (OneOf (codes "consolidator" ∷ [])) (decimal id) (codes "consolidator") (node_fine id h) (has_only (codes "consolidator"));
}
fine_declaration (Link a b relation) h = record {
  counted = refl;
  fine_words = three_fine NodeNumber NodeNumber (OneOf relations) (decimal a) (decimal b) (relation_text relation) (node_fine a h.0) (node_fine b h.1) (relation_known relation);
}
fine_declaration (Pref a b value) h = record {
  counted = refl;
  fine_words = three_fine NodeNumber NodeNumber Value (decimal a) (decimal b) (decimal value) (node_fine a h.0) (node_fine b h.1) (value_fine value h.2);
}
fine_declaration (Hold a b) h = record {
  counted = refl;
  fine_words = two_fine NodeNumber NodeNumber (decimal a) (decimal b) (node_fine a h.0) (node_fine b h.1);
}
fine_declaration (Prefix p) h = record { counted = refl; fine_words = one_fine Masked (prefix_text p) (spells_text p h) }
fine_declaration (Hops hops) h = record { counted = refl; fine_words = one_fine HopLimit (decimal hops) (hops_fine hops h) }
fine_declaration (Transient scheme.Deflect) h = record { counted = refl; fine_words = refl }
fine_declaration (Transient (scheme.Detour node)) h = record {
  counted = refl;
  fine_words = two_fine Schemed NodeNumber (codes "detour") (decimal node) refl (node_fine node h);
}
fine_declaration (Transient scheme.Backup) h = record { counted = refl; fine_words = refl }

plain_fine : (view : PlainView) → first_fault (view_fields (view_in (plain_text view))) (plain_text view ∷ []) ≡ None
plain_fine Rib = refl
plain_fine view = refl

fine_rest : (r : Rest Range) → RestInRange r → Fine (directing r) (rest_words r)
fine_rest (Origin node p) h = record {
  counted = refl;
  fine_words = two_fine NodeNumber Masked (decimal node) (prefix_text p) (node_fine node h.0) (spells_text p h.1);
}
fine_rest (Single node) h = record { counted = refl; fine_words = one_fine NodeNumber (decimal node) (node_fine node h) }
fine_rest (Pair a b) h = record {
  counted = refl;
  fine_words = two_fine NodeNumber NodeNumber (decimal a) (decimal b) (node_fine a h.0) (node_fine b h.1);
}
fine_rest (Prefer node nbr value) h = record {
  counted = refl;
  fine_words = three_fine NodeNumber NodeNumber Value (decimal node) (decimal nbr) (decimal value) (node_fine node h.0) (node_fine nbr h.1) (value_fine value h.2);
}
fine_rest (Propose node epoch) h = record {
  counted = refl;
  fine_words = two_fine NodeNumber EpochNumber (decimal node) (decimal epoch) (node_fine node h.0) (epoch_fine epoch h.1 h.2);
}
fine_rest (Drain times) h = record { counted = refl; fine_words = one_fine Times (decimal times) (times_fine times h.0 h.1) }
fine_rest (Control number) h = record {
  counted = refl;
  fine_words = one_fine MessageNumber (decimal number) (message_fine number h.0 h.1);
}
fine_rest (ControlAll times) h = record {
  counted = refl;
  fine_words = two_fine (OneOf (codes "all" ∷ [])) Times (codes "all") (decimal times) (has_only (codes "all")) (times_fine times h.0 h.1);
}
fine_rest (Inject packet node p) h = record {
  counted = refl;
  fine_words = three_fine PacketNumber NodeNumber Masked (decimal packet) (decimal node) (prefix_text p) (packet_fine packet h.0 h.1) (node_fine node h.2) (spells_text p h.3);
}
fine_rest (Hop packet None) h = record { counted = refl; fine_words = one_fine PacketNumber (decimal packet) (packet_fine packet h.0 h.1) }
fine_rest (Hop packet (Some times)) h = record {
  counted = refl;
  fine_words = two_fine PacketNumber Times (decimal packet) (decimal times) (packet_fine packet h.0 h.1) (times_fine times h.2 h.3);
}
fine_rest (Show view) h = record { counted = refl; fine_words = plain_fine view }
fine_rest (ShowEpoch Cut epoch) h = record {
  counted = refl;
  fine_words = two_fine Viewed EpochNumber (codes "cut") (decimal epoch) refl (epoch_fine epoch h.0 h.1);
}
fine_rest (ShowEpoch Closure epoch) h = record {
  counted = refl;
  fine_words = two_fine Viewed EpochNumber (codes "closure") (decimal epoch) refl (epoch_fine epoch h.0 h.1);
}
fine_rest (ShowEpoch Tables epoch) h = record {
  counted = refl;
  fine_words = two_fine Viewed EpochNumber (codes "tables") (decimal epoch) refl (epoch_fine epoch h.0 h.1);
}
fine_rest (ShowWalk packet) h = record {
  counted = refl;
  fine_words = two_fine Viewed PacketNumber (codes "walk") (decimal packet) refl (packet_fine packet h.0 h.1);
}

-- a line stands where lines of its keyword do
declares_here : (part : Part) (d : Declaration) → stands part (Declares d) ≡ may_stand part (shape_of (declaring d))
declares_here part (Node id consolidator) = refl
declares_here part d = refl

directs_here : (part : Part) (r : Rest Range) → may_direct part ≡ may_stand part (shape_of (directing r))
directs_here part (Origin node p) = refl
directs_here part r = refl

by_keyword : (part : Part) (word : List ℕ) (k : Keyword) (words : List (List ℕ)) → keyword_in word ≡ Some k → may_stand part (shape_of k) ≡ true → Fine k words → word_fault part (word ∷ words) ≡ None
by_keyword part word k words found here f =
    ap (λ found. fault_by part found words) found
    ∙ ap (λ fault. option_or fault (first_fault (fields k words) words)) (good_form part k words here f.counted)
    ∙ f.fine_words

pub fine_line : (part : Part) (line : Line) → InRange line → stands part line ≡ true → word_fault part (line_words line) ≡ None
fine_line part Blank h s = refl
fine_line part Begin h s = by_keyword part (keyword_text keyword.Begin) keyword.Begin [] refl s (record { counted = refl; fine_words = refl })
fine_line part (Declares d) h s = by_keyword part (keyword_text (declaring d)) (declaring d) (declared_words d) (keyword_found (declaring d)) (sym (declares_here part d) ∙ s) (fine_declaration d h)
fine_line part (Directs d) h s =
    by_keyword part (first_word d) (directing (rest_of d)) (rest_words (rest_of d)) (directive_found d) (sym (directs_here part (rest_of d)) ∙ s) (fine_rest (rest_of d) h)

value_back : (n : ℕ) → IsNumber n → number_of (decimal n) ≡ n
value_back n h = decimal_value n (omega (arith, h.1))

declared_back : (word : List ℕ) (d : Declaration) → DeclaresInRange d → line_by (declaring d) word (declared_words d) ≡ Declares d
declared_back word (Node id false) h = ap (λ n. Declares (Node n false)) (value_back id h)
declared_back word (Node id true) h = ap (λ n. Declares (Node n true)) (value_back id h)
declared_back word (Link a b relation) h =
    ap₂ (λ m n. Declares (Link m n (relation_of (relation_text relation)))) (value_back a h.0) (value_back b h.1) ∙ ap (λ r. Declares (Link a b r)) (relation_of_text relation)
declared_back word (Pref a b value) h =
    ap₂ (λ m n. Declares (Pref m n (number_of (decimal value)))) (value_back a h.0) (value_back b h.1) ∙ ap (λ n. Declares (Pref a b n)) (decimal_value value (omega (arith, h.2)))
declared_back word (Hold a b) h = ap₂ (λ m n. Declares (Hold m n)) (value_back a h.0) (value_back b h.1)
declared_back word (Prefix p) h = ap (λ q. Declares (Prefix q)) (prefix_of_text p h)
declared_back word (Hops hops) h = ap (λ n. Declares (Hops n)) (decimal_value hops (omega (arith, h)))
declared_back word (Transient scheme.Deflect) h = refl
declared_back word (Transient (scheme.Detour node)) h = ap (λ n. Declares (Transient (scheme.Detour n))) (value_back node h)
declared_back word (Transient scheme.Backup) h = refl

rest_back : (word : List ℕ) (r : Rest Range) → RestInRange r → line_by (directing r) word (rest_words r) ≡ Directs (directive_by word r)
rest_back word (Origin node p) h = ap₂ (λ n q. Directs (directive_by word (Origin n q))) (value_back node h.0) (prefix_of_text p h.1)
rest_back word (Single node) h = ap (λ n. Directs (directive_by word (Single n))) (value_back node h)
rest_back word (Pair a b) h = ap₂ (λ m n. Directs (directive_by word (Pair m n))) (value_back a h.0) (value_back b h.1)
rest_back word (Prefer node nbr value) h =
    ap₂ (λ m n. Directs (directive_by word (Prefer m n (number_of (decimal value))))) (value_back node h.0) (value_back nbr h.1)
    ∙ ap (λ n. Directs (directive_by word (Prefer node nbr n))) (decimal_value value (omega (arith, h.2)))
rest_back word (Propose node epoch) h = ap₂ (λ m n. Directs (directive_by word (Propose m n))) (value_back node h.0) (decimal_value epoch (omega (arith, h.2)))
rest_back word (Drain times) h = ap (λ n. Directs (directive_by word (Drain n))) (decimal_value times (omega (arith, h.1)))
rest_back word (Control number) h = ap (λ n. Directs (directive_by word (Control n))) (decimal_value number (omega (arith, h.1)))
rest_back word (ControlAll times) h = ap (λ n. Directs (directive_by word (ControlAll n))) (decimal_value times (omega (arith, h.1)))
rest_back word (Inject packet node p) h =
    ap₂ (λ k n. Directs (directive_by word (Inject k n (prefix_of (prefix_text p))))) (decimal_value packet (omega (arith, h.1))) (value_back node h.2)
    ∙ ap (λ q. Directs (directive_by word (Inject packet node q))) (prefix_of_text p h.3)
rest_back word (Hop packet None) h = ap (λ k. Directs (directive_by word (Hop k None))) (decimal_value packet (omega (arith, h.1)))
rest_back word (Hop packet (Some times)) h =
    ap₂ (λ k n. Directs (directive_by word (Hop k (Some n)))) (decimal_value packet (omega (arith, h.1))) (decimal_value times (omega (arith, h.3)))
rest_back word (Show view) h = ap (λ v. shown_by v (plain_text view ∷ [])) (view_found (Plain view))
rest_back word (ShowEpoch view epoch) h =
    ap (λ v. shown_by v (epoch_text view ∷ decimal epoch ∷ [])) (view_found (OfEpoch view))
    ∙ ap (λ n. Directs (directive_by word (ShowEpoch view n))) (decimal_value epoch (omega (arith, h.1)))
rest_back word (ShowWalk packet) h = ap (λ k. Directs (directive_by word (ShowWalk k))) (decimal_value packet (omega (arith, h.1)))

-- a directive is that of its first word and what follows
pub spelled_again : {P : Type 0} (d : Directive P) → directive_by (first_word d) (rest_of d) ≡ d
spelled_again (Originate node p) = refl
spelled_again d = refl

from_keyword : (word : List ℕ) (k : Keyword) (words : List (List ℕ)) → keyword_in word ≡ Some k → line_of (word ∷ words) ≡ line_by k word words
from_keyword word k words found = ap (λ found. line_from found word words) found

pub read_back : (line : Line) → InRange line → line_of (line_words line) ≡ line
read_back Blank h = refl
read_back Begin h = from_keyword (keyword_text keyword.Begin) keyword.Begin [] refl
read_back (Declares d) h =
    from_keyword (keyword_text (declaring d)) (declaring d) (declared_words d) (keyword_found (declaring d)) ∙ declared_back (keyword_text (declaring d)) d h
read_back (Directs d) h =
    from_keyword (first_word d) (directing (rest_of d)) (rest_words (rest_of d)) (directive_found d) ∙ rest_back (first_word d) (rest_of d) h
    ∙ ap Directs (spelled_again d)

-- the same for words that spell a line
pub fine_words : (part : Part) (words : List (List ℕ)) (line : Line) → Spells words line → stands part line ≡ true → word_fault part words ≡ None
fine_words part words line h s = ap (word_fault part) h.spelled ∙ fine_line part line h.in_range s

pub line_read : (words : List (List ℕ)) (line : Line) → Spells words line → line_of words ≡ line
line_read words line h = ap line_of h.spelled ∙ read_back line h.in_range

pub one_line : (words : List (List ℕ)) (line other : Line) → Spells words line → Spells words other → line ≡ other
one_line words line other h k = sym (line_read words line h) ∙ line_read words other k
