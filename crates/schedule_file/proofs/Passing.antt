-- The tests of single words pass exactly where the word is the spelling.
use Rattle.std.proofs.Common.{◌≡◌, ◌≢◌, ℕ, ◌-◌, ◌/◌, ◌%◌, ◌<◌, ◌≤◌, ◌^◌, ◌==◌, ◌&&◌, ◌||◌, Bool, true, false, List, [], ◌∷◌, ◌++◌, refl, sym, ap, ◌∙◌, inl, inr, arith}
use Rattle.std.specs.Prelude.{codes, nat_le, nat_lt, bytes_eq, map}
use Rattle.std.specs.List.{list_any, slice_split, onto_first}
use Rattle.std.specs.Fmt.{decimal}
use Rattle.std.specs.Str.Parse.{AllDigits}
use Rattle.std.proofs.lemmas.Bool.{cases_Bool, cond-true, cond-false, and_parts, and_from, or_parts, or_from, or_cases, or_left, ne_eqb, false≢true}
use Rattle.std.proofs.lemmas.Bool.Decides.{nat_tests}
use Rattle.std.proofs.lemmas.Slice.Eq.{bytes_eq-Decides}
use Rattle.std.proofs.lemmas.Str.Parse.{digit_from_value}
use Rattle.topology.specs.declared.links.Relation.{Relation}
use Rattle.topology.specs.declared.links.Relation.TheVariants.{Customer, Provider, Peer, Any}
use Rattle.topology.specs.declared.prefixes.Prefix.{Prefix as Range}
use Rattle.schedule_file.specs.Spelling.{prefix_text, relation_text, IsRange}
use Rattle.schedule_file.specs.Words.{has_word, number_of, spells_number, prefix_by, prefix_of, is_range, spells_prefix, relation_of}
use Rattle.schedule_file.specs.Table.{relations}
use Rattle.schedule_file.proofs.Numbers.{decimal_digits, decimal_value}
use Rattle.schedule_file.proofs.Addresses.{from_second, from_third, from_fourth, text_by_parts, bits_from}

-- equal words are found equal, and only these
pub same_word : (v w : List ℕ) → v ≡ w → bytes_eq v w ≡ true
same_word v w e = (bytes_eq-Decides v w).1 e

pub word_is : (v w : List ℕ) → bytes_eq v w ≡ true → v ≡ w
word_is v w e = (bytes_eq-Decides v w).0 e

pub other_word : (v w : List ℕ) → v ≢ w → bytes_eq v w ≡ false
other_word v w other = elim (cases_Bool (bytes_eq v w)) [ inl e ↦ absurd (other (word_is v w e)) | inr e ↦ e ]

-- numbers
pub number_spelled : (low high : ℕ) (word : List ℕ) → spells_number low high word ≡ true → (word ≡ decimal (number_of word)) × (low ≤ number_of word) × (number_of word ≤ high)
unfolding spells_number
number_spelled low high word e =
    let n = number_of word in
    let p = and_parts (bytes_eq word (decimal n)) (nat_le low n && nat_le n high) e in
    let q = and_parts (nat_le low n) (nat_le n high) p.1 in
    (word_is word (decimal n) p.0, (let r = q.0 in grind (arith, nat_tests)), (let r = q.1 in grind (arith, nat_tests)))

pub spells_decimal : (low high n : ℕ) → low ≤ n → n ≤ high → n < 2 ^ 64 → spells_number low high (decimal n) ≡ true
unfolding spells_number
spells_decimal low high n h k small =
    let value : number_of (decimal n) ≡ n = decimal_value n small in
    let above : nat_le low n ≡ true = (grind (arith, nat_tests)) in
    let below : nat_le n high ≡ true = (grind (arith, nat_tests)) in
    rw value (and_from (bytes_eq (decimal n) (decimal n)) (nat_le low n && nat_le n high) (same_word (decimal n) (decimal n) refl) (and_from (nat_le low n) (nat_le n high) above below))

pub no_number : (low high : ℕ) (word : List ℕ) → ((n : ℕ) → low ≤ n → n ≤ high → word ≢ decimal n) → spells_number low high word ≡ false
no_number low high word none =
    elim (cases_Bool (spells_number low high word)) [
      | inl e ↦ (let p = number_spelled low high word e in absurd (none (number_of word) p.1 p.2 p.0))
      | inr e ↦ e
    ]

-- a prefix is cut into its numbers
abbrev pub marks : ℕ → Bool
marks b = b == 46 || b == 47

split_front : (front rest : List ℕ) (b : ℕ) → list_any marks front ≡ false → marks b ≡ true → slice_split marks (front ++ b ∷ rest) ≡ front ∷ slice_split marks rest
split_front [] rest b h e = cond-true (marks b) ([] ∷ slice_split marks rest) (onto_first b (slice_split marks rest)) e
split_front (c ∷ front) rest b h e =
    let lacks = or_parts (marks c) (list_any marks front) h in
    let more = front ++ b ∷ rest in
    cond-false (marks c) ([] ∷ slice_split marks more) (onto_first c (slice_split marks more)) lacks.0 ∙ ap (onto_first c) (split_front front rest b lacks.1 e)

split_last : (front : List ℕ) → list_any marks front ≡ false → slice_split marks front ≡ front ∷ []
split_last [] h = refl
split_last (c ∷ front) h =
    let lacks = or_parts (marks c) (list_any marks front) h in
    cond-false (marks c) ([] ∷ slice_split marks front) (onto_first c (slice_split marks front)) lacks.0 ∙ ap (onto_first c) (split_last front lacks.1)

digits_unmarked : (ds : List ℕ) → AllDigits 10 ds → list_any marks ds ≡ false
digits_unmarked [] h = refl
digits_unmarked (d ∷ ds) h =
    let range = digit_from_value d h.0 in
    or_from (marks d) (list_any marks ds) (or_from (d == 46) (d == 47) (ne_eqb d 46 (λ e. omega arith)) (ne_eqb d 47 (λ e. omega arith))) (digits_unmarked ds h.1)

unmarked : (n : ℕ) → n < 2 ^ 64 → list_any marks (decimal n) ≡ false
unmarked n h = digits_unmarked (decimal n) (decimal_digits n h)

text_parts : (p : Range) → p.len ≤ 32 → slice_split marks (prefix_text p) ≡ decimal (p.bits / 2 ^ 24 % 256) ∷ decimal (p.bits / 2 ^ 16 % 256) ∷ decimal (p.bits / 2 ^ 8 % 256) ∷ decimal (p.bits % 256) ∷ decimal p.len ∷ []
text_parts p h =
    let a = decimal (p.bits / 2 ^ 24 % 256) in
    let b = decimal (p.bits / 2 ^ 16 % 256) in
    let c = decimal (p.bits / 2 ^ 8 % 256) in
    let d = decimal (p.bits % 256) in
    ap (slice_split marks) (text_by_parts p)
    ∙ split_front a (from_second p.bits p.len) 46 (unmarked (p.bits / 2 ^ 24 % 256) (omega arith)) refl
    ∙ ap (λ ws. a ∷ ws) (split_front b (from_third p.bits p.len) 46 (unmarked (p.bits / 2 ^ 16 % 256) (omega arith)) refl
    ∙ ap (λ ws. b ∷ ws) (split_front c (from_fourth p.bits p.len) 46 (unmarked (p.bits / 2 ^ 8 % 256) (omega arith)) refl
    ∙ ap (λ ws. c ∷ ws) (split_front d (decimal p.len) 47 (unmarked (p.bits % 256) (omega arith)) refl
    ∙ ap (λ ws. d ∷ ws) (split_last (decimal p.len) (unmarked p.len (omega arith))))))

same_parts : (a b c d len e f g h k : ℕ) → a ≡ e → b ≡ f → c ≡ g → d ≡ h → len ≡ k → prefix_by (a ∷ b ∷ c ∷ d ∷ len ∷ []) ≡ prefix_by (e ∷ f ∷ g ∷ h ∷ k ∷ [])
same_parts a b c d len e f g h k i j l m n = cc

-- the text of a prefix is read as this prefix
pub prefix_of_text : (p : Range) → IsRange p → prefix_of (prefix_text p) ≡ p
prefix_of_text p h =
    let value : (n : ℕ) → n < 2 ^ 64 → number_of (decimal n) ≡ n = λ n small. decimal_value n small in
    let a = p.bits / 2 ^ 24 % 256 in
    let b = p.bits / 2 ^ 16 % 256 in
    let c = p.bits / 2 ^ 8 % 256 in
    let d = p.bits % 256 in
    ap (λ parts. prefix_by (map number_of parts)) (text_parts p h.1.short)
    ∙ same_parts (number_of (decimal a)) (number_of (decimal b)) (number_of (decimal c)) (number_of (decimal d)) (number_of (decimal p.len)) a b c d p.len
    (value a (omega arith)) (value b (omega arith)) (value c (omega arith)) (value d (omega arith)) (value p.len (omega (arith, h.1.short)))
    ∙ ap (λ bits. record { bits = bits; len = p.len }) (sym (bits_from p.bits h.0))

range_passes : (p : Range) → IsRange p → is_range p ≡ true
range_passes p h =
    let small = h.0 in
    let short = h.1.short in
    let masked = h.1.masked in
    grind (arith, nat_tests)

range_is : (p : Range) → is_range p ≡ true → IsRange p
range_is p e =
    let q = and_parts (nat_lt p.bits (2 ^ 32)) (nat_le p.len 32 && p.bits % 2 ^ (32 - p.len) == 0) e in
    let r = and_parts (nat_le p.len 32) (p.bits % 2 ^ (32 - p.len) == 0) q.1 in
    let small = q.0 in
    let short = r.0 in
    let masked = r.1 in
    (grind (arith, nat_tests), record { short = (grind (arith, nat_tests)); masked = (grind (arith, nat_tests)) })

pub spells_text : (p : Range) → IsRange p → spells_prefix (prefix_text p) ≡ true
unfolding spells_prefix
spells_text p h =
    rw (prefix_of_text p h) (and_from (bytes_eq (prefix_text p) (prefix_text p)) (is_range p) (same_word (prefix_text p) (prefix_text p) refl) (range_passes p h))

pub prefix_spelled : (word : List ℕ) → spells_prefix word ≡ true → (word ≡ prefix_text (prefix_of word)) × IsRange (prefix_of word)
unfolding spells_prefix
prefix_spelled word e =
    let p = and_parts (bytes_eq word (prefix_text (prefix_of word))) (is_range (prefix_of word)) e in
    (word_is word (prefix_text (prefix_of word)) p.0, range_is (prefix_of word) p.1)

pub no_prefix : (word : List ℕ) → ((p : Range) → IsRange p → word ≢ prefix_text p) → spells_prefix word ≡ false
no_prefix word none =
    elim (cases_Bool (spells_prefix word)) [
      | inl e ↦ (let p = prefix_spelled word e in absurd (none (prefix_of word) p.1 p.0))
      | inr e ↦ e
    ]

-- relations
pub relation_of_text : (r : Relation) → relation_of (relation_text r) ≡ r
relation_of_text Customer = refl
relation_of_text Provider = refl
relation_of_text Peer = refl
relation_of_text Any = refl

pub relation_known : (r : Relation) → has_word relations (relation_text r) ≡ true
relation_known Customer = refl
relation_known Provider = refl
relation_known Peer = refl
relation_known Any = refl

named : (word text : List ℕ) (r : Relation) → text ≡ relation_text r → bytes_eq word text ≡ true → word ≡ relation_text (relation_of word)
named word text r same e =
    let is = word_is word text e ∙ same in
    is ∙ ap relation_text (sym (ap relation_of is ∙ relation_of_text r))

pub relation_spelled : (word : List ℕ) → has_word relations word ≡ true → word ≡ relation_text (relation_of word)
relation_spelled word e =
    elim (or_cases (bytes_eq word (codes "customer")) (has_word (codes "provider" ∷ codes "peer" ∷ codes "any" ∷ []) word) e) [
      | inl a ↦ named word (codes "customer") Customer refl a
      | inr more ↦ elim (or_cases (bytes_eq word (codes "provider")) (has_word (codes "peer" ∷ codes "any" ∷ []) word) more) [
        | inl a ↦ named word (codes "provider") Provider refl a
        | inr rest ↦ elim (or_cases (bytes_eq word (codes "peer")) (has_word (codes "any" ∷ []) word) rest) [
          | inl a ↦ named word (codes "peer") Peer refl a
          | inr last ↦ elim (or_cases (bytes_eq word (codes "any")) false last) [
            | inl a ↦ named word (codes "any") Any refl a
            | inr none ↦ absurd (false≢true none)
          ]
        ]
      ]
    ]

-- a list of one word
pub only_word : (w word : List ℕ) → has_word (w ∷ []) word ≡ true → word ≡ w
only_word w word e = elim (or_cases (bytes_eq word w) false e) [ inl a ↦ word_is word w a | inr none ↦ absurd (false≢true none) ]

pub has_only : (w : List ℕ) → has_word (w ∷ []) w ≡ true
has_only w = or_left (bytes_eq w w) false (same_word w w refl)

-- a word that names a relation
pub relation_is : (word : List ℕ) (r : Relation) → word ≡ relation_text r → r ≡ relation_of word
relation_is word r e = sym (ap relation_of e ∙ relation_of_text r)

pub relation_among : (word : List ℕ) (r : Relation) → word ≡ relation_text r → has_word relations word ≡ true
relation_among word r e = ap (has_word relations) e ∙ relation_known r

-- a word that spells a number, or a prefix, has it
pub value_is : (word : List ℕ) (n : ℕ) → n < 2 ^ 64 → word ≡ decimal n → n ≡ number_of word
value_is word n small e = sym (ap number_of e ∙ decimal_value n small)

pub prefix_is : (word : List ℕ) (p : Range) → IsRange p → word ≡ prefix_text p → p ≡ prefix_of word
prefix_is word p h e = sym (ap prefix_of e ∙ prefix_of_text p h)

pub prefix_fine : (word : List ℕ) (p : Range) → IsRange p → word ≡ prefix_text p → spells_prefix word ≡ true
prefix_fine word p h e = ap spells_prefix e ∙ spells_text p h

none_of : (word : List ℕ) → ((r : Relation) → word ≢ relation_text r) → (rs : List Relation) → has_word (map relation_text rs) word ≡ false
none_of word none [] = refl
none_of word none (r ∷ rs) = or_from (bytes_eq word (relation_text r)) (has_word (map relation_text rs) word) (other_word word (relation_text r) (none r)) (none_of word none rs)

pub no_relation : (word : List ℕ) → ((r : Relation) → word ≢ relation_text r) → has_word relations word ≡ false
no_relation word none = none_of word none (Customer ∷ Provider ∷ Peer ∷ Any ∷ [])
