-- Words without a fault spell a line, for each keyword.
use Rattle.std.proofs.Common.{◌≡◌, ℕ, true, false, cond, ◌||◌, List, [], ◌∷◌, refl, sym, ap, ap₂, ◌∙◌, subst, arith}
use Rattle.std.specs.Prelude.{Option, Some, None, is_some, map, find, unwrap_or, bytes_eq, codes}
use Rattle.std.proofs.lemmas.Option.{none-some}
use Rattle.std.specs.Fmt.{decimal}
use Rattle.std.proofs.lemmas.Bool.{false≢true}
use Rattle.topology.specs.declared.prefixes.Prefix.{Prefix as Range}
use Rattle.topology.specs.declared.status.BadKind.TheVariants.{WrongCount}
use Rattle.schedule_file.specs.declared.lines.Line.{Line}
use Rattle.schedule_file.specs.declared.lines.Line.TheVariants.{Directs}
use Rattle.schedule_file.specs.declared.directives.Directive.{Directive}
use Rattle.schedule_file.specs.declared.directives.Directive.TheVariants.{ShowRib}
use Rattle.schedule_file.specs.declared.directives.Rest.{Rest}
use Rattle.schedule_file.specs.declared.directives.Rest.TheVariants.{Origin, Single, Pair, Show, ShowEpoch}
use Rattle.schedule_file.specs.declared.table.Keyword.{Keyword}
use Rattle.schedule_file.specs.declared.table.Part.{Part}
use Rattle.schedule_file.specs.declared.table.Keyword.TheVariants as keyword
use Rattle.schedule_file.specs.declared.table.PlainView.{PlainView}
use Rattle.schedule_file.specs.declared.table.PlainView.TheVariants.{Rib}
use Rattle.schedule_file.specs.declared.table.EpochView.{EpochView}
use Rattle.schedule_file.specs.declared.table.EpochView.TheVariants.{Cut}
use Rattle.schedule_file.specs.declared.table.View.{View}
use Rattle.schedule_file.specs.declared.table.View.TheVariants.{Plain, OfEpoch, Walk}
use Rattle.schedule_file.specs.declared.table.SchemeName.{SchemeName}
use Rattle.schedule_file.specs.declared.table.SchemeName.TheVariants.{Deflect, Detour, Backup}
use Rattle.schedule_file.specs.Spelling.{IsNumber}
use Rattle.schedule_file.specs.Directives.{first_word, rest_of, origin_events, node_events, pair_events, plain_directive, epoch_directive, named}
use Rattle.schedule_file.specs.Lines.{rest_words, line_words, RestInRange, InRange, Spells}
use Rattle.schedule_file.specs.Words.{has_word, number_of, prefix_of}
use Rattle.schedule_file.specs.Table.{may_declare, may_direct, keyword_in, keyword_words, keyword_text, view_in, view_fields, scheme_in, scheme_fields, spells_field, first_fault, relations}
use Rattle.schedule_file.specs.Table.Field.{NodeNumber, Value, HopLimit, Times, MessageNumber, PacketNumber, Masked, OneOf, Viewed, Schemed, EpochNumber}
use Rattle.schedule_file.specs.Grammar.{stands}
use Rattle.schedule_file.specs.Refusals.{fault_by, word_fault, shown_by, set_by, line_by, line_from, line_of}
use Rattle.schedule_file.proofs.Passing.{word_is, number_spelled, prefix_spelled, relation_spelled, only_word}
use Rattle.schedule_file.proofs.Fields.{Fits, fits, head_spells, one, two, three, none_left}
use Rattle.schedule_file.proofs.Keywords.{keyword_is, view_is, scheme_is, other_is_bad}

-- the words spell the line, in its part
pub record Spelled (part : Part) (words : List (List ℕ)) (line : Line) : Type 0 where
  pub spelled : words ≡ line_words line
  pub in_range : InRange line
  pub here : stands part line ≡ true

-- the words spell the line of their keyword
abbrev FoundFrom : Part → Keyword → List ℕ → List (List ℕ) → Type 0
FoundFrom part k word rest = Spelled part (word ∷ rest) (line_by k word rest)

-- the same for a keyword of one first word
abbrev Found : Part → Keyword → List (List ℕ) → Type 0
Found part k rest = FoundFrom part k (keyword_text k) rest

number_is : (word : List ℕ) → spells_field NodeNumber word ≡ true → (word ≡ decimal (number_of word)) × IsNumber (number_of word)
number_is word e = let p = number_spelled 1 65535 word e in (p.0, (omega (arith, p.1), omega (arith, p.2)))

-- a word among those of directives that go on alike: the directive that it names begins with it, and goes on so
record Named {P : Type 0} (word : List ℕ) (r : Rest P) (d : Directive P) : Type 0 where
  first : word ≡ first_word d
  rest : rest_of d ≡ r

named_is : {P : Type 0} (word : List ℕ) (r : Rest P) (ds : List (Directive P)) → map rest_of ds ≡ map (λ d. r) ds → has_word (map first_word ds) word ≡ true → Named word r (named word ds)
named_is word r [] alike e = absurd (false≢true e)
named_is word r (d ∷ ds) alike e =
    let q : rest_of d ∷ map rest_of ds ≡ r ∷ map (λ d. r) ds = alike in
    let head : rest_of d ≡ r = cc in
    let tail : map rest_of ds ≡ map (λ d. r) ds = cc in
    (elim (bytes_eq word (first_word d)) as (λ t. bytes_eq word (first_word d) ≡ t → (t || has_word (map first_word ds) word) ≡ true → Named word r (unwrap_or (cond t (Some d) (find (λ d. bytes_eq word (first_word d)) ds)) ShowRib)) [
      | true ↦ λ same _. record { first = word_is word (first_word d) same; rest = head }
      | false ↦ λ other more. named_is word r ds tail more
    ]) refl e

-- a directive, whatever its first word
event_found : (part : Part) (word : List ℕ) (words : List (List ℕ)) (r : Rest Range) (d : Directive Range) → may_direct part ≡ true → Named word r d → words ≡ rest_words r → RestInRange r → Spelled part (word ∷ words) (Directs d)
event_found part word words r d here n same range = record {
  spelled = ap₂ (λ w ws. w ∷ ws) n.first (same ∙ ap rest_words (sym n.rest));
  in_range = subst RestInRange (sym n.rest) range;
  here = here;
}

plain_named : {P : Type 0} (view : PlainView) → Named {P = P} (codes "show") (Show view) (plain_directive view)
plain_named Rib = record { first = refl; rest = refl }
plain_named view = record { first = refl; rest = refl }

epoch_named : {P : Type 0} (view : EpochView) (epoch : ℕ) → Named {P = P} (codes "show") (ShowEpoch view epoch) (epoch_directive view epoch)
epoch_named Cut epoch = record { first = refl; rest = refl }
epoch_named view epoch = record { first = refl; rest = refl }

-- the line of a view
abbrev Shown : Part → List ℕ → Option View → List (List ℕ) → Type 0
Shown part word view rest = Spelled part (codes "show" ∷ word ∷ rest) (shown_by view (word ∷ rest))

shown : (part : Part) (word : List ℕ) (view : Option View) (rest : List (List ℕ)) → may_direct part ≡ true → view_in word ≡ view → first_fault (view_fields view) (word ∷ rest) ≡ None → Shown part word view rest
shown part word None rest here e f = absurd (false≢true (sym (ap is_some e) ∙ head_spells Viewed [] word rest f))
shown part word (Some (Plain view)) rest here e f =
    let a = one Viewed (word ∷ rest) f in
    let none : rest ≡ [] = (let q : word ∷ rest ≡ a.word ∷ [] = a.are in cc) in
    event_found part (codes "show") (word ∷ rest) (Show view) (plain_directive view) here (plain_named view) (ap₂ (λ w ws. w ∷ ws) (view_is word (Plain view) e) none) tt
shown part word (Some (OfEpoch view)) rest here e f =
    let w = two Viewed EpochNumber (word ∷ rest) f in
    let epoch = number_spelled 1 32 w.next w.spells_next in
    let more : rest ≡ w.next ∷ [] = (let q : word ∷ rest ≡ w.word ∷ w.next ∷ [] = w.are in cc) in
    let n = number_of w.next in
    subst (Shown part word (Some (OfEpoch view))) (sym more)
    (event_found part (codes "show") (word ∷ w.next ∷ []) (ShowEpoch view n) (epoch_directive view n) here (epoch_named view n) (ap₂ (λ v d. v ∷ d ∷ []) (view_is word (OfEpoch view) e) epoch.0) (epoch.1, epoch.2))
shown part word (Some Walk) rest here e f =
    let w = two Viewed PacketNumber (word ∷ rest) f in
    let packet = number_spelled 1 4294967295 w.next w.spells_next in
    let more : rest ≡ w.next ∷ [] = (let q : word ∷ rest ≡ w.word ∷ w.next ∷ [] = w.are in cc) in
    subst (Shown part word (Some Walk)) (sym more) (record {
      spelled = ap₂ (λ v n. codes "show" ∷ v ∷ n ∷ []) (view_is word Walk e) packet.0;
      in_range = (packet.1, packet.2);
      here = here;
    })

shown_first : (part : Part) (rest : List (List ℕ)) → Fits part keyword.Show rest → Found part keyword.Show rest
shown_first part [] f = absurd (none-some WrongCount (sym f.fine_words))
shown_first part (word ∷ rest) f = shown part word (view_in word) rest f.here refl f.fine_words

-- the same for a scheme
abbrev IsSet : Part → List ℕ → Option SchemeName → List (List ℕ) → Type 0
IsSet part word name rest = Spelled part (codes "transient" ∷ word ∷ rest) (set_by name (word ∷ rest))

-- there are no more words
alone : (word : List ℕ) (rest : List (List ℕ)) → first_fault (Schemed ∷ []) (word ∷ rest) ≡ None → rest ≡ []
alone word rest f =
    let a = one Schemed (word ∷ rest) f in
    let q : word ∷ rest ≡ a.word ∷ [] = a.are in
    cc

scheme_set : (part : Part) (word : List ℕ) (name : Option SchemeName) (rest : List (List ℕ)) → may_declare part ≡ true → scheme_in word ≡ name → first_fault (scheme_fields name) (word ∷ rest) ≡ None → IsSet part word name rest
scheme_set part word None rest here e f = absurd (false≢true (sym (ap is_some e) ∙ head_spells Schemed [] word rest f))
scheme_set part word (Some Deflect) rest here e f =
    record { spelled = ap₂ (λ w ws. codes "transient" ∷ w ∷ ws) (scheme_is word Deflect e) (alone word rest f); in_range = tt; here = here }
scheme_set part word (Some Detour) rest here e f =
    let w = two Schemed NodeNumber (word ∷ rest) f in
    let node = number_is w.next w.spells_next in
    let more : rest ≡ w.next ∷ [] = (let q : word ∷ rest ≡ w.word ∷ w.next ∷ [] = w.are in cc) in
    subst (IsSet part word (Some Detour)) (sym more) (record {
      spelled = ap₂ (λ v n. codes "transient" ∷ v ∷ n ∷ []) (scheme_is word Detour e) node.0;
      in_range = node.1;
      here = here;
    })
scheme_set part word (Some Backup) rest here e f =
    record { spelled = ap₂ (λ w ws. codes "transient" ∷ w ∷ ws) (scheme_is word Backup e) (alone word rest f); in_range = tt; here = here }

set_first : (part : Part) (rest : List (List ℕ)) → Fits part keyword.Transient rest → Found part keyword.Transient rest
set_first part [] f = absurd (none-some WrongCount (sym f.fine_words))
set_first part (word ∷ rest) f = scheme_set part word (scheme_in word) rest f.here refl f.fine_words

node_first : (part : Part) (rest : List (List ℕ)) → Fits part keyword.Node rest → Found part keyword.Node rest
node_first part [] f = absurd (none-some WrongCount (sym f.fine_words))
node_first part (id ∷ []) f =
    let w = one NodeNumber (id ∷ []) f.fine_words in
    let a = number_is w.word w.spells in
    subst (Found part keyword.Node) (sym w.are) (record { spelled = ap (λ v. codes "node" ∷ v ∷ []) a.0; in_range = a.1; here = f.here })
node_first part (id ∷ mark ∷ others) f =
    let w = two NodeNumber (OneOf (codes "consolidator" ∷ [])) (id ∷ mark ∷ others) f.fine_words in
    let a = number_is w.word w.spells in
    let marked = only_word (codes "consolidator") w.next w.spells_next in
    subst (Found part keyword.Node) (sym w.are) (record { spelled = ap₂ (λ v m. codes "node" ∷ v ∷ m ∷ []) a.0 marked; in_range = a.1; here = f.here })

control_first : (part : Part) (rest : List (List ℕ)) → Fits part keyword.Control rest → Found part keyword.Control rest
control_first part [] f = absurd (none-some WrongCount (sym f.fine_words))
control_first part (number ∷ []) f =
    let w = one MessageNumber (number ∷ []) f.fine_words in
    let n = number_spelled 1 1000000 w.word w.spells in
    subst (Found part keyword.Control) (sym w.are) (record { spelled = ap (λ v. codes "ctl" ∷ v ∷ []) n.0; in_range = (n.1, n.2); here = f.here })
control_first part (all ∷ times ∷ others) f =
    let w = two (OneOf (codes "all" ∷ [])) Times (all ∷ times ∷ others) f.fine_words in
    let named = only_word (codes "all") w.word w.spells in
    let n = number_spelled 1 1000000 w.next w.spells_next in
    subst (Found part keyword.Control) (sym w.are) (record { spelled = ap₂ (λ v m. codes "ctl" ∷ v ∷ m ∷ []) named n.0; in_range = (n.1, n.2); here = f.here })

hop_first : (part : Part) (rest : List (List ℕ)) → Fits part keyword.Hop rest → Found part keyword.Hop rest
hop_first part [] f = absurd (none-some WrongCount (sym f.fine_words))
hop_first part (packet ∷ []) f =
    let w = one PacketNumber (packet ∷ []) f.fine_words in
    let k = number_spelled 1 4294967295 w.word w.spells in
    subst (Found part keyword.Hop) (sym w.are) (record { spelled = ap (λ v. codes "hop" ∷ v ∷ []) k.0; in_range = (k.1, k.2); here = f.here })
hop_first part (packet ∷ times ∷ others) f =
    let w = two PacketNumber Times (packet ∷ times ∷ others) f.fine_words in
    let k = number_spelled 1 4294967295 w.word w.spells in
    let n = number_spelled 1 1000000 w.next w.spells_next in
    subst (Found part keyword.Hop) (sym w.are) (record { spelled = ap₂ (λ v m. codes "hop" ∷ v ∷ m ∷ []) k.0 n.0; in_range = (k.1, k.2, n.1, n.2); here = f.here })

-- the line of an event, which one of several words begins
origin_first : (part : Part) (word : List ℕ) (rest : List (List ℕ)) → has_word (keyword_words keyword.Origin) word ≡ true → Fits part keyword.Origin rest → FoundFrom part keyword.Origin word rest
origin_first part word rest among f =
    let w = two NodeNumber Masked rest f.fine_words in
    let a = number_is w.word w.spells in
    let p = prefix_spelled w.next w.spells_next in
    let r = Origin (number_of w.word) (prefix_of w.next) in
    let events = origin_events (number_of w.word) (prefix_of w.next) in
    subst (FoundFrom part keyword.Origin word) (sym w.are)
    (event_found part word (w.word ∷ w.next ∷ []) r (named word events) f.here (named_is word r events refl among) (ap₂ (λ x y. x ∷ y ∷ []) a.0 p.0) (a.1, p.1))

single_first : (part : Part) (word : List ℕ) (rest : List (List ℕ)) → has_word (keyword_words keyword.Single) word ≡ true → Fits part keyword.Single rest → FoundFrom part keyword.Single word rest
single_first part word rest among f =
    let w = one NodeNumber rest f.fine_words in
    let a = number_is w.word w.spells in
    let events = node_events (number_of w.word) in
    subst (FoundFrom part keyword.Single word) (sym w.are)
    (event_found part word (w.word ∷ []) (Single (number_of w.word)) (named word events) f.here (named_is word (Single (number_of w.word)) events refl among) (ap (λ x. x ∷ []) a.0) a.1)

pair_first : (part : Part) (word : List ℕ) (rest : List (List ℕ)) → has_word (keyword_words keyword.Pair) word ≡ true → Fits part keyword.Pair rest → FoundFrom part keyword.Pair word rest
pair_first part word rest among f =
    let w = two NodeNumber NodeNumber rest f.fine_words in
    let a = number_is w.word w.spells in
    let b = number_is w.next w.spells_next in
    let r = Pair (number_of w.word) (number_of w.next) in
    let events = pair_events (number_of w.word) (number_of w.next) in
    subst (FoundFrom part keyword.Pair word) (sym w.are)
    (event_found part word (w.word ∷ w.next ∷ []) r (named word events) f.here (named_is word r events refl among) (ap₂ (λ x y. x ∷ y ∷ []) a.0 b.0) (a.1, b.1))

found_text : (k : Keyword) (part : Part) (rest : List (List ℕ)) → Fits part k rest → Found part k rest
found_text keyword.Node part rest f = node_first part rest f
found_text keyword.Link part rest f =
    let w = three NodeNumber NodeNumber (OneOf relations) rest f.fine_words in
    let a = number_is w.word w.spells in
    let b = number_is w.next w.spells_next in
    subst (Found part keyword.Link) (sym w.are) (record {
      spelled = ap₂ (λ v u. codes "link" ∷ v ∷ u ∷ w.end ∷ []) a.0 b.0
          ∙ ap (λ r. codes "link" ∷ decimal (number_of w.word) ∷ decimal (number_of w.next) ∷ r ∷ []) (relation_spelled w.end w.spells_end);
      in_range = (a.1, b.1);
      here = f.here;
    })
found_text keyword.Pref part rest f =
    let w = three NodeNumber NodeNumber Value rest f.fine_words in
    let a = number_is w.word w.spells in
    let b = number_is w.next w.spells_next in
    let v = number_spelled 0 1000000 w.end w.spells_end in
    subst (Found part keyword.Pref) (sym w.are) (record {
      spelled = ap₂ (λ x y. codes "pref" ∷ x ∷ y ∷ w.end ∷ []) a.0 b.0
          ∙ ap (λ x. codes "pref" ∷ decimal (number_of w.word) ∷ decimal (number_of w.next) ∷ x ∷ []) v.0;
      in_range = (a.1, b.1, v.2);
      here = f.here;
    })
found_text keyword.Hold part rest f =
    let w = two NodeNumber NodeNumber rest f.fine_words in
    let a = number_is w.word w.spells in
    let b = number_is w.next w.spells_next in
    subst (Found part keyword.Hold) (sym w.are) (record { spelled = ap₂ (λ x y. codes "hold" ∷ x ∷ y ∷ []) a.0 b.0; in_range = (a.1, b.1); here = f.here })
found_text keyword.Prefix part rest f =
    let w = one Masked rest f.fine_words in
    let p = prefix_spelled w.word w.spells in
    subst (Found part keyword.Prefix) (sym w.are) (record { spelled = ap (λ v. codes "prefix" ∷ v ∷ []) p.0; in_range = p.1; here = f.here })
found_text keyword.Hops part rest f =
    let w = one HopLimit rest f.fine_words in
    let n = number_spelled 0 65535 w.word w.spells in
    subst (Found part keyword.Hops) (sym w.are) (record { spelled = ap (λ v. codes "hops" ∷ v ∷ []) n.0; in_range = n.2; here = f.here })
found_text keyword.Transient part rest f = set_first part rest f
found_text keyword.Begin part rest f =
    subst (Found part keyword.Begin) (sym (none_left rest f.fine_words)) (record { spelled = refl; in_range = tt; here = f.here })
found_text keyword.Origin part rest f = origin_first part (codes "originate") rest refl f
found_text keyword.Single part rest f = single_first part (codes "snap") rest refl f
found_text keyword.Pair part rest f = pair_first part (codes "deliver") rest refl f
found_text keyword.Prefer part rest f =
    let w = three NodeNumber NodeNumber Value rest f.fine_words in
    let a = number_is w.word w.spells in
    let b = number_is w.next w.spells_next in
    let v = number_spelled 0 1000000 w.end w.spells_end in
    subst (Found part keyword.Prefer) (sym w.are) (record {
      spelled = ap₂ (λ x y. codes "prefer" ∷ x ∷ y ∷ w.end ∷ []) a.0 b.0
          ∙ ap (λ x. codes "prefer" ∷ decimal (number_of w.word) ∷ decimal (number_of w.next) ∷ x ∷ []) v.0;
      in_range = (a.1, b.1, v.2);
      here = f.here;
    })
found_text keyword.Propose part rest f =
    let w = two NodeNumber EpochNumber rest f.fine_words in
    let a = number_is w.word w.spells in
    let e = number_spelled 1 32 w.next w.spells_next in
    subst (Found part keyword.Propose) (sym w.are) (record { spelled = ap₂ (λ x y. codes "propose" ∷ x ∷ y ∷ []) a.0 e.0; in_range = (a.1, e.1, e.2); here = f.here })
found_text keyword.Drain part rest f =
    let w = one Times rest f.fine_words in
    let n = number_spelled 1 1000000 w.word w.spells in
    subst (Found part keyword.Drain) (sym w.are) (record { spelled = ap (λ v. codes "drain" ∷ v ∷ []) n.0; in_range = (n.1, n.2); here = f.here })
found_text keyword.Control part rest f = control_first part rest f
found_text keyword.Inject part rest f =
    let w = three PacketNumber NodeNumber Masked rest f.fine_words in
    let k = number_spelled 1 4294967295 w.word w.spells in
    let a = number_is w.next w.spells_next in
    let p = prefix_spelled w.end w.spells_end in
    subst (Found part keyword.Inject) (sym w.are) (record {
      spelled = ap₂ (λ x y. codes "inject" ∷ x ∷ y ∷ w.end ∷ []) k.0 a.0
          ∙ ap (λ x. codes "inject" ∷ decimal (number_of w.word) ∷ decimal (number_of w.next) ∷ x ∷ []) p.0;
      in_range = (k.1, k.2, a.1, p.1);
      here = f.here;
    })
found_text keyword.Hop part rest f = hop_first part rest f
found_text keyword.Show part rest f = shown_first part rest f

found_by : (k : Keyword) (part : Part) (word : List ℕ) (rest : List (List ℕ)) → has_word (keyword_words k) word ≡ true → Fits part k rest → FoundFrom part k word rest
found_by keyword.Origin part word rest among f = origin_first part word rest among f
found_by keyword.Single part word rest among f = single_first part word rest among f
found_by keyword.Pair part word rest among f = pair_first part word rest among f
found_by k part word rest among f = subst (λ w. FoundFrom part k w rest) (sym (only_word (keyword_text k) word among)) (found_text k part rest f)

-- words without a fault spell their line, in its part
pub record InPlace (part : Part) (words : List (List ℕ)) : Type 0 where
  pub spells : Spells words (line_of words)
  pub here : stands part (line_of words) ≡ true

-- the same, given the keyword of the first word
found_first : (part : Part) (word : List ℕ) (rest : List (List ℕ)) (k : Option Keyword) → keyword_in word ≡ k → fault_by part k rest ≡ None → Spelled part (word ∷ rest) (line_from k word rest)
found_first part word rest None e f = other_is_bad part rest f
found_first part word rest (Some k) e f = found_by k part word rest (keyword_is word k e) (fits part k rest f)

pub found : (part : Part) (words : List (List ℕ)) → word_fault part words ≡ None → InPlace part words
found part [] e = record { spells = record { spelled = refl; in_range = tt }; here = refl }
found part (word ∷ rest) e =
    let from = found_first part word rest (keyword_in word) refl e in
    record { spells = record { spelled = from.spelled; in_range = from.in_range }; here = from.here }
