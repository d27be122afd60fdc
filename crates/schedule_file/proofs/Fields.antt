-- The fields that are wanted, and the first that a word does not spell.
use Rattle.std.proofs.Common.{◌≡◌, ℕ, suc, Bool, true, false, not, List, [], ◌∷◌, length, refl, sym, ap, ◌∙◌, subst}
use Rattle.std.specs.Prelude.{Option, Some, None}
use Rattle.std.specs.Option.{option_or}
use Rattle.std.proofs.lemmas.Bool.{cond-true, cond-false, not_from_true, not_from_false}
use Rattle.std.proofs.lemmas.Option.{none-some}
use Rattle.topology.specs.declared.status.BadKind.TheVariants.{NotHere, WrongCount}
use Rattle.schedule_file.specs.declared.table.Keyword.{Keyword}
use Rattle.schedule_file.specs.declared.table.Part.{Part}
use Rattle.schedule_file.specs.Table.{Field, spells_field, fault_of, first_fault, shape_of, may_stand, may_have, fields}
use Rattle.schedule_file.specs.Refusals.{form_fault, fault_by}

-- a word that spells its field has no fault, and the others decide
pub fine : (field : Field) (wanted : List Field) (word : List ℕ) (words : List (List ℕ)) → spells_field field word ≡ true → first_fault (field ∷ wanted) (word ∷ words) ≡ first_fault wanted words
fine field wanted word words e = cond-true (spells_field field word) (first_fault wanted words) (Some (fault_of field)) e

pub bad : (field : Field) (wanted : List Field) (word : List ℕ) (words : List (List ℕ)) → spells_field field word ≡ false → first_fault (field ∷ wanted) (word ∷ words) ≡ Some (fault_of field)
bad field wanted word words e = cond-false (spells_field field word) (first_fault wanted words) (Some (fault_of field)) e

-- without a fault there is a word for the first field, which it spells, and the others have no fault
pub record First (field : Field) (wanted : List Field) (words : List (List ℕ)) : Type 0 where
  pub word : List ℕ
  pub rest : List (List ℕ)
  pub are : words ≡ word ∷ rest
  pub spells : spells_field field word ≡ true
  pub others : first_fault wanted rest ≡ None

first_from : (field : Field) (wanted : List Field) (word : List ℕ) (words : List (List ℕ)) (test : Bool) → spells_field field word ≡ test → first_fault (field ∷ wanted) (word ∷ words) ≡ None → First field wanted (word ∷ words)
first_from field wanted word words true t e =
    record { word = word; rest = words; are = refl; spells = t; others = sym (fine field wanted word words t) ∙ e }
first_from field wanted word words false t e = absurd (none-some (fault_of field) (sym e ∙ bad field wanted word words t))

pub first : (field : Field) (wanted : List Field) (words : List (List ℕ)) → first_fault (field ∷ wanted) words ≡ None → First field wanted words
first field wanted [] e = absurd (none-some WrongCount (sym e))
first field wanted (word ∷ words) e = first_from field wanted word words (spells_field field word) refl e

pub head_spells : (field : Field) (wanted : List Field) (word : List ℕ) (words : List (List ℕ)) → first_fault (field ∷ wanted) (word ∷ words) ≡ None → spells_field field word ≡ true
head_spells field wanted word words e =
    let a = first field wanted (word ∷ words) e in
    let same : a.word ≡ word = (let q : word ∷ words ≡ a.word ∷ a.rest = a.are in cc) in
    subst (λ w. spells_field field w ≡ true) same a.spells

-- if no field is wanted and there is no fault, there is no word
pub none_left : (words : List (List ℕ)) → first_fault [] words ≡ None → words ≡ []
none_left [] e = refl
none_left (word ∷ words) e = absurd (none-some WrongCount (sym e))

pub record One (field : Field) (words : List (List ℕ)) : Type 0 where
  pub word : List ℕ
  pub are : words ≡ word ∷ []
  pub spells : spells_field field word ≡ true

pub one : (field : Field) (words : List (List ℕ)) → first_fault (field ∷ []) words ≡ None → One field words
one field words e =
    let a = first field [] words e in
    record { word = a.word; are = a.are ∙ ap (λ ws. a.word ∷ ws) (none_left a.rest a.others); spells = a.spells }

pub record Two (field other : Field) (words : List (List ℕ)) : Type 0 where
  pub word : List ℕ
  pub next : List ℕ
  pub are : words ≡ word ∷ next ∷ []
  pub spells : spells_field field word ≡ true
  pub spells_next : spells_field other next ≡ true

pub two : (field other : Field) (words : List (List ℕ)) → first_fault (field ∷ other ∷ []) words ≡ None → Two field other words
two field other words e =
    let a = first field (other ∷ []) words e in
    let b = one other a.rest a.others in
    record { word = a.word; next = b.word; are = a.are ∙ ap (λ ws. a.word ∷ ws) b.are; spells = a.spells; spells_next = b.spells }

pub record Three (field other last : Field) (words : List (List ℕ)) : Type 0 where
  pub word : List ℕ
  pub next : List ℕ
  pub end : List ℕ
  pub are : words ≡ word ∷ next ∷ end ∷ []
  pub spells : spells_field field word ≡ true
  pub spells_next : spells_field other next ≡ true
  pub spells_end : spells_field last end ≡ true

pub three : (field other last : Field) (words : List (List ℕ)) → first_fault (field ∷ other ∷ last ∷ []) words ≡ None → Three field other last words
three field other last words e =
    let a = first field (other ∷ last ∷ []) words e in
    let b = two other last a.rest a.others in
    record {
      word = a.word;
      next = b.word;
      end = b.next;
      are = a.are ∙ ap (λ ws. a.word ∷ ws) b.are;
      spells = a.spells;
      spells_next = b.spells;
      spells_end = b.spells_next;
    }

-- a line's form has no fault exactly where each of its tests passes
pub good_form : (part : Part) (k : Keyword) (words : List (List ℕ)) → may_stand part (shape_of k) ≡ true → may_have (shape_of k) (suc (length words)) ≡ true → form_fault part k words ≡ None
good_form part k words here count =
    cond-false (not (may_stand part (shape_of k))) (Some NotHere) _ (not_from_true (may_stand part (shape_of k)) here)
    ∙ cond-false (not (may_have (shape_of k) (suc (length words)))) (Some WrongCount) None (not_from_true (may_have (shape_of k) (suc (length words))) count)

away_form : (part : Part) (k : Keyword) (words : List (List ℕ)) → may_stand part (shape_of k) ≡ false → form_fault part k words ≡ Some NotHere
away_form part k words away = cond-true (not (may_stand part (shape_of k))) (Some NotHere) _ (not_from_false (may_stand part (shape_of k)) away)

stands_from : (part : Part) (k : Keyword) (words : List (List ℕ)) (here : Bool) → may_stand part (shape_of k) ≡ here → form_fault part k words ≡ None → here ≡ true
stands_from part k words true h e = refl
stands_from part k words false h e = absurd (none-some NotHere (sym e ∙ away_form part k words h))

-- what holds of a line that begins with a keyword and has no fault
pub record Fits (part : Part) (k : Keyword) (words : List (List ℕ)) : Type 0 where
  pub here : may_stand part (shape_of k) ≡ true
  pub fine_words : first_fault (fields k words) words ≡ None

neither : {A : Type 0} (x y : Option A) → option_or x y ≡ None → (x ≡ None) × (y ≡ None)
neither None y e = (refl, e)
neither (Some a) y e = absurd (none-some a (sym e))

pub fits : (part : Part) (k : Keyword) (words : List (List ℕ)) → fault_by part (Some k) words ≡ None → Fits part k words
fits part k words e =
    let both = neither (form_fault part k words) (first_fault (fields k words) words) e in
    record { here = stands_from part k words (may_stand part (shape_of k)) refl both.0; fine_words = both.1 }
