-- The first word of a line, and the words after show and transient.
use Rattle.std.proofs.Common.{◌≡◌, ◌≢◌, ℕ, Bool, true, false, List, [], ◌∷◌, refl, sym, ap, ◌∙◌, inl, inr}
use Rattle.std.specs.Prelude.{Some, None, bytes_eq}
use Rattle.std.specs.List.{find}
use Rattle.std.proofs.lemmas.Bool.{cases_Bool, cond-true, cond-false}
use Rattle.std.proofs.lemmas.Option.{none-some, same_Some}
use Rattle.topology.specs.declared.status.BadKind.TheVariants.{UnknownWord}
use Rattle.schedule_file.specs.declared.directives.Directive.{Directive}
use Rattle.schedule_file.specs.declared.directives.Directive.TheVariants.{Originate}
use Rattle.schedule_file.specs.declared.table.Keyword.{Keyword}
use Rattle.schedule_file.specs.declared.table.Part.{Part}
use Rattle.schedule_file.specs.declared.table.Keyword.TheVariants.{Node}
use Rattle.schedule_file.specs.declared.table.PlainView.TheVariants.{Rib}
use Rattle.schedule_file.specs.declared.table.EpochView.TheVariants.{Cut}
use Rattle.schedule_file.specs.declared.table.View.{View}
use Rattle.schedule_file.specs.declared.table.View.TheVariants.{Plain, OfEpoch, Walk}
use Rattle.schedule_file.specs.declared.table.SchemeName.{SchemeName}
use Rattle.schedule_file.specs.Words.{has_word}
use Rattle.schedule_file.specs.Directives.{first_word, rest_of}
use Rattle.schedule_file.specs.Lines.{directing}
use Rattle.schedule_file.specs.Table.{keyword_words, keyword_text, keywords, keyword_in, view_text, views, view_in, scheme_text, schemes, scheme_in}
use Rattle.schedule_file.specs.Refusals.{fault_by}
use Rattle.schedule_file.proofs.Passing.{word_is, other_word}

-- each keyword is found by its first word, and the keyword of a directive by the first word of its line
pub keyword_found : (k : Keyword) → keyword_in (keyword_text k) ≡ Some k
keyword_found Node = refl
keyword_found k = refl

pub directive_found : {P : Type 0} (d : Directive P) → keyword_in (first_word d) ≡ Some (directing (rest_of d))
directive_found (Originate node p) = refl
directive_found d = refl

pub view_found : (v : View) → view_in (view_text v) ≡ Some v
view_found (Plain Rib) = refl
view_found (Plain view) = refl
view_found (OfEpoch Cut) = refl
view_found (OfEpoch view) = refl
view_found Walk = refl

passes : {X : Type 0} (p : X → Bool) (xs : List X) (x : X) → find p xs ≡ Some x → p x ≡ true
passes p [] x e = absurd (none-some x e)
passes p (y ∷ ys) x e =
    elim (cases_Bool (p y)) [
      | inl t ↦ ap p (sym (same_Some y x (sym (cond-true (p y) (Some y) (find p ys) t) ∙ e))) ∙ t
      | inr f ↦ passes p ys x (sym (cond-false (p y) (Some y) (find p ys) f) ∙ e)
    ]

none_passes : {X : Type 0} (p : X → Bool) (xs : List X) → ((x : X) → p x ≡ false) → find p xs ≡ None
none_passes p [] h = refl
none_passes p (x ∷ xs) h = cond-false (p x) (Some x) (find p xs) (h x) ∙ none_passes p xs h

pub keyword_is : (word : List ℕ) (k : Keyword) → keyword_in word ≡ Some k → has_word (keyword_words k) word ≡ true
keyword_is word k e = passes (λ k. has_word (keyword_words k) word) keywords k e

pub view_is : (word : List ℕ) (v : View) → view_in word ≡ Some v → word ≡ view_text v
view_is word v e = word_is word (view_text v) (passes (λ v. bytes_eq word (view_text v)) views v e)

pub scheme_is : (word : List ℕ) (n : SchemeName) → scheme_in word ≡ Some n → word ≡ scheme_text n
scheme_is word n e = word_is word (scheme_text n) (passes (λ n. bytes_eq word (scheme_text n)) schemes n e)

pub no_view : (word : List ℕ) → ((v : View) → word ≢ view_text v) → view_in word ≡ None
no_view word none = none_passes (λ v. bytes_eq word (view_text v)) views (λ v. other_word word (view_text v) (none v))

pub no_scheme : (word : List ℕ) → ((n : SchemeName) → word ≢ scheme_text n) → scheme_in word ≡ None
no_scheme word none = none_passes (λ n. bytes_eq word (scheme_text n)) schemes (λ n. other_word word (scheme_text n) (none n))

-- another word is always a fault
pub other_is_bad : {P : Type 0} (part : Part) (words : List (List ℕ)) → fault_by part None words ≡ None → P
other_is_bad part words e = absurd (none-some UnknownWord (sym e))
