-- An item of a list, and lists that are kept without the trigger that all items list.
use Rattle.std.proofs.Common.{ℕ, zero, suc, ◌+◌, ◌==◌, ◌≡◌, Option, Some, None, Bool, true, false, not, ◌&&◌, ◌||◌, List, [], ◌∷◌, drop, map, length, get_or, refl, sym, ap, ◌∙◌, arith}
use Rattle.std.specs.Prelude.{nat_lt, IfSome, slice_get}
use Rattle.std.proofs.lemmas.Bool.Decides.{nat_tests}
use Rattle.std.proofs.lemmas.List.{drop_more}
use Rattle.std.proofs.lemmas.Option.{slice_get_within, slice_get-get_or}
use Rattle.std.specs.List.{list_any}
use Rattle.topology.specs.declared.names.Trigger.{Trigger}
use Rattle.topology.specs.declared.items.Sent.{Sent}
use Rattle.topology.specs.declared.alike_sent.ShortSent.{ShortSent}
use Rattle.topology.specs.AlikeLists.{unpacked}
use Rattle.topology.specs.SentLists.{is_above, marks_of}

-- each item lists one trigger
pub alike_marks : (t : Trigger) (items : List ShortSent) → length items ≡ marks_of (map (unpacked t) items)
alike_marks t [] = refl
alike_marks t (item ∷ items) = let rest = alike_marks t items in omega (arith, rest)

absorb : (a b : Bool) → a ≡ a || (b && a)
absorb true b = refl
absorb false true = refl
absorb false false = refl

-- no item lists more triggers than one
pub alike_above : (most : ℕ) (t : Trigger) (items : List ShortSent) → (not (length items == 0) && nat_lt most 1) ≡ list_any (is_above most) (map (unpacked t) items)
alike_above most t [] = refl
alike_above most t (item ∷ items) =
    let some : (length (item ∷ items) == 0) ≡ false = grind (arith, nat_tests) in
    ap (λ e. not e && nat_lt most 1) some ∙ absorb (nat_lt most 1) (not (length items == 0)) ∙ ap (λ r. nat_lt most 1 || r) (alike_above most t items)

-- what is left of a list from one of its places on
pub rest_of : {A : Type 0} (xs : List A) (i : ℕ) (found : Option A) → found ≡ slice_get xs i → IfSome found (λ x. drop i xs ≡ x ∷ drop (i + 1) xs)
rest_of xs i None is = tt
rest_of xs i (Some x) is =
    let inside = slice_get_within xs i x (sym is) in
    let same : Some (get_or xs i x) ≡ Some x = sym (slice_get-get_or xs i x inside) ∙ sym is in
    let here : get_or xs i x ≡ x = cc in
    drop_more xs i x inside ∙ ap (λ y. y ∷ drop (i + 1) xs) here
