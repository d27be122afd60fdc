-- What stands at a place of a list, and what a function makes of it.
use Rattle.std.proofs.Common.{◌≡◌, ℕ, ◌+◌, ◌<◌, Option, None, Some, IfSome, List, [], ◌∷◌, ◌++◌, length, map, take, get_or, sym, ap, ◌∙◌, slice_get, arith}
use Rattle.std.specs.Prelude.{option_map}
use Rattle.std.proofs.lemmas.List.{length-map, map-append, take_more}
use Rattle.std.proofs.lemmas.Option.{slice_get-get_or, slice_get-map}

-- what stands at a place
pub at_place : {X : Type 0} (xs : List X) (i : ℕ) (x : X) → i < length xs → slice_get xs i ≡ Some x → x ≡ get_or xs i x
at_place xs i x inside found = let there = slice_get-get_or xs i x inside in let both : Some x ≡ Some (get_or xs i x) = sym found ∙ there in cc

-- one more element, and what a function makes of it
pub one_more_made : {X Y Z : Type 0} (f : X → Z) (g : Y → Z) (made : List X) (xs : List Y) (i : ℕ) (y : X) (x : Y) → i < length xs → slice_get xs i ≡ Some x
    → map f made ≡ map g (take i xs) → f y ≡ g x → map f (made ++ y ∷ []) ≡ map g (take (i + 1) xs)
one_more_made f g made xs i y x inside at so_far same =
    map-append f made (y ∷ [])
    ∙ (ap (λ zs. zs ++ f y ∷ []) so_far
    ∙ (ap (λ z. map g (take i xs) ++ z ∷ []) same
    ∙ (sym (map-append g (take i xs) (x ∷ []))
    ∙ ap (map g) (ap (λ z. take i xs ++ z ∷ []) (at_place xs i x inside at) ∙ sym (take_more xs i x inside)))))

made_as : {Y Z : Type 0} (g : Y → Z) (o : Option Y) (z : Z) → option_map g o ≡ Some z → IfSome o (λ y. z ≡ g y)
made_as g None z e = tt
made_as g (Some y) z e = cc

-- what stands at a place of two lists, of which two functions make the same
pub made_at : {X Y Z : Type 0} (f : X → Z) (g : Y → Z) (xs : List X) (ys : List Y) (i : ℕ) (x : X) → i < length ys → x ≡ get_or xs i x → map f xs ≡ map g ys
    → IfSome (slice_get ys i) (λ y. f x ≡ g y)
made_at f g xs ys i x inside at same =
    let as_long : length xs ≡ length ys = sym (length-map xs f) ∙ (ap length same ∙ length-map ys g) in
    let found : slice_get xs i ≡ Some x = slice_get-get_or xs i x (omega (arith, inside, as_long)) ∙ ap (λ y. Some y) (sym at) in
    made_as g (slice_get ys i) (f x)
    (sym (slice_get-map g ys i) ∙ (ap (λ zs. slice_get zs i) (sym same) ∙ (slice_get-map f xs i ∙ ap (option_map f) found)))
