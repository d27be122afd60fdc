-- Prefixes by their places.
use Rattle.std.proofs.Common.{◌≡◌, ℕ, Bool, true, false, ◌==◌, List, [], ◌∷◌, ◌++◌, length, position, slice_get, Option, Some, None, IfSome, one-add, refl, sym, ap, ap₂, ◌∙◌, if◌then◌else◌}
use Rattle.std.specs.List.{list_any, position_or_len}
use Rattle.std.proofs.lemmas.List.Quantifiers.{position-Some}
use Rattle.std.proofs.lemmas.Option.{slice_get-get_or}
use Rattle.topology.specs.Net.{same_prefix}
use Rattle.topology.specs.declared.prefixes.Prefix.{Prefix}
use Rattle.topology.proofs.Tests.{and_left, and_right, or_left, or_right, same_is}

-- a new key goes to the end
pub last_of : {X : Type 0} (p : X → Bool) (xs : List X) (x : X) → list_any p xs ≡ false → (if list_any p xs then xs else xs ++ x ∷ []) ≡ xs ++ x ∷ []
last_of p xs x e = ap (λ t. if t then xs else xs ++ x ∷ []) e

-- its place is the old length
pub place_of_new : {X : Type 0} (p : X → Bool) (xs : List X) → list_any p xs ≡ false → position_or_len p xs ≡ length xs
place_of_new p [] e = refl
place_of_new p (x ∷ xs) e =
    let here : p x ≡ false = or_left (p x) (list_any p xs) e in
    rw (here, place_of_new p xs (or_right (p x) (list_any p xs) e)) (one-add (length xs))

abbrev made : ℕ → ℕ → Prefix
made bits len = record { bits = bits; len = len }

same_prefix_is : (p q : Prefix) → same_prefix p q ≡ true → q ≡ p
same_prefix_is p q e =
    let bits = same_is p.bits q.bits (and_left (p.bits == q.bits) (p.len == q.len) e) in
    let len = same_is p.len q.len (and_right (p.bits == q.bits) (p.len == q.len) e) in
    ap₂ made (sym bits) (sym len)

-- the first place that passes the test is the prefix's
pub prefix_found : (p : Prefix) (xs : List Prefix) (r : Option ℕ) → r ≡ position (same_prefix p) xs → IfSome r (λ i. slice_get xs i ≡ Some p)
prefix_found p xs None e = tt
prefix_found p xs (Some i) e =
    let at = position-Some (same_prefix p) xs i p (sym e) in
    slice_get-get_or xs i p at.0 ∙ ap Some (same_prefix_is p _ at.1)
