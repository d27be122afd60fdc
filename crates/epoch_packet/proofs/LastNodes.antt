-- The last node of a list, and the nodes before it.
use Rattle.std.proofs.Common.{◌≡◌, ℕ, suc, ◌-◌, ◌<◌, Option, Some, None, List, [], ◌∷◌, ◌++◌, length, refl, sym, ap, ◌∙◌, arith, option_to_list, slice_get, append-nil, IsSome}
use Rattle.epoch_packet.specs.NodeLists.{last_of, but_last}

-- the last node stands at the last place
pub last_at : (xs : List ℕ) → slice_get xs (length xs - 1) ≡ last_of xs
last_at [] = refl
last_at (x ∷ []) = refl
last_at (x ∷ y ∷ rest) =
    let one : suc (suc (length rest)) - 1 ≡ suc (suc (length rest) - 1) = omega arith in
    ap (slice_get (x ∷ y ∷ rest)) one ∙ last_at (y ∷ rest)

-- all others stand before the node at the end
but_last-end : (xs : List ℕ) (x : ℕ) → but_last (xs ++ x ∷ []) ≡ xs
but_last-end [] x = refl
but_last-end (y ∷ []) x = refl
but_last-end (y ∷ z ∷ rest) x = ap (λ l. y ∷ l) (but_last-end (z ∷ rest) x)

-- the list without its last node, if there is one
pub popped : (before after : List ℕ) (o : Option ℕ) → before ≡ after ++ option_to_list o → (0 < length before → IsSome o) → after ≡ but_last before
popped before after (Some x) is some = sym (but_last-end after x) ∙ ap but_last (sym is)
popped [] after None is some = sym (is ∙ append-nil after)
popped (y ∷ before) after None is some = let one : IsSome {T = ℕ} None = some (omega arith) in cc

-- a list is all but its last node, followed by that
pub last_at_end : (xs : List ℕ) (w : ℕ) → last_of xs ≡ Some w → but_last xs ++ w ∷ [] ≡ xs
last_at_end [] w is = cc
last_at_end (x ∷ []) w is = let same : x ≡ w = cc in ap (λ n. n ∷ []) (sym same)
last_at_end (x ∷ y ∷ rest) w is = ap (λ l. x ∷ l) (last_at_end (y ∷ rest) w is)
