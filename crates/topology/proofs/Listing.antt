-- Items that are listed one by one.
use Rattle.std.proofs.Common.{◌≡◌, ◌≢◌, Bool, true, false, ◌==◌, List, [], ◌∷◌, ◌++◌, length, map, refl, sym, ap, ◌∙◌, arith, true≢false}
use Rattle.std.proofs.lemmas.List.{append-nil, append_assoc, map-append}
use Rattle.std.specs.List.{AllByRecursion}
use Rattle.topology.specs.declared.names.Trigger.{Trigger}
use Rattle.topology.specs.declared.items.Sent.{Sent}
use Rattle.topology.specs.declared.alike_sent.ShortSent.{ShortSent}
use Rattle.topology.specs.AlikeLists.{unpacked}
use Rattle.topology.specs.SentLists.{IsSmall, AreUnlike, AreWholeForReason}

-- one more of the first items, where there are no others
pub one_more : (own t : Trigger) (first : List ShortSent) (item : ShortSent) (others now : List Sent) (sent : Sent)
    → map (unpacked own) first ++ others ≡ now → others ≡ [] → map (unpacked own) first ≡ map (unpacked t) first → unpacked t item ≡ sent
    → map (unpacked t) (first ++ item ∷ []) ++ others ≡ now ++ sent ∷ []
one_more own t first item others now sent is none same new =
    let left : map (unpacked t) (first ++ item ∷ []) ++ others ≡ map (unpacked t) first ++ sent ∷ [] =
    ap (λ l. map (unpacked t) (first ++ item ∷ []) ++ l) none
    ∙ (append-nil (map (unpacked t) (first ++ item ∷ []))
    ∙ (map-append (unpacked t) first (item ∷ []) ∙ ap (λ s. map (unpacked t) first ++ s ∷ []) new)) in
    let right : now ≡ map (unpacked t) first =
    sym is ∙ (ap (λ l. map (unpacked own) first ++ l) none ∙ (append-nil (map (unpacked own) first) ∙ same)) in
    left ∙ ap (λ l. l ++ sent ∷ []) (sym right)

-- what holds of each item of a list holds of each of the first
first_are : (P : Sent → Type 0) (xs ys : List Sent) → AllByRecursion P (xs ++ ys) → AllByRecursion P xs
first_are P [] ys all = tt
first_are P (x ∷ xs) ys all = (all.0, first_are P xs ys all.1)

-- and of each of the last
last_are : (P : Sent → Type 0) (xs ys : List Sent) → AllByRecursion P (xs ++ ys) → AllByRecursion P ys
last_are P [] ys all = all
last_are P (x ∷ xs) ys all = last_are P xs ys all.1

-- a list with items that stand whole
pub whole_are : (first others : List Sent) (empty : Bool) → empty ≡ (length others == 0) → empty ≡ false → AreWholeForReason first others → AreUnlike (first ++ others)
whole_are first [] empty is e reason = absurd (true≢false (sym is ∙ e))
whole_are first (item ∷ others) empty is e reason = reason

-- one more of them
pub still_whole : (first others now : List Sent) (sent : Sent) → first ++ others ≡ now → AreUnlike (now ++ sent ∷ []) → AreWholeForReason first (others ++ sent ∷ [])
still_whole first [] now sent is unlike = let same : now ≡ first = sym is ∙ append-nil first in rw same at unlike
still_whole first (item ∷ others) now sent is unlike =
    let same : now ++ sent ∷ [] ≡ first ++ (item ∷ (others ++ sent ∷ [])) = ap (λ l. l ++ sent ∷ []) (sym is) ∙ append_assoc first (item ∷ others) (sent ∷ []) in
    rw same at unlike

-- a list to which an item comes that is not small
pub none_with : (now : List Sent) (sent : Sent) → ((t : Trigger) → IsSmall t sent → ⊥) → AreUnlike (now ++ sent ∷ [])
none_with now sent large = λ t all. large t (last_are (IsSmall t) now (sent ∷ []) all).0

-- a list to which an item comes behind such as were not small together
pub none_behind : (now : List Sent) (sent : Sent) → AreUnlike now → AreUnlike (now ++ sent ∷ [])
none_behind now sent unlike = λ t all. unlike t (first_are (IsSmall t) now (sent ∷ []) all)

-- a list to which a small item comes that may not stand behind the first
pub none_beside : (own t : Trigger) (first : List ShortSent) (others now : List Sent) (item : ShortSent) (sent : Sent)
    → map (unpacked own) first ++ others ≡ now → AreWholeForReason (map (unpacked own) first) others → (others ≡ [] → (first ≢ []) × (own ≢ t)) → unpacked t item ≡ sent
    → AreUnlike (now ++ sent ∷ [])
none_beside own t first (other ∷ others) now item sent is reason differ new =
    let unlike = none_behind (map (unpacked own) first ++ other ∷ others) sent reason in
    rw is at unlike
none_beside own t [] [] now item sent is reason differ new = let found = differ refl in absurd (found.0 refl)
none_beside own t (x ∷ first) [] now item sent is reason differ new = λ u all.
    let both = rw (sym is) at all in
    let here : own ∷ [] ≡ u ∷ [] = both.0.0 in
    let there : sent.triggers ≡ u ∷ [] = (last_are (IsSmall u) (map (unpacked own) (x ∷ first) ++ []) (sent ∷ []) both).0.0 in
    let its : t ∷ [] ≡ sent.triggers = ap (λ (s : Sent). s.triggers) new in
    let same : own ≡ t = cc in
    let found = differ refl in found.1 same
