-- The set `busy` has the ways on which something is.
use Rattle.std.proofs.Common.{ℕ, zero, suc, ◌<◌, ◌≤◌, Bool, true, false, not, ◌==◌, Some, List, [], ◌∷◌, ◌≡◌, ◌≢◌, ⊎_elim, refl, sym, ◌∙◌, ap, arith, length, get_or, set, slice_get, if◌then◌else◌}
use Rattle.std.proofs.lemmas.Bool.{cases_eq}
use Rattle.std.proofs.lemmas.Bool.Decides.{nat_tests}
use Rattle.std.proofs.lemmas.Option.{slice_get-get_or}
use Rattle.topology.specs.declared.items.Item.{Item}
use Rattle.topology.specs.Net.{Net}
use Rattle.link_model.specs.declared.links.Links.{Links}
use Rattle.link_model.specs.Acts.{LinkActs}
use Rattle.link_model.specs.Readings.{channel_after}
use Rattle.link_model.specs.Tables.{ends}
use Rattle.link_model.specs.Ways.{OneWay, unused, has_items, holds_some}
use Rattle.link_model.specs.Keeping.{IsPlaced}
use Rattle.link_model.specs.Standing.{StandsFor}
use Rattle.link_model.proofs.Keeping.{way_inside}
use Rattle.link_model.proofs.Places.{get_set_same, get_set_other}

-- for each number, whether something is on its way
abbrev pub AreMarked : (ℕ → Bool) → List OneWay → Type 0
AreMarked marks ways = (number : ℕ) → marks number ≡ holds_some (slice_get ways number)

-- nothing is on a way that is not there
pub none_past : (ways : List OneWay) (number : ℕ) → length ways ≤ number → holds_some (slice_get ways number) ≡ false
none_past [] number past = refl
none_past (way ∷ ways) zero past = absurd (omega (arith, past))
none_past (way ∷ ways) (suc number) past = none_past ways number (omega (arith, past))

-- one way and its mark changed
pub marked_with : (ways : List OneWay) (way : ℕ) (left : OneWay) (old new : ℕ → Bool) (is : Bool) → way < length ways → is ≡ has_items left.items → AreMarked old ways
    → ((number : ℕ) → new number ≡ (if number == way then is else old number)) → AreMarked new (set ways way left)
marked_with ways way left old new is inside holds were marks number = ⊎_elim
    (λ (same : number ≡ way).
    let here : (number == way) ≡ true = grind (arith, nat_tests) in
    let left_there : slice_get (set ways way left) number ≡ Some left = ap (slice_get (set ways way left)) same ∙ get_set_same ways way left inside in
    marks number ∙ rw (here, left_there) holds)
    (λ (ne : number ≢ way).
    let other : (number == way) ≡ false = differs number way ne in
    let as_before : slice_get (set ways way left) number ≡ slice_get ways number = get_set_other ways way number left (λ e. ne (sym e)) in
    marks number ∙ rw (other, as_before) (were number))
    (cases_eq number way)
  where
    differs : (a b : ℕ) → a ≢ b → (a == b) ≡ false
    differs a b ne = grind (arith, nat_tests)

not_not : (b : Bool) → not (not b) ≡ b
not_not true = refl
not_not false = refl

-- an empty list has no items
pub none_left : (items : List Item) (empty : Bool) → empty ≡ true → empty ≡ not (has_items items) → false ≡ has_items items
none_left items empty test answer = ap not (sym test ∙ answer) ∙ not_not (has_items items)

-- the mark of a way
pub marked_at : (net : Net) (links : Links) (acts : LinkActs) (from to way : ℕ) → length links.channels.items ≡ length links.table → StandsFor net links acts → IsPlaced links from to way
    → holds_some (slice_get links.channels.items way) ≡ has_items (channel_after from to acts)
marked_at net links acts from to way sized stands at =
    let inside = way_inside links from to way at in
    let there = slice_get-get_or links.channels.items way unused (omega (arith, inside, sized)) in
    ap holds_some there ∙ ap has_items (stands.each way (ends from to) (get_or links.channels.items way unused) at.here there).items
