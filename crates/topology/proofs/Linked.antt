-- Links and preferences stored under their nodes.
use Rattle.std.proofs.Common.{◌≡◌, ℕ, min, max, Bool, true, false, cond, ◌&&◌, ◌||◌, ◌==◌, List, [], ◌∷◌, ◌++◌, find, refl, ap, ap₂, arith, if◌then◌else◌, Some, is_some}
use Rattle.std.specs.List.{list_any}
use Rattle.std.specs.Map.{lookup, values_of}
use Rattle.indexmap.specs.IndexMap.{insert_entry}
use Rattle.std.proofs.lemmas.Bool.Decides.{nat_tests}
use Rattle.topology.specs.Net.{joins, prefers}
use Rattle.topology.specs.Tables.{ends, UnderTheirEnds, side, UnderTheirSides}
use Rattle.topology.specs.declared.links.Link.{Link}
use Rattle.topology.specs.Building.{put_preference}
use Rattle.topology.specs.declared.links.Pref.{Pref}
use Rattle.topology.specs.declared.pref_table.Side.{Side}
use Rattle.topology.specs.declared.link_table.LinkKey.{LinkKey}
use Rattle.topology.proofs.Tests.{and_left, and_right, or_left, or_right, same_is, same_sym}

-- two links have equal keys exactly where one joins the ends of the other
pub same_ends : (a b c d : ℕ) → (min a b == min c d && max a b == max c d) ≡ ((c == a && d == b) || (c == b && d == a))
same_ends a b c d = grind (arith, nat_tests)

module _ (a b : ℕ) (p : LinkKey → Bool) (is : (link : Link) → p (ends link.a link.b) ≡ joins a b link) where
  pub found_by_ends : (entries : List (LinkKey × Link)) → UnderTheirEnds entries → lookup p entries ≡ find (joins a b) (values_of entries)
  found_by_ends [] under = refl
  found_by_ends (e ∷ es) under =
      rw (under.each.0, is e.1) (ap (λ o. cond (joins a b e.1) (Some e.1) o) (found_by_ends es (record { each = under.each.1 })))

module _ (eq : LinkKey → LinkKey → Bool) (a b : ℕ) (is : (link : Link) → eq (ends a b) (ends link.a link.b) ≡ joins a b link) where
  pub inserted_last : (entries : List (LinkKey × Link)) (link : Link) → UnderTheirEnds entries → list_any (joins a b) (values_of entries) ≡ false → insert_entry eq entries (ends a b) link ≡ entries ++ (ends a b, link) ∷ []
  inserted_last [] link under none = refl
  inserted_last (e ∷ es) link under none =
      let here : joins a b e.1 ≡ false = or_left (joins a b e.1) (list_any (joins a b) (values_of es)) none in
      let later = or_right (joins a b e.1) (list_any (joins a b) (values_of es)) none in
      rw (under.each.0, is e.1, here) (ap (λ l. (ends e.1.a e.1.b, e.1) ∷ l) (inserted_last es link (record { each = under.each.1 }) later))

pub under-append : (entries : List (LinkKey × Link)) (link : Link) → UnderTheirEnds entries → UnderTheirEnds (entries ++ (ends link.a link.b, link) ∷ [])
under-append [] link under = record { each = (refl, tt) }
under-append (e ∷ es) link under = record { each = (under.each.0, (under-append es link (record { each = under.each.1 })).each) }

-- `find` finds an element exactly where some element passes
pub is_some_find : {X : Type 0} (p : X → Bool) (xs : List X) → is_some (find p xs) ≡ list_any p xs
is_some_find p [] = refl
is_some_find p (x ∷ xs) = elim (p x) as (λ t. is_some (cond t (Some x) (find p xs)) ≡ (t || list_any p xs)) [ true ↦ refl | false ↦ is_some_find p xs ]

pub ruleset any_found = (is_some_find)

-- preferences under their two nodes

module _ (a b : ℕ) (p : Side → Bool) (is : (pref : Pref) → p (side pref.a pref.b) ≡ prefers a b pref) where
  pub found_by_side : (entries : List (Side × Pref)) → UnderTheirSides entries → lookup p entries ≡ find (prefers a b) (values_of entries)
  found_by_side [] under = refl
  found_by_side (e ∷ es) under =
      rw (under.each.0, is e.1) (ap (λ o. cond (prefers a b e.1) (Some e.1) o) (found_by_side es (record { each = under.each.1 })))

module _ (eq : Side → Side → Bool) (pref : Pref) (is : (other : Pref) → eq (side pref.a pref.b) (side other.a other.b) ≡ prefers pref.a pref.b other) where
  pub put_by_side : (entries : List (Side × Pref)) → UnderTheirSides entries → values_of (insert_entry eq entries (side pref.a pref.b) pref) ≡ put_preference pref (values_of entries)
  put_by_side [] under = refl
  put_by_side (e ∷ es) under =
      rw (under.each.0, is e.1)
      (elim (prefers pref.a pref.b e.1) as (λ t. values_of (if t then (side e.1.a e.1.b, pref) ∷ es else (side e.1.a e.1.b, e.1) ∷ insert_entry eq es (side pref.a pref.b) pref) ≡ (if t then pref ∷ values_of es else e.1 ∷ put_preference pref (values_of es))) [
        | true ↦ refl
        | false ↦ ap (λ l. e.1 ∷ l) (put_by_side es (record { each = under.each.1 }))
      ])

  pub under-put : (entries : List (Side × Pref)) → UnderTheirSides entries → UnderTheirSides (insert_entry eq entries (side pref.a pref.b) pref)
  under-put [] under = record { each = (refl, tt) }
  under-put (e ∷ es) under =
      let rest = under-put es (record { each = under.each.1 }) in
      rw (under.each.0, is e.1)
      ((elim (prefers pref.a pref.b e.1) as (λ t. prefers pref.a pref.b e.1 ≡ t → UnderTheirSides (if t then (side e.1.a e.1.b, pref) ∷ es else (side e.1.a e.1.b, e.1) ∷ insert_entry eq es (side pref.a pref.b) pref)) [
        | true ↦ λ same.
            let from = same_is e.1.a pref.a (and_left (e.1.a == pref.a) (e.1.b == pref.b) same) in
            let to = same_is e.1.b pref.b (and_right (e.1.a == pref.a) (e.1.b == pref.b) same) in
            record { each = (ap₂ side from to, under.each.1) }
        | false ↦ λ other. record { each = (refl, rest.each) }
      ]) refl)

pub same_sides : (a b c d : ℕ) → (a == c && b == d) ≡ (c == a && d == b)
same_sides a b c d = rw (same_sym a c, same_sym b d)
