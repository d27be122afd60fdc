-- Lists that are made element by element.
use Rattle.std.proofs.Common.{ℕ, zero, suc, ◌+◌, ◌<◌, Bool, true, false, ◌&&◌, ◌==◌, Option, Some, None, List, [], ◌∷◌, ◌++◌, length, take, get_or, slice_get, map, filter, option_map, option_to_list, ◌≡◌, refl, sym, ◌∙◌, ap, subst, arith}
use Rattle.std.specs.Prelude.{if◌then◌else◌}
use Rattle.std.specs.List.{list_any}
use Rattle.std.proofs.lemmas.List.{append-nil, map-append, take_more}
use Rattle.std.proofs.lemmas.List.Elements.{filter-append}
use Rattle.std.proofs.lemmas.Option.{same_Some}
use Rattle.topology.specs.declared.links.Link.{Link}
use Rattle.topology.specs.declared.links.Relation.{Relation}
use Rattle.topology.specs.LinkStates.{is_up}
use Rattle.topology.specs.Net.{joins}
use Rattle.topology.proofs.Tests.{and_both, or_first, or_second, same_refl}
use Rattle.chronicle.specs.Facts.{Chronicle}
use Rattle.chronicle.specs.Links.{link}
use Rattle.world_core.specs.StillLinks.{up_among}

-- one more of a list
pub take_next : {X : Type 0} (xs : List X) (i : ℕ) (x : X) → i < length xs → x ≡ get_or xs i x → take (i + 1) xs ≡ take i xs ++ x ∷ []
take_next {X} xs i x within is = take_more xs i x within ∙ ap (λ y. take i xs ++ y ∷ []) (sym is)

module _ {X : Type 0} (test : X → Bool) (xs : List X) (i : ℕ) (x : X) (within : i < length xs) (is : x ≡ get_or xs i x) where
  -- it passes
  pub passes_more : test x ≡ true → filter test (take i xs) ++ x ∷ [] ≡ filter test (take (i + 1) xs)
  passes_more yes' =
      sym (ap (filter test) (take_next xs i x within is) ∙ (filter-append test (take i xs) (x ∷ []) ∙ ap (λ t. filter test (take i xs) ++ (if t then x ∷ [] else [])) yes'))

  -- it does not
  pub fails_more : test x ≡ false → filter test (take i xs) ≡ filter test (take (i + 1) xs)
  fails_more no' =
      sym (ap (filter test) (take_next xs i x within is) ∙ (filter-append test (take i xs) (x ∷ []) ∙ (ap (λ t. filter test (take i xs) ++ (if t then x ∷ [] else [])) no' ∙ append-nil (filter test (take i xs)))))

-- something is made of it
pub made_more : {X Y : Type 0} (f : X → Y) (xs : List X) (i : ℕ) (x : X) → i < length xs → x ≡ get_or xs i x → map f (take i xs) ++ f x ∷ [] ≡ map f (take (i + 1) xs)
made_more {X} {Y} f xs i x within is = sym (ap (map f) (take_next xs i x within is) ∙ map-append f (take i xs) (x ∷ []))

-- ---- links

abbrev ends : Link → ℕ × ℕ
ends l = (l.a, l.b)

-- one more link
more_up : (past : Chronicle) (links : List Link) (i : ℕ) → map ends (filter (λ (k : Link). is_up (link k.a k.b past)) (take i links)) ++ option_to_list (up_among past (slice_get links i))
    ≡ map ends (filter (λ (k : Link). is_up (link k.a k.b past)) (take (suc i) links))
more_up past [] zero = refl
more_up past [] (suc i) = refl
more_up past (l ∷ links) zero =
    elim (is_up (link l.a l.b past)) as (λ t. option_to_list (if t then Some (l.a, l.b) else None) ≡ map ends (if t then l ∷ [] else [])) [ true ↦ refl | false ↦ refl ]
more_up past (l ∷ links) (suc i) =
    let rest = more_up past links i in
    elim (is_up (link l.a l.b past)) as (λ t. map ends (if t then l ∷ filter (λ (k : Link). is_up (link k.a k.b past)) (take i links) else filter (λ (k : Link). is_up (link k.a k.b past)) (take i links))
    ++ option_to_list (up_among past (slice_get links i)) ≡ map ends (if t then l ∷ filter (λ (k : Link). is_up (link k.a k.b past)) (take (suc i) links) else filter (λ (k : Link). is_up (link k.a k.b past)) (take (suc i) links))) [
      | true ↦ ap (λ r. (l.a, l.b) ∷ r) rest
      | false ↦ rest
    ]

-- so it is after one that is up, and after one that is not
pub up_more : (past : Chronicle) (links : List Link) (i : ℕ) (before after : List (ℕ × ℕ)) (o : Option (ℕ × ℕ)) → before ≡ map ends (filter (λ (k : Link). is_up (link k.a k.b past)) (take i links))
    → o ≡ up_among past (slice_get links i) → after ≡ before ++ option_to_list o → after ≡ map ends (filter (λ (k : Link). is_up (link k.a k.b past)) (take (i + 1) links))
up_more past links i before after o was is now =
    let one : suc i ≡ i + 1 = omega arith in
    now ∙ (ap (λ b. b ++ option_to_list o) was ∙ (ap (λ q. map ends (filter (λ (k : Link). is_up (link k.a k.b past)) (take i links)) ++ option_to_list q) is
    ∙ (more_up past links i ∙ ap (λ n. map ends (filter (λ (k : Link). is_up (link k.a k.b past)) (take n links))) one)))

-- what is not something is nothing
pub is_none : (o : Option (ℕ × ℕ)) → ((x : ℕ × ℕ) → o ≡ Some x → ⊥) → o ≡ None
is_none None other = refl
is_none (Some x) other = absurd (other x refl)

-- a link that stands somewhere joins its ends
pub linked_at : (links : List Link) (i : ℕ) (l : Link) → slice_get links i ≡ Some l → list_any (joins l.a l.b) links ≡ true
linked_at [] i l is = cc
linked_at (k ∷ links) zero l is =
    let same : k ≡ l = same_Some k l is in
    or_first (joins l.a l.b k) (list_any (joins l.a l.b) links)
    (subst (λ (m : Link). joins l.a l.b m ≡ true) (sym same) (or_first (l.a == l.a && l.b == l.b) (l.a == l.b && l.b == l.a) (and_both (l.a == l.a) (l.b == l.b) (same_refl l.a) (same_refl l.b))))
linked_at (k ∷ links) (suc i) l is = or_second (joins l.a l.b k) (list_any (joins l.a l.b) links) (linked_at links i l is)

-- as it is told
abbrev told : Link → ℕ × ℕ × Relation
told l = (l.a, l.b, l.relation)

-- the state of the link that is told, as the links have it
pub told_up : (past : Chronicle) (links : List Link) (place : ℕ) (t : ℕ × ℕ × Relation) (b : Bool) → Some t ≡ option_map told (slice_get links place)
    → (list_any (joins t.0 t.1) links ≡ true → b ≡ is_up (link t.0 t.1 past)) → (if b then Some (t.0, t.1) else None) ≡ up_among past (slice_get links place)
told_up past links place t b is state = by_link (slice_get links place) refl is
  where
    by_link : (o : Option Link) → slice_get links place ≡ o → Some t ≡ option_map told o → (if b then Some (t.0, t.1) else None) ≡ up_among past o
    by_link None at got = cc
    by_link (Some l) at got =
        let same : t ≡ told l = same_Some t (told l) got in
        let near : list_any (joins t.0 t.1) links ≡ true = subst (λ (r : ℕ × ℕ × Relation). list_any (joins r.0 r.1) links ≡ true) (sym same) (linked_at links place l at) in
        ap (λ c. if c then Some (t.0, t.1) else None) (state near) ∙ ap (λ (r : ℕ × ℕ × Relation). if is_up (link r.0 r.1 past) then Some (r.0, r.1) else None) same
