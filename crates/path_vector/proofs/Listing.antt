-- How an entry changes what is stored of all neighbours.
use Rattle.std.proofs.Common.{◌≡◌, ℕ, suc, zero, ◌<◌, true, false, ◌||◌, ◌==◌, List, [], ◌∷◌, length, set, get_or, slice_get, refl, sym, ap, ◌∙◌, subst, arith, Some, option_map}
use Rattle.std.specs.List.{AllByRecursion}
use Rattle.std.proofs.lemmas.Bool.Decides.{nat_tests}
use Rattle.std.proofs.lemmas.Option.{slice_get_read}
use Rattle.topology.specs.declared.names.Scope.{Scope}
use Rattle.topology.specs.Lists.{has}
use Rattle.topology.specs.Net.{Net}
use Rattle.path_vector.specs.declared.causes.Cause.{Cause}
use Rattle.path_vector.specs.declared.neighbours.Neighbour.{Neighbour}
use Rattle.path_vector.specs.History.{History, change}
use Rattle.path_vector.specs.Standing.{Remembers}
use Rattle.path_vector.specs.Kept.{Keeps, Rises, ids, names}
use Rattle.path_vector.proofs.Neighbourhood.{neighbours_rise, or_left, or_right, not_behind}
use Rattle.path_vector.proofs.Remembering.{unmoved}

pub at_place : {X : Type 0} (P : X → Type 0) (xs : List X) (i : ℕ) (x : X) → AllByRecursion P xs → slice_get xs i ≡ Some x → P x
at_place P [] i x h e = absurd (cc e)
at_place P (y ∷ ys) zero x h e = let same : y ≡ x = cc in subst P same h.0
at_place P (y ∷ ys) (suc i) x h e = at_place P ys i x h.1 e

is_among : (xs : List ℕ) (i x : ℕ) → slice_get xs i ≡ Some x → has xs x ≡ true
is_among [] i x e = absurd (cc e)
is_among (y ∷ ys) zero x e = let same : y ≡ x = cc in let here : (y == x) ≡ true = grind (arith, nat_tests) in rw here refl
is_among (y ∷ ys) (suc i) x e = let later = is_among ys i x e in elim (y == x) as (λ b. (b || has ys x) ≡ true) [ true ↦ refl | false ↦ later ]

pub ids_at : (ns : List Neighbour) (i : ℕ) → slice_get (ids ns) i ≡ option_map (λ (n : Neighbour). n.id) (slice_get ns i)
ids_at [] i = refl
ids_at (n ∷ ns) zero = refl
ids_at (n ∷ ns) (suc i) = ids_at ns i

-- the entry names none of these neighbours
none_moved : (net : Net) (u : ℕ) (past : History) (scope : Scope) (cause : Cause) (ns : List Neighbour) → ((v : ℕ) → names cause ≡ Some v → has (ids ns) v ≡ false)
    → AllByRecursion (Remembers net u past) ns → AllByRecursion (Remembers net u (change scope cause ∷ past)) ns
none_moved net u past scope cause [] off all = tt
none_moved net u past scope cause (n ∷ ns) off all =
    let self : (n.id == n.id) ≡ true = grind (arith, nat_tests) in (
      unmoved net u past n scope cause (λ e. let here : (n.id == n.id) ≡ false = or_left (n.id == n.id) (has (ids ns) n.id) (off n.id e) in absurd (cc (sym self ∙ here))) all.0,
      none_moved net u past scope cause ns (λ v e. or_right (n.id == v) (has (ids ns) v) (off v e)) all.1,
    )

-- the entry names the neighbour at this place
one_moved : (net : Net) (u : ℕ) (past : History) (scope : Scope) (cause : Cause) (ns : List Neighbour) (i : ℕ) (new : Neighbour) (v : ℕ)
    → Rises (ids ns) → names cause ≡ Some v → slice_get (ids ns) i ≡ Some v → Remembers net u (change scope cause ∷ past) new
    → AllByRecursion (Remembers net u past) ns → AllByRecursion (Remembers net u (change scope cause ∷ past)) (set ns i new)
one_moved net u past scope cause [] i new v r e is here all = tt
one_moved net u past scope cause (n ∷ ns) zero new v r e is here all =
    let own : n.id ≡ v = cc in (
      here,
      none_moved net u past scope cause ns (λ w f. let same : w ≡ n.id = cc in rw same (not_behind n.id (ids ns) r)) all.1,
    )
one_moved net u past scope cause (n ∷ ns) (suc i) new v r e is here all = (
  unmoved net u past n scope cause (λ f.
      let same : v ≡ n.id = cc in
      let there : has (ids ns) n.id ≡ true = is_among (ids ns) i n.id (is ∙ ap (λ x. Some x) same) in
      absurd (cc (sym there ∙ not_behind n.id (ids ns) r))) all.0,
  one_moved net u past scope cause ns i new v r.1 e is here all.1,
)

ids-set : (ns : List Neighbour) (i : ℕ) (new : Neighbour) → slice_get (ids ns) i ≡ Some new.id → ids (set ns i new) ≡ ids ns
ids-set [] i new e = refl
ids-set (n ∷ ns) zero new e = let same : n.id ≡ new.id = cc in ap (λ v. v ∷ ids ns) (sym same)
ids-set (n ∷ ns) (suc i) new e = ap (λ vs. n.id ∷ vs) (ids-set ns i new e)

pub keeps_rise : (net : Net) (u : ℕ) (h : History) (ns : List Neighbour) → Keeps net u h ns → Rises (ids ns)
keeps_rise net u h ns k = subst Rises (sym k.same) (neighbours_rise net u k.valid)

-- an entry that names none of the neighbours
pub about_none : (net : Net) (u : ℕ) (past : History) (scope : Scope) (cause : Cause) (ns : List Neighbour) → ((v : ℕ) → names cause ≡ Some v → has (ids ns) v ≡ false)
    → Keeps net u past ns → Keeps net u (change scope cause ∷ past) ns
about_none net u past scope cause ns off k = record { valid = k.valid; same = k.same; each = none_moved net u past scope cause ns off k.each }

-- an entry that names the one at this place
pub about_one : (net : Net) (u : ℕ) (past : History) (scope : Scope) (cause : Cause) (ns : List Neighbour) (i : ℕ) (new : Neighbour) (v : ℕ)
    → names cause ≡ Some v → slice_get (ids ns) i ≡ Some v → new.id ≡ v → Remembers net u (change scope cause ∷ past) new
    → Keeps net u past ns → Keeps net u (change scope cause ∷ past) (set ns i new)
about_one net u past scope cause ns i new v e is own here k = record {
  valid = k.valid;
  same = ids-set ns i new (is ∙ ap (λ x. Some x) (sym own)) ∙ k.same;
  each = one_moved net u past scope cause ns i new v (keeps_rise net u past ns k) e is here k.each;
}

pub ids_within : (ns : List Neighbour) (i v : ℕ) → slice_get (ids ns) i ≡ Some v → i < length ns
ids_within [] i v e = absurd (cc e)
ids_within (n ∷ ns) zero v e = omega arith
ids_within (n ∷ ns) (suc i) v e = let later = ids_within ns i v e in omega arith

-- the element at the place of v is that of v
pub old_at : (ns : List Neighbour) (i v : ℕ) (n : Neighbour) → slice_get (ids ns) i ≡ Some v → n ≡ get_or ns i n
    → (n.id ≡ v) × ((net : Net) (u : ℕ) (past : History) → AllByRecursion (Remembers net u past) ns → Remembers net u past n)
old_at ns i v n is read =
    let at : slice_get ns i ≡ Some n = slice_get_read ns (length ns) i n refl (ids_within ns i v is) read in
    let both : option_map (λ (n : Neighbour). n.id) (Some n) ≡ Some v = ap (option_map (λ (n : Neighbour). n.id)) (sym at) ∙ (sym (ids_at ns i) ∙ is) in
    (cc both, λ net u past all. at_place (Remembers net u past) ns i n all at)
