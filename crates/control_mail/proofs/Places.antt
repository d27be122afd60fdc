-- Places in lists: one more element at the end, and a replaced element.
use Rattle.std.proofs.Common.{ℕ, zero, suc, ◌<◌, Bool, true, false, ◌==◌, Some, List, [], ◌∷◌, ◌++◌, map, ◌≡◌, ◌≢◌, ◌⊎◌, inl, inr, ⊎_elim, refl, sym, ap, arith, true≢false, length, set, slice_get, if◌then◌else◌}
use Rattle.std.specs.List.{list_any}
use Rattle.std.proofs.lemmas.Bool.Decides.{nat_tests}

pub same_some : {A : Type 0} (x y : A) → Some x ≡ Some y → x ≡ y
same_some x y e = cc

pub get_set_same : {A : Type 0} (xs : List A) (i : ℕ) (x : A) → i < length xs → slice_get (set xs i x) i ≡ Some x
get_set_same [] i x l = absurd (omega arith)
get_set_same (y ∷ ys) zero x l = refl
get_set_same (y ∷ ys) (suc i) x l = get_set_same ys i x (omega arith)

pub get_set_other : {A : Type 0} (xs : List A) (i j : ℕ) (x : A) → i ≢ j → slice_get (set xs i x) j ≡ slice_get xs j
get_set_other [] i j x ne = refl
get_set_other (y ∷ ys) zero zero x ne = absurd (ne refl)
get_set_other (y ∷ ys) zero (suc j) x ne = refl
get_set_other (y ∷ ys) (suc i) zero x ne = refl
get_set_other (y ∷ ys) (suc i) (suc j) x ne = get_set_other ys i j x (λ e. ne (ap suc e))

-- a place of a list with one more element is a place of the list, or the end
pub pushed_at : {A : Type 0} (xs : List A) (y : A) (i : ℕ) (x : A) → slice_get (xs ++ y ∷ []) i ≡ Some x → (slice_get xs i ≡ Some x) ⊎ ((i ≡ length xs) × (x ≡ y))
pushed_at [] y zero x e = inr (refl, same_some x y (sym e))
pushed_at [] y (suc i) x e = absurd (cc e)
pushed_at (z ∷ zs) y zero x e = inl e
pushed_at (z ∷ zs) y (suc i) x e = ⊎_elim (λ here. inl here) (λ (last : (i ≡ length zs) × (x ≡ y)). inr (ap suc last.0, last.1)) (pushed_at zs y i x e)

-- the earlier elements stay
pub still_at : {A : Type 0} (xs : List A) (y : A) (i : ℕ) (x : A) → slice_get xs i ≡ Some x → slice_get (xs ++ y ∷ []) i ≡ Some x
still_at [] y i x e = absurd (cc e)
still_at (z ∷ zs) y zero x e = e
still_at (z ∷ zs) y (suc i) x e = still_at zs y i x e

-- the new element stands at the end
pub end_at : {A : Type 0} (xs : List A) (y : A) → slice_get (xs ++ y ∷ []) (length xs) ≡ Some y
end_at [] y = refl
end_at (z ∷ zs) y = end_at zs y

zero_suc : (j : ℕ) → (0 == suc j) ≡ false
zero_suc j = grind (arith, nat_tests)

suc_zero : (i : ℕ) → (suc i == 0) ≡ false
suc_zero i = grind (arith, nat_tests)

suc_suc : (i j : ℕ) → (suc i == suc j) ≡ (i == j)
suc_suc i j = grind (arith, nat_tests)

-- both, as one equation
pub pushed_get : {A : Type 0} (xs : List A) (y : A) (j : ℕ) → slice_get (xs ++ y ∷ []) j ≡ (if length xs == j then Some y else slice_get xs j)
pushed_get [] y zero = refl
pushed_get [] y (suc j) = rw (zero_suc j) refl
pushed_get (z ∷ zs) y zero = rw (suc_zero (length zs)) refl
pushed_get (z ∷ zs) y (suc j) = rw (suc_suc (length zs) j) (pushed_get zs y j)

-- a replacement that looks the same
pub map_set : {A B : Type 0} (f : A → B) (xs : List A) (i : ℕ) (x y : A) → slice_get xs i ≡ Some x → f y ≡ f x → map f (set xs i y) ≡ map f xs
map_set f [] i x y e same = refl
map_set f (z ∷ zs) zero x y e same = ap (λ a. a ∷ map f zs) (cc (same, same_some z x e))
map_set f (z ∷ zs) (suc i) x y e same = ap (λ l. f z ∷ l) (map_set f zs i x y e same)

-- a test that finds something
pub record Finds {A : Type 0} (p : A → Bool) (xs : List A) : Type 0 where
  pub place : ℕ
  pub item : A
  pub here : slice_get xs place ≡ Some item
  pub holds : p item ≡ true

pub any_at : {A : Type 0} (p : A → Bool) (xs : List A) → list_any p xs ≡ true → Finds p xs
any_at p [] e = absurd (true≢false (sym e))
any_at p (x ∷ xs) e =
    (elim (p x) as (λ t. p x ≡ t → Finds p (x ∷ xs)) [
      | true ↦ λ h. record { place = 0; item = x; here = refl; holds = h }
      | false ↦ λ h.
          let later = any_at p xs (rw h at e) in
          record { place = suc later.place; item = later.item; here = later.here; holds = later.holds }
    ]) refl

pub any_from : {A : Type 0} (p : A → Bool) (xs : List A) (i : ℕ) (x : A) → slice_get xs i ≡ Some x → p x ≡ true → list_any p xs ≡ true
any_from p [] i x e h = absurd (cc e)
any_from p (y ∷ ys) zero x e h = rw (same_some y x e, h) refl
any_from p (y ∷ ys) (suc i) x e h =
    (elim (p y) as (λ t. p y ≡ t → list_any p (y ∷ ys) ≡ true) [
      | true ↦ λ g. rw g refl
      | false ↦ λ g. rw g (any_from p ys i x e h)
    ]) refl
