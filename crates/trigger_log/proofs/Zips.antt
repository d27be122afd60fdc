-- Properties of two lists, place by place.
use Rattle.std.proofs.Common.{ℕ, zero, suc, true, false, not, ◌==◌, Some, List, [], ◌∷◌, ◌++◌, ◌≡◌, ◌≢◌, refl, sym, ◌∙◌, ap, subst, arith, fold, length, set, slice_get}
use Rattle.std.specs.List.{AllZip, AllByRecursion}
use Rattle.std.proofs.lemmas.Option.{same_Some}
use Rattle.std.proofs.lemmas.Bool.Decides.{nat_tests}
use Rattle.topology.specs.Lists.{has}
use Rattle.topology.specs.Paths.{differ}
use Rattle.topology.proofs.Tests.{and_left, and_right, or_left, or_right, not_true}
use Rattle.topology.proofs.Ascending.{absent}
use Rattle.topology.proofs.Places.{has_placed}

pub zip_push : {A B : Type 0} (R : A → B → Type 0) (xs : List A) (ys : List B) (x : A) (y : B) → AllZip R xs ys → R x y → AllZip R (xs ++ x ∷ []) (ys ++ y ∷ [])
zip_push R [] [] x y all here = (here, tt)
zip_push R [] (b ∷ ys) x y all here = absurd all
zip_push R (a ∷ xs) [] x y all here = absurd all
zip_push R (a ∷ xs) (b ∷ ys) x y all here = (all.0, zip_push R xs ys x y all.1 here)

pub zip_end : {A B : Type 0} (R : A → B → Type 0) (xs : List A) (ys : List B) (x : A) (y : B) → AllZip R (xs ++ x ∷ []) (ys ++ y ∷ []) → AllZip R xs ys × R x y
zip_end R [] [] x y all = (tt, all.0)
zip_end R [] (b ∷ []) x y all = absurd all.1
zip_end R [] (b ∷ c ∷ ys) x y all = absurd all.1
zip_end R (a ∷ []) [] x y all = absurd all.1
zip_end R (a ∷ b ∷ xs) [] x y all = absurd all.1
zip_end R (a ∷ xs) (b ∷ ys) x y all = let more = zip_end R xs ys x y all.1 in ((all.0, more.0), more.1)

-- the two parts of a list, place by place
pub zip_split : {A B : Type 0} (R : A → B → Type 0) (xs ys : List A) (zs : List B) → AllZip R (xs ++ ys) zs → (ls : List B) × (rs : List B) × (ls ++ rs ≡ zs) × AllZip R xs ls × AllZip R ys rs
zip_split R [] ys zs z = ([], zs, refl, tt, z)
zip_split R (x ∷ xs) ys [] z = absurd z
zip_split R (x ∷ xs) ys (c ∷ zs) z = let more = zip_split R xs ys zs z.1 in (c ∷ more.0, more.1, ap (λ l. c ∷ l) more.2, (z.0, more.3), more.4)

-- two pairs of lists, one after the other
pub fold_append : {A B : Type 0} (f : B → A → B) (b : B) (xs ys : List A) → fold f b (xs ++ ys) ≡ fold f (fold f b xs) ys
fold_append f b [] ys = refl
fold_append f b (x ∷ xs) ys = fold_append f (f b x) xs ys

pub zip_each : {A B : Type 0} (P : A → Type 0) (R S : A → B → Type 0) → ((x : A) (y : B) → P x → R x y → S x y) → (xs : List A) (ys : List B) → AllByRecursion P xs → AllZip R xs ys → AllZip S xs ys
zip_each P R S step [] [] ps all = tt
zip_each P R S step [] (y ∷ ys) ps all = absurd all
zip_each P R S step (x ∷ xs) [] ps all = absurd all
zip_each P R S step (x ∷ xs) (y ∷ ys) ps all = (step x y ps.0 all.0, zip_each P R S step xs ys ps.1 all.1)

pub zip_map : {A B : Type 0} (R S : A → B → Type 0) → ((x : A) (y : B) → R x y → S x y) → (xs : List A) (ys : List B) → AllZip R xs ys → AllZip S xs ys
zip_map R S step [] [] all = tt
zip_map R S step [] (y ∷ ys) all = absurd all
zip_map R S step (x ∷ xs) [] all = absurd all
zip_map R S step (x ∷ xs) (y ∷ ys) all = (step x y all.0, zip_map R S step xs ys all.1)

-- the elements at the same place of both
pub zip_at : {A B : Type 0} (R : A → B → Type 0) (xs : List A) (ys : List B) (i : ℕ) (x : A) → AllZip R xs ys → slice_get xs i ≡ Some x → (y : B) × (slice_get ys i ≡ Some y) × R x y
zip_at R [] ys i x all at = absurd (cc at)
zip_at R (a ∷ xs) [] i x all at = absurd all
zip_at R (a ∷ xs) (b ∷ ys) zero x all at = (b, refl, subst (λ a. R a b) (same_Some a x at) all.0)
zip_at R (a ∷ xs) (b ∷ ys) (suc i) x all at = zip_at R xs ys i x all.1 at

pub zip_both : {A B : Type 0} (R : A → B → Type 0) (xs : List A) (ys : List B) (i : ℕ) (x : A) (y : B) → AllZip R xs ys → slice_get xs i ≡ Some x → slice_get ys i ≡ Some y → R x y
zip_both R xs ys i x y all at here =
    let found = zip_at R xs ys i x all at in subst (R x) (same_Some found.0 y (sym found.1 ∙ here)) found.2

-- two lists of one length, by their places
pub zip_from : {A B : Type 0} (R : A → B → Type 0) (xs : List A) (ys : List B) → length ys ≡ length xs → ((i : ℕ) (x : A) (y : B) → slice_get xs i ≡ Some x → slice_get ys i ≡ Some y → R x y) → AllZip R xs ys
zip_from R [] [] long each = tt
zip_from R [] (y ∷ ys) long each = absurd (omega arith)
zip_from R (x ∷ xs) [] long each = absurd (omega arith)
zip_from R (x ∷ xs) (y ∷ ys) long each = (each 0 x y refl refl, zip_from R xs ys (omega arith) (λ i a b at here. each (suc i) a b at here))

pub apart : (x y : ℕ) → x ≢ y → (x == y) ≡ false
apart x y ne = grind (arith, nat_tests)

module _ {B : Type 0} (R S : ℕ → B → Type 0) (v : ℕ) (others : (w : ℕ) (y : B) → (w == v) ≡ false → R w y → S w y) where
  zip_apart : (ns : List ℕ) (ys : List B) → has ns v ≡ false → AllZip R ns ys → AllZip S ns ys
  zip_apart [] [] lacks all = tt
  zip_apart [] (y ∷ ys) lacks all = absurd all
  zip_apart (n ∷ ns) [] lacks all = absurd all
  zip_apart (n ∷ ns) (y ∷ ys) lacks all = (others n y (or_left (n == v) (has ns v) lacks) all.0, zip_apart ns ys (or_right (n == v) (has ns v) lacks) all.1)

  -- another value at the place of one number
  pub zip_set : (ns : List ℕ) (ys : List B) (i : ℕ) (b : B) → differ ns ≡ true → slice_get ns i ≡ Some v → S v b → AllZip R ns ys → AllZip S ns (set ys i b)
  zip_set [] ys i b d at here all = absurd (cc at)
  zip_set (n ∷ ns) [] i b d at here all = absurd all
  zip_set (n ∷ ns) (y ∷ ys) zero b d at here all =
      let is : n ≡ v = same_Some n v at in
      let alone : has ns v ≡ false = subst (λ m. has ns m ≡ false) is (not_true (has ns n) (and_left (not (has ns n)) (differ ns) d)) in
      (subst (λ m. S m b) (sym is) here, zip_apart ns ys alone all.1)
  zip_set (n ∷ ns) (y ∷ ys) (suc i) b d at here all =
      let alone : has ns n ≡ false = not_true (has ns n) (and_left (not (has ns n)) (differ ns) d) in
      (others n y (absent n v ns alone (has_placed ns i v at)) all.0, zip_set ns ys i b (and_right (not (has ns n)) (differ ns) d) at here all.1)
