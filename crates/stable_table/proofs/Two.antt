-- The two tables of the highest epochs, where epochs descend from newest to oldest.
use Rattle.std.proofs.Common.{ℕ, ◌≤◌, Bool, true, false, cond, ◌==◌, nat_lt, Option, Some, None, List, [], ◌∷◌, drop, length, ◌≡◌, refl, sym, ◌∙◌, ap, ap₂, subst, arith}
use Rattle.std.specs.Prelude.{if◌then◌else◌, option_to_list, slice_get}
use Rattle.std.proofs.lemmas.Bool.Decides.{nat_tests}
use Rattle.stable_table.specs.Published.{newer, newest, of_epoch, above, is_kept, kept, is_above, Descends}
use Rattle.stable_table.specs.Tables.{View}
use Rattle.stable_table.specs.TwoTables.{TwoViews, StandsFor, epoch_of, second}

module _ {A : Type 0} (f : A → ℕ) where
  -- the one of epoch e, of two
  abbrev of_two : ℕ → Option A → Option A → Option A
  of_two e None older = of_epoch f e (option_to_list older)
  of_two e (Some t) older = if f t == e then Some t else of_epoch f e (option_to_list older)

  newer_first : (t : A) (o : Option A) → is_above f (f t) o ≡ true → newer f t o ≡ t
  newer_first t None up = refl
  newer_first t (Some s) up = let not_under : nat_lt (f t) (f s) ≡ false = grind (arith, nat_tests, up) in rw not_under refl

  pub newest_first : (t : A) (ts : List A) → Descends f (t ∷ ts) → newest f (t ∷ ts) ≡ Some t
  newest_first t ts d = ap (λ x. Some x) (newer_first t (newest f ts) d.0)

  -- if an epoch is above that of the publication, so is a higher epoch
  above_more : (e n : ℕ) (o : Option A) → e ≤ n → is_above f e o ≡ true → is_above f n o ≡ true
  above_more e n None le up = refl
  above_more e n (Some s) le up = grind (arith, nat_tests, up)

  none_above : (e : ℕ) (ts : List A) → Descends f ts → is_above f e (newest f ts) ≡ true → above f e ts ≡ []
  none_above e [] d up = refl
  none_above e (t ∷ ts) d up =
      let under : nat_lt (f t) e ≡ true = subst (λ o. is_above f e o ≡ true) (newest_first t ts d) up in
      let here : nat_lt e (f t) ≡ false = grind (arith, nat_tests, under) in
      rw here (none_above e ts d.1 (above_more (f t) e (newest f ts) (grind (arith, nat_tests, under)) d.0))

  none_of : (e : ℕ) (ts : List A) → Descends f ts → is_above f e (newest f ts) ≡ true → of_epoch f e ts ≡ None
  none_of e [] d up = refl
  none_of e (t ∷ ts) d up =
      let under : nat_lt (f t) e ≡ true = subst (λ o. is_above f e o ≡ true) (newest_first t ts d) up in
      let here : (f t == e) ≡ false = grind (arith, nat_tests, under) in
      rw here (none_of e ts d.1 (above_more (f t) e (newest f ts) (grind (arith, nat_tests, under)) d.0))

  kept_one : (e : ℕ) (t : A) → kept f e (t ∷ []) ≡ of_two e (Some t) None
  kept_one e t = at (nat_lt e (f t))
    where
      at : (b : Bool) → (if nat_lt (length (cond b (t ∷ []) [])) 2 then of_epoch f e (t ∷ []) else None) ≡ of_two e (Some t) None
      at true = refl
      at false = refl

  -- two of higher epochs are too many for a third to be kept
  too_many : (t s : A) (ts : List A) → nat_lt (length (t ∷ s ∷ ts)) 2 ≡ false
  too_many t s ts = grind (arith, nat_tests)

  either : (b : Bool) (o : Option A) → (if b then o else o) ≡ o
  either true o = refl
  either false o = refl

  module _ (e : ℕ) (t s : A) (ts : List A) (d : Descends f (t ∷ s ∷ ts)) where
    down : nat_lt (f s) (f t) ≡ true
    down = subst (λ o. is_above f (f t) o ≡ true) (newest_first s ts d.1) d.0

    is_first : (f t == e) ≡ true → kept f e (t ∷ s ∷ ts) ≡ Some t
    is_first is =
        let lower = down in
        let below_t : nat_lt e (f t) ≡ false = grind (arith, nat_tests, is) in
        let below_s : nat_lt e (f s) ≡ false = grind (arith, nat_tests, is, lower) in
        let none = none_above e ts d.1.1 (above_more (f s) e (newest f ts) (grind (arith, nat_tests, is, lower)) d.1.0) in
        rw (below_t, below_s, none, is) refl

    is_second : (f t == e) ≡ false → (f s == e) ≡ true → kept f e (t ∷ s ∷ ts) ≡ Some s
    is_second not_t is =
        let lower = down in
        let below_t : nat_lt e (f t) ≡ true = grind (arith, nat_tests, is, lower) in
        let below_s : nat_lt e (f s) ≡ false = grind (arith, nat_tests, is) in
        let none = none_above e ts d.1.1 (above_more (f s) e (newest f ts) (grind (arith, nat_tests, is)) d.1.0) in
        rw (below_t, below_s, none, not_t, is) refl

    is_neither : (f t == e) ≡ false → (f s == e) ≡ false → (b : Bool) → nat_lt (f s) e ≡ b → kept f e (t ∷ s ∷ ts) ≡ None
    is_neither not_t not_s true under =
        let none = none_of e ts d.1.1 (above_more (f s) e (newest f ts) (grind (arith, nat_tests, under)) d.1.0) in
        rw (not_t, not_s, none) (either (is_kept f e (t ∷ s ∷ ts)) None)
    is_neither not_t not_s false over =
        let lower = down in
        let above_s : nat_lt e (f s) ≡ true = grind (arith, nat_tests, over, not_s) in
        let above_t : nat_lt e (f t) ≡ true = grind (arith, nat_tests, above_s, lower) in
        let many = too_many t s (above f e ts) in
        rw (above_t, above_s) (rw many refl)

    two : (b c : Bool) → (f t == e) ≡ b → (f s == e) ≡ c → kept f e (t ∷ s ∷ ts) ≡ (if b then Some t else (if c then Some s else None))
    two true c is_t is_s = is_first is_t
    two false true not_t is_s = is_second not_t is_s
    two false false not_t not_s = is_neither not_t not_s (nat_lt (f s) e) refl

  -- where epochs descend, a kept table is one of the first two
  pub kept_is : (e : ℕ) (ts : List A) → Descends f ts → kept f e ts ≡ of_two e (newest f ts) (newest f (drop 1 ts))
  kept_is e [] d = refl
  kept_is e (t ∷ []) d = kept_one e t
  kept_is e (t ∷ s ∷ ts) d =
      two e t s ts d (f t == e) (f s == e) refl refl
      ∙ ap₂ (λ a b. of_two e a b) (sym (newest_first t (s ∷ ts) d)) (sym (newest_first s ts d.1))

module _ (e : ℕ) (tables : TwoViews) (published : List View) (stands : StandsFor tables published) where
  kept_here : kept epoch_of e published ≡ of_two epoch_of e tables.newest tables.older
  kept_here =
      kept_is epoch_of e published stands.descends ∙ ap₂ (λ a b. of_two epoch_of e a b) (sym stands.newest_is) (sym stands.older_is)

  of_newest : (t : View) (a b : Option View) → of_epoch epoch_of e (option_to_list a) ≡ Some t → of_two epoch_of e a b ≡ Some t
  of_newest t None b is = absurd (cc is)
  of_newest t (Some s) b is = (elim (s.epoch == e) as (λ c. cond c (Some s) None ≡ Some t → cond c (Some s) (of_epoch epoch_of e (option_to_list b)) ≡ Some t) [
    | true ↦ λ same. same
    | false ↦ λ none. absurd (cc none)
  ]) is

  of_older : (a b : Option View) → of_epoch epoch_of e (option_to_list a) ≡ None → of_two epoch_of e a b ≡ of_epoch epoch_of e (option_to_list b)
  of_older None b none = refl
  of_older (Some s) b none = (elim (s.epoch == e) as (λ c. cond c (Some s) None ≡ None → cond c (Some s) (of_epoch epoch_of e (option_to_list b)) ≡ of_epoch epoch_of e (option_to_list b)) [
    | true ↦ λ is. absurd (cc is)
    | false ↦ λ is. refl
  ]) none

  -- the kept table is the newest one, if that is of the epoch
  pub kept_newest : (t : View) → of_epoch epoch_of e (option_to_list tables.newest) ≡ Some t → kept epoch_of e published ≡ Some t
  kept_newest t is = kept_here ∙ of_newest t tables.newest tables.older is

  -- otherwise it is the older one, if that is of the epoch
  pub kept_older : of_epoch epoch_of e (option_to_list tables.newest) ≡ None → kept epoch_of e published ≡ of_epoch epoch_of e (option_to_list tables.older)
  kept_older none = kept_here ∙ of_older tables.newest tables.older none

-- the second node is at place 1
pub second_is : (path : List ℕ) → slice_get path 1 ≡ second path
second_is [] = refl
second_is (u ∷ []) = refl
second_is (u ∷ v ∷ rest) = refl
