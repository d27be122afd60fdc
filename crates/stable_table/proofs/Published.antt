-- The readings of what was published commute with a function that keeps the epochs.
use Rattle.std.proofs.Common.{ℕ, Bool, true, false, cond, ◌==◌, nat_lt, Option, Some, None, List, [], ◌∷◌, length, ◌≡◌, refl, ◌∙◌, ap, map, option_map}
use Rattle.std.specs.Prelude.{if◌then◌else◌}
use Rattle.std.proofs.lemmas.List.{length-map}
use Rattle.stable_table.specs.Published.{newer, newest, of_epoch, above, is_kept, kept, is_above, Descends}

cond_map : {A B : Type 0} (f : A → B) (b : Bool) (t : A) (xs : List A) (ys : List B) → ys ≡ map f xs → cond b (f t ∷ ys) ys ≡ map f (cond b (t ∷ xs) xs)
cond_map f true t xs ys e = ap (λ l. f t ∷ l) e
cond_map f false t xs ys e = e

cond_some : {A B : Type 0} (f : A → B) (b : Bool) (t : A) (x : Option A) (y : Option B) → y ≡ option_map f x → cond b (Some (f t)) y ≡ option_map f (cond b (Some t) x)
cond_some f true t x y e = refl
cond_some f false t x y e = e

module _ {A B : Type 0} (f : A → B) (g : B → ℕ) (h : A → ℕ) (same : (t : A) → g (f t) ≡ h t) where
  newer_map : (t : A) (o : Option A) → newer g (f t) (option_map f o) ≡ f (newer h t o)
  newer_map t None = refl
  newer_map t (Some other) = rw (same t, same other) (choice (nat_lt (h t) (h other)))
    where
      choice : (b : Bool) → (if b then f other else f t) ≡ f (if b then other else t)
      choice true = refl
      choice false = refl

  pub newest_map : (ts : List A) → newest g (map f ts) ≡ option_map f (newest h ts)
  newest_map [] = refl
  newest_map (t ∷ ts) = ap (λ o. Some (newer g (f t) o)) (newest_map ts) ∙ ap (λ x. Some x) (newer_map t (newest h ts))

  pub of_epoch_map : (e : ℕ) (ts : List A) → of_epoch g e (map f ts) ≡ option_map f (of_epoch h e ts)
  of_epoch_map e [] = refl
  of_epoch_map e (t ∷ ts) = rw (same t) (cond_some f (h t == e) t (of_epoch h e ts) (of_epoch g e (map f ts)) (of_epoch_map e ts))

  pub above_map : (e : ℕ) (ts : List A) → above g e (map f ts) ≡ map f (above h e ts)
  above_map e [] = refl
  above_map e (t ∷ ts) = rw (same t) (cond_map f (nat_lt e (h t)) t (above h e ts) (above g e (map f ts)) (above_map e ts))

  pub is_kept_map : (e : ℕ) (ts : List A) → is_kept g e (map f ts) ≡ is_kept h e ts
  is_kept_map e ts = ap (λ n. nat_lt n 2) (ap length (above_map e ts) ∙ length-map (above h e ts) f)

  pub kept_map : (e : ℕ) (ts : List A) → kept g e (map f ts) ≡ option_map f (kept h e ts)
  kept_map e ts = rw (is_kept_map e ts) (where_kept (is_kept h e ts))
    where
      where_kept : (b : Bool) → (if b then of_epoch g e (map f ts) else None) ≡ option_map f (if b then of_epoch h e ts else None)
      where_kept true = of_epoch_map e ts
      where_kept false = refl

  pub is_above_map : (e : ℕ) (o : Option A) → is_above g e (option_map f o) ≡ is_above h e o
  is_above_map e None = refl
  is_above_map e (Some t) = ap (λ n. nat_lt n e) (same t)

  pub descends_map : (ts : List A) → Descends h ts → Descends g (map f ts)
  descends_map [] d = tt
  descends_map (t ∷ ts) d =
      (rw (same t, newest_map ts) (is_above_map (h t) (newest h ts) ∙ d.0), descends_map ts d.1)
