-- Writing the value that is already there changes nothing.
use Rattle.std.proofs.Common.{ℕ, Vec, ◌≡◌, List, Result, Ok, Err, sym, ◌∙◌, ap, subst, length, set, get_or}
use Rattle.std.proofs.Math.Nat.{ℕ_set}
use Rattle.std.proofs.lemmas.List.{set-get_or}
use Rattle.std.specs.Prelude.{OnErr}
use Rattle.std.specs.Vec.{with_item}

module _ {X Z : Type 0} (v : Vec X Z) where
  abbrev with_list : (items : List X) → v.len ≡ length items → Vec X Z
  with_list items o = record { ptr = v.ptr; len = v.len; cap = v.cap; alloc = v.alloc; items = items; ok = (o, v.ok.1); small = v.small }

  same_list : (items : List X) (o : v.len ≡ length items) → v.items ≡ items → with_list items o ≡ v
  same_list items o e =
      subst (λ (l : List X). (o : v.len ≡ length l) → with_list l o ≡ v) e (λ o. ap (λ p. with_list v.items p) (ℕ_set v.len (length v.items) o v.ok.0)) o

  pub with_again : (i : ℕ) (old new : X) → old ≡ get_or v.items i old → new ≡ old → with_item v i new ≡ v
  with_again i old new lies same = ap (λ x. with_item v i x) (same ∙ lies) ∙ same_list (set v.items i (get_or v.items i old)) _ (sym (set-get_or v.items i old))

pub on_err : {A E : Type 0} {P : Type 0} (r : Result A E) → P → OnErr r P
on_err (Ok x) p = tt
on_err (Err e) p = p
