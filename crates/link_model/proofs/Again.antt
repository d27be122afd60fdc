-- Writing the value that is already there changes nothing.
use Rattle.std.proofs.Common.{ℕ, ◌<◌, Vec, ◌≡◌, List, Some, refl, sym, ◌∙◌, ap, subst, length, set, get_or, slice_get}
use Rattle.std.proofs.Math.Nat.{ℕ_set}
use Rattle.std.specs.Vec.{with_item}
use Rattle.std.proofs.lemmas.Option.{slice_get_read}
use Rattle.link_model.specs.Ways.{OneWay}
use Rattle.link_model.proofs.Places.{set_again}

module _ {X Z : Type 0} (v : Vec X Z) where
  abbrev with_list : (items : List X) → v.len ≡ length items → Vec X Z
  with_list items o = record { ptr = v.ptr; len = v.len; cap = v.cap; alloc = v.alloc; items = items; ok = (o, v.ok.1); small = v.small }

  same_list : (items : List X) (o : v.len ≡ length items) → v.items ≡ items → with_list items o ≡ v
  same_list items o e =
      subst (λ (l : List X). (o : v.len ≡ length l) → with_list l o ≡ v) e (λ o. ap (λ p. with_list v.items p) (ℕ_set v.len (length v.items) o v.ok.0)) o

  pub with_again : (i : ℕ) (x : X) → slice_get v.items i ≡ Some x → with_item v i x ≡ v
  with_again i x e = same_list (set v.items i x) _ (sym (set_again v.items i x e))

-- the links with one channel unchanged
pub channels_again : {Z : Type 0} (channels : Vec OneWay Z) (way : ℕ) (kept left : OneWay) → way < length channels.items → kept ≡ get_or channels.items way kept → left ≡ kept
    → with_item channels way left ≡ channels
channels_again channels way kept left inside lies same =
    ap (λ k. with_item channels way k) same ∙ with_again channels way kept (slice_get_read channels.items (length channels.items) way kept refl inside lies)
