-- The rest of an ascending list of triggers, and how the code sees that a list ascends.
use Rattle.std.proofs.lemmas.List.{drop_more, length-drop}
use Rattle.std.proofs.Common.{ℕ, zero, suc, ◌+◌, ◌<◌, ◌≤◌, length, drop, get_or, true, false, List, [], ◌∷◌, ◌≡◌, sym, ◌∙◌, ap, subst, arith}
use Rattle.topology.specs.declared.names.Trigger.{Trigger}
use Rattle.topology.specs.Triggers.{earlier, Ascend}
use Rattle.topology.proofs.Unions.{AllAfter, after_all}

pub ascend_drop : (ts : List Trigger) (i : ℕ) → Ascend ts → Ascend (drop i ts)
ascend_drop ts zero a = a
ascend_drop [] (suc i) a = tt
ascend_drop (t ∷ ts) (suc i) a = ascend_drop ts i a.1

-- the rest begins with the trigger at its place
pub first_left : (ts : List Trigger) (i : ℕ) (t : Trigger) → i < length ts → t ≡ get_or ts i t → drop i ts ≡ t ∷ drop (i + 1) ts
first_left ts i t inside is = drop_more ts i t inside ∙ ap (λ x. x ∷ drop (i + 1) ts) (sym is)

pub left_rises : (ts : List Trigger) (i : ℕ) (t : Trigger) → drop i ts ≡ t ∷ drop (i + 1) ts → Ascend ts → Ascend (t ∷ drop (i + 1) ts)
left_rises ts i t first rises = subst Ascend first (ascend_drop ts i rises)

short_rises : (ts : List Trigger) → length ts ≤ 1 → Ascend ts
short_rises [] short = tt
short_rises (t ∷ []) short = (tt, tt)
short_rises (t ∷ s ∷ ts) short = absurd (omega arith)

-- a rest of one trigger ascends
pub last_rises : (ts : List Trigger) (i : ℕ) → length ts ≤ i + 1 → Ascend (drop i ts)
last_rises ts i last = short_rises (drop i ts) (omega (arith, length-drop i ts))

-- two triggers that stand next to each other
pub record Beside (ts : List Trigger) (i : ℕ) (t s : Trigger) : Type 0 where
  pub here : i < length ts
  pub next : i + 1 < length ts
  pub first : t ≡ get_or ts i t
  pub second : s ≡ get_or ts (i + 1) s

-- the rest ascends with one more trigger in front, where that one is before the next
pub rises_on : (ts : List Trigger) (i : ℕ) (t s : Trigger) → Beside ts i t s → earlier t s ≡ true → Ascend (drop (i + 1) ts) → Ascend (drop i ts)
rises_on ts i t s b e rises =
    let first = first_left ts i t b.here b.first in
    let second = first_left ts (i + 1) s b.next b.second in
    let behind = subst Ascend second rises in
    subst Ascend (sym (first ∙ ap (λ l. t ∷ l) second)) ((e, after_all t s (drop (i + 1 + 1) ts) e behind.0), behind)

-- a list with a trigger that is not before the next does not ascend
pub falls : (ts : List Trigger) (i : ℕ) (t s : Trigger) → Beside ts i t s → earlier t s ≡ false → Ascend ts → ⊥
falls ts i t s b e rises =
    let first = first_left ts i t b.here b.first in
    let second = first_left ts (i + 1) s b.next b.second in
    let after = subst (AllAfter t) second (left_rises ts i t first rises).0 in
    cc (sym after.0 ∙ e)
