-- Triggers that are read in order ascend.
use Rattle.std.proofs.Common.{◌≡◌, ℕ, zero, suc, true, List, [], ◌∷◌, Ok, sym, ap, subst, ◌∙◌}
use Rattle.topology.specs.Triggers.{earlier, Ascend}
use Rattle.topology.specs.declared.names.Trigger.{Trigger}
use Rattle.topology.specs.declared.frame_faults.FrameKind.TheVariants as fault
use Rattle.topology.proofs.Unions.{AllAfter, after_all}
use Rattle.wire_frames.specs.Formats.{Format, ◌>>=◌, held, many_at, listed}
use Rattle.wire_frames.specs.Fields.{trigger, rising_triggers, no_trigger}
use Rattle.wire_frames.proofs.Formats.{bind_ok, held_ok, ok_is}

-- they ascend, and each is above the last one before them
pub rises : (last : Trigger) (n : ℕ) (bytes : List ℕ) (x : List Trigger × List ℕ) → many_at rising_triggers last n bytes ≡ Ok x → AllAfter last x.0 × Ascend x.0
rises last zero bytes x e =
    let made : List Trigger × List ℕ = ([], bytes) in
    subst (λ (y : List Trigger × List ℕ). AllAfter last y.0 × Ascend y.0) (ok_is made x e) (tt, tt)
rises last (suc n) bytes x e =
    let a = bind_ok ((rising_triggers.at last).reads bytes) (λ (first : Trigger × List ℕ). many_at rising_triggers first.0 n first.1 >>= λ (xs : List Trigger × List ℕ). Ok (first.0 ∷ xs.0, xs.1)) x e in
    let b = bind_ok (many_at rising_triggers a.0.0 n a.0.1) (λ (xs : List Trigger × List ℕ). Ok (a.0.0 ∷ xs.0, xs.1)) x a.2 in
    let read = bind_ok (trigger.reads bytes) (λ (y : Trigger × List ℕ). held (earlier last y.0) fault.Order y) a.0 a.1 in
    let met = held_ok (earlier last read.0.0) fault.Order read.0 a.0 read.2 in
    let behind : earlier last a.0.0 ≡ true = sym (ap (λ (y : Trigger × List ℕ). earlier last y.0) met.1) ∙ met.0 in
    let later = rises a.0.0 n a.0.1 b.0 b.1 in
    let made : List Trigger × List ℕ = (a.0.0 ∷ b.0.0, b.0.1) in
    subst (λ (y : List Trigger × List ℕ). AllAfter last y.0 × Ascend y.0) (ok_is made x b.2)
    ((behind, after_all last a.0.0 b.0.0 behind later.0), (later.0, later.1))

pub list_rises : (count : Format ℕ) (bytes rest : List ℕ) (xs : List Trigger) → (listed count rising_triggers no_trigger).reads bytes ≡ Ok (xs, rest) → Ascend xs
list_rises count bytes rest xs e =
    let a = bind_ok (count.reads bytes) (λ (n : ℕ × List ℕ). many_at rising_triggers no_trigger n.0 n.1) (xs, rest) e in
    (rises no_trigger a.0.0 a.0.1 (xs, rest) a.2).1
