use Rattle.std.proofs.Common.{ℕ, ◌≡◌, ◌≢◌, ◌∙◌, Result, Ok, Err, Bool, true, false, ◌==◌, List, [], ◌∷◌, length, sym, ap, subst, true≢false, refl, arith}
use Rattle.std.proofs.lemmas.Bool.Decides.{nat_tests}
use Rattle.std.specs.Prelude.{OnOk}
use Rattle.topology.specs.declared.status.Status.TheVariants.{DiskFault}
use Rattle.route_io.specs.Acts.{ReadsMore}
use Rattle.route_io.specs.Causes.{RoseIf}
use Rattle.route_io.specs.Views.{LinkView}
use Rattle.route_io.specs.declared.received.Filled.{Filled}
use Rattle.route_io.specs.declared.received.NotFilled.{NotFilled}
use Rattle.route_io.specs.declared.received.NotFilled.TheVariants.{Fault}
use Rattle.route_node.specs.Running.{EndsServing, who_at}
use Rattle.route_node.proofs.Waiting.{goes_on, ends_at_end, ends_within, ends_without_memory, ends_by_fault}
use Rattle.route_node.proofs.serving.Process.wait.Goals as goal

-- no call failed
quiet_at : (r : Result Filled NotFilled) (f : Filled) (old new : ℕ) → r ≡ Ok f → RoseIf (r ≡ Err Fault) old new → new ≡ old
quiet_at r f old new is cause = cause.quiet (λ e. absurd (cc (is, e)))

-- a successful fill has read once
reads_as : (r : Result Filled NotFilled) (f : Filled) (old new : List ℕ) (was now : LinkView) → r ≡ Ok f → OnOk r (ReadsMore old new was now) → ReadsMore old new was now
reads_as r f old new was now is reads = subst (λ q. OnOk q (ReadsMore old new was now)) is reads

found_as : (r : Result Filled NotFilled) (f x : Filled) → r ≡ Ok f → f ≡ x → r ≡ Ok x
found_as r f x is same = is ∙ ap Ok same

no_length : (xs : List ℕ) → (length xs == 0) ≡ true → xs ≡ []
no_length [] e = refl
no_length (x ∷ xs) e = absurd (grind (arith, nat_tests, e))

empty_as : (b : Bool) (xs ys : List ℕ) → b ≡ (length xs == 0) → b ≡ true → xs ≡ ys → ys ≡ []
empty_as b xs ys is so same = sym same ∙ no_length xs (sym is ∙ so)

some_as : (b : Bool) (xs ys : List ℕ) → b ≡ (length xs == 0) → b ≡ false → xs ≡ ys → ys ≡ [] → ⊥
some_as b xs ys is off same empty = true≢false (sym (is ∙ ap (λ (l : List ℕ). length l == 0) (same ∙ empty)) ∙ off)

pub returns-in-Ok-More-clause-ok : goal.returns-in-Ok-More-clause-ok
returns-in-Ok-More-clause-ok g c = λ at frames runs within partial.
    let is = found_as _ _ _ c.in-Ok-More.is c.in-Ok-More.field-0-is in
    goes_on _ at frames c.args.self _ _ runs within partial c.fill.new.self c.fill.ensures.ahead c.fill.ensures.grows (c.fill.ensures.more.0 is) (reads_as _ _ _ _ (g.L.Link.seen c.args.link.now) (g.L.Link.seen c.fill.new.link) is c.fill.ensures.acted) c.fill.ensures.others (quiet_at _ _ _ _ is c.fill.ensures.cause)

pub returns-in-Ok-End-clause-err : goal.returns-in-Ok-End-clause-err
returns-in-Ok-End-clause-err g c = λ at frames runs within partial.
    let is = found_as _ _ _ c.in-Ok-End.is c.in-Ok-End.field-0-is in (
      ends_at_end _ at frames c.args.self _ _ runs _ c.fill.new.self is c.fill.ensures.grows c.fill.ensures.more c.fill.ensures.end c.fill.ensures.ahead (empty_as _ _ _ c.is_empty.ensures c.if-is_empty.true c.as_slice.ensures) partial (reads_as _ _ _ _ (g.L.Link.seen c.args.link.now) (g.L.Link.seen c.fill.new.link) is c.fill.ensures.acted) c.fill.ensures.others (quiet_at _ _ _ _ is c.fill.ensures.cause),
      λ e. cc e,
    )

pub returns-in-Ok-End-2-clause-err : goal.returns-in-Ok-End-2-clause-err
returns-in-Ok-End-2-clause-err g c = λ at frames runs within partial.
    let is = found_as _ _ _ c.in-Ok-End.is c.in-Ok-End.field-0-is in
    subst (λ s. EndsServing (who_at (g.P.Policy.rules at.policy) at) at.first (g.L.Link.seen c.fill.new.link) frames s × (s ≢ DiskFault)) (sym c.refuse.ensures) (
      ends_within _ at frames c.args.self _ _ runs _ c.fill.new.self is c.fill.ensures.grows c.fill.ensures.more c.fill.ensures.end partial (some_as _ _ _ c.is_empty.ensures c.if-is_empty.false c.as_slice.ensures) (reads_as _ _ _ _ (g.L.Link.seen c.args.link.now) (g.L.Link.seen c.fill.new.link) is c.fill.ensures.acted) c.fill.ensures.others (quiet_at _ _ _ _ is c.fill.ensures.cause),
      λ e. cc e,
    )

pub returns-in-Err-NoMemory-clause-err : goal.returns-in-Err-NoMemory-clause-err
returns-in-Err-NoMemory-clause-err g c = λ at frames runs within partial.
    (ends_without_memory _ at frames c.args.self _ _ runs (ap g.L.Link.seen (c.fill.ensures.no_memory (c.in-Err-NoMemory.is ∙ ap Err c.in-Err-NoMemory.field-0-is))), λ e. cc e)

pub returns-clause-err : goal.returns-clause-err
returns-clause-err g c = λ at frames runs within partial.
    (ends_by_fault _ at frames c.args.self _ _ runs partial c.fill.ensures.others c.fill.ensures.acted_err c.fill.ensures.sure c.fill.ensures.cause (c.in-Err-Fault.is ∙ ap Err c.in-Err-Fault.field-0-is), λ e. cc e)
