use Rattle.std.proofs.Common.{refl, sym, ◌∙◌, arith}
use Rattle.topology.proofs.Rising.{Beside, falls, last_rises, rises_on}
use Rattle.topology.proofs.triggers.rises.Goals as goal

pub returns-then-place-list : goal.returns-then-place-list
returns-then-place-list c =
    let last = last_rises c.args.list.now c.loop-place.place (omega (arith, c.if-place-list.true)) in
    (λ e. c.loop-place.invariant last, λ a. refl)

pub returns-then-not-is_earlier : goal.returns-then-not-is_earlier
returns-then-not-is_earlier c =
    let beside : Beside c.args.list.now c.loop-place.place c.index-list-place.result c.index-list-place-in-loop-place.result = record {
      here = c.loop-place-test.true;
      next = omega (arith, c.loop-place-test.true, c.if-place-list.false);
      first = c.index-list-place.is;
      second = c.index-list-place-in-loop-place.is;
    } in
    (λ e. absurd (cc e), λ a. absurd (falls _ _ _ _ beside (sym c.is_earlier.ensures ∙ c.if-not-is_earlier.true) a))

pub loop-place-preserved : goal.loop-place-preserved
loop-place-preserved c =
    let beside : Beside c.args.list.now c.loop-place.place c.index-list-place.result c.index-list-place-in-loop-place.result = record {
      here = c.loop-place-test.true;
      next = omega (arith, c.loop-place-test.true, c.if-place-list.false);
      first = c.index-list-place.is;
      second = c.index-list-place-in-loop-place.is;
    } in
    λ rest. c.loop-place.invariant (rises_on _ _ _ _ beside (sym c.is_earlier.ensures ∙ c.if-not-is_earlier.false) rest)
