use Rattle.std.proofs.Common.{◌<◌, ◌∙◌, sym, subst}
use Rattle.std.proofs.lemmas.List.{length-set}
use Rattle.leadership.proofs.Passing.{front_at, front_set}
use Rattle.leadership.proofs.fronts.advance.Goals as goal

pub front_from-count-requires-clause-known : goal.front_from-count-requires-clause-known
front_from-count-requires-clause-known c =
    front_at c.loop-i.fronts.items c.loop-i.i c.index.result.now c.args.numbers.now c.args.letters.now
    (subst (λ n. c.loop-i.i < n) c.loop-i.invariant.1 c.loop-i-test.true) (sym c.index.ensures) c.loop-i.invariant.0

pub loop-i-preserved : goal.loop-i-preserved
loop-i-preserved c = (
  front_set c.loop-i.fronts.items c.loop-i.i (record { node = c.index.result.now.node; count = c.front_from-count.result }) c.args.numbers.now c.args.letters.now c.loop-i.invariant.0 c.front_from-count.ensures,
  c.loop-i.invariant.1 ∙ sym (length-set c.loop-i.fronts.items c.loop-i.i (record { node = c.index.result.now.node; count = c.front_from-count.result })),
)
