use Rattle.std.proofs.Common.{sym, ◌∙◌}
use Rattle.leadership.proofs.Passing.{front_on}
use Rattle.leadership.proofs.fronts.front_from.Goals as goal

pub loop-i-preserved : goal.loop-i-preserved
loop-i-preserved c = front_on c.args.node c.loop-i.i c.args.numbers.now c.args.letters.now c.index-letters-i.result c.loop-i.invariant c.index-letters-i.is c.loop-i-test.true (sym c.passes.ensures ∙ c.if-not-passes.false)
