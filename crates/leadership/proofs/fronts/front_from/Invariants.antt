use Rattle.leadership.specs.Fronts.{IsFront}
use Rattle.leadership.proofs.fronts.front_from.Given as goal

abbrev pub invariant-loop-i : goal.invariant-loop-i
invariant-loop-i l = IsFront l.node l.numbers l.letters l.i
