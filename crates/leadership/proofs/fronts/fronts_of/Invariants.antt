use Rattle.std.proofs.Common.{ℕ, List}
use Rattle.std.specs.BTreeSet.{BTreeSet}
use Rattle.leadership.specs.Fronts.{AreFronts}
use Rattle.leadership.specs.Run.{Letter}
use Rattle.leadership.proofs.fronts.fronts_of.Given as goal

abbrev pub invariant-loop-node : goal.invariant-loop-node
invariant-loop-node l = (numbers : BTreeSet ℕ) (letters : List Letter) → AreFronts l.fronts.items numbers letters
