use Rattle.std.proofs.Common.{◌≡◌, length}
use Rattle.leadership.specs.Fronts.{AreFronts}
use Rattle.leadership.proofs.fronts.advance.Given as goal

abbrev pub invariant-loop-i : goal.invariant-loop-i
invariant-loop-i l = AreFronts l.fronts.items l.numbers l.letters × (l.i-end ≡ length l.fronts.items)
