use Rattle.std.proofs.Common.{◌≡◌, drop}
use Rattle.leadership.specs.Fronts.{front_of}
use Rattle.leadership.proofs.fronts.front_of.Given as goal

abbrev pub invariant-loop-front : goal.invariant-loop-front
invariant-loop-front l = front_of l.node (drop l.front-index l.fronts) ≡ front_of l.node l.fronts
