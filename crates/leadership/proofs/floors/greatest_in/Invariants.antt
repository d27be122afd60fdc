use Rattle.std.proofs.Common.{◌≡◌, take}
use Rattle.leadership.specs.Floors.{greatest_in}
use Rattle.leadership.proofs.floors.greatest_in.Given as goal

abbrev pub invariant-loop-floor : goal.invariant-loop-floor
invariant-loop-floor l = l.best ≡ greatest_in l.span (take l.floor-index l.floors) l.fn.before
