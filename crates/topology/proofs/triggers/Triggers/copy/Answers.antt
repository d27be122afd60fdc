use Rattle.std.proofs.Common.{ap, length, arith}
use Rattle.topology.proofs.triggers.Triggers.copy.Goals as goal

pub returns-in_err-clone-in-Many-clause-few : goal.returns-in_err-clone-in-Many-clause-few
returns-in_err-clone-in-Many-clause-few c = λ few.
    let long = rw c.in-Many.is at c.self.invariant.1 in
    let items = rw c.in-Many.is at c.self.view_is in
    absurd (omega (arith, long, few, ap length items))
