use Rattle.std.proofs.Common.{sym}
use Rattle.topology.proofs.sent_items.SentItems.copy.Goals as goal

pub returns-in_err-clone-in-Many-clause-few : goal.returns-in_err-clone-in-Many-clause-few
returns-in_err-clone-in-Many-clause-few c = λ t alike.
    let unlike = rw c.in-Many.is at c.self.invariant in
    let items = rw c.in-Many.is at c.self.view_is in
    absurd (unlike t (rw (sym items) at alike).1)

pub invariant_of-result-in-Many : goal.invariant_of-result-in-Many
invariant_of-result-in-Many c = λ t alike.
    let unlike = rw c.in-Many.is at c.self.invariant in
    unlike t (rw c.in_ok-clone-in-Many.ensures.cases at alike)

pub returns-in_err-clone-in-Alike-clause-few : goal.returns-in_err-clone-in-Alike-clause-few
returns-in_err-clone-in-Alike-clause-few c = λ t alike.
    let unlike = rw c.in-Alike.is at c.self.invariant in
    let items = rw c.in-Alike.is at c.self.view_is in
    absurd (unlike t (rw (sym items) at alike))

pub invariant_of-result-in-Alike : goal.invariant_of-result-in-Alike
invariant_of-result-in-Alike c = λ t alike.
    let unlike = rw c.in-Alike.is at c.self.invariant in
    unlike t (rw c.in_ok-clone-in-Alike.ensures.cases at alike)
