use Rattle.std.proofs.Common.{◌≡◌, [], refl, arith}
use Rattle.topology.proofs.sent_items.in_a_block.Goals as goal

pub returns-in-Some-clause-unlike : goal.returns-in-Some-clause-unlike
returns-in-Some-clause-unlike c = λ apart t alike. apart t (rw (rw c.in-Some.is at c.in_ok-list.ensures.some) at rw c.in_ok-new.ensures.ok at alike)

pub returns-clause-unlike : goal.returns-clause-unlike
returns-clause-unlike c = λ apart t small.
    let all = rw c.in_ok-list-2.ensures at rw c.in_ok-new-2.ensures.ok at small in
    let empty : c.args.items.now ≡ [] = (rw c.in_default.is at c.in_ok-list.ensures.none) refl t all in
    apart t (rw empty (omega arith, tt))
