use Rattle.std.proofs.Common.{arith}
use Rattle.node_core.proofs.Counting.{epoch_low}
use Rattle.node_core.proofs.node.Node.next_epoch.Goals as goal

pub returns : goal.returns
returns g c policy net u past was =
    let is = (rw c.deref.ensures at c.epoch.ensures) net u was.keeps.acts was.keeps.snapshots in
    let same = was.keeps.alike.same_epoch in
    let low = epoch_low (g.P.Policy.rules policy) net u past was.within in
    let number = c.number.ensures in
    let adds = c.saturating_add.ensures in
    let new = c.new.ensures in
    omega (arith, is, same, low, number, adds, new)
