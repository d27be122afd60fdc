use Rattle.std.proofs.Common.{List, sym, subst}
use Rattle.leadership.specs.Fronts.{AreFronts, Front}
use Rattle.leadership.proofs.Passing.{front_nothing, fronts_more}
use Rattle.leadership.proofs.fronts.fronts_of.Goals as goal

pub loop-node-preserved : goal.loop-node-preserved
loop-node-preserved c = λ numbers letters.
    subst (λ (fs : List Front). AreFronts fs numbers letters) (sym c.in_ok-push.ensures.items)
    (fronts_more c.loop-node.fronts.items (record { node = c.node-item.result; count = 0 }) numbers letters (c.loop-node.invariant numbers letters) (front_nothing c.node-item.result numbers letters))
