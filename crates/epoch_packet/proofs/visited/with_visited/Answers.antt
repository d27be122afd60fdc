use Rattle.epoch_packet.proofs.Bits.{visits_with}
use Rattle.epoch_packet.proofs.visited.with_visited.Goals as goal

pub returns-clause-nodes : goal.returns-clause-nodes
returns-clause-nodes c =
    λ x here. rw c.only_visited.ensures (visits_with c.args.topology.now c.args.visited c.args.node x here)
