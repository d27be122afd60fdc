use Rattle.std.proofs.Common.{refl}
use Rattle.world_core.proofs.Nodes.{node_at}
use Rattle.world_core.proofs.network.Network.check_marks.Goals as goal

pub returns-in-Ok-clause-ok : goal.returns-in-Ok-clause-ok
returns-in-Ok-clause-ok g c policy net past u nodes at =
    c.in-Ok.ensures.ok policy net u past (node_at policy (g.P.Policy.rules policy) net past c.args.self.now.nodes.items nodes c.args.rank u c.index.result.now at c.index.ensures)

pub returns-in-Err-clause-stopped : goal.returns-in-Err-clause-stopped
returns-in-Err-clause-stopped g c = (
  refl,
  λ policy net past u nodes at.
      c.in-Err.ensures.stopped policy net u past (node_at policy (g.P.Policy.rules policy) net past c.args.self.now.nodes.items nodes c.args.rank u c.index.result.now at c.index.ensures),
)
