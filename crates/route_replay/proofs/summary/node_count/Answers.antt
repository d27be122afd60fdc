use Rattle.std.proofs.Common.{List, ℕ, length, ap, ◌∙◌}
use Rattle.topology.proofs.Ascending.{length-ascending}
use Rattle.route_replay.proofs.summary.node_count.Goals as goal

pub returns : goal.returns
returns c = ap (λ (l : List ℕ). length l) c.nodes.ensures.nodes ∙ length-ascending c.args.topology.now.nodes
