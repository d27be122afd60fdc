use Rattle.std.proofs.Common.{length}
use Rattle.message_fitting.proofs.names.+are_nodes.Given as goal

abbrev pub decreases-are_nodes : goal.decreases-are_nodes
decreases-are_nodes l = length l.nodes.now
