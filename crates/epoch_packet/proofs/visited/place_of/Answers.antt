use Rattle.std.proofs.Common.{◌<◌, length, arith}
use Rattle.std.proofs.lemmas.Option.{IfSome_then, slice_get_within}
use Rattle.topology.specs.Lists.{ascending}
use Rattle.topology.proofs.Ascending.{differ-ascending, length-ascending}
use Rattle.epoch_packet.proofs.Bits.{placed}
use Rattle.epoch_packet.proofs.visited.place_of.Goals as goal

pub returns-clause-place : goal.returns-clause-place
returns-clause-place c =
    let nodes = c.args.topology.now.nodes in
    IfSome_then c.rank_of.result c.rank_of.ensures.some
    (λ at is. placed (ascending nodes) c.args.node at (differ-ascending nodes c.nodes-nodes.ensures.valid.nodes_differ) is)

pub returns-clause-small : goal.returns-clause-small
returns-clause-small c =
    let nodes = c.args.topology.now.nodes in
    IfSome_then c.rank_of.result c.rank_of.ensures.some
    (λ at is. let within : at < length (ascending nodes) = slice_get_within (ascending nodes) at c.args.node is in
    omega (arith, length-ascending nodes, c.nodes-nodes.ensures.valid.few_nodes))
