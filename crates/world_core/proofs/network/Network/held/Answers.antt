use Rattle.std.proofs.Common.{length}
use Rattle.topology.proofs.Neighbours.{linked_nodes}
use Rattle.chronicle.specs.Logs.{log_of}
use Rattle.world_core.proofs.Handed.{near_of}
use Rattle.world_core.proofs.Near.{is_ranked, some_none}
use Rattle.world_core.proofs.Nodes.{inside_places, node_at, not_missing, places_of}
use Rattle.world_core.proofs.network.Network.held.Goals as goal

pub returns-in_err-rank : goal.returns-in_err-rank
returns-in_err-rank g c past counts was near =
    let net = c.args.self.now.topology.value in
    let node = (linked_nodes net c.args.node c.args.nbr was.are_nodes.valid near).0 in
    let none = rw c.deref.ensures at c.rank_of.ensures.none in
    absurd (some_none c.rank_of.result (is_ranked net.nodes c.args.node c.rank_of.result none.0 node) c.in_err-rank.was)

pub returns-in_err-get : goal.returns-in_err-get
returns-in_err-get g c past counts was near =
    let policy = c.args.self.now.policy in
    let net = c.args.self.now.topology.value in
    let items = c.args.self.now.nodes.items in
    let at = rw c.deref.ensures at c.in_ok-rank.ensures.some in
    let inside = inside_places net (length items) c.in_ok-rank.rank c.args.node (places_of policy (g.P.Policy.rules policy) net past items was.are_nodes) at in
    let found = rw c.deref-2.ensures.value at c.get.ensures.lookup in
    absurd (not_missing c.get.result c.in_ok-rank.rank (length items) found.0 inside c.in_err-get.was)

pub returns : goal.returns
returns g c past counts was near =
    let policy = c.args.self.now.policy in
    let rules = g.P.Policy.rules policy in
    let net = c.args.self.now.topology.value in
    let node = c.args.node in
    let items = c.args.self.now.nodes.items in
    let at = rw c.deref.ensures at c.in_ok-rank.ensures.some in
    let found = rw c.deref-2.ensures.value at c.in_ok-get.ensures.lookup in
    let here = node_at policy rules net past items was.are_nodes c.in_ok-rank.rank node c.in_ok-get.field-0.now at found.1 in
    c.held.ensures policy net node (log_of node past) (c.log.ensures.log policy net node past here) (near_of net node c.args.nbr was.are_nodes.valid near)
