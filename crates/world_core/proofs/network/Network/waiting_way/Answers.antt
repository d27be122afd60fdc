use Rattle.std.proofs.Common.{sym, ◌∙◌}
use Rattle.world_core.proofs.Next.{waits_over}
use Rattle.world_core.proofs.network.Network.waiting_way.Goals as goal

pub has-requires : goal.has-requires
has-requires g c = c.in_ok-way.ensures.few

pub has-requires-2 : goal.has-requires-2
has-requires-2 g c = c.in_ok-way.ensures.few

pub returns-clause-waits : goal.returns-clause-waits
returns-clause-waits g c past counts was opened =
    let net = c.args.self.now.topology.value in
    let links = was.are_links in
    waits_over net past c.args.self.now.links c.args.open_ways.now c.busy.result.now was.are_nodes.valid links opened (λ from to number placed. c.busy.ensures.placed net links.acts from to number links.stands placed)
    c.args.from c.args.to c.in_ok-way.way c.in_ok-way.ensures.some (sym c.has.ensures ∙ c.if-not-has.false) (sym c.has-2.ensures ∙ c.if-not-has-2.false)
