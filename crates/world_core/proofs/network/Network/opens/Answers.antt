use Rattle.std.proofs.Common.{◌&&◌, ◌∙◌, not, sym, ap, ap₂}
use Rattle.topology.proofs.Neighbours.{linked_nodes, linked_sym}
use Rattle.chronicle.specs.Links.{link}
use Rattle.chronicle.specs.Run.{held_with, is_carried}
use Rattle.world_core.specs.OpenWays.{is_joined}
use Rattle.world_core.proofs.Opened.{carried_joined}
use Rattle.world_core.proofs.network.Network.opens.Goals as goal

pub returns-then-is_crashed : goal.returns-then-is_crashed
returns-then-is_crashed g c past counts was near =
    let way = c.args.way.now in
    let net = c.args.self.now.topology.value in
    let stopped = sym (c.is_crashed.ensures past counts was (linked_nodes net way.from way.to was.are_nodes.valid near).1) ∙ c.if-is_crashed.true in
    ap (λ t. not t && is_joined (link way.from way.to past) (held_with way.to way.from past)) (sym stopped)

pub returns : goal.returns
returns g c past counts was near =
    let way = c.args.way.now in
    let net = c.args.self.now.topology.value in
    let links = was.are_links in
    let runs = sym (c.is_crashed.ensures past counts was (linked_nodes net way.from way.to was.are_nodes.valid near).1) ∙ c.if-is_crashed.false in
    let is = c.state.ensures net links.acts links.stands near ∙ links.states way.from way.to in
    let holds = c.held.ensures past counts was (linked_sym net way.to way.from ∙ near) in
    c.is_carried.ensures
    ∙ (ap₂ is_carried is holds
    ∙ (carried_joined (link way.from way.to past) (held_with way.to way.from past)
    ∙ ap (λ t. not t && is_joined (link way.from way.to past) (held_with way.to way.from past)) (sym runs)))
