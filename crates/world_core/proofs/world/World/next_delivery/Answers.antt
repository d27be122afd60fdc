use Rattle.std.proofs.Common.{Some, sym, ap}
use Rattle.std.specs.Prelude.{option_map}
use Rattle.topology.specs.declared.ways.Way.{Way}
use Rattle.chronicle.specs.Run.{run}
use Rattle.world_core.proofs.Near.{some_none}
use Rattle.world_core.proofs.Next.{has_ends, over_ends}
use Rattle.world_core.proofs.world.World.next_delivery.Goals as goal

pub returns-in_err-way : goal.returns-in_err-way
returns-in_err-way g c =
    let state = c.self.inside.state.value in
    let net = state.network.topology.value in
    let past = run (g.P.Policy.rules state.network.policy) net state.events.items in
    let links = c.self.invariant.stands.are_links in
    let next = rw c.deref.ensures at c.in_ok-number.ensures.some in
    absurd (some_none c.way.result (has_ends net past c.in_ok-number.number c.way.result next ((rw c.deref-2.ensures at c.way.ensures) net links.acts links.stands)) c.in_err-way.was)

pub returns : goal.returns
returns g c =
    let state = c.self.inside.state.value in
    let net = state.network.topology.value in
    let past = run (g.P.Policy.rules state.network.policy) net state.events.items in
    let links = c.self.invariant.stands.are_links in
    let next = rw c.deref.ensures at c.in_ok-number.ensures.some in
    let ends = c.in_ok-way.way in
    let over = over_ends net past c.in_ok-number.number c.way.result ends next ((rw c.deref-2.ensures at c.way.ensures) net links.acts links.stands) c.in_ok-way.was in
    ap (option_map (λ (way : Way). (way.from, way.to))) {x = Some ends} (rw (← c.self.view_is) (sym over.first))
