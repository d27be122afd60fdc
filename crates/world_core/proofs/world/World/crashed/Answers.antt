use Rattle.std.proofs.Common.{◌&&◌, ◌∙◌, sym, ap}
use Rattle.chronicle.specs.Crashes.{crashed}
use Rattle.chronicle.specs.Deliveries.{deliveries}
use Rattle.chronicle.specs.Run.{run}
use Rattle.world_core.proofs.Near.{ranked_is}
use Rattle.world_core.proofs.world.World.crashed.Goals as goal

pub returns-then-is_some : goal.returns-then-is_some
returns-then-is_some g c =
    let network = c.self.inside.state.value.network in
    let rules = g.P.Policy.rules network.policy in
    let net = network.topology.value in
    let events = c.self.inside.state.value.events.items in
    let past = run rules net events in
    let none = rw (c.deref-2.ensures, c.deref.ensures) at c.rank_of.ensures.none in
    let node = ranked_is net.nodes c.args.id c.rank_of.result none.1 (sym c.is_some.ensures ∙ c.if-is_some.true) in
    rw (← c.self.view_is) ((rw c.deref-then-is_some.ensures at c.is_crashed.ensures) past (deliveries rules net events) c.self.invariant.stands node ∙ ap (λ t. t && crashed c.args.id past) (sym node))
