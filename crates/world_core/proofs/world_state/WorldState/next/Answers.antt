use Rattle.std.proofs.lemmas.Option.{IfSome_then}
use Rattle.chronicle.specs.Run.{run}
use Rattle.world_core.proofs.Next.{next_at, next_none, none_then}
use Rattle.world_core.proofs.world_state.WorldState.next.Goals as goal

pub returns-clause-some : goal.returns-clause-some
returns-clause-some g c =
    let state = c.args.self.now in
    let net = state.network.topology.value in
    let past = run (g.P.Policy.rules state.network.policy) net state.events.items in
    let links = c.requires.stands.are_links in
    IfSome_then c.first_common.result c.first_common.ensures.some
    (λ number low. next_at net past state.network.links state.open_ways c.busy.result.now c.requires.stands.are_nodes.valid links c.requires.open_ways
    (λ from to way placed. c.busy.ensures.placed net links.acts from to way links.stands placed) c.busy.ensures.within number low)

pub returns-clause-none : goal.returns-clause-none
returns-clause-none g c =
    let state = c.args.self.now in
    let net = state.network.topology.value in
    let past = run (g.P.Policy.rules state.network.policy) net state.events.items in
    let links = c.requires.stands.are_links in
    none_then c.first_common.result c.first_common.ensures.none
    (λ none. next_none net past state.network.links state.open_ways c.busy.result.now c.requires.stands.are_nodes.valid links c.requires.open_ways
    (λ from to way placed. c.busy.ensures.placed net links.acts from to way links.stands placed) none)
