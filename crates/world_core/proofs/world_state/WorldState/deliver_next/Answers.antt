use Rattle.std.proofs.Common.{None, Some, ◌∙◌, ap, sym, subst}
use Rattle.std.specs.Prelude.{option_map}
use Rattle.std.proofs.lemmas.Result.{err_from_is_err_and}
use Rattle.chronicle.specs.declared.events.Event.TheVariants.{Deliver}
use Rattle.topology.specs.declared.ways.Way.{Way}
use Rattle.chronicle.specs.Deliveries.{deliveries}
use Rattle.chronicle.specs.Run.{run}
use Rattle.world_core.specs.Happening.{Stops}
use Rattle.world_core.specs.WaySets.{has_way}
use Rattle.world_core.proofs.Changing.{delivery_opens}
use Rattle.world_core.proofs.AfterSteps.{stands_so}
use Rattle.world_core.proofs.Crashing.{step_runs}
use Rattle.world_core.proofs.Delivered.{one_more}
use Rattle.world_core.proofs.Next.{has_ends, over_ends, placed_at}
use Rattle.world_core.proofs.Opened.{runs_still}
use Rattle.world_core.proofs.Stepped.{opens_still, stands_new, within_new}
use Rattle.world_core.proofs.Stopping.{handed_on, stops_full, stops_later}
use Rattle.world_core.proofs.world_state.WorldState.deliver_next.Goals as goal

pub returns-in_default-clause-way : goal.returns-in_default-clause-way
returns-in_default-clause-way g c = ap (option_map (λ (way : Way). (way.from, way.to))) {x = None} (sym c.in_default.ensures.none)

pub unwrap-way-requires : goal.unwrap-way-requires
unwrap-way-requires g c =
    let state = c.args.self.now in
    let net = state.network.topology.value in
    let past = run (g.P.Policy.rules state.network.policy) net state.events.items in
    let links = c.requires.stands.are_links in
    has_ends net past c.in-Some.number c.way.result c.in-Some.ensures.some (c.way.ensures net links.acts links.stands)

pub returns-in_err-check_events-clause-stopped : goal.returns-in_err-check_events-clause-stopped
returns-in_err-check_events-clause-stopped g c =
    let state = c.args.self.now in
    let rules = g.P.Policy.rules state.network.policy in
    let net = state.network.topology.value in
    let events = state.events.items in
    let links = c.requires.stands.are_links in
    let ends = c.unwrap-way.result in
    let over = over_ends net (run rules net events) c.in-Some.number c.way.result ends c.in-Some.ensures.some (c.way.ensures net links.acts links.stands) c.unwrap-way.ensures in
    let out = err_from_is_err_and c.from_residual.result c.from_residual.ensures.1 in
    handed_on c.from_residual.result _ out.0 out.1 (
      ends,
      over.first,
      rw out.2 (stops_full rules net events (Deliver ends.from ends.to) c.in_err-check_events.field-0.0 c.in_err-check_events.ensures.stopped),
    )

pub take-requires-clause-near : goal.take-requires-clause-near
take-requires-clause-near g c =
    let state = c.args.self.now in
    let net = state.network.topology.value in
    let past = run (g.P.Policy.rules state.network.policy) net state.events.items in
    let links = c.requires.stands.are_links in
    (over_ends net past c.in-Some.number c.way.result c.unwrap-way.result c.in-Some.ensures.some (c.way.ensures net links.acts links.stands) c.unwrap-way.ensures).near

pub take-requires-clause-placed : goal.take-requires-clause-placed
take-requires-clause-placed g c =
    let state = c.args.self.now in
    let net = state.network.topology.value in
    let links = c.requires.stands.are_links in
    placed_at net state.network.links links.acts links.stands c.in-Some.number c.unwrap-way.result (sym (c.way.ensures net links.acts links.stands) ∙ c.unwrap-way.ensures)

pub returns-in_err-take-clause-stopped : goal.returns-in_err-take-clause-stopped
returns-in_err-take-clause-stopped g c =
    let state = c.args.self.now in
    let rules = g.P.Policy.rules state.network.policy in
    let net = state.network.topology.value in
    let events = state.events.items in
    let past = run rules net events in
    let links = c.requires.stands.are_links in
    let ends = c.unwrap-way.result in
    let over = over_ends net past c.in-Some.number c.way.result ends c.in-Some.ensures.some (c.way.ensures net links.acts links.stands) c.unwrap-way.ensures in
    let event = Deliver ends.from ends.to in
    let valid = c.requires.stands.are_nodes.valid in
    let short = c.in_ok-check_events.ensures.ok in
    let regular = c.a_step_is_lawful.ensures.regular rules net events valid short in
    let lists = c.a_step_is_lawful.ensures.lists rules net events event valid in
    let runs = step_runs rules net past event (runs_still past ends.from ends.to over.waits) in
    let why = c.in_err-take.field-0.0 in
    let stops = subst (λ s. Stops rules net past s why) (sym runs) (c.in_err-take.ensures.stopped past (deliveries rules net events) c.requires.stands regular over.waits) lists in
    let out = err_from_is_err_and c.from_residual-in_err-take.result c.from_residual-in_err-take.ensures.1 in
    handed_on c.from_residual-in_err-take.result _ out.0 out.1 (ends, over.first, rw out.2 (stops_later rules net events event why short stops))

pub returns-clause-holds : goal.returns-clause-holds
returns-clause-holds g c =
    let state = c.args.self.now in
    let rules = g.P.Policy.rules state.network.policy in
    let net = state.network.topology.value in
    let events = state.events.items in
    let past = run rules net events in
    let links = c.requires.stands.are_links in
    let ends = c.unwrap-way.result in
    let over = over_ends net past c.in-Some.number c.way.result ends c.in-Some.ensures.some (c.way.ensures net links.acts links.stands) c.unwrap-way.ensures in
    let event = Deliver ends.from ends.to in
    let valid = c.requires.stands.are_nodes.valid in
    let regular = c.a_step_is_lawful.ensures.regular rules net events valid c.in_ok-check_events.ensures.ok in
    let runs = step_runs rules net past event (runs_still past ends.from ends.to over.waits) in
    let counts = deliveries rules net events in
    let new = c.take.new.self in
    let same = c.in_ok-take.ensures.others in
    let stands = stands_so rules past counts _ _ new runs (c.in_ok-take.ensures.stands past counts c.requires.stands regular over.waits) in
    let is = c.in_ok-keep.ensures in
    let opens = delivery_opens rules net past ends.from ends.to (has_way net state.open_ways) valid over.near c.requires.open_ways in
    record {
      stands = stands_new g.P.Policy.rules state.network new events event same _ counts is (one_more rules net events event) stands;
      open_ways = opens_still g.P.Policy.rules state.network new events event same _ state.open_ways is opens;
    }

pub returns-clause-way : goal.returns-clause-way
returns-clause-way g c =
    let state = c.args.self.now in
    let net = state.network.topology.value in
    let past = run (g.P.Policy.rules state.network.policy) net state.events.items in
    let links = c.requires.stands.are_links in
    let ends = c.unwrap-way.result in
    let over = over_ends net past c.in-Some.number c.way.result ends c.in-Some.ensures.some (c.way.ensures net links.acts links.stands) c.unwrap-way.ensures in
    ap (option_map (λ (way : Way). (way.from, way.to))) {x = Some ends} (sym over.first)

pub returns-clause-step : goal.returns-clause-step
returns-clause-step g c =
    let state = c.args.self.now in
    let rules = g.P.Policy.rules state.network.policy in
    let net = state.network.topology.value in
    let events = state.events.items in
    let past = run rules net events in
    let links = c.requires.stands.are_links in
    let ends = c.unwrap-way.result in
    let over = over_ends net past c.in-Some.number c.way.result ends c.in-Some.ensures.some (c.way.ensures net links.acts links.stands) c.unwrap-way.ensures in
    let event = Deliver ends.from ends.to in
    let valid = c.requires.stands.are_nodes.valid in
    let short = c.in_ok-check_events.ensures.ok in
    let regular = c.a_step_is_lawful.ensures.regular rules net events valid short in
    let runs = step_runs rules net past event (runs_still past ends.from ends.to over.waits) in
    let counts = deliveries rules net events in
    let stands = stands_so rules past counts _ _ c.take.new.self runs (c.in_ok-take.ensures.stands past counts c.requires.stands regular over.waits) in
    c.a_step_is_lawful.ensures.step rules net events event valid (within_new g.P.Policy.rules state.network c.take.new.self events event c.in_ok-take.ensures.others counts short stands)
