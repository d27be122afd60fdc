use Rattle.std.proofs.Common.{IsTrue, ap, subst, sym}
use Rattle.std.proofs.lemmas.Result.{err_from_is_err_and}
use Rattle.chronicle.specs.Deliveries.{deliveries}
use Rattle.chronicle.specs.Run.{after, run}
use Rattle.world_core.specs.Counting.{counts_after}
use Rattle.world_core.specs.Fits.{fits}
use Rattle.world_core.specs.OpenWays.{AreOpen}
use Rattle.world_core.specs.WaySets.{has_way}
use Rattle.world_core.proofs.Delivered.{few_deliveries, one_more}
use Rattle.world_core.proofs.Nodes.{places_of}
use Rattle.world_core.proofs.Stepped.{left_new, opened_new, opens_new, stands_new, within_new}
use Rattle.world_core.proofs.Stopping.{handed_on, stops_full, stops_later}
use Rattle.world_core.proofs.world_state.WorldState.happen.Goals as goal

pub advance-requires-clause-places : goal.advance-requires-clause-places
advance-requires-clause-places g c =
    let network = c.args.self.now.network in
    let rules = g.P.Policy.rules network.policy in
    let net = network.topology.value in
    places_of network.policy rules net (run rules net c.args.self.now.events.items) network.nodes.items c.requires.holds.stands.are_nodes

pub advance-requires-clause-flags : goal.advance-requires-clause-flags
advance-requires-clause-flags g c = record { valid = c.requires.holds.stands.are_nodes.valid; count_is = c.requires.holds.stands.are_crashed.flag_count }

pub advance-requires-clause-mails : goal.advance-requires-clause-mails
advance-requires-clause-mails g c =
    let network = c.args.self.now.network in
    let rules = g.P.Policy.rules network.policy in
    let net = network.topology.value in
    let events = c.args.self.now.events.items in
    record {
      has = record { past = run rules net events; counts = deliveries rules net events; are_mails = c.requires.holds.stands.are_mails };
      few = few_deliveries rules net events c.in_ok-check_events.ensures.ok;
    }

pub advance-requires-clause-walks : goal.advance-requires-clause-walks
advance-requires-clause-walks g c =
    let network = c.args.self.now.network in
    let rules = g.P.Policy.rules network.policy in
    record { past = run rules network.topology.value c.args.self.now.events.items; are_walks = c.requires.holds.stands.are_walks }

pub returns-in_err-check_events-clause-stopped : goal.returns-in_err-check_events-clause-stopped
returns-in_err-check_events-clause-stopped g c =
    let network = c.args.self.now.network in
    let out = err_from_is_err_and c.from_residual.result c.from_residual.ensures.1 in
    handed_on c.from_residual.result _ out.0 out.1
    (rw out.2 (stops_full (g.P.Policy.rules network.policy) network.topology.value c.args.self.now.events.items c.args.event c.in_err-check_events.field-0.0 c.in_err-check_events.ensures.stopped))

pub returns-in_err-outcome-clause-stopped : goal.returns-in_err-outcome-clause-stopped
returns-in_err-outcome-clause-stopped g c =
    let network = c.args.self.now.network in
    let rules = g.P.Policy.rules network.policy in
    let net = network.topology.value in
    let events = c.args.self.now.events.items in
    let past = run rules net events in
    let valid = c.requires.holds.stands.are_nodes.valid in
    let short = c.in_ok-check_events.ensures.ok in
    let regular = c.a_step_is_lawful.ensures.regular rules net events valid short in
    let lists = c.a_step_is_lawful.ensures.lists rules net events c.args.event valid in
    let stops = c.in_err-outcome.ensures.stopped past (deliveries rules net events) c.requires.holds.stands regular (few_deliveries rules net events short) c.requires.holds.open_ways lists in
    let out = err_from_is_err_and c.from_residual-in_err-outcome.result c.from_residual-in_err-outcome.ensures.1 in
    handed_on c.from_residual-in_err-outcome.result _ out.0 out.1 (rw out.2 (stops_later rules net events c.args.event c.in_err-outcome.field-0.0 short stops))

pub refresh-requires : goal.refresh-requires
refresh-requires g c = subst (λ net. IsTrue (fits net c.args.event)) (sym (ap (λ t. t.value) c.in_ok-outcome.ensures.others.topology)) c.requires.fits

pub returns-clause-holds : goal.returns-clause-holds
unfolding after
returns-clause-holds g c =
    let network = c.args.self.now.network in
    let rules = g.P.Policy.rules network.policy in
    let net = network.topology.value in
    let events = c.args.self.now.events.items in
    let past = run rules net events in
    let short = c.in_ok-check_events.ensures.ok in
    let regular = c.a_step_is_lawful.ensures.regular rules net events c.requires.holds.stands.are_nodes.valid short in
    let counts = deliveries rules net events in
    let comes = c.in_ok-outcome.ensures.comes past counts c.requires.holds.stands regular (few_deliveries rules net events short) c.requires.holds.open_ways in
    let now = counts_after past c.args.event counts in
    let new = c.advance.new.self in
    let same = c.in_ok-outcome.ensures.others in
    let is = c.in_ok-keep.ensures in
    let opens = c.refresh.ensures (run (g.P.Policy.rules new.policy) new.topology.value events) now (left_new g.P.Policy.rules network new events c.args.event same now comes.stands)
    (opened_new g.P.Policy.rules network new events c.args.event same (has_way new.topology.value c.args.self.now.open_ways)
    (subst (λ n. AreOpen net past (has_way n c.args.self.now.open_ways)) (sym (ap (λ t. t.value) same.topology)) c.requires.holds.open_ways)) in
    record {
      stands = stands_new g.P.Policy.rules network new events c.args.event same _ now is (one_more rules net events c.args.event) comes.stands;
      open_ways = opens_new g.P.Policy.rules network new events c.args.event same _ (has_way new.topology.value c.refresh.new.open_ways) is opens;
    }

pub returns-clause-outcome : goal.returns-clause-outcome
returns-clause-outcome g c =
    let network = c.args.self.now.network in
    let rules = g.P.Policy.rules network.policy in
    let net = network.topology.value in
    let events = c.args.self.now.events.items in
    let short = c.in_ok-check_events.ensures.ok in
    let regular = c.a_step_is_lawful.ensures.regular rules net events c.requires.holds.stands.are_nodes.valid short in
    (c.in_ok-outcome.ensures.comes (run rules net events) (deliveries rules net events) c.requires.holds.stands regular (few_deliveries rules net events short) c.requires.holds.open_ways).tells

pub returns-clause-reasons : goal.returns-clause-reasons
returns-clause-reasons g c =
    let network = c.args.self.now.network in
    let rules = g.P.Policy.rules network.policy in
    let net = network.topology.value in
    let events = c.args.self.now.events.items in
    let valid = c.requires.holds.stands.are_nodes.valid in
    let short = c.in_ok-check_events.ensures.ok in
    let regular = c.a_step_is_lawful.ensures.regular rules net events valid short in
    let comes = c.in_ok-outcome.ensures.comes (run rules net events) (deliveries rules net events) c.requires.holds.stands regular (few_deliveries rules net events short) c.requires.holds.open_ways in
    c.a_step_is_lawful.ensures.reasons rules net events c.args.event c.in_ok-outcome.outcome valid short comes.tells

pub returns-clause-step : goal.returns-clause-step
returns-clause-step g c =
    let network = c.args.self.now.network in
    let rules = g.P.Policy.rules network.policy in
    let net = network.topology.value in
    let events = c.args.self.now.events.items in
    let past = run rules net events in
    let valid = c.requires.holds.stands.are_nodes.valid in
    let short = c.in_ok-check_events.ensures.ok in
    let regular = c.a_step_is_lawful.ensures.regular rules net events valid short in
    let counts = deliveries rules net events in
    let comes = c.in_ok-outcome.ensures.comes past counts c.requires.holds.stands regular (few_deliveries rules net events short) c.requires.holds.open_ways in
    c.a_step_is_lawful.ensures.step rules net events c.args.event valid
    (within_new g.P.Policy.rules network c.advance.new.self events c.args.event c.in_ok-outcome.ensures.others (counts_after past c.args.event counts) short comes.stands)

pub returns-clause-follows : goal.returns-clause-follows
returns-clause-follows g c =
    let same = c.in_ok-outcome.ensures.others in
    record {
      policy = same.policy;
      net = ap (λ t. t.value) same.topology;
      events = c.in_ok-keep.ensures;
    }
