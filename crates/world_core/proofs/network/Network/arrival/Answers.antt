use Rattle.std.proofs.Common.{sym, ◌∙◌, ap, map, true≢false}
use Rattle.topology.proofs.Neighbours.{linked_sym}
use Rattle.trigger_log.specs.Entries.{is_session}
use Rattle.trigger_log.specs.Going.{item_of}
use Rattle.link_model.specs.Readings.{behind_front}
use Rattle.cut_laws.proofs.Marked.{session_is}
use Rattle.chronicle.specs.Run.{held_with}
use Rattle.world_core.proofs.Carried.{link_read, front_read, empty_read}
use Rattle.world_core.proofs.AfterSteps.{rests_down, rests_empty, rests_wrong}
use Rattle.world_core.proofs.network.Network.arrival.Goals as goal

pub returns-in_default-clause-reason : goal.returns-in_default-clause-reason
returns-in_default-clause-reason g c past counts was near =
    absurd (true≢false (sym near ∙ c.in_default.ensures.none c.args.self.now.topology.value was.are_links.acts was.are_links.stands))

pub returns-in_default-state-clause-reason : goal.returns-in_default-state-clause-reason
returns-in_default-state-clause-reason g c past counts was near =
    let rules = g.P.Policy.rules c.args.self.now.policy in
    let net = c.args.self.now.topology.value in
    let links = was.are_links in
    let at = c.in-Some.ensures.some net links.acts links.stands in
    let is = link_read net past c.args.self.now.links links c.args.from c.args.to c.state.result (c.state.ensures ∙ at.state) in
    rests_down rules net past c.args.from c.args.to c.in_default-state.field-0 (is ∙ c.in_default-state.is)

pub returns-in_default-front-clause-reason : goal.returns-in_default-front-clause-reason
returns-in_default-front-clause-reason g c past counts was near =
    let rules = g.P.Policy.rules c.args.self.now.policy in
    let net = c.args.self.now.topology.value in
    let links = was.are_links in
    let at = c.in-Some.ensures.some net links.acts links.stands in
    let is = link_read net past c.args.self.now.links links c.args.from c.args.to c.state.result (c.state.ensures ∙ at.state) in
    let none = empty_read net past c.args.self.now.links links c.args.from c.args.to (sym at.items ∙ c.in_default-front.ensures.none) in
    rests_empty rules net past c.args.from c.args.to c.in-Up.session (is ∙ c.in-Up.is) none

pub returns-then-not-is_session-clause-reason : goal.returns-then-not-is_session-clause-reason
returns-then-not-is_session-clause-reason g c past counts was near =
    let rules = g.P.Policy.rules c.args.self.now.policy in
    let net = c.args.self.now.topology.value in
    let links = was.are_links in
    let s = c.in-Up.session in
    let at = c.in-Some.ensures.some net links.acts links.stands in
    let is = link_read net past c.args.self.now.links links c.args.from c.args.to c.state.result (c.state.ensures ∙ at.state) in
    let rest = behind_front c.in-Some.channel.now.items in
    let front = front_read net past c.args.self.now.links links c.args.from c.args.to _ rest (sym at.items ∙ c.in-Some-front.ensures.some) in
    let held = ap (λ o. is_session o s) (sym (c.held.ensures past counts was (linked_sym net c.args.to c.args.from ∙ near))) in
    rests_wrong rules net past c.args.from c.args.to s _ (map item_of rest) (is ∙ c.in-Up.is) front (held ∙ (sym c.is_session.ensures ∙ c.if-not-is_session.true))

pub returns-clause-session : goal.returns-clause-session
returns-clause-session g c past counts was near =
    let net = c.args.self.now.topology.value in
    let links = was.are_links in
    let s = c.in-Up.session in
    let at = c.in-Some.ensures.some net links.acts links.stands in
    let is = link_read net past c.args.self.now.links links c.args.from c.args.to c.state.result (c.state.ensures ∙ at.state) in
    let rest = behind_front c.in-Some.channel.now.items in
    let front = front_read net past c.args.self.now.links links c.args.from c.args.to _ rest (sym at.items ∙ c.in-Some-front.ensures.some) in
    let held = ap (λ o. is_session o s) (sym (c.held.ensures past counts was (linked_sym net c.args.to c.args.from ∙ near))) in
    record {
      up = is ∙ c.in-Up.is;
      held = session_is (held_with c.args.to c.args.from past) s (held ∙ (sym c.is_session.ensures ∙ c.if-not-is_session.false));
      front = (_, map item_of rest, front);
    }
