use Rattle.std.proofs.lemmas.Result.{IfOk-weaker, IfErr-weaker, on_ok_weaker}
use Rattle.std.proofs.Common.{◌≡◌, ◌∙◌, true, map}
use Rattle.std.proofs.lemmas.Option.{slice_get_within}
use Rattle.topology.proofs.Neighbours.{linked_nodes}
use Rattle.trigger_log.specs.Going.{item_of}
use Rattle.link_model.specs.Tables.{ends}
use Rattle.chronicle.specs.Deliveries.{arrives}
use Rattle.chronicle.specs.Facts.{Chronicle}
use Rattle.chronicle.specs.Inputs as input
use Rattle.chronicle.specs.declared.events.Event.TheVariants.{Deliver}
use Rattle.world_core.specs.Happening.{IsRegular}
use Rattle.world_core.specs.Matching.{Counts, Stands}
use Rattle.world_core.proofs.Carried.{empty_read, front_read, link_read, taken}
use Rattle.world_core.proofs.Handed.{Hands, comes_by, left_by, stops_by, delivers}
use Rattle.world_core.proofs.Opened.{down_rests, empty_rests, front_arrives}
use Rattle.world_core.proofs.network.Network.take.Given.{Over}
use Rattle.world_core.proofs.network.Network.take.Goals.{After-give, In_default, In_default-pop_front_at}
use Rattle.world_core.proofs.network.Network.take.Goals as goal

pub channel_at-requires : goal.channel_at-requires
channel_at-requires g c = slice_get_within c.args.self.now.links.table c.args.way (ends c.args.from c.args.to) c.requires.placed.here

-- a link that is down does not carry a delivery that arrives
not_down : (g : Over) (c : In_default g) (past : Chronicle) (counts : Counts) → Stands (g.P.Policy.rules c.args.self.now.policy) past counts c.args.self.now → arrives past c.args.from c.args.to ≡ true → ⊥
not_down g c past counts was waits =
    let net = c.args.self.now.topology.value in
    let links = was.are_links in
    let at = c.channel_at.ensures net links.acts c.args.from c.args.to links.stands c.requires.placed in
    let is = link_read net past c.args.self.now.links links c.args.from c.args.to c.state.result (c.state.ensures ∙ at.state) in
    down_rests past c.args.from c.args.to c.in_default.field-0 waits (is ∙ c.in_default.is)

pub returns-in_default-clause-stands : goal.returns-in_default-clause-stands
returns-in_default-clause-stands g c past counts was regular waits = absurd (not_down g c past counts was waits)

pub returns-in_default-clause-comes : goal.returns-in_default-clause-comes
returns-in_default-clause-comes g c wanted past counts was regular waits = absurd (not_down g c past counts was waits)

pub pop_front_at-requires : goal.pop_front_at-requires
pop_front_at-requires g c = slice_get_within c.args.self.now.links.table c.args.way (ends c.args.from c.args.to) c.requires.placed.here

-- a way without an item has no delivery that arrives
not_empty : (g : Over) (c : In_default-pop_front_at g) (past : Chronicle) (counts : Counts) → Stands (g.P.Policy.rules c.args.self.now.policy) past counts c.args.self.now → arrives past c.args.from c.args.to ≡ true → ⊥
not_empty g c past counts was waits =
    let net = c.args.self.now.topology.value in
    let links = was.are_links in
    let at = c.channel_at.ensures net links.acts c.args.from c.args.to links.stands c.requires.placed in
    let is = link_read net past c.args.self.now.links links c.args.from c.args.to c.state.result (c.state.ensures ∙ at.state) in
    let none = empty_read net past c.args.self.now.links links c.args.from c.args.to (c.in_default-pop_front_at.ensures.none net links.acts c.args.from c.args.to links.stands c.requires.placed) in
    empty_rests past c.args.from c.args.to c.in-Up.session waits (is ∙ c.in-Up.is) none

pub returns-in_default-pop_front_at-clause-stands : goal.returns-in_default-pop_front_at-clause-stands
returns-in_default-pop_front_at-clause-stands g c past counts was regular waits = absurd (not_empty g c past counts was waits)

pub returns-in_default-pop_front_at-clause-comes : goal.returns-in_default-pop_front_at-clause-comes
returns-in_default-pop_front_at-clause-comes g c wanted past counts was regular waits = absurd (not_empty g c past counts was waits)

pub give-requires-clause-node : goal.give-requires-clause-node
give-requires-clause-node g c = (linked_nodes c.args.self.now.topology.value c.args.from c.args.to c.requires.places.valid c.requires.near).1

-- the delivery hands the receiver the item that is taken from its way
hands_item : (g : Over) (c : After-give g) (past : Chronicle) (counts : Counts) → Stands (g.P.Policy.rules c.args.self.now.policy) past counts c.args.self.now → IsRegular c.args.self.now.topology.value past
    → arrives past c.args.from c.args.to ≡ true → Hands (g.P.Policy.rules c.args.self.now.policy) past counts (Deliver c.args.from c.args.to) c.args.to (input.Arrive c.args.from c.in-Up.session (item_of c.in-Some.item))
    (record c.args.self.now { links = c.pop_front_at.new.self })
hands_item g c past counts was regular waits =
    let rules = g.P.Policy.rules c.args.self.now.policy in
    let net = c.args.self.now.topology.value in
    let links = was.are_links in
    let s = c.in-Up.session in
    let at = c.channel_at.ensures net links.acts c.args.from c.args.to links.stands c.requires.placed in
    let up = link_read net past c.args.self.now.links links c.args.from c.args.to c.state.result (c.state.ensures ∙ at.state) ∙ c.in-Up.is in
    let popped = c.in-Some.ensures.some net links.acts c.args.from c.args.to links.stands c.requires.placed in
    let front = front_read net past c.args.self.now.links links c.args.from c.args.to c.in-Some.item popped.0 popped.1 in
    let may = front_arrives past c.args.from c.args.to s (item_of c.in-Some.item) (map item_of popped.0) waits up front in
    let took = taken net past c.args.self.now.links c.pop_front_at.new.self links c.args.from c.args.to s (item_of c.in-Some.item) popped.2 in
    delivers rules past counts _ c.args.from c.args.to s (item_of c.in-Some.item) (map item_of popped.0) was.are_nodes was.are_crashed was.are_mails was.are_published was.are_walks was.counted regular c.requires.near may front took

pub returns-clause-stands : goal.returns-clause-stands
returns-clause-stands g c = on_ok_weaker c.give.result
    (λ h past counts was regular waits. left_by (g.P.Policy.rules c.args.self.now.policy) past counts _ c.args.to _ _ c.give.new.self (hands_item g c past counts was regular waits) (h past counts))
    c.give.ensures.stands

pub returns-clause-comes : goal.returns-clause-comes
returns-clause-comes g c = IfOk-weaker c.give.result _ _
    (λ r h wanted past counts was regular waits. comes_by (g.P.Policy.rules c.args.self.now.policy) past counts _ c.args.to _ _ c.give.new.self r (hands_item g c past counts was regular waits) (h wanted past counts))
    c.give.ensures.comes

pub returns-clause-stopped : goal.returns-clause-stopped
returns-clause-stopped g c = IfErr-weaker c.give.result _ _
    (λ why h past counts was regular waits. stops_by (g.P.Policy.rules c.args.self.now.policy) past counts _ c.args.to _ _ why (hands_item g c past counts was regular waits) (h past counts))
    c.give.ensures.stopped
