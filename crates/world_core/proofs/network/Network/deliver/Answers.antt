use Rattle.std.proofs.Common.{sym, ◌∙◌, map, refl}
use Rattle.topology.proofs.Neighbours.{linked_nodes}
use Rattle.trigger_log.specs.Going.{item_of}
use Rattle.chronicle.specs.Inputs as input
use Rattle.chronicle.specs.declared.events.Event.TheVariants.{Deliver}
use Rattle.world_core.proofs.Carried.{empty_read, front_read, taken}
use Rattle.world_core.proofs.AfterSteps.{idle}
use Rattle.world_core.proofs.Handed.{passes_on, delivers}
use Rattle.world_core.proofs.network.Network.deliver.Goals as goal

pub returns-in-Err : goal.returns-in-Err
returns-in-Err g c = record {
  others = record { policy = refl; topology = refl };
  comes = λ past counts was regular.
      idle (g.P.Policy.rules c.args.self.now.policy) past counts _ _ c.in-Err.reason (c.in-Err.ensures.reason past counts was c.requires.near).0 was;
  stopped = tt;
}

pub returns-in_default : goal.returns-in_default
returns-in_default g c = record {
  others = record { policy = refl; topology = refl };
  comes = λ past counts was regular.
      let net = c.args.self.now.topology.value in
      let links = was.are_links in
      let arrives = c.in-Ok.ensures.session past counts was c.requires.near in
      let none = empty_read net past c.args.self.now.links links c.args.from c.args.to (c.in_default.ensures.none net links.acts links.stands c.requires.near) in
      absurd (cc (sym none ∙ arrives.front.2));
  stopped = tt;
}

pub give-requires-clause-node : goal.give-requires-clause-node
give-requires-clause-node g c = (linked_nodes c.args.self.now.topology.value c.args.from c.args.to c.requires.places.valid c.requires.near).1

pub returns : goal.returns
returns g c =
    let rules = g.P.Policy.rules c.args.self.now.policy in
    passes_on rules (Deliver c.args.from c.args.to) c.args.to (input.Arrive c.args.from c.in-Ok.session (item_of c.in-Some.item)) c.args.self.now (record c.args.self.now { links = c.pop_front.new.self }) c.give.new.self c.give.result refl refl c.give.ensures.others c.give.ensures.comes c.give.ensures.stopped
    (λ past counts was regular.
    let net = c.args.self.now.topology.value in
    let links = was.are_links in
    let s = c.in-Ok.session in
    let popped = c.in-Some.ensures.some net links.acts links.stands c.requires.near in
    let front = front_read net past c.args.self.now.links links c.args.from c.args.to c.in-Some.item popped.0 popped.1 in
    let took = taken net past c.args.self.now.links c.pop_front.new.self links c.args.from c.args.to s (item_of c.in-Some.item) popped.2 in
    delivers rules past counts (record c.args.self.now { links = c.pop_front.new.self }) c.args.from c.args.to s (item_of c.in-Some.item) (map item_of popped.0) was.are_nodes was.are_crashed was.are_mails was.are_published was.are_walks was.counted regular c.requires.near (c.in-Ok.ensures.session past counts was c.requires.near) front took)
