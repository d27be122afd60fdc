use Rattle.std.proofs.Common.{refl}
use Rattle.chronicle.specs.Inputs as input
use Rattle.chronicle.specs.declared.events.Event.TheVariants.{Hop}
use Rattle.world_core.proofs.AfterSteps.{idle}
use Rattle.world_core.proofs.Handed.{passes_on, goes_on}
use Rattle.run_record.proofs.Walking.{may_go}
use Rattle.world_core.proofs.network.Network.hop.Goals as goal

pub take-requires : goal.take-requires
take-requires g c =
    let walks = c.requires.walks in
    may_go c.args.self.now.topology.value walks.past c.args.self.now.walks walks.are_walks c.args.packet

pub returns-in-Err : goal.returns-in-Err
returns-in-Err g c = record {
  others = record { policy = refl; topology = refl };
  comes = λ past counts was any.
      let rules = g.P.Policy.rules c.args.self.now.policy in
      let refused = c.in-Err.ensures.reason rules c.args.self.now.topology.value past was.are_walks in
      rw c.in-Err.ensures.unchanged (idle rules past counts _ _ c.in-Err.reason refused was);
  stopped = tt;
}

pub give-requires-clause-node : goal.give-requires-clause-node
give-requires-clause-node g c =
    let walks = c.requires.walks in
    let takes = c.in-Ok.ensures.taken c.args.self.now.topology.value walks.past walks.are_walks in
    (takes.are_walks.inside c.args.packet (record { node = c.in-Ok.taken.0; packet = c.in-Ok.taken.1.value }) takes.stands).node_is_in

pub returns : goal.returns
returns g c =
    let rules = g.P.Policy.rules c.args.self.now.policy in
    let node = c.in-Ok.taken.0 in
    let packet = c.in-Ok.taken.1.value in
    let up = c.in_ok-up.up.items in
    passes_on rules (Hop c.args.packet) node (input.Hop packet up) c.args.self.now (record c.args.self.now { walks = c.take.new.self }) c.give.new.self c.give.result refl refl c.give.ensures.others c.give.ensures.comes c.give.ensures.stopped
    (λ past counts was any.
    let takes = c.in-Ok.ensures.taken c.args.self.now.topology.value past was.are_walks in
    goes_on rules past counts c.args.self.now was c.args.packet node packet c.take.new.self up takes (c.in_ok-up.ensures past was.are_links))
