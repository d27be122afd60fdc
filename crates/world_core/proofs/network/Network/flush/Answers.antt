use Rattle.std.proofs.Common.{refl}
use Rattle.topology.proofs.Neighbours.{linked_nodes}
use Rattle.chronicle.specs.Inputs as input
use Rattle.chronicle.specs.declared.events.Event.TheVariants.{Flush}
use Rattle.world_core.proofs.Handed.{passes_on, flushes}
use Rattle.world_core.proofs.network.Network.flush.Goals as goal

pub give-requires-clause-node : goal.give-requires-clause-node
give-requires-clause-node g c = (linked_nodes c.args.self.now.topology.value c.args.node c.args.nbr c.requires.places.valid c.requires.near).0

pub returns : goal.returns
returns g c =
    let rules = g.P.Policy.rules c.args.self.now.policy in
    passes_on rules (Flush c.args.node c.args.nbr) c.args.node (input.Flush c.args.nbr) c.args.self.now c.args.self.now c.give.new.self c.give.result refl refl c.give.ensures.others c.give.ensures.comes c.give.ensures.stopped
    (λ past counts was regular.
    flushes rules past counts c.args.self.now was c.args.node c.args.nbr c.requires.near)
