use Rattle.std.proofs.Common.{ap, ◌∙◌, arith}
use Rattle.epoch_packet.specs.NodeLists.{but_last}
use Rattle.epoch_packet.proofs.LastNodes.{popped}
use Rattle.epoch_packet.proofs.node_lists.NodeList.drop_last.Goals as goal

pub returns : goal.returns
returns c =
    popped c.self.inside.list.items c.pop.new.self.items c.pop.result c.pop.ensures.items
    (λ some. c.pop.ensures.variant.1 (omega (arith, c.self.inside.list.ok.0)))
    ∙ ap but_last c.self.view_is
