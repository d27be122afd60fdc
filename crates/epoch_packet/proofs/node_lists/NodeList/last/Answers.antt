use Rattle.std.proofs.Common.{◌-◌, length, slice_get, ap, ◌∙◌}
use Rattle.epoch_packet.proofs.LastNodes.{last_at}
use Rattle.epoch_packet.proofs.node_lists.NodeList.last.Goals as goal

pub returns : goal.returns
returns c =
    c.copied.ensures ∙ c.last.ensures.value
    ∙ ap (λ xs. slice_get xs (length xs - 1)) (c.deref.ensures.value ∙ c.self.view_is)
    ∙ last_at c.args.self.now
