use Rattle.std.proofs.Common.{◌∙◌, ◌+◌, length, ap}
use Rattle.std.proofs.lemmas.List.{length_push}
use Rattle.link_model.proofs.Fresh.{unused_push}
use Rattle.link_model.proofs.links.fresh_channels.Goals as goal

pub loop-way-preserved : goal.loop-way-preserved
loop-way-preserved c = record {
  width = ap length c.in_ok-push.ensures.items ∙ (length_push c.loop-way.channels.items c.new.result ∙ ap (λ m. m + 1) c.loop-way.invariant.width);
  unused = rw c.in_ok-push.ensures.items (unused_push c.loop-way.channels.items c.new.result c.loop-way.invariant.unused c.new.ensures);
}
