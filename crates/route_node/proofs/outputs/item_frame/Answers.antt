use Rattle.std.proofs.Common.{sym, ap}
use Rattle.wire_frames.specs.declared.frames.Frame.TheVariants.{Update}
use Rattle.route_node.proofs.Copied.{list_is}
use Rattle.route_node.proofs.outputs.item_frame.Goals as goal

pub returns-in-Update : goal.returns-in-Update
returns-in-Update c =
    rw c.in-Update.is
    (ap (λ ts. Update c.args.outgoing.to c.args.outgoing.session c.in-Update.seq ts c.in-Update.prefix c.in-Update.path) (sym (list_is c.in-Update.triggers c.as_slice-triggers.ensures.ascend)))
