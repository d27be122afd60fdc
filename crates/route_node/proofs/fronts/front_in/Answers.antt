use Rattle.route_node.proofs.Fronted.{holds_read}
use Rattle.route_node.proofs.fronts.front_in.Goals as goal

pub returns-in-Ok : goal.returns-in-Ok
returns-in-Ok c = holds_read c.args.bytes.now c.in-Frame.frame c.in-Frame.size c.in-Ok.frame c.in-Frame.ensures.frame c.in-Ok.ensures
