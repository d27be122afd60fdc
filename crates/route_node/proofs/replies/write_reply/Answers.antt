use Rattle.std.proofs.Common.{sym, ◌∙◌}
use Rattle.node_core.specs.Outputs.{output_of}
use Rattle.admission_laws.proofs.Sessions.{neighbour_is}
use Rattle.route_node.proofs.Told.{telling_fits}
use Rattle.route_node.proofs.replies.write_reply.Goals as goal

pub write_frame-requires : goal.write_frame-requires
write_frame-requires g c =
    let valid = c.nodes-nodes.ensures.valid in
    telling_fits c.args.topology.now valid c.args.id (output_of c.args.output) c.in-Some.frame (λ w near. neighbour_is c.args.topology.now c.args.id w valid near) c.requires
    (sym (c.in-Ok.ensures c.args.id c.requires) ∙ c.in-Some.is)
