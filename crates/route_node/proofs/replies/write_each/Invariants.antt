use Rattle.std.proofs.Common.{◌≡◌, map, filter_map, take, length}
use Rattle.node_core.specs.Outputs.{output_of}
use Rattle.route_node.specs.Frames.{telling}
use Rattle.route_node.specs.Writing.{Writes}
use Rattle.route_node.proofs.replies.write_each.Given as goal

-- those so far were written
abbrev pub invariant-loop-output : goal.invariant-loop-output
invariant-loop-output g l = record {
  so_far : l.yielded ≡ take (length l.yielded) l.fn.outputs.items;
  wrote : Writes (filter_map telling (map output_of l.yielded)) (g.L.Link.seen l.fn.link) (g.L.Link.seen l.link);
}
