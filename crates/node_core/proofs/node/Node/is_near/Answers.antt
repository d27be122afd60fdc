use Rattle.std.proofs.Common.{◌∙◌, ap}
use Rattle.topology.specs.Lists.{has}
use Rattle.topology.specs.Net.{neighbours}
use Rattle.node_core.proofs.Unboxed.{net_of, id_of}
use Rattle.node_core.proofs.node.Node.is_near.Goals as goal

pub returns : goal.returns
returns g c policy net u past was =
    c.is_among.ensures
    ∙ ap (λ near. has near c.args.nbr)
    (c.neighbours.ensures.neighbours
    ∙ (ap (λ n. neighbours n c.deref-3.result.now.id) (net_of c.deref-2.ensures c.deref.ensures was.keeps.same_net) ∙ ap (neighbours net) (id_of c.deref-3.ensures was.keeps.same_id)))
