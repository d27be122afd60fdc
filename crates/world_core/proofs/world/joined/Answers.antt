use Rattle.world_core.proofs.Near.{related}
use Rattle.world_core.proofs.world.joined.Goals as goal

pub returns : goal.returns
returns c = rw (c.is_some.ensures, c.relation.ensures) (related c.args.topology.now c.args.a c.args.b)
