use Rattle.world_core.proofs.Steady.{turned_flags}
use Rattle.world_core.proofs.network.Network.set_crashed.Goals as goal

pub returns-clause-flags : goal.returns-clause-flags
returns-clause-flags g c past now was turns =
    let net = c.args.self.now.topology.value in
    let at = rw (c.unwrap-rank.ensures, c.deref.ensures) at c.rank_of.ensures.some in
    turned_flags net past now c.args.self.now.crashed.items c.unwrap-rank.result c.args.node c.args.is c.requires.flags.valid at turns was
