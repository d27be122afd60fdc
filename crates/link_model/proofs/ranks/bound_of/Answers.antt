use Rattle.std.proofs.Common.{arith}
use Rattle.link_model.proofs.Ranked.{below_last}
use Rattle.link_model.proofs.ranks.bound_of.Goals as goal

pub returns-in-Some-clause-above : goal.returns-in-Some-clause-above
returns-in-Some-clause-above c rises n r e =
    let below = below_last c.args.nodes.now c.in-Some.node.now n r rises c.in-Some.ensures.item.1 e in
    omega (arith, below, c.from.ensures, c.number.ensures)
