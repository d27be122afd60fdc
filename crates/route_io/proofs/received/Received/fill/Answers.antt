use Rattle.route_io.proofs.Receiving.{came_before_end}
use Rattle.std.proofs.Common.{arith, rules}
use Rattle.route_io.proofs.received.Received.fill.Goals as goal

pub returns-clause-end : goal.returns-clause-end
returns-clause-end g c =
    let read = c.in-Ok.ensures.ok in
    came_before_end _ _ read.more (search rules) read.consumed c.read_behind.ensures.told
    (omega (arith, read.size, c.if-count-eq0.false))
