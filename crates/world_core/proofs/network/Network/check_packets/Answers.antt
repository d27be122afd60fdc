use Rattle.std.proofs.Common.{◌∙◌, refl, arith}
use Rattle.world_core.proofs.network.Network.check_packets.Goals as goal

pub returns-then-count-clause-stopped : goal.returns-then-count-clause-stopped
returns-then-count-clause-stopped g c = (
  refl,
  λ past are.
      let count = c.count.ensures ∙ are.count in
      omega (arith, count, c.if-count.true),
)

pub returns-clause-ok : goal.returns-clause-ok
returns-clause-ok g c past are =
    let count = c.count.ensures ∙ are.count in
    omega (arith, count, c.if-count.false)
