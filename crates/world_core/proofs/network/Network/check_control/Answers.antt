use Rattle.std.proofs.Common.{◌∙◌, refl, arith}
use Rattle.world_core.proofs.Mailing.{count_is}
use Rattle.world_core.proofs.network.Network.check_control.Goals as goal

pub returns-then-count-gt-MOST_CONTROL-clause-stopped : goal.returns-then-count-gt-MOST_CONTROL-clause-stopped
returns-then-count-gt-MOST_CONTROL-clause-stopped g c = (
  refl,
  λ past counts are.
      let net = c.args.self.now.topology.value in
      let count = c.count.ensures net are.acts are.stands ∙ count_is net past counts c.args.self.now.mails are in
      omega (arith, count, c.if-count-gt-MOST_CONTROL.true),
)

pub returns-clause-ok : goal.returns-clause-ok
returns-clause-ok g c past counts are =
    let net = c.args.self.now.topology.value in
    let count = c.count.ensures net are.acts are.stands ∙ count_is net past counts c.args.self.now.mails are in
    omega (arith, count, c.if-count-gt-MOST_CONTROL.false)
