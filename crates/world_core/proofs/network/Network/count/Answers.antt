use Rattle.std.proofs.Common.{◌<◌, ◌-◌, ◌^◌, sym, subst}
use Rattle.world_core.proofs.Mailing.{delivered}
use Rattle.world_core.proofs.network.Network.count.Goals as goal

pub returns-in-Control-clause-counted : goal.returns-in-Control-clause-counted
returns-in-Control-clause-counted g c past counts are few =
    let net = c.args.self.now.topology.value in
    let number = c.in-Control.number in
    let fewer = subst (λ n. n < 2 ^ 32 - 1) (sym (are.deliveries number)) (few number) in
    rw c.in-Control.is (delivered net past counts c.args.self.now.mails c.deliver.new.self are number (c.deliver.ensures net are.acts are.stands fewer))
