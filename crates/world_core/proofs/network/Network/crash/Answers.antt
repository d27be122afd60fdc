use Rattle.std.proofs.Common.{◌∷◌, refl}
use Rattle.chronicle.specs.Facts as fact
use Rattle.world_core.proofs.AfterSteps.{crash_step, did}
use Rattle.world_core.proofs.Crashing.{crash_stands}
use Rattle.world_core.proofs.network.Network.crash.Goals as goal

pub returns-clause-comes : goal.returns-clause-comes
returns-clause-comes g c past counts was =
    let rules = g.P.Policy.rules c.args.self.now.policy in
    let net = c.args.self.now.topology.value in
    let u = c.args.node in
    let set = c.set_crashed.ensures in
    did rules past counts _ (fact.Crash u ∷ past) _ _ (crash_step rules net past u)
    (crash_stands g.P.Policy.rules past counts u c.args.self.now c.set_crashed.new.self c.forget.new.self c.crash.new.self set.others set.kept c.forget.ensures.others c.forget.ensures.kept c.requires.node
    was (set.flags past (fact.Crash u ∷ past) was.are_crashed (λ v. refl)) (c.forget.ensures.nodes past) c.crash.ensures)
    (rw c.none.ensures refl)
