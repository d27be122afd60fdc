use Rattle.std.proofs.Common.{◌∷◌, ◌∙◌, refl, sym}
use Rattle.topology.specs.declared.status.Reason.TheVariants.{NotCrashed}
use Rattle.chronicle.specs.Facts as fact
use Rattle.world_core.proofs.AfterSteps.{did, idle, restart_crashed, restart_running}
use Rattle.world_core.proofs.Crashing.{restart_stands}
use Rattle.world_core.proofs.network.Network.restart.Goals as goal

pub returns-then-not-is_crashed-clause-comes : goal.returns-then-not-is_crashed-clause-comes
returns-then-not-is_crashed-clause-comes g c past counts was =
    let rules = g.P.Policy.rules c.args.self.now.policy in
    let net = c.args.self.now.topology.value in
    idle rules past counts _ _ NotCrashed (restart_running rules net past c.args.node (sym (c.is_crashed.ensures past counts was c.requires.node) ∙ c.if-not-is_crashed.true)) was

pub returns-clause-comes : goal.returns-clause-comes
returns-clause-comes g c past counts was =
    let rules = g.P.Policy.rules c.args.self.now.policy in
    let net = c.args.self.now.topology.value in
    let u = c.args.node in
    let set = c.set_crashed.ensures in
    did rules past counts _ (fact.Restart u ∷ past) _ _
    (restart_crashed rules net past u (sym (c.is_crashed.ensures past counts was c.requires.node) ∙ c.if-not-is_crashed.false))
    (restart_stands g.P.Policy.rules past counts u c.args.self.now c.set_crashed.new.self c.restart.new.self c.others_change_nothing_of_what_a_node_stands_for.ensures.beside set.others set.kept c.requires.node
    was (set.flags past (fact.Restart u ∷ past) was.are_crashed (λ v. refl)) c.restart.ensures)
    (rw c.none.ensures refl)
