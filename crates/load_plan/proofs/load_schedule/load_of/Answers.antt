use Rattle.std.proofs.Common.{◌∙◌}
use Rattle.load_plan.proofs.Planned.{many_providers}
use Rattle.load_plan.proofs.load_schedule.load_of.Goals as goal

pub directives_of-requires : goal.directives_of-requires
directives_of-requires c = many_providers c.args.number _ (c.deref.ensures.value ∙ c.in_ok-network.ensures.first)

pub returns-in-Ok-clause-topology : goal.returns-in-Ok-clause-topology
returns-in-Ok-clause-topology c = c.in_ok-network.ensures.topology

pub returns-in-Ok-clause-directives : goal.returns-in-Ok-clause-directives
returns-in-Ok-clause-directives c = c.in-Ok.ensures c.args.number (c.deref.ensures.value ∙ c.in_ok-network.ensures.first) c.in_ok-network.ensures.draws
