use Rattle.std.proofs.Common.{ap, ◌∙◌}
use Rattle.load_plan.specs.LoadNetwork.{first_providers, load_net}
use Rattle.load_plan.specs.Draws.{state_after}
use Rattle.load_plan.proofs.load_network.load_network.Goals as goal

pub returns-in-Ok-clause-topology : goal.returns-in-Ok-clause-topology
returns-in-Ok-clause-topology c = c.in-Ok.ensures.topology ∙ ap load_net c.new-draws.ensures

pub returns-in-Ok-clause-first : goal.returns-in-Ok-clause-first
returns-in-Ok-clause-first c = c.in-Ok.ensures.first ∙ ap (λ s. first_providers s 21) c.new-draws.ensures

pub returns-in-Ok-clause-draws : goal.returns-in-Ok-clause-draws
returns-in-Ok-clause-draws c = c.in-Ok.ensures.draws ∙ ap (λ s. state_after s 42) c.new-draws.ensures
