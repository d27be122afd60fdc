use Rattle.world_core.proofs.network.outputs.end.Goals as goal

pub returns-clause-done : goal.returns-clause-done
returns-clause-done c away net past was known = (c.end.ensures away net past was known, c.in_ok-tell.ensures.told)
