use Rattle.route_replay.proofs.runner.run_schedule.Goals as goal

-- in a new world nothing has happened
pub returns-clause-runs : goal.returns-clause-runs
returns-clause-runs g c = rw (c.deref.ensures.value, c.in-Ok.ensures.net, c.in-Ok.ensures.events) at c.run_lines.ensures.runs

pub returns-clause-in_turn : goal.returns-clause-in_turn
returns-clause-in_turn g c = rw (c.deref.ensures.value, c.in-Ok.ensures.net, c.in-Ok.ensures.events) at c.run_lines.ensures.in_turn
