use Rattle.route_replay.proofs.loading.run_load.Goals as goal

pub run_and_count-requires : goal.run_and_count-requires
run_and_count-requires g c = rw (c.deref.ensures.value, c.in-Ok.ensures.net) c.requires

-- in a new world nothing has happened
pub returns : goal.returns
returns g c = rw (c.deref.ensures.value, c.in-Ok.ensures.net, c.in-Ok.ensures.events) at c.run_and_count.ensures
