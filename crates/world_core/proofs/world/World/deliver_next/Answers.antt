use Rattle.std.proofs.lemmas.Result.{err_from_is_err_and}
use Rattle.world_core.proofs.Held.{delivered_view}
use Rattle.world_core.proofs.Stopping.{handed_on}
use Rattle.world_core.proofs.world.World.deliver_next.Goals as goal

pub deliver_next-requires : goal.deliver_next-requires
deliver_next-requires g c = rw c.deref_mut.ensures.value c.self.invariant

pub returns-in_err-way-clause-stopped : goal.returns-in_err-way-clause-stopped
returns-in_err-way-clause-stopped g c =
    let out = err_from_is_err_and c.from_residual.result c.from_residual.ensures.1 in
    rw (← c.self.view_is) (handed_on c.from_residual.result _ out.0 out.1 (rw out.2 (rw c.deref_mut.ensures.value at c.in_err-way.ensures.stopped)))

pub returns-clause-way : goal.returns-clause-way
returns-clause-way g c = rw (← c.self.view_is) (rw c.deref_mut.ensures.value at c.in_ok-way.ensures.way)

pub returns-clause-world : goal.returns-clause-world
returns-clause-world g c =
    rw (← c.self.view_is) (delivered_view c.in_ok-way.way c.self.inside.state.value c.deliver_next.new.self (rw c.deref_mut.ensures.value at c.in_ok-way.ensures.follows))

pub returns-clause-step : goal.returns-clause-step
returns-clause-step g c = rw (← c.self.view_is) (rw c.deref_mut.ensures.value at c.in_ok-way.ensures.step)
