use Rattle.std.proofs.Common.{IsTrue, subst, sym}
use Rattle.std.proofs.lemmas.Result.{err_from_is_err_and}
use Rattle.world_core.specs.Fits.{fits}
use Rattle.world_core.proofs.Held.{view_after}
use Rattle.world_core.proofs.Stopping.{handed_on}
use Rattle.world_core.proofs.world.World.step.Goals as goal

pub happen-requires-clause-holds : goal.happen-requires-clause-holds
happen-requires-clause-holds g c = rw c.deref_mut.ensures.value c.self.invariant

pub happen-requires-clause-fits : goal.happen-requires-clause-fits
happen-requires-clause-fits g c = rw c.deref_mut.ensures.value (subst (λ w. IsTrue (fits w.net c.args.event)) (sym c.self.view_is) c.requires)

pub returns-in_err-outcome-clause-stopped : goal.returns-in_err-outcome-clause-stopped
returns-in_err-outcome-clause-stopped g c =
    let out = err_from_is_err_and c.from_residual.result c.from_residual.ensures.1 in
    rw (← c.self.view_is) (handed_on c.from_residual.result _ out.0 out.1 (rw out.2 (rw c.deref_mut.ensures.value at c.in_err-outcome.ensures.stopped)))

pub returns-clause-world : goal.returns-clause-world
returns-clause-world g c =
    rw (← c.self.view_is) (view_after c.args.event c.self.inside.state.value c.happen.new.self (rw c.deref_mut.ensures.value at c.in_ok-outcome.ensures.follows))

pub returns-clause-outcome : goal.returns-clause-outcome
returns-clause-outcome g c = rw (← c.self.view_is) (rw c.deref_mut.ensures.value at c.in_ok-outcome.ensures.outcome)

pub returns-clause-run : goal.returns-clause-run
returns-clause-run g c = rw (← c.self.view_is) (rw c.deref_mut.ensures.value at c.in_ok-outcome.ensures.step).sound

pub returns-clause-at_once : goal.returns-clause-at_once
returns-clause-at_once g c = rw (← c.self.view_is) (rw c.deref_mut.ensures.value at c.in_ok-outcome.ensures.step).at_once

pub returns-clause-only_then : goal.returns-clause-only_then
returns-clause-only_then g c = rw (← c.self.view_is) (rw c.deref_mut.ensures.value at c.in_ok-outcome.ensures.step).only_then

pub returns-clause-within : goal.returns-clause-within
returns-clause-within g c = rw (← c.self.view_is) (rw c.deref_mut.ensures.value at c.in_ok-outcome.ensures.step).within

pub returns-clause-restarts : goal.returns-clause-restarts
returns-clause-restarts g c = rw (← c.self.view_is) (rw c.deref_mut.ensures.value at c.in_ok-outcome.ensures.step).restarts
