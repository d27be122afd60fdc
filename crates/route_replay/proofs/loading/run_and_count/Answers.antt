use Rattle.load_plan.specs.LoadSchedule.{unnumbered}
use Rattle.route_replay.proofs.Acts.{handed_runs}
use Rattle.route_replay.proofs.Written.{runs_halted, runs_said, halted_at}
use Rattle.route_replay.proofs.loading.run_and_count.Goals as goal

-- the world stopped
pub returns-in_err-world : goal.returns-in_err-world
returns-in_err-world g c =
    let world = c.args.world in
    let rules = g.P.Policy.rules world.policy in
    let lines = unnumbered c.args.directives.now in
    handed_runs c.from_residual.result _ _ _ _ _ c.from_residual.ensures (λ why same.
    runs_halted _ rules world.net world.events lines c.in_err-world.field-0.0 why same (halted_at rules world lines c.in_err-world.field-0.0 c.in_err-world.ensures.stopped))

pub returns : goal.returns
returns g c =
    let world = c.args.world in
    let rules = g.P.Policy.rules world.policy in
    let done = c.in_ok-world.ensures.world in
    runs_said rules world _ (unnumbered c.args.directives.now) _ _ _ done (rw done.same_policy at c.write_summary-written.ensures)
