use Rattle.std.proofs.Common.{[], Ok, sym, ap, ◌∙◌, subst}
use Rattle.std.specs.Prelude.{IfOk}
use Rattle.route_replay.specs.declared.ends.RunEnd.{RunEnd}
use Rattle.route_replay.specs.declared.tasks.Task.{Task}
use Rattle.route_replay.specs.Text.{course}
use Rattle.route_replay.specs.Running.{Advances, Fitting}
use Rattle.route_replay.proofs.Acts.{handed_runs, runs_stop, runs_led, runs_as, runs_answer, task_runs}
use Rattle.route_replay.proofs.Keeping.{kept_by}
use Rattle.route_replay.proofs.directives.advance.Goals as goal

pub act-requires : goal.act-requires
act-requires g c = subst (Fitting c.args.world.net) (sym c.task_of-task.ensures ∙ c.in-Event.is) c.requires.fits

pub returns-in-Event-clause-world : goal.returns-in-Event-clause-world
returns-in-Event-clause-world g c =
    let world = c.args.world in
    subst (λ (t : Task). IfOk c.act.result (λ next. Advances world next (course (g.P.Policy.rules world.policy) world.net world.events t))) (sym (sym c.task_of-task.ensures ∙ c.in-Event.is)) c.act.ensures.world

pub returns-in-Event-clause-kept : goal.returns-in-Event-clause-kept
returns-in-Event-clause-kept g c =
    let world = c.args.world in
    let rules = g.P.Policy.rules world.policy in
    kept_by c.act.result rules world _ _ _ c.in-Event.is c.act.ensures.world
    (λ now goes. c.keep_through.ensures rules world.net world.events now c.requires.kept goes)

pub returns-in-Event-clause-runs : goal.returns-in-Event-clause-runs
returns-in-Event-clause-runs g c =
    let world = c.args.world in
    task_runs (g.P.Policy.rules world.policy) world.net world.events c.args.numbered.now.line _ _ _ _ _ (sym c.task_of-task.ensures ∙ c.in-Event.is) c.act.ensures.runs

pub returns-in_err-drain-in-Deliveries-clause-runs : goal.returns-in_err-drain-in-Deliveries-clause-runs
returns-in_err-drain-in-Deliveries-clause-runs g c =
    let world = c.args.world in
    task_runs (g.P.Policy.rules world.policy) world.net world.events c.args.numbered.now.line _ _ _ _ _ (sym c.task_of-task.ensures ∙ c.in-Deliveries.is)
    (handed_runs c.from_residual.result _ _ _ _ _ c.from_residual.ensures (λ why same.
    runs_stop _ [] _ c.in_err-drain-in-Deliveries.field-0.0 why same c.in_err-drain-in-Deliveries.ensures.stopped))

pub returns-in_ok-drain-in-Deliveries-clause-kept : goal.returns-in_ok-drain-in-Deliveries-clause-kept
returns-in_ok-drain-in-Deliveries-clause-kept g c =
    let world = c.args.world in
    let rules = g.P.Policy.rules world.policy in
    kept_by {E = RunEnd} (Ok c.in_ok-drain-in-Deliveries.field-0) rules world _ _ _ c.in-Deliveries.is c.in_ok-drain-in-Deliveries.ensures.world
    (λ now goes. c.keep_through.ensures rules world.net world.events now c.requires.kept goes)

pub returns-in_ok-drain-in-Deliveries-clause-runs : goal.returns-in_ok-drain-in-Deliveries-clause-runs
returns-in_ok-drain-in-Deliveries-clause-runs g c =
    let world = c.args.world in
    task_runs (g.P.Policy.rules world.policy) world.net world.events c.args.numbered.now.line _ _ _ _ _ (sym c.task_of-task.ensures ∙ c.in-Deliveries.is)
    (runs_led _ _ c.in_ok-drain-in-Deliveries.field-0.events _ c.in_ok-drain-in-Deliveries.ensures.world.leads)

pub returns-in_err-control_all-in-ControlMessages-clause-runs : goal.returns-in_err-control_all-in-ControlMessages-clause-runs
returns-in_err-control_all-in-ControlMessages-clause-runs g c =
    let world = c.args.world in
    task_runs (g.P.Policy.rules world.policy) world.net world.events c.args.numbered.now.line _ _ _ _ _ (sym c.task_of-task.ensures ∙ c.in-ControlMessages.is)
    (handed_runs c.from_residual-in_err-control_all-in-ControlMessages.result _ _ _ _ _ c.from_residual-in_err-control_all-in-ControlMessages.ensures (λ why same.
    runs_stop _ [] _ c.in_err-control_all-in-ControlMessages.field-0.0 why same c.in_err-control_all-in-ControlMessages.ensures.stopped))

pub returns-in_ok-control_all-in-ControlMessages-clause-kept : goal.returns-in_ok-control_all-in-ControlMessages-clause-kept
returns-in_ok-control_all-in-ControlMessages-clause-kept g c =
    let world = c.args.world in
    let rules = g.P.Policy.rules world.policy in
    kept_by {E = RunEnd} (Ok c.in_ok-control_all-in-ControlMessages.field-0) rules world _ _ _ c.in-ControlMessages.is c.in_ok-control_all-in-ControlMessages.ensures.world
    (λ now goes. c.keep_through.ensures rules world.net world.events now c.requires.kept goes)

pub returns-in_ok-control_all-in-ControlMessages-clause-runs : goal.returns-in_ok-control_all-in-ControlMessages-clause-runs
returns-in_ok-control_all-in-ControlMessages-clause-runs g c =
    let world = c.args.world in
    task_runs (g.P.Policy.rules world.policy) world.net world.events c.args.numbered.now.line _ _ _ _ _ (sym c.task_of-task.ensures ∙ c.in-ControlMessages.is)
    (runs_led _ _ c.in_ok-control_all-in-ControlMessages.field-0.events _ c.in_ok-control_all-in-ControlMessages.ensures.world.leads)

pub hop-requires : goal.hop-requires
hop-requires g c = subst (Fitting c.args.world.net) (sym c.task_of-task.ensures ∙ c.in-Hops.is) c.requires.fits

pub returns-in_err-hop-in-Hops-clause-runs : goal.returns-in_err-hop-in-Hops-clause-runs
returns-in_err-hop-in-Hops-clause-runs g c =
    let world = c.args.world in
    task_runs (g.P.Policy.rules world.policy) world.net world.events c.args.numbered.now.line _ _ _ _ _ (sym c.task_of-task.ensures ∙ c.in-Hops.is)
    (handed_runs c.from_residual-in_err-hop-in-Hops.result _ _ _ _ _ c.from_residual-in_err-hop-in-Hops.ensures (λ why same.
    runs_stop _ [] _ c.in_err-hop-in-Hops.field-0.0 why same c.in_err-hop-in-Hops.ensures.stopped))

pub returns-in_ok-hop-in-Hops-clause-kept : goal.returns-in_ok-hop-in-Hops-clause-kept
returns-in_ok-hop-in-Hops-clause-kept g c =
    let world = c.args.world in
    let rules = g.P.Policy.rules world.policy in
    kept_by {E = RunEnd} (Ok c.in_ok-hop-in-Hops.field-0) rules world _ _ _ c.in-Hops.is c.in_ok-hop-in-Hops.ensures.world
    (λ now goes. c.keep_through.ensures rules world.net world.events now c.requires.kept goes)

pub returns-in_ok-hop-in-Hops-clause-runs : goal.returns-in_ok-hop-in-Hops-clause-runs
returns-in_ok-hop-in-Hops-clause-runs g c =
    let world = c.args.world in
    task_runs (g.P.Policy.rules world.policy) world.net world.events c.args.numbered.now.line _ _ _ _ _ (sym c.task_of-task.ensures ∙ c.in-Hops.is)
    (runs_led _ _ c.in_ok-hop-in-Hops.field-0.events _ c.in_ok-hop-in-Hops.ensures.world.leads)

pub show-requires-clause-fits : goal.show-requires-clause-fits
show-requires-clause-fits g c = subst (Fitting c.args.world.net) (sym c.task_of-task.ensures ∙ c.in-Show.is) c.requires.fits

-- nothing happens while something is shown
pub show-requires-clause-kept : goal.show-requires-clause-kept
show-requires-clause-kept g c =
    let world = c.args.world in
    let rules = g.P.Policy.rules world.policy in
    c.keep_through.ensures rules world.net world.events world.events c.requires.kept (ap (course rules world.net world.events) c.in-Show.is)

pub returns-in_err-show-in-Show-clause-runs : goal.returns-in_err-show-in-Show-clause-runs
returns-in_err-show-in-Show-clause-runs g c =
    let world = c.args.world in
    task_runs (g.P.Policy.rules world.policy) world.net world.events c.args.numbered.now.line _ _ _ _ _ (sym c.task_of-task.ensures ∙ c.in-Show.is)
    (handed_runs c.from_residual-in_err-show-in-Show.result _ _ _ _ _ c.from_residual-in_err-show-in-Show.ensures (λ why same.
    runs_as _ _ _ _ why c.in_err-show-in-Show.field-0.0 c.in_err-show-in-Show.ensures.runs same))

pub returns-in_ok-show-in-Show-clause-runs : goal.returns-in_ok-show-in-Show-clause-runs
returns-in_ok-show-in-Show-clause-runs g c =
    let world = c.args.world in
    task_runs (g.P.Policy.rules world.policy) world.net world.events c.args.numbered.now.line _ _ _ _ _ (sym c.task_of-task.ensures ∙ c.in-Show.is)
    (runs_answer _ _ _ _ c.in_ok-show-in-Show.field-0 world c.in_ok-show-in-Show.ensures.runs)
