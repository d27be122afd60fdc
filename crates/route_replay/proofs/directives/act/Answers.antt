use Rattle.std.proofs.Common.{◌≡◌, ◌∷◌, [], ◌++◌, Option, Ok, Err, ap}
use Rattle.node_core.specs.NodeLimits.{Reached}
use Rattle.chronicle.specs.Run.{step}
use Rattle.route_replay.specs.Text.{Leads, unless, step_text, with_event}
use Rattle.route_replay.specs.Past.{past_of}
use Rattle.route_replay.proofs.Acts.{handed_runs, runs_stop, stops_event, runs_led_on, runs_as, runs_answer}
use Rattle.route_replay.proofs.directives.act.Goals as goal

-- the world stopped
pub returns-in_err-world-clause-runs : goal.returns-in_err-world-clause-runs
returns-in_err-world-clause-runs g c =
    let world = c.args.world in
    let rules = g.P.Policy.rules world.policy in
    let led = with_event rules world.net world.events c.args.event in
    handed_runs c.from_residual.result _ _ _ _ _ c.from_residual.ensures (λ why same.
    runs_stop _ _ led c.in_err-world.field-0.0 why same (stops_event _ _ c.in_err-world.field-0.0 c.in_err-world.ensures.stopped))

-- its line was not written
pub returns-in_err-tell-clause-runs : goal.returns-in_err-tell-clause-runs
returns-in_err-tell-clause-runs g c =
    let world = c.args.world in
    let rules = g.P.Policy.rules world.policy in
    let past = past_of rules world in
    let now = step rules world.net past c.args.event in
    let led : with_event rules world.net world.events c.args.event ≡ Leads (world.events ++ c.args.event ∷ []) = ap (λ (o : Option Reached). unless o (world.events ++ c.args.event ∷ [])) c.in_ok-world.ensures.within in
    handed_runs c.from_residual-in_err-tell.result _ _ _ _ _ c.from_residual-in_err-tell.ensures (λ why same.
    runs_led_on _ _ (step_text c.args.line now) _ _ (Err why) led (runs_as _ _ _ _ why c.in_err-tell.field-0.0 (c.in_err-tell.ensures past now c.in_ok-world.ensures.outcome) same))

pub returns-clause-runs : goal.returns-clause-runs
returns-clause-runs g c =
    let world = c.args.world in
    let rules = g.P.Policy.rules world.policy in
    let past = past_of rules world in
    let now = step rules world.net past c.args.event in
    let led : with_event rules world.net world.events c.args.event ≡ Leads (world.events ++ c.args.event ∷ []) = ap (λ (o : Option Reached). unless o (world.events ++ c.args.event ∷ [])) c.in_ok-world.ensures.within in
    runs_led_on _ _ (step_text c.args.line now) _ _ (Ok _) led (runs_answer _ _ _ _ c.in_ok-tell.field-0 _ (c.in_ok-tell.ensures past now c.in_ok-world.ensures.outcome))
