use Rattle.std.proofs.Common.{None, Ok, Err, rules, refl}
use Rattle.std.specs.String.{string_bytes}
use Rattle.route_replay.specs.Gathering.{page_view}
use Rattle.route_replay.specs.Views.{view_text}
use Rattle.route_replay.proofs.Runs.{runs_at}
use Rattle.route_replay.proofs.Acts.{handed_runs, runs_cut, runs_shown, runs_half_shown}
use Rattle.route_replay.proofs.views.show.Goals as goal

-- some of it was not gathered
pub returns-in_err-add_view-clause-runs : goal.returns-in_err-add_view-clause-runs
returns-in_err-add_view-clause-runs g c =
    let seen = g.O.Sink.seen in
    let world = c.args.world.now in
    let rules_of = g.P.Policy.rules world.policy in
    let text = view_text rules_of world.net world.events c.args.view in
    let broke = rw (c.new-page.ensures.sink, c.new-page.ensures.empty) at c.in_err-add_view.ensures.breaks in
    handed_runs c.from_residual.result _ _ _ _ _ c.from_residual.ensures (λ why same.
    runs_at seen (seen c.args.sink.now) c.add_view.new.page.sink.now _ text None (Err why) (runs_cut _ _ text text None why c.in_err-add_view.field-0.0 broke same refl) (search rules))

-- the rest of it was not written
pub returns-in_err-flush-clause-runs : goal.returns-in_err-flush-clause-runs
returns-in_err-flush-clause-runs g c =
    let seen = g.O.Sink.seen in
    let world = c.args.world.now in
    let rules_of = g.P.Policy.rules world.policy in
    let text = view_text rules_of world.net world.events c.args.view in
    let gathers = rw c.new-page.ensures.sink at c.in_ok-add_view.ensures.gathers in
    handed_runs c.from_residual-in_err-flush.result _ _ _ _ _ c.from_residual-in_err-flush.ensures (λ why same.
    runs_at seen (seen c.args.sink.now) c.flush.new.self.sink.now _ text None (Err why)
    (runs_half_shown (record { sink = seen c.args.sink.now; pending = string_bytes c.new-page.result.text }) (page_view seen c.add_view.new.page) _ text why c.in_err-flush.field-0.0
    c.new-page.ensures.empty gathers c.in_err-flush.ensures.breaks same) (search rules))

pub returns-clause-runs : goal.returns-clause-runs
returns-clause-runs g c =
    let seen = g.O.Sink.seen in
    let world = c.args.world.now in
    let rules_of = g.P.Policy.rules world.policy in
    let text = view_text rules_of world.net world.events c.args.view in
    let gathers = rw c.new-page.ensures.sink at c.in_ok-add_view.ensures.gathers in
    runs_at seen (seen c.args.sink.now) c.flush.new.self.sink.now _ text None (Ok _)
    (runs_shown (record { sink = seen c.args.sink.now; pending = string_bytes c.new-page.result.text }) (page_view seen c.add_view.new.page) (page_view seen c.flush.new.self) text _
    c.new-page.ensures.empty gathers c.in_ok-flush.ensures.gathers c.in_ok-flush.ensures.empty) (search rules)
