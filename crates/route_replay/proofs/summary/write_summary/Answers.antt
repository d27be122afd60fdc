use Rattle.std.proofs.Common.{None, Ok, Err, rules, ◌++◌, refl, ap, ◌∙◌}
use Rattle.route_replay.specs.LoadText.{summary}
use Rattle.route_replay.specs.Gathering.{page_view}
use Rattle.route_replay.proofs.Runs.{runs_at}
use Rattle.route_replay.proofs.Acts.{handed_runs, runs_short, runs_flushed, runs_cut}
use Rattle.route_replay.proofs.summary.write_summary.Goals as goal

-- memory ran out
pub returns-in_err-add_summary : goal.returns-in_err-add_summary
returns-in_err-add_summary g c =
    let seen = g.O.Sink.seen in
    let world = c.args.world.now in
    let rules_of = g.P.Policy.rules world.policy in
    let text = summary rules_of world.net world.events in
    handed_runs c.from_residual.result _ _ _ _ _ c.from_residual.ensures (λ why same.
    runs_at seen (seen c.args.sink.now) c.add_summary.new.page.sink.now _ text None (Err why)
    (runs_at seen (seen c.args.sink.now) c.args.sink.now c.add_summary.new.page.sink.now text None (Err why) (runs_short (seen c.args.sink.now) text None why same)
    (c.add_summary.ensures.sink ∙ c.new-page.ensures.sink)) (search rules))

-- the counts were not written
pub returns-in_err-flush : goal.returns-in_err-flush
returns-in_err-flush g c =
    let seen = g.O.Sink.seen in
    let world = c.args.world.now in
    let rules_of = g.P.Policy.rules world.policy in
    let text = summary rules_of world.net world.events in
    let made = c.in_ok-add_summary.ensures.text ∙ ap (λ bytes. bytes ++ text) c.new-page.ensures.empty in
    let broke = rw (c.add_summary.ensures.sink, c.new-page.ensures.sink) at c.in_err-flush.ensures.breaks in
    handed_runs c.from_residual-in_err-flush.result _ _ _ _ _ c.from_residual-in_err-flush.ensures (λ why same.
    runs_at seen (seen c.args.sink.now) c.flush.new.self.sink.now _ text None (Err why) (runs_cut _ _ text _ None why c.in_err-flush.field-0.0 broke same made) (search rules))

pub returns : goal.returns
returns g c =
    let seen = g.O.Sink.seen in
    let world = c.args.world.now in
    let rules_of = g.P.Policy.rules world.policy in
    let text = summary rules_of world.net world.events in
    let made = c.in_ok-add_summary.ensures.text ∙ ap (λ bytes. bytes ++ text) c.new-page.ensures.empty in
    let gathers = rw (c.add_summary.ensures.sink, c.new-page.ensures.sink) at c.in_ok-flush.ensures.gathers in
    runs_at seen (seen c.args.sink.now) c.flush.new.self.sink.now _ text None (Ok _)
    (runs_flushed _ (page_view seen c.flush.new.self) text None _ gathers c.in_ok-flush.ensures.empty made refl) (search rules)
