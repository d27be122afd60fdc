use Rattle.std.proofs.Common.{None, Ok, Err, rules, ◌++◌, refl, ap, ◌∙◌}
use Rattle.route_replay.specs.Gathering.{page_view}
use Rattle.route_replay.specs.Text.{step_text}
use Rattle.route_replay.proofs.Runs.{runs_at}
use Rattle.route_replay.proofs.Acts.{handed_runs, runs_short, runs_flushed, runs_cut}
use Rattle.route_replay.proofs.directives.tell.Goals as goal

-- memory ran out
pub returns-in_err-event_line : goal.returns-in_err-event_line
returns-in_err-event_line g c = λ past step tells.
    let seen = g.O.Sink.seen in
    let text = step_text c.args.line step in
    handed_runs c.from_residual.result _ _ _ _ _ c.from_residual.ensures (λ why same.
    runs_at seen (seen c.args.sink.now) c.event_line.new.page.sink.now _ text None (Err why)
    (runs_at seen (seen c.args.sink.now) c.args.sink.now c.event_line.new.page.sink.now text None (Err why) (runs_short (seen c.args.sink.now) text None why same)
    (c.event_line.ensures.sink ∙ c.new-page.ensures.sink)) (search rules))

-- the line was not written
pub returns-in_err-flush : goal.returns-in_err-flush
returns-in_err-flush g c = λ past step tells.
    let seen = g.O.Sink.seen in
    let text = step_text c.args.line step in
    let made = c.in_ok-event_line.ensures.text past step tells ∙ ap (λ bytes. bytes ++ text) c.new-page.ensures.empty in
    let broke = rw (c.event_line.ensures.sink, c.new-page.ensures.sink) at c.in_err-flush.ensures.breaks in
    handed_runs c.from_residual-in_err-flush.result _ _ _ _ _ c.from_residual-in_err-flush.ensures (λ why same.
    runs_at seen (seen c.args.sink.now) c.flush.new.self.sink.now _ text None (Err why) (runs_cut _ _ text _ None why c.in_err-flush.field-0.0 broke same made) (search rules))

pub returns : goal.returns
returns g c = λ past step tells.
    let seen = g.O.Sink.seen in
    let text = step_text c.args.line step in
    let made = c.in_ok-event_line.ensures.text past step tells ∙ ap (λ bytes. bytes ++ text) c.new-page.ensures.empty in
    let gathers = rw (c.event_line.ensures.sink, c.new-page.ensures.sink) at c.in_ok-flush.ensures.gathers in
    runs_at seen (seen c.args.sink.now) c.flush.new.self.sink.now _ text None (Ok _)
    (runs_flushed _ (page_view seen c.flush.new.self) text None _ gathers c.in_ok-flush.ensures.empty made refl) (search rules)
