use Rattle.std.proofs.Common.{◌∷◌, ◌++◌, drop, [], refl, sym, ap, ◌∙◌, subst}
use Rattle.std.proofs.lemmas.List.{append-nil, drop_all}
use Rattle.route_io.proofs.Acts.{adds_no_piece, adds_pieces_on}
use Rattle.route_io.proofs.Bytes.{appends_on, appends_none, told_same, told_on}
use Rattle.route_replay.specs.Text.{text, texts, stop, course, said, task_of}
use Rattle.route_replay.specs.Turns.{WritesInTurn}
use Rattle.schedule_file.specs.declared.lines.Numbered.{Numbered}
use Rattle.route_replay.specs.Running.{Fitting, lines_by, limit_by}
use Rattle.route_replay.proofs.Steps.{text_step, text_here, stop_step, stops_here, rest_here}
use Rattle.route_replay.proofs.Turns.{takes_none, takes_step, texts_step, turns_all, turns_here}
use Rattle.route_replay.proofs.Runs.{runs_whole, runs_err}
use Rattle.route_replay.proofs.Acts.{handed_runs}
use Rattle.route_replay.proofs.runner.run_lines.Goals as goal

pub loop-numbered-init : goal.loop-numbered-init
loop-numbered-init g c = record {
  same_policy = refl;
  same_net = refl;
  kept = tt;
  written = ([], appends_none _, adds_no_piece _ [], refl);
  turns = ([], takes_none _, refl);
  stops = refl;
  told = told_same _;
  room = refl;
  quiet = refl;
}

-- the directive at hand fits
pub advance-requires-clause-fits : goal.advance-requires-clause-fits
advance-requires-clause-fits g c =
    let was = c.loop-numbered.invariant in
    let d = c.numbered-item.result in
    let fits = c.requires c.loop-numbered.numbered-index d c.loop-numbered-test.true in
    rw was.same_net (subst (λ (one : Numbered). Fitting c.args.world.net (task_of one.directive)) (sym c.numbered-item.is) fits)

-- the line that is kept is that of the run so far
pub advance-requires-clause-kept : goal.advance-requires-clause-kept
advance-requires-clause-kept g c =
    let was = c.loop-numbered.invariant in
    rw (was.same_policy, was.same_net) was.kept

pub loop-numbered-preserved : goal.loop-numbered-preserved
loop-numbered-preserved g c =
    let was = c.loop-numbered.invariant in
    let seen = g.O.Sink.seen in
    let rules = g.P.Policy.rules c.args.world.policy in
    let net = c.args.world.net in
    let lines = c.args.lines.now in
    let i = c.loop-numbered.numbered-index in
    let d = c.numbered-item.result in
    let events = c.loop-numbered.world.events in
    let advances = c.in_ok-world.ensures.world in
    let goes = rw (was.same_policy, was.same_net) at advances.leads in
    let runs = rw (was.same_policy, was.same_net) at c.in_ok-world.ensures.runs in
    let led = course rules net events (task_of d.directive) in
    let now = c.in_ok-world.world.events in
    record {
      same_policy = advances.same_policy ∙ was.same_policy;
      same_net = advances.same_net ∙ was.same_net;
      kept = rw (was.same_policy, advances.same_net, was.same_net) at c.in_ok-world.ensures.kept;
      written = (
        was.written.0 ++ lines_by (said rules net events d) led,
        appends_on _ _ _ _ _ was.written.1 runs.whole.0,
        adds_pieces_on (seen c.args.sink.now) (seen c.loop-numbered.sink) (seen c.advance.new.sink) was.written.0
            (lines_by (said rules net events d) led) (lines_by (said rules net events d) led) was.written.2 runs.all_pieces,
        text_step rules net events lines i d c.loop-numbered-test.true c.numbered-item.is now _ was.written.0 goes was.written.3,
      );
      turns = (
        was.turns.0 ++ said rules net events d ∷ [],
        takes_step rules net events lines i d c.loop-numbered-test.true c.numbered-item.is _ was.turns.0 was.turns.2
            (seen c.args.sink.now) (seen c.loop-numbered.sink) (seen c.advance.new.sink) was.turns.1 now goes runs.all_pieces,
        texts_step rules net events lines i d c.loop-numbered-test.true c.numbered-item.is _ was.turns.0 was.turns.2 now goes,
      );
      stops = stop_step rules net events lines i d c.loop-numbered-test.true c.numbered-item.is now _ goes was.stops;
      told = told_on _ _ _ was.told runs.stays;
      room = runs.same_room ∙ was.room;
      quiet = runs.cause.quiet (λ e. cc e) ∙ was.quiet;
    }

pub returns-clause-runs : goal.returns-clause-runs
returns-clause-runs g c =
    let was = c.loop-numbered.invariant in
    let rules = g.P.Policy.rules c.args.world.policy in
    let net = c.args.world.net in
    let lines = c.args.lines.now in
    let events = c.loop-numbered.world.events in
    let none = drop_all c.loop-numbered.numbered-index lines c.loop-numbered-test.false in
    runs_whole (g.O.Sink.seen c.args.sink.now) (g.O.Sink.seen c.loop-numbered.sink)
    _ was.written.0 (text rules net events (drop c.loop-numbered.numbered-index lines)) _ was.written.1 was.written.2 was.written.3 (ap (text rules net events) none)
    (sym was.stops ∙ ap (stop rules net events) none) was.told was.room was.quiet

-- all texts were written
pub returns-clause-in_turn : goal.returns-clause-in_turn
returns-clause-in_turn g c =
    let was = c.loop-numbered.invariant in
    let old = g.O.Sink.seen c.args.sink.now in
    let new = g.O.Sink.seen c.loop-numbered.sink in
    let rules = g.P.Policy.rules c.args.world.policy in
    let net = c.args.world.net in
    let lines = c.args.lines.now in
    let events = c.loop-numbered.world.events in
    let none = drop_all c.loop-numbered.numbered-index lines c.loop-numbered-test.false in
    subst (WritesInTurn old new)
    (sym (append-nil was.turns.0) ∙ (ap (λ left. was.turns.0 ++ texts rules net events left) (sym none) ∙ was.turns.2))
    (turns_all old new was.turns.0 was.turns.1)

pub returns-in_err-world-clause-runs : goal.returns-in_err-world-clause-runs
returns-in_err-world-clause-runs g c =
    let was = c.loop-numbered.invariant in
    let rules = g.P.Policy.rules c.args.world.policy in
    let net = c.args.world.net in
    let lines = c.args.lines.now in
    let i = c.loop-numbered.numbered-index in
    let d = c.numbered-item.result in
    let events = c.loop-numbered.world.events in
    let led = course rules net events (task_of d.directive) in
    let runs = rw (was.same_policy, was.same_net) at c.in_err-world.ensures.runs in
    handed_runs c.from_residual.result _ _ _ _ _ c.from_residual.ensures (λ why same.
    rw same (runs_err (g.O.Sink.seen c.args.sink.now) (g.O.Sink.seen c.loop-numbered.sink)
    (g.O.Sink.seen c.advance.new.sink)
    (text rules net c.args.world.events lines) was.written.0 (lines_by (said rules net events d) led) (rest_here rules net events lines i d c.loop-numbered-test.true c.numbered-item.is)
    (limit_by led) (stop rules net c.args.world.events lines) c.in_err-world.field-0.0 was.written.1 was.written.2
    (text_here rules net events lines i d c.loop-numbered-test.true c.numbered-item.is _ was.written.0 was.written.3)
    (stops_here rules net events lines i d c.loop-numbered-test.true c.numbered-item.is _ was.stops)
    runs was.told was.room was.quiet))

-- some of the text of the directive at hand was
pub returns-in_err-world-clause-in_turn : goal.returns-in_err-world-clause-in_turn
returns-in_err-world-clause-in_turn g c =
    let was = c.loop-numbered.invariant in
    let seen = g.O.Sink.seen in
    let rules = g.P.Policy.rules c.args.world.policy in
    let net = c.args.world.net in
    let lines = c.args.lines.now in
    let i = c.loop-numbered.numbered-index in
    let d = c.numbered-item.result in
    let events = c.loop-numbered.world.events in
    let runs = rw (was.same_policy, was.same_net) at c.in_err-world.ensures.runs in
    turns_here rules net events lines i d c.loop-numbered-test.true c.numbered-item.is _ was.turns.0 was.turns.2
    (seen c.args.sink.now) (seen c.loop-numbered.sink) (seen c.advance.new.sink) was.turns.1 runs.pieces.0 runs.pieces.1
