use Rattle.std.proofs.Common.{◌++◌, drop, [], refl, sym, ap, ◌∙◌, subst}
use Rattle.std.specs.Prelude.{IsTrue}
use Rattle.std.proofs.lemmas.List.{drop_all}
use Rattle.route_io.proofs.Bytes.{appends_on, appends_none, told_same, told_on}
use Rattle.leadership.specs.declared.scripts.Numbered.{Numbered}
use Rattle.leadership.specs.Running.{lines_by, limit_by}
use Rattle.leadership.specs.Scripts.{is_known}
use Rattle.leadership.specs.Text.{text, stop, course, said}
use Rattle.leadership.proofs.Courses.{text_step, text_here, stop_step, stops_here, rest_here}
use Rattle.leadership.proofs.Written.{runs_whole, runs_err, handed_runs}
use Rattle.leadership.proofs.runner.run_lines.Goals as goal

pub loop-numbered-init : goal.loop-numbered-init
loop-numbered-init g c = record {
  same_members = refl;
  written = ([], appends_none _, refl);
  stops = refl;
  told = told_same _;
  room = refl;
  quiet = refl;
}

-- the present directive names only members
pub advance-requires : goal.advance-requires
advance-requires g c =
    let was = c.loop-numbered.invariant in
    let d = c.numbered-item.result in
    let known = c.requires c.loop-numbered.numbered-index d c.loop-numbered-test.true in
    rw was.same_members (subst (λ (one : Numbered). IsTrue (is_known c.args.world.members one.directive)) (sym c.numbered-item.is) known)

pub loop-numbered-preserved : goal.loop-numbered-preserved
loop-numbered-preserved g c =
    let was = c.loop-numbered.invariant in
    let members = c.args.world.members in
    let lines = c.args.lines.now in
    let i = c.loop-numbered.numbered-index in
    let d = c.numbered-item.result in
    let events = c.loop-numbered.world.events in
    let advances = c.in_ok-world.ensures.world in
    let goes = rw was.same_members at advances.leads in
    let runs = rw was.same_members at c.in_ok-world.ensures.runs in
    let led = course members events d.directive in
    let now = c.in_ok-world.world.events in
    record {
      same_members = advances.same_members ∙ was.same_members;
      written = (
        was.written.0 ++ lines_by (said members events d) led,
        appends_on _ _ _ _ _ was.written.1 runs.whole.0,
        text_step members events lines i d c.loop-numbered-test.true c.numbered-item.is now _ was.written.0 goes was.written.2,
      );
      stops = stop_step members events lines i d c.loop-numbered-test.true c.numbered-item.is now _ goes was.stops;
      told = told_on _ _ _ was.told runs.stays;
      room = runs.same_room ∙ was.room;
      quiet = runs.cause.quiet (λ e. cc e) ∙ was.quiet;
    }

pub returns : goal.returns
returns g c =
    let was = c.loop-numbered.invariant in
    let members = c.args.world.members in
    let lines = c.args.lines.now in
    let events = c.loop-numbered.world.events in
    let none = drop_all c.loop-numbered.numbered-index lines c.loop-numbered-test.false in
    runs_whole (g.O.Sink.seen c.args.sink.now) (g.O.Sink.seen c.loop-numbered.sink)
    _ was.written.0 (text members events (drop c.loop-numbered.numbered-index lines)) _ was.written.1 was.written.2 (ap (text members events) none)
    (sym was.stops ∙ ap (stop members events) none) was.told was.room was.quiet

pub returns-in_err-world : goal.returns-in_err-world
returns-in_err-world g c =
    let was = c.loop-numbered.invariant in
    let members = c.args.world.members in
    let lines = c.args.lines.now in
    let i = c.loop-numbered.numbered-index in
    let d = c.numbered-item.result in
    let events = c.loop-numbered.world.events in
    let led = course members events d.directive in
    let runs = rw was.same_members at c.in_err-world.ensures.runs in
    handed_runs c.from_residual.result _ _ _ _ _ c.from_residual.ensures (λ why same.
    rw same (runs_err (g.O.Sink.seen c.args.sink.now) (g.O.Sink.seen c.loop-numbered.sink)
    (g.O.Sink.seen c.advance.new.sink)
    (text members c.args.world.events lines) was.written.0 (lines_by (said members events d) led) (rest_here members events lines i d c.loop-numbered-test.true c.numbered-item.is)
    (limit_by led) (stop members c.args.world.events lines) c.in_err-world.field-0.0 was.written.1
    (text_here members events lines i d c.loop-numbered-test.true c.numbered-item.is _ was.written.0 was.written.2)
    (stops_here members events lines i d c.loop-numbered-test.true c.numbered-item.is _ was.stops)
    runs was.told was.room was.quiet))
