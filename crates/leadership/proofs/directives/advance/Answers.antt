use Rattle.std.proofs.Common.{◌++◌, ap, ◌∙◌, subst}
use Rattle.route_io.specs.Causes.{AppendsFront}
use Rattle.std.specs.Io.KnownBytes.{Appends}
use Rattle.leadership.specs.Text.{course, said}
use Rattle.leadership.proofs.Written.{err_of, ok_of, handed_runs, runs_cut, runs_on, runs_stop}
use Rattle.leadership.proofs.directives.advance.Goals as goal

-- the world stopped, and nothing was written
pub returns-in_err-world-clause-runs : goal.returns-in_err-world-clause-runs
returns-in_err-world-clause-runs g c =
    let members = c.args.world.members in
    let events = c.args.world.events in
    let d = c.args.numbered.now in
    handed_runs c.from_residual.result _ _ _ _ _ c.from_residual.ensures (λ why same.
    runs_stop _ (said members events d) (course members events d.directive) c.in_err-world.field-0.0 why same c.in_err-world.ensures.stopped)

-- the lines were not written
pub returns-then-is_err-clause-runs : goal.returns-then-is_err-clause-runs
returns-then-is_err-clause-runs g c =
    let members = c.args.world.members in
    let events = c.args.world.events in
    let d = c.args.numbered.now in
    let words = said members events d in
    let made = c.as_bytes.ensures.value ∙ (c.in_ok-world.ensures.text ∙ ap (λ bytes. bytes ++ words) c.new-out.ensures.bytes) in
    runs_cut _ _ words (course members events d.directive) c.in_ok-world.world.events c.in_ok-world.ensures.world.leads
    c.write_all.ensures.same_room c.write_all.ensures.told
    (subst (AppendsFront _ _) made (err_of c.write_all.result c.if-is_err.ensures.value c.write_all.ensures.err))
    c.write_all.ensures.cause.later
    (err_of c.write_all.result c.if-is_err.ensures.value c.write_all.ensures.cause.failed)

pub returns-clause-runs : goal.returns-clause-runs
returns-clause-runs g c =
    let members = c.args.world.members in
    let events = c.args.world.events in
    let d = c.args.numbered.now in
    let words = said members events d in
    let made = c.as_bytes.ensures.value ∙ (c.in_ok-world.ensures.text ∙ ap (λ bytes. bytes ++ words) c.new-out.ensures.bytes) in
    runs_on _ _ words (course members events d.directive) c.in_ok-world.world.events c.in_ok-world.ensures.world.leads
    c.write_all.ensures.same_room c.write_all.ensures.told _
    (subst (Appends _ _) made (ok_of c.write_all.result c.if-is_err.ensures.value c.write_all.ensures.ok))
    (ok_of c.write_all.result c.if-is_err.ensures.value c.write_all.ensures.cause.quiet)
