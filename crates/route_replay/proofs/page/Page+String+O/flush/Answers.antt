use Rattle.std.specs.String.{string_bytes}
use Rattle.route_replay.proofs.Gathered.{breaks_fault, gathers_flushed, gathers_nothing}
use Rattle.route_replay.proofs.Runs.{err_of, ok_of}
use Rattle.route_replay.proofs.page.Page+String+O.flush.Goals as goal

-- nothing is pending
pub returns-then-is_empty-clause-gathers : goal.returns-then-is_empty-clause-gathers
returns-then-is_empty-clause-gathers g c = gathers_nothing _

-- the write failed
pub returns-then-is_err-clause-breaks : goal.returns-then-is_err-clause-breaks
returns-then-is_err-clause-breaks g c =
    let cut = rw c.as_bytes.ensures.value at (err_of c.write_all.result c.if-is_err.ensures.value c.write_all.ensures.err) in
    let part = rw c.as_bytes.ensures.value at (err_of c.write_all.result c.if-is_err.ensures.value c.write_all.ensures.acted_err) in
    breaks_fault _ _ (string_bytes c.args.self.now.text) cut part c.write_all.ensures.told c.write_all.ensures.same_room c.write_all.ensures.cause.later
    (err_of c.write_all.result c.if-is_err.ensures.value c.write_all.ensures.cause.failed)

-- the write was made
pub returns-clause-gathers : goal.returns-clause-gathers
returns-clause-gathers g c =
    let wrote = rw c.as_bytes.ensures.value at (ok_of c.write_all.result c.if-is_err.ensures.value c.write_all.ensures.ok) in
    let adds = rw c.as_bytes.ensures.value at (ok_of c.write_all.result c.if-is_err.ensures.value c.write_all.ensures.acted) in
    gathers_flushed _ _ wrote adds c.clear.ensures.bytes c.write_all.ensures.told c.write_all.ensures.same_room
    (ok_of c.write_all.result c.if-is_err.ensures.value c.write_all.ensures.cause.quiet)
