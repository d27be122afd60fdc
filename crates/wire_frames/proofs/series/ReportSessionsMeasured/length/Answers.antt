use Rattle.std.proofs.Common.{refl}
use Rattle.wire_frames.proofs.Short.{session_open, session_down}
use Rattle.wire_frames.proofs.series.ReportSessionsMeasured.length.Goals as goal

pub returns-in-None : goal.returns-in-None
returns-in-None c = rw (session_open c.args.item.now c.in-None.is) refl

pub returns-in-Some : goal.returns-in-Some
returns-in-Some c = rw (session_down c.args.item.now c.in-Some.field-0 c.in-Some.is) refl
