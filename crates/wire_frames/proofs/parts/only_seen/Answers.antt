use Rattle.wire_frames.proofs.Versions.{only_then, only_else}
use Rattle.wire_frames.proofs.parts.only_seen.Goals as goal

pub returns-then-count-eq1 : goal.returns-then-count-eq1
returns-then-count-eq1 c = λ ts long last. only_then ts c.args.last (rw c.if-count-eq1.true at long) last

pub returns : goal.returns
returns c = λ ts long last. only_else ts c.args.count long c.if-count-eq1.false
