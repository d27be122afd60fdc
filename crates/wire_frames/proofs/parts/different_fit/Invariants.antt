use Rattle.std.proofs.Common.{◌≡◌, take, drop, []}
use Rattle.wire_frames.specs.Formats.{many_fit}
use Rattle.wire_frames.specs.Fields.{different}
use Rattle.wire_frames.proofs.parts.different_fit.Given as goal

abbrev pub invariant-loop-place : goal.invariant-loop-place
invariant-loop-place l = many_fit different (take l.place l.list) (drop l.place l.list) ≡ many_fit different [] l.list
