use Rattle.std.proofs.Common.{◌≡◌, ◌-◌, [], take, length}
use Rattle.wire_frames.specs.Formats.{skipped}
use Rattle.wire_frames.specs.Fields.{different}
use Rattle.wire_frames.proofs.parts.skip_different.Given as goal

abbrev pub invariant-loop-i : goal.invariant-loop-i
invariant-loop-i l = (length l.seen ≡ 64) × (skipped different (take l.i l.seen) (l.count - l.i) l.fields ≡ skipped different [] l.count l.initial.fields)
