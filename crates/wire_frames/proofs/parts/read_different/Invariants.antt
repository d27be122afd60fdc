use Rattle.std.proofs.Common.{◌≡◌, ◌-◌, []}
use Rattle.wire_frames.specs.Formats.{many_at}
use Rattle.wire_frames.specs.Fields.{different}
use Rattle.wire_frames.proofs.Collecting.{with_front}
use Rattle.wire_frames.proofs.parts.read_different.Given as goal

abbrev pub invariant-loop : goal.invariant-loop
invariant-loop l = with_front l.list.items (many_at different l.list.items (l.count - l.counter) l.fields) ≡ many_at different [] l.count l.initial.fields
