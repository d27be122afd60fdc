use Rattle.std.proofs.Common.{◌≡◌, ◌-◌}
use Rattle.wire_frames.specs.Formats.{many_at, reached}
use Rattle.wire_frames.proofs.Collecting.{with_front}
use Rattle.wire_frames.proofs.series.read_many.Given as goal

abbrev pub invariant-loop : goal.invariant-loop
invariant-loop g l =
    (with_front l.list.items (many_at g.R.Run.series l.state (l.count - l.counter) l.fields) ≡ many_at g.R.Run.series l.initial.state l.count l.initial.fields)
    × (reached g.R.Run.series l.initial.state l.list.items ≡ l.state)
