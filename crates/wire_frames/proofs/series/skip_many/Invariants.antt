use Rattle.std.proofs.Common.{◌≡◌, ◌-◌}
use Rattle.wire_frames.specs.Formats.{skipped}
use Rattle.wire_frames.proofs.series.skip_many.Given as goal

abbrev pub invariant-loop : goal.invariant-loop
invariant-loop g l = skipped g.R.Run.series l.state (l.count - l.counter) l.fields ≡ skipped g.R.Run.series l.initial.state l.count l.initial.fields
