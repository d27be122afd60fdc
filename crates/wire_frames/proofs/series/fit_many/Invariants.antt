use Rattle.std.proofs.Common.{◌≡◌, drop}
use Rattle.wire_frames.specs.Formats.{many_fit, reached}
use Rattle.wire_frames.proofs.series.fit_many.Given as goal

abbrev pub invariant-loop-item : goal.invariant-loop-item
invariant-loop-item g l =
    (many_fit g.R.Run.series l.state (drop l.item-index l.items) ≡ many_fit g.R.Run.series l.initial.state l.items)
    × (reached g.R.Run.series l.state (drop l.item-index l.items) ≡ reached g.R.Run.series l.initial.state l.items)
