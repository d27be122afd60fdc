use Rattle.std.proofs.Common.{◌≡◌, drop}
use Rattle.wire_frames.specs.Formats.{many_fit, reached}
use Rattle.wire_frames.proofs.sent_runs.fit_each.Given as goal

abbrev pub invariant-loop-place : goal.invariant-loop-place
invariant-loop-place g l =
    (many_fit g.R.SentRun.lent l.state (drop l.place l.items) ≡ many_fit g.R.SentRun.lent l.initial.state l.items)
    × (reached g.R.SentRun.lent l.state (drop l.place l.items) ≡ reached g.R.SentRun.lent l.initial.state l.items)
