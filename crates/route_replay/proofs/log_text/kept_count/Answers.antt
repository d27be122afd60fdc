use Rattle.std.proofs.Common.{arith}
use Rattle.chronicle.specs.Logs.{log_of}
use Rattle.route_replay.proofs.log_text.kept_count.Goals as goal

pub returns : goal.returns
returns g c policy net u past stands =
    let h = log_of u past in
    let log = c.log-log.ensures.log policy net u past stands in
    omega (arith, c.saturating_sub.ensures, c.saturating_sub-dropped.ensures, c.len.ensures policy net u h log, c.kept_from.ensures.place policy net u h log, c.log-log.ensures.dropped policy net u past stands)
