use Rattle.std.proofs.Common.{sym, ap, ◌∙◌}
use Rattle.wire_frames.specs.Formats.{many_at}
use Rattle.wire_frames.proofs.Collecting.{reads_on, reached_more}
use Rattle.wire_frames.proofs.series.read_many.Goals as goal

pub loop-preserved : goal.loop-preserved
loop-preserved g c =
    let series = g.R.Run.series in
    let item = c.in_ok-item.item in
    rw c.in_ok-push.ensures.items (
      reads_on series c.loop.list.items c.args.count c.loop.counter c.loop.state c.read.new.state c.loop.fields c.read.new.fields item (many_at series c.args.state.now c.args.count c.args.fields.now)
          c.loop-test.true c.in_ok-item.ensures.read c.in_ok-item.ensures.step c.loop.invariant.0,
      reached_more series c.args.state.now c.loop.list.items item ∙ ap (λ s. series.step s item) c.loop.invariant.1 ∙ sym c.in_ok-item.ensures.step,
    )
