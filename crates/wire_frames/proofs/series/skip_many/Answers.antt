use Rattle.std.proofs.lemmas.Result.{err_from_is_err_and}
use Rattle.wire_frames.specs.Formats.{skipped}
use Rattle.wire_frames.proofs.Skipping.{goes_on, ends}
use Rattle.wire_frames.proofs.series.skip_many.Goals as goal

pub returns-in_err-skip : goal.returns-in_err-skip
returns-in_err-skip g c =
    let p = err_from_is_err_and c.from_residual.result c.from_residual.ensures.1 in
    rw (p.1, p.2) (ends g.R.Run.series c.args.count c.loop.counter c.loop.state c.loop.fields c.in_err-skip.field-0.0 (skipped g.R.Run.series c.args.state.now c.args.count c.args.fields.now) c.loop-test.true c.in_err-skip.ensures c.loop.invariant)

pub loop-preserved : goal.loop-preserved
loop-preserved g c = goes_on g.R.Run.series c.args.count c.loop.counter c.loop.state c.skip.new.state c.loop.fields c.skip.new.fields (skipped g.R.Run.series c.args.state.now c.args.count c.args.fields.now) c.loop-test.true c.in_ok-skip.ensures c.loop.invariant
