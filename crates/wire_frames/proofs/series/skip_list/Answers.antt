use Rattle.std.proofs.Common.{refl, sym}
use Rattle.std.proofs.lemmas.Result.{err_from_is_err_and}
use Rattle.wire_frames.specs.Counts.{counted}
use Rattle.wire_frames.proofs.Skipping.{skipped_ok}
use Rattle.wire_frames.proofs.Passing.{list_fails}
use Rattle.wire_frames.proofs.series.skip_list.Goals as goal

pub returns-in_err-skip_many-clause-list : goal.returns-in_err-skip_many-clause-list
returns-in_err-skip_many-clause-list g c =
    let p = err_from_is_err_and c.from_residual-in_err-skip_many.result c.from_residual-in_err-skip_many.ensures.1 in
    rw (p.1, p.2)
    (list_fails (counted c.args.count) g.R.Run.series c.args.state.now c.in_ok-number.number c.args.fields.now c.read.new.fields c.in_err-skip_many.field-0.0 c.in_ok-number.ensures.number c.in_err-skip_many.ensures)

pub returns-clause-list : goal.returns-clause-list
returns-clause-list g c =
    let a = skipped_ok g.R.Run.series c.args.state.now c.skip_many.new.state c.in_ok-number.number c.read.new.fields c.skip_many.new.fields c.in_ok-skip_many.ensures in
    (a.list, rw (c.in_ok-number.ensures.number, a.read) refl, sym a.long, sym a.comes)
