use Rattle.std.proofs.Common.{sym, ◌∙◌}
use Rattle.std.proofs.lemmas.Result.{err_from_is_err_and}
use Rattle.wire_frames.proofs.Counting.{count_missing, count_refused, count_taken}
use Rattle.wire_frames.proofs.counts.Count.read.Goals as goal

pub returns-in_err-count-clause-number : goal.returns-in_err-count-clause-number
returns-in_err-count-clause-number c =
    let p = err_from_is_err_and c.from_residual.result c.from_residual.ensures.1 in
    rw (p.1, p.2) (count_missing c.args.self c.args.fields.now c.in_err-count.field-0.0 c.in_err-count.ensures)

pub returns-then-not-allows-clause-number : goal.returns-then-not-allows-clause-number
returns-then-not-allows-clause-number c =
    count_refused c.args.self c.args.fields.now c.word.new.fields c.in_ok-count.count c.in_ok-count.ensures (sym c.allows.ensures.fits ∙ c.if-not-allows.true)

pub returns-clause-number : goal.returns-clause-number
returns-clause-number c =
    count_taken c.args.self c.args.fields.now c.word.new.fields c.in_ok-count.count c.in_ok-count.ensures (sym c.allows.ensures.fits ∙ c.if-not-allows.false)
