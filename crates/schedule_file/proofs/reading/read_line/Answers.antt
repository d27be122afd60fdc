use Rattle.std.proofs.Common.{ap, ◌∙◌, sym, arith}
use Rattle.std.specs.Prelude.{Some}
use Rattle.schedule_file.proofs.Asking.{handed_on}
use Rattle.schedule_file.proofs.Forms.{other_first, form_first, reads_line, reads_place, reads_fault}
use Rattle.schedule_file.proofs.reading.read_line.Goals as goal

pub returns-in_err-keyword-clause-err : goal.returns-in_err-keyword-clause-err
returns-in_err-keyword-clause-err c =
    handed_on c.from_residual.result _ _ c.from_residual.ensures (λ kind same all held.
    other_first c.args.words.now all c.args.part held (omega arith) c.in_err-keyword.ensures.err ∙ ap Some (sym (same ∙ c.in_err-keyword.ensures.kind)))

pub returns-in_err-check_form-clause-err : goal.returns-in_err-check_form-clause-err
returns-in_err-check_form-clause-err c =
    handed_on c.from_residual-in_err-check_form.result _ _ c.from_residual-in_err-check_form.ensures (λ kind same all held.
    form_first c.args.words.now all c.args.part c.in_err-check_form.field-0.0 c.in_ok-keyword.keyword held (omega arith) c.in_ok-keyword.ensures.ok c.in_err-check_form.ensures.form ∙ ap Some (sym same))

pub returns-clause-ok : goal.returns-clause-ok
returns-clause-ok c =
    reads_line c.args.words.now c.args.part c.in_ok-keyword.keyword c.line_of.result (record { some = omega arith; named = c.in_ok-keyword.ensures.ok; good = c.in_ok-check_form.ensures.form }) c.line_of.ensures

pub returns-clause-stands : goal.returns-clause-stands
returns-clause-stands c =
    reads_place c.args.words.now c.args.part c.in_ok-keyword.keyword c.line_of.result (record { some = omega arith; named = c.in_ok-keyword.ensures.ok; good = c.in_ok-check_form.ensures.form }) c.line_of.ensures

pub returns-clause-err : goal.returns-clause-err
returns-clause-err c =
    reads_fault c.args.words.now c.args.part c.in_ok-keyword.keyword c.line_of.result (record { some = omega arith; named = c.in_ok-keyword.ensures.ok; good = c.in_ok-check_form.ensures.form }) c.line_of.ensures
