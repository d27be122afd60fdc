use Rattle.std.proofs.Common.{ap, ◌∙◌, sym, arith}
use Rattle.std.specs.Prelude.{None, Some}
use Rattle.leadership.proofs.Courses.{handed_on}
use Rattle.leadership.proofs.Scripted.{other_first, fields_first, form_first}
use Rattle.leadership.proofs.reading.read_line.Goals as goal

pub returns-in_err-keyword-clause-err : goal.returns-in_err-keyword-clause-err
returns-in_err-keyword-clause-err c =
    handed_on c.from_residual.result _ _ c.from_residual.ensures (λ kind same all held.
    other_first c.args.words.now all c.args.begun held (omega arith) c.in_err-keyword.ensures.err ∙ ap Some (sym (same ∙ c.in_err-keyword.ensures.kind)))

pub returns-in_err-check_form-clause-err : goal.returns-in_err-check_form-clause-err
returns-in_err-check_form-clause-err c =
    handed_on c.from_residual-in_err-check_form.result _ _ c.from_residual-in_err-check_form.ensures (λ kind same all held.
    form_first c.args.words.now all c.args.begun held (omega arith) c.in_ok-keyword.keyword c.in_ok-keyword.ensures.ok c.in_err-check_form.field-0.0 c.in_err-check_form.ensures.form ∙ ap Some (sym same))

pub returns-in_err-line-clause-err : goal.returns-in_err-line-clause-err
returns-in_err-line-clause-err c =
    handed_on c.from_residual-in_err-line.result _ _ c.from_residual-in_err-line.ensures (λ kind same all held.
    fields_first c.args.words.now all c.args.begun held (omega arith) c.in_ok-keyword.keyword c.in_ok-keyword.ensures.ok c.in_ok-check_form.ensures.form
    (Some c.in_err-line.field-0.0) (λ word rest h. c.in_err-line.ensures word rest h) ∙ ap Some (sym same))

pub returns-clause-fine : goal.returns-clause-fine
returns-clause-fine c = λ all held.
    fields_first c.args.words.now all c.args.begun held (omega arith) c.in_ok-keyword.keyword c.in_ok-keyword.ensures.ok c.in_ok-check_form.ensures.form
    None (λ word rest h. (c.in_ok-line.ensures word rest h).1)
